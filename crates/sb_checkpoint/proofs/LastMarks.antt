-- The last watermark, item by item.
use Rattle.std.proofs.Common.{◌≡◌, ◌<◌, ℕ, suc, ◌+◌, List, [], ◌∷◌, ◌++◌, length, get_or, take, refl, ap, ◌∙◌, append-nil, arith}
use Rattle.std.specs.List.{flat_map}
use Rattle.std.proofs.Math.Seq.{take-suc}
use Rattle.std.proofs.lemmas.List.Concat.{flat_map-append}
use Rattle.sb_pipeline.specs.records.declared.item.Item.{Item}
use Rattle.sb_pipeline.specs.records.declared.item.Stream.{Stream}
use Rattle.sb_pipeline.specs.records.Streams.{last_or, last_watermark, watermark_in}

last-append : (n : ℕ) (xs ys : List ℕ) → last_or n (xs ++ ys) ≡ last_or (last_or n xs) ys
last-append n [] ys = refl
last-append n (x ∷ xs) ys = last-append x xs ys

-- one item more
pub last-more : (s : Stream) (items : List Item) (k : ℕ) (d : Item) → k < length items → last_watermark s (take (k + 1) items) ≡ last_or (last_watermark s (take k items)) (watermark_in s (get_or items k d))
last-more s items k d within =
    let e : k + 1 ≡ suc k = omega arith in
    ap (λ n. last_watermark s (take n items)) e
    ∙ ap (last_watermark s) (take-suc items k d within)
    ∙ ap (last_or 0) (flat_map-append (watermark_in s) (take k items) (get_or items k d ∷ []) ∙ ap (λ l. flat_map (watermark_in s) (take k items) ++ l) (append-nil (watermark_in s (get_or items k d))))
    ∙ last-append 0 (flat_map (watermark_in s) (take k items)) (watermark_in s (get_or items k d))
