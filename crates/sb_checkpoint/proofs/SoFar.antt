-- The items of a checkpoint, one more at a time.
use Rattle.std.proofs.Common.{◌≡◌, ◌≤◌, ℕ, Bool, true, false, eqb, List, [], ◌∷◌, ◌++◌, map, refl, sym, ap, ◌∙◌}
use Rattle.std.specs.Prelude.{nat_le, ◌&&◌}
use Rattle.std.specs.List.{flat_map}
use Rattle.std.proofs.lemmas.Bool.{le-leb}
use Rattle.std.proofs.lemmas.List.Concat.{flat_map-append}
use Rattle.sb_pipeline.specs.records.declared.item.Item.{Item}
use Rattle.sb_pipeline.specs.records.declared.item.Stream.{Stream}
use Rattle.sb_pipeline.specs.records.declared.item.Stream.TheVariants.{A, B}
use Rattle.sb_pipeline.specs.records.Streams.{least_of, last_or, watermark_in, last_watermark}
use Rattle.sb_pipeline.specs.Shapes.{Shape, streams_of}
use Rattle.sb_checkpoint.specs.Texts.{may_come, may_follow}
use Rattle.sb_checkpoint.specs.declared.checkpoint.StreamRec.{StreamRec}
use Rattle.sb_checkpoint.specs.Checkpoints.{low_of, mark_items}
use Rattle.sb_checkpoint.specs.Saved.{record_item}
use Rattle.sb_checkpoint.proofs.Runs.{if_some, marks-a, marks-b, last-if_some}

pub both : (a b : Bool) → (a && b) ≡ true → (a ≡ true) × (b ≡ true)
both true true h = (refl, refl)
both false b h = cc
both true false h = cc

-- ---- the last watermarks
watermarks-records : (s : Stream) (records : List StreamRec) → flat_map (watermark_in s) (map record_item records) ≡ []
watermarks-records A [] = refl
watermarks-records B [] = refl
watermarks-records A (r ∷ records) = watermarks-records A records
watermarks-records B (r ∷ records) = watermarks-records B records

last-of_parts : (s : Stream) (records : List StreamRec) (a b t : ℕ) → flat_map (watermark_in s) (mark_items a b) ≡ if_some t → last_watermark s (map record_item records ++ mark_items a b) ≡ t
last-of_parts s records a b t marks =
    ap (last_or 0) (flat_map-append (watermark_in s) (map record_item records) (mark_items a b) ∙ (λ i. watermarks-records s records i ++ marks i))
    ∙ last-if_some t

pub last-a : (records : List StreamRec) (a b : ℕ) → last_watermark A (map record_item records ++ mark_items a b) ≡ a
last-a records a b = last-of_parts A records a b a (marks-a a b)

pub last-b : (records : List StreamRec) (a b : ℕ) → last_watermark B (map record_item records ++ mark_items a b) ≡ b
last-b records a b = last-of_parts B records a b b (marks-b a b)

-- ---- what may follow, by the last watermarks
pub may_is : (plan : Shape) (low : ℕ) (records : List StreamRec) (a b : ℕ) (item : Item) → may_follow plan low (map record_item records ++ mark_items a b) item ≡ may_come plan low a b item
may_is plan low records a b item = λ i. may_come plan low (last-a records a b i) (last-b records a b i) item

pub low_is : (plan : Shape) (records : List StreamRec) (a b : ℕ) → low_of plan (map record_item records ++ mark_items a b) ≡ least_of (streams_of plan) a b
low_is plan records a b = λ i. least_of (streams_of plan) (last-a records a b i) (last-b records a b i)

pub whole_is : (count lines low other own : ℕ) → count ≤ lines → lines ≤ 4294967295 → own ≡ other → eqb low other ≡ (nat_le count lines && (nat_le lines 4294967295 && eqb low own))
whole_is count lines low other own h k e = sym (λ i. le-leb count lines h i && (le-leb lines 4294967295 k i && eqb low (e i)))
