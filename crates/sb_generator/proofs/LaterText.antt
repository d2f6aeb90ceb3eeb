-- The text of the records from one number on.
use Rattle.std.proofs.Common.{◌≡◌, ℕ, ◌+◌, ◌-◌, ◌≤◌, ◌<◌, ◌++◌, List, [], ◌∷◌, length, take, suc, sym, ap, ◌∙◌, append_assoc, arith}
use borrow.Rule.Slice.PartMut.{put_mid}
use Rattle.std.specs.List.{flat_map, range_with_len}
use Rattle.std.proofs.lemmas.List.Concat.{flat_map-append}
use Rattle.sb_outside.specs.Lines.{line_feed}
use Rattle.sb_outside.proofs.Ranges.{read_into_rest}
use Rattle.sb_generator.specs.Generated.{items_at, line_of, text_of, generated_text}
use Rattle.sb_generator.specs.Rests.{text_from}

pub text_from_first : (n : ℕ) → text_from 0 n ≡ generated_text n
text_from_first n = let e : n - 0 ≡ n = omega arith in ap (λ k. text_of (flat_map items_at (range_with_len 0 k))) e

pub text_from_end : (n : ℕ) → text_from n n ≡ []
text_from_end n = let e : n - n ≡ 0 = omega arith in ap (λ k. text_of (flat_map items_at (range_with_len n k))) e

-- the text of record i and that of those behind it
pub text_from_next : (i n : ℕ) → i < n → text_from i n ≡ text_of (items_at i) ++ text_from (i + 1) n
text_from_next i n h =
    let e : n - i ≡ suc (n - (i + 1)) = omega arith in
    ap (λ k. text_of (flat_map items_at (range_with_len i k))) e
    ∙ flat_map-append (λ item. line_of item ++ line_feed ∷ []) (items_at i) (flat_map items_at (range_with_len (i + 1) (n - (i + 1))))

-- the lines of record i come to hand, and some of their bytes are given
pub next_given : (i n : ℕ) (now held lines given left : List ℕ) → held ++ text_from i n ≡ now → held ≡ [] → i < n
    → lines ≡ text_of (items_at i) → lines ≡ given ++ left → now ≡ given ++ (left ++ text_from (i + 1) n)
next_given i n now held lines given left is empty less are split =
    sym is ∙ ap (λ h. h ++ text_from i n) empty ∙ text_from_next i n less
    ∙ ap (λ l. l ++ text_from (i + 1) n) (sym are ∙ split) ∙ append_assoc given left (text_from (i + 1) n)

-- the first bytes of a place for them were given, and then some of those left, behind them
pub given_behind : (all left left' place part : List ℕ) (filled count : ℕ) → filled ≤ length place → length part ≡ length place - filled
    → count ≤ length part → all ≡ take filled place ++ left → left ≡ take count part ++ left'
    → all ≡ take (filled + count) (put_mid filled (length place - filled) place part) ++ left'
given_behind all left left' place part filled count within size fits before now =
    before ∙ ap (λ l. take filled place ++ l) now ∙ sym (append_assoc (take filled place) (take count part) left')
    ∙ ap (λ l. l ++ left') (sym (read_into_rest place part filled count within size fits))
