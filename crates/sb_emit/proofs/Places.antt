-- A list of taps beside the list of what they show.
use Rattle.std.proofs.Common.{◌≡◌, ◌<◌, ◌+◌, ℕ, suc, List, ◌∷◌, ◌++◌, map, take, drop, length, get_or, set, true, false, Bool, Ok, Err, refl, ap, sym, ◌∙◌, arith, add-one}
use Rattle.std.proofs.lemmas.List.{drop_more, set_split, map-append, length-map, length-take-le, take-append-drop, take-set, drop-set-lt}
use Rattle.std.specs.List.{remove}
use Rattle.sb_emit.specs.declared.tap.Wish.{Wish}
use Rattle.sb_emit.specs.declared.tap.Wish.TheVariants as wish
use Rattle.sb_record.specs.declared.item.Record.{Record}
use Rattle.sb_emit.specs.declared.tap.TapFault.{TapFault}
use Rattle.sb_emit.specs.Taps.{TapState, SawRow, RefusedRow, wants_more_after, wish_of}
use Rattle.sb_emit.specs.OfferSteps.{OfferedAt, OffersAt}

module _ {B : Type 0} (show : B → TapState) where
  split_at : (items : List B) (i : ℕ) (b : B) → i < length items → b ≡ get_or items i b → items ≡ take i items ++ b ∷ drop (i + 1) items
  split_at items i b h is = sym (take-append-drop i items) ∙ ap (λ l. take i items ++ l) (drop_more items i b h ∙ ap (λ x. x ∷ drop (i + 1) items) (sym is))

  was_at : (items : List B) (i : ℕ) (b : B) → i < length items → b ≡ get_or items i b → OfferedAt i (map show items) (show b)
  was_at items i b h is =
      record {
        earlier = map show (take i items);
        later = map show (drop (i + 1) items);
        was = ap (map show) (split_at items i b h is) ∙ map-append show (take i items) (b ∷ drop (i + 1) items);
        is_place = length-map (take i items) show ∙ length-take-le i items (omega arith);
      }

  changed_at : (items : List B) (i : ℕ) (b : B) → i < length items → map show (set items i b) ≡ map show (take i items) ++ show b ∷ map show (drop (i + 1) items)
  changed_at items i b h = rw (set_split items i b h, map-append show (take i items) (b ∷ drop (suc i) items), add-one)

  removed_at : (items left : List B) (i : ℕ) (b : B) → left ≡ remove (set items i b) i → map show left ≡ map show (take i items) ++ map show (drop (i + 1) items)
  removed_at items left i b is =
      rw (is, take-set items i b, drop-set-lt (suc i) items i b (omega arith), map-append show (take i items) (drop (suc i) items), add-one)

  -- the tap at an index saw the row and stays
  pub stays_at : (row : Record) (items : List B) (i : ℕ) (tap saw : B) → i < length items → tap ≡ get_or items i tap
      → SawRow row (show tap) (show saw) → wants_more_after row (show tap) ≡ true → OffersAt row i (map show items) (map show (set items i saw)) (Ok true)
  unfolding was_at
  stays_at row items i tap saw h is sees wants = (show tap, show saw, was_at items i tap h is, sees, wants, changed_at items i saw h)

  -- it has enough and goes
  pub goes_at : (row : Record) (items left : List B) (i : ℕ) (tap saw : B) → i < length items → tap ≡ get_or items i tap
      → wants_more_after row (show tap) ≡ false → left ≡ remove (set items i saw) i → OffersAt row i (map show items) (map show left) (Ok false)
  unfolding was_at
  goes_at row items left i tap saw h is enough gone = (show tap, was_at items i tap h is, enough, removed_at items left i saw gone)

  -- it refuses and stays
  pub refuses_at : (row : Record) (items : List B) (i : ℕ) (tap refused : B) (reason : TapFault) → i < length items → tap ≡ get_or items i tap
      → RefusedRow reason (show tap) (show refused) → OffersAt row i (map show items) (map show (set items i refused)) (Err reason)
  unfolding was_at
  refuses_at row items i tap refused reason h is refuses = (show tap, show refused, was_at items i tap h is, refuses, changed_at items i refused h)

-- who answers More wants more, and who answers Enough does not
pub wants_more : (w : Wish) (b : Bool) → w ≡ wish_of b → w ≡ wish.More → b ≡ true
wants_more w true is more = refl
wants_more w false is more = let bad : wish.More ≡ wish.Enough = sym more ∙ is in cc

pub wants_none : (w : Wish) (b : Bool) → w ≡ wish_of b → w ≡ wish.Enough → b ≡ false
wants_none w true is enough = let bad : wish.Enough ≡ wish.More = sym enough ∙ is in cc
wants_none w false is enough = refl
