-- The rows of a closing that are left, once the next of them are gone.
use Rattle.std.proofs.Common.{◌≡◌, ℕ, ◌+◌, ◌<◌, ◌≤◌, false, List, [], ◌∷◌, length, take, drop, sym, refl, ap, ◌∙◌, arith, ⊎_elim}
use Rattle.std.specs.Prelude.{min}
use Rattle.std.proofs.lemmas.Bool.{cases_lt}
use Rattle.std.proofs.lemmas.List.{drop-drop, drop_all, length-drop, take_min}
use Rattle.sb_shown.specs.base.records.declared.item.Record.{Record}
use Rattle.sb_shown.specs.core.containers.Choices.{is_empty}

module _ (first count most : ℕ) (rows : List Record) (counted : count ≡ min most (length (drop first rows))) where
  -- a count of rows that stops at the last one is as good as the most that may go
  pub next_rows : take count (drop first rows) ≡ take most (drop first rows)
  next_rows = ap (λ n. take n (drop first rows)) counted ∙ take_min most (drop first rows)

  pub rows_after : drop (first + count) rows ≡ drop most (drop first rows)
  rows_after =
      sym (drop-drop count first rows)
      ∙ ⊎_elim
      (λ less. let e : count ≡ most = omega (arith, counted, less) in ap (λ n. drop n (drop first rows)) e)
      (λ least. let e : length (drop first rows) ≤ count = omega (arith, counted, least) in drop_all count (drop first rows) e ∙ sym (drop_all most (drop first rows) least))
      (cases_lt most (length (drop first rows)))

-- some are left if not all are gone
pub rows_some : (first : ℕ) (rows : List Record) → first < length rows → is_empty (drop first rows) ≡ false
rows_some first rows more = go (drop first rows) (omega (arith, length-drop first rows, more))
  where
    go : (l : List Record) → 0 < length l → is_empty l ≡ false
    go [] h = absurd (omega (arith, h))
    go (r ∷ l) h = refl

-- and fewer are left once more are gone
pub rows_fewer : (first count most : ℕ) (rows : List Record) → count ≡ min most (length (drop first rows)) → first < length rows → 1 ≤ most
    → length (drop (first + count) rows) < length (drop first rows)
rows_fewer first count most rows counted more some =
    omega (arith, counted, more, some, length-drop first rows, length-drop (first + count) rows)
