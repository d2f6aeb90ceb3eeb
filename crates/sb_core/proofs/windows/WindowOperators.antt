-- The laws of a window operator: all that the core asks of one, whatever its windows or sessions are.
use Rattle.std.proofs.Common.{◌≡◌, ℕ, ◌+◌, ◌≤◌, Bool, true, not, ltb, List, ◌++◌, sym, refl, ap, ◌∙◌, arith}
use Rattle.std.specs.Prelude.{nat_lt}
use Rattle.std.specs.List.{filter, sum_by, AllByRecursion}
use Rattle.std.proofs.lemmas.Bool.{le-ltb, ltb-false, not-true}
use Rattle.std.proofs.lemmas.List.Sums.{sum_by-append}
use Rattle.std.proofs.lemmas.List.Filters.{sum_by-filter_both}
use Rattle.sb_containers.specs.base.records.declared.item.Record.{Record}
use Rattle.sb_containers.specs.base.records.Records.{record_cmp, sorted_records, before, at_least}
use Rattle.sb_containers.specs.base.ElementLemmas.{every, All-join, All-passed, filter_of_filter}
use Rattle.sb_containers.specs.base.SortingLemmas.{IsReordered-in_order}
use Rattle.sb_containers.specs.base.window.declared.windows.TheConstants.{MAX_SIZE}
use Rattle.sb_containers.specs.base.records.Reorderings.{IsReordered}
use Rattle.sb_containers.specs.base.records.declared.element.KeptRec.{KeptRec}
use Rattle.sb_containers.specs.base.pipeline.Operators.{WindowOperator, operator_rows, reach}
use Rattle.sb_core.specs.Closings.{is_open}
use Rattle.sb_containers.proofs.Lists.{filter_swap}

-- no element is before the mark
abbrev pub AreFrom : ℕ → List KeptRec → Type 0
AreFrom mark es = AllByRecursion (λ e. mark ≤ e.rec.time) es

-- the elements that are open at a mark, among themselves
abbrev pub left_open : (ℕ → List KeptRec → KeptRec → Bool) → ℕ → List KeptRec → List KeptRec
left_open is_open mark es = filter (is_open mark es) es

-- an operator, by the rows that it gives for all its elements, by the test whether an element is open at a mark among
-- others, and by how much later than the elements a row can be
pub record IsWindowOperator
    (rows : List KeptRec → List Record) (is_open : ℕ → List KeptRec → KeptRec → Bool) (reach : ℕ) : Type 0 where
  -- elements in another order give the same rows, in some order
  pub order : (es fs : List KeptRec) → IsReordered es fs → IsReordered (rows es) (rows fs)
  -- the rows before a mark are final, where what is still to come is from the mark on
  pub final : (mark : ℕ) (es later : List KeptRec) → AreFrom mark later
      → before mark (rows (es ++ later)) ≡ before mark (rows es)
  -- and the other rows are given by the elements that are open at the mark, and by what is still to come
  pub rest : (mark : ℕ) (es later : List KeptRec) → AreFrom mark later
      → at_least mark (rows (es ++ later)) ≡ at_least mark (rows (left_open is_open mark es ++ later))
  -- an element that is open is so among those that are
  pub stays : (mark : ℕ) (es : List KeptRec) (e : KeptRec) → is_open mark es e ≡ true
      → is_open mark (left_open is_open mark es) e ≡ true
  -- and among more, where all that come are from the mark on
  pub among_more : (mark : ℕ) (es later : List KeptRec) → AreFrom mark later → (e : KeptRec) → is_open mark es e ≡ true
      → is_open mark (es ++ later) e ≡ true
  -- an element from the mark on is open among any
  pub late : (mark : ℕ) (es : List KeptRec) (e : KeptRec) → mark ≤ e.rec.time → is_open mark es e ≡ true
  -- a row is at most the reach later than the latest element, and the reach at most the greatest size of windows
  pub within : (bound : ℕ) (es : List KeptRec) → AllByRecursion (λ e. e.rec.time ≤ bound) es
      → AllByRecursion (λ r. r.time + 1 ≤ bound + reach) (rows es)
  pub most : reach ≤ MAX_SIZE

-- what the grouping gives, leaves open and reaches to meets these laws
abbrev pub IsGrouping : WindowOperator → Type 0
IsGrouping g = IsWindowOperator (operator_rows g) (is_open g) (reach g)

module _ {rows : List KeptRec → List Record} {is_open : ℕ → List KeptRec → KeptRec → Bool} {reach : ℕ} (laws : IsWindowOperator rows is_open reach) where
  -- an operator that closes at a mark loses nothing, where what comes is from the mark on
  pub closing : (floor mark : ℕ) (kept later : List KeptRec) → floor ≤ mark → AreFrom mark later
      → IsReordered (at_least floor (rows (kept ++ later))) (sorted_records (before mark (at_least floor (rows kept))) ++ at_least mark (rows (left_open is_open mark kept ++ later)))
  closing floor mark kept later rises from f =
      sym (sum_by-filter_both (λ r. nat_lt r.time mark) (λ r. not (nat_lt r.time mark)) (λ r. refl) f (at_least floor all))
      ∙ (λ i. sum_by f (below i) + sum_by f (above i))
      ∙ ap (λ n. n + sum_by f (at_least mark (rows (left_open is_open mark kept ++ later)))) (sym (IsReordered-in_order record_cmp (before mark (at_least floor (rows kept))) f))
      ∙ sym (sum_by-append f (sorted_records (before mark (at_least floor (rows kept)))) (at_least mark (rows (left_open is_open mark kept ++ later))))
    where
      all : List Record
      all = rows (kept ++ later)

      below : before mark (at_least floor all) ≡ before mark (at_least floor (rows kept))
      below =
          filter_swap (λ r. nat_lt r.time mark) (λ r. not (nat_lt r.time floor)) all
          ∙ ap (at_least floor) (laws.final mark kept later from)
          ∙ filter_swap (λ r. not (nat_lt r.time floor)) (λ r. nat_lt r.time mark) (rows kept)

      above : at_least mark (at_least floor all) ≡ at_least mark (rows (left_open is_open mark kept ++ later))
      above =
          filter_of_filter (λ r. not (nat_lt r.time mark)) (λ r. not (nat_lt r.time floor))
          (λ r h. let k : mark ≤ r.time = ltb-false r.time mark (not-true (ltb r.time mark) h) in ap not (le-ltb r.time floor (omega arith))) all
          ∙ laws.rest mark kept later from

  -- what an operator keeps, between two closings: elements that are open among all that it keeps, and not too late
  abbrev pub AreOpen : ℕ → ℕ → List KeptRec → Type 0
  AreOpen mark bound kept = AllByRecursion (λ e. (is_open mark kept e ≡ true) × (e.rec.time ≤ bound)) kept

  -- when a mark closes
  pub kept-closed : (mark bound : ℕ) (kept : List KeptRec) → AllByRecursion (λ e. e.rec.time ≤ bound) kept → AreOpen mark bound (left_open is_open mark kept)
  kept-closed mark bound kept low =
      All-passed (λ e. e.rec.time ≤ bound) (λ e. (is_open mark (left_open is_open mark kept) e ≡ true) × (e.rec.time ≤ bound)) (is_open mark kept)
      (λ e h is. (laws.stays mark kept e is, h)) kept low

  -- when more comes
  pub kept-more : (mark bound : ℕ) (kept later : List KeptRec) → AllByRecursion (λ e. (mark ≤ e.rec.time) × (e.rec.time ≤ bound)) later → AreOpen mark bound kept → AreOpen mark bound (kept ++ later)
  kept-more mark bound kept later from all =
      All-join (λ e. (is_open mark (kept ++ later) e ≡ true) × (e.rec.time ≤ bound)) kept later
      (every (λ e h. (laws.among_more mark kept later (every (λ e h. h.0) later from) e h.0, h.1)) kept all)
      (every (λ e h. (laws.late mark (kept ++ later) e h.0, h.1)) later from)
