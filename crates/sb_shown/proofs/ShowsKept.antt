-- What a grouping stands for, when it absorbs and when it closes: from the laws alone.
use Rattle.std.proofs.Common.{◌≡◌, ℕ, ◌+◌, ◌≤◌, ◌<◌, Bool, true, false, not, cond, List, [], ◌∷◌, ◌++◌, append_assoc, append-nil, subst, sym, refl, ap, ◌∙◌, arith}
use Rattle.std.specs.Prelude.{nat_lt, sum_by, slice_get}
use Rattle.std.specs.List.{filter, AllByRecursion}
use Rattle.std.proofs.lemmas.Bool.{lt-ltb, le-ltb}
use Rattle.std.proofs.lemmas.List.Sums.{sum_by-append}
use Rattle.std.proofs.lemmas.List.Elements.{filter-append}
use Rattle.sb_node.specs.base.records.declared.item.Record.{Record}
use Rattle.sb_node.specs.base.records.declared.element.KeptRec.{KeptRec}
use Rattle.sb_node.specs.base.records.Records.{record_cmp, sorted_records, before, at_least}
use Rattle.sb_node.specs.base.pipeline.Operators.{Operator, operator_rows, operator_at}
use Rattle.sb_node.specs.base.pipeline.Operators.Operator.{ParDo, Windowed, Sink}
use Rattle.sb_node.specs.base.records.Elements.{all_records}
use Rattle.sb_tally.specs.core.Closings.{still_open, kept_at, rows_at, is_sink}
use Rattle.sb_node.proofs.base.records.Sums.{IsReordered-filter}
use Rattle.sb_tally.proofs.core.windows.Groupings.{all_records-append, all_records-filter}
use Rattle.sb_tally.proofs.core.windows.WindowOperators.{IsGrouping, closing}
use Rattle.sb_tally.proofs.core.windows.WindowsAt.{windows-at}
use Rattle.sb_node.specs.base.pipeline.Shapes.{Shape}
use Rattle.sb_node.specs.base.pipeline.Plans.{IsPlan}
use Rattle.sb_node.specs.base.records.Orders.{IsAscending}
use Rattle.sb_node.proofs.base.records.Sorting.{IsReordered-in_order, records_total, in_order-ascending, sorted-unique}
use Rattle.sb_node.specs.base.records.Reorderings.{IsReordered}
use Rattle.sb_node.specs.base.window.Groupings.{IsFrom, Adds, Closes}
use Rattle.sb_node.specs.Keeping.{output_from}

pub all-append : {X : Type 0} (P : X → Type 0) (a b : List X) → AllByRecursion P a → AllByRecursion P b → AllByRecursion P (a ++ b)
all-append P [] b h k = k
all-append P (x ∷ a) b h k = (h.0, all-append P a b h.1 k)

-- what is kept stands for these elements, by its mark and by what it gives
abbrev pub StandsFor : Operator → ℕ → (List KeptRec → List Record) → List KeptRec → Type 0
StandsFor op closed gives kept = (l : List KeptRec) → IsFrom closed l → IsReordered (gives l) (output_from op closed (kept ++ l))

-- what is absorbed is kept
pub shows-adds : (op : Operator) (closed : ℕ) (gives later : List KeptRec → List Record) (kept es : List KeptRec) → StandsFor op closed gives kept → IsFrom closed es → Adds closed gives later es → StandsFor op closed later (kept ++ es)
shows-adds op closed gives later kept es shows from adds l late f =
    adds l late f ∙ shows (es ++ l) (all-append (λ e. closed ≤ e.rec.time) es l from late) f ∙ ap (λ x. sum_by f (output_from op closed x)) (sym (append_assoc kept es l))

-- ---- closing
before-low : (w : ℕ) (l : List Record) → AllByRecursion (λ r. r.time < w) l → before w l ≡ l
before-low w [] all = refl
before-low w (r ∷ l) all = (λ i. cond (lt-ltb r.time w all.0 i) (r ∷ before w l) (before w l)) ∙ ap (λ m. r ∷ m) (before-low w l all.1)

before-high : (w : ℕ) (l : List Record) → AllByRecursion (λ r. w ≤ r.time) l → before w l ≡ []
before-high w [] all = refl
before-high w (r ∷ l) all = (λ i. cond (le-ltb r.time w all.0 i) (r ∷ before w l) (before w l)) ∙ before-high w l all.1

after-low : (w : ℕ) (l : List Record) → AllByRecursion (λ r. r.time < w) l → at_least w l ≡ []
after-low w [] all = refl
after-low w (r ∷ l) all = (λ i. cond (not (lt-ltb r.time w all.0 i)) (r ∷ at_least w l) (at_least w l)) ∙ after-low w l all.1

after-high : (w : ℕ) (l : List Record) → AllByRecursion (λ r. w ≤ r.time) l → at_least w l ≡ l
after-high w [] all = refl
after-high w (r ∷ l) all = (λ i. cond (not (le-ltb r.time w all.0 i)) (r ∷ at_least w l) (at_least w l)) ∙ ap (λ m. r ∷ m) (after-high w l all.1)

-- what the core asks of the window operators of a plan
abbrev pub IsGroupingAt : Operator → Type 0
IsGroupingAt (ParDo op) = Unit {0}
IsGroupingAt (Windowed g) = IsGrouping g
IsGroupingAt Sink = Unit {0}

pub groups-at : (plan : Shape) → IsPlan plan → (k : ℕ) → IsGroupingAt (operator_at (slice_get plan.steps k))
groups-at plan is k = by_operator (operator_at (slice_get plan.steps k)) refl
  where
    by_operator : (op : Operator) → operator_at (slice_get plan.steps k) ≡ op → IsGroupingAt op
    by_operator (ParDo op) e = tt
    by_operator (Windowed g) e = windows-at plan is k g e
    by_operator Sink e = tt

-- what passes twice
filter_once : {X : Type 0} (p : X → Bool) (l : List X) → filter p (filter p l) ≡ filter p l
filter_once p [] = refl
filter_once {X} p (x ∷ l) = by_case (p x) refl (filter_once p l)
  where
    by_case : (b : Bool) → p x ≡ b → filter p (filter p l) ≡ filter p l → filter p (cond b (x ∷ filter p l) (filter p l)) ≡ cond b (x ∷ filter p l) (filter p l)
    by_case true e h = λ i. cond (e i) (x ∷ h i) (h i)
    by_case false e h = h

before-after : (w : ℕ) (l : List Record) → before w (at_least w l) ≡ []
before-after w [] = refl
before-after w (r ∷ l) = by_case (nat_lt r.time w) refl (before-after w l)
  where
    by_case : (b : Bool) → nat_lt r.time w ≡ b → before w (at_least w l) ≡ [] → before w (cond (not b) (r ∷ at_least w l) (at_least w l)) ≡ []
    by_case true e h = h
    by_case false e h = (λ i. cond (e i) (r ∷ before w (at_least w l)) (before w (at_least w l))) ∙ h

after-sorted : (w : ℕ) (l : List Record) → IsReordered (at_least w (sorted_records (before w l))) []
after-sorted w l f = IsReordered-filter (λ r. not (nat_lt r.time w)) (sorted_records (before w l)) (before w l) (IsReordered-in_order record_cmp (before w l)) f ∙ ap (sum_by f) (none l)
  where
    none : (l : List Record) → at_least w (before w l) ≡ []
    none [] = refl
    none (r ∷ l) = by_case (nat_lt r.time w) refl (none l)
      where
        by_case : (b : Bool) → nat_lt r.time w ≡ b → at_least w (before w l) ≡ [] → at_least w (cond b (r ∷ before w l) (before w l)) ≡ []
        by_case true e h = (λ i. cond (not (e i)) (r ∷ at_least w (before w l)) (at_least w (before w l))) ∙ h
        by_case false e h = h

module _ (op : Operator) (floor mark : ℕ) (gives later : List KeptRec → List Record) (kept : List KeptRec) (rows : List Record) where
  -- the rows are those below the mark of what is kept
  pub rows-closes : StandsFor op floor gives kept → Closes mark gives rows later → rows ≡ sorted_records (before mark (output_from op floor kept))
  rows-closes shows closes =
      sorted-unique rows (before mark (output_from op floor kept)) (subst (λ (l : List Record). IsAscending record_cmp l) (sym closes.in_order) (in_order-ascending records_total rows)) same
    where
      same : IsReordered rows (before mark (output_from op floor kept))
      same f =
          ap (sum_by f) (sym (filter-append (λ r. nat_lt r.time mark) rows (later []) ∙ (λ i. before-low mark rows closes.low i ++ before-high mark (later []) (closes.high [] tt) i) ∙ append-nil rows))
          ∙ sym (IsReordered-filter (λ r. nat_lt r.time mark) (gives []) (rows ++ later []) (closes.same [] tt) f)
          ∙ IsReordered-filter (λ r. nat_lt r.time mark) (gives []) (output_from op floor (kept ++ [])) (shows [] tt) f
          ∙ ap (λ l. sum_by f (before mark (output_from op floor l))) (append-nil kept)

  -- what stays is what is given from the mark on
  pub rest-closes : floor ≤ mark → StandsFor op floor gives kept → Closes mark gives rows later → (l : List KeptRec) → IsFrom mark l → IsReordered (later l) (at_least mark (output_from op floor (kept ++ l)))
  rest-closes rises shows closes l late f =
      ap (sum_by f) (sym (filter-append (λ r. not (nat_lt r.time mark)) rows (later l) ∙ (λ i. after-low mark rows closes.low i ++ after-high mark (later l) (closes.high l late) i)))
      ∙ sym (IsReordered-filter (λ r. not (nat_lt r.time mark)) (gives l) (rows ++ later l) (closes.same l late) f)
      ∙ IsReordered-filter (λ r. not (nat_lt r.time mark)) (gives l) (output_from op floor (kept ++ l)) (shows l (later_from l late)) f
    where
      later_from : (l : List KeptRec) → IsFrom mark l → IsFrom floor l
      later_from [] all = tt
      later_from (e ∷ es) all = (le (e.rec.time) all.0, later_from es all.1)
        where
          le : (t : ℕ) → mark ≤ t → floor ≤ t
          le t h = omega (arith, rises)

-- of the elements from the mark on, all are from the mark on
all_from : (mark : ℕ) (l : List KeptRec) → IsFrom mark l → AllByRecursion (λ r. mark ≤ r.time) (all_records l)
all_from mark [] all = tt
all_from mark (e ∷ l) all = (all.0, all_from mark l all.1)

-- and so is what the core keeps
pub given-rest : (op : Operator) → IsGroupingAt op → (floor mark : ℕ) (kept l : List KeptRec) → floor ≤ mark → IsFrom mark l → IsReordered (at_least mark (output_from op floor (kept ++ l))) (output_from op mark (kept_at op mark kept ++ l))
given-rest (ParDo op) groups floor mark kept l rises late f = refl
given-rest Sink groups floor mark kept l rises late f = ap (sum_by f)
    (ap (at_least mark) (all_records-append kept l) ∙ filter-append (λ r. not (nat_lt r.time mark)) (all_records kept) (all_records l)
    ∙ (λ i. sym (all_records-filter (λ r. not (nat_lt r.time mark)) kept) i ++ after-high mark (all_records l) (all_from mark l late) i)
    ∙ sym (all_records-append (kept_at Sink mark kept) l))
given-rest (Windowed g) groups floor mark kept l rises late f =
    IsReordered-filter (λ r. not (nat_lt r.time mark)) (at_least floor (operator_rows g (kept ++ l))) (own ++ at_least mark rest) (closing groups floor mark kept l rises late) f
    ∙ ap (sum_by f) (filter-append (λ r. not (nat_lt r.time mark)) own (at_least mark rest)) ∙ sum_by-append f (at_least mark own) (at_least mark (at_least mark rest))
    ∙ (λ i. after-sorted mark (at_least floor (operator_rows g kept)) f i + sum_by f (filter_once (λ r. not (nat_lt r.time mark)) rest i)) ∙ zero_first (sum_by f (at_least mark rest))
  where
    own : List Record
    own = sorted_records (before mark (at_least floor (operator_rows g kept)))

    rest : List Record
    rest = operator_rows g (still_open g mark kept ++ l)

    zero_first : (n : ℕ) → 0 + n ≡ n
    zero_first n = omega arith

pub shows-closes : (op : Operator) → IsGroupingAt op → (floor mark : ℕ) (gives later : List KeptRec → List Record) (kept : List KeptRec) (rows : List Record) → floor ≤ mark → StandsFor op floor gives kept → Closes mark gives rows later → StandsFor op mark later (kept_at op mark kept)
shows-closes op groups floor mark gives later kept rows rises shows closes l late f = rest-closes op floor mark gives later kept rows rises shows closes l late f ∙ given-rest op groups floor mark kept l rises late f

-- the rows of the core's closing
pub rows-at : (op : Operator) (floor mark : ℕ) (kept : List KeptRec) → is_sink op ≡ false → rows_at op floor mark kept ≡ sorted_records (before mark (output_from op floor kept))
rows-at (ParDo op) floor mark kept h = refl
rows-at (Windowed g) floor mark kept h = refl
rows-at Sink floor mark kept h = cc
