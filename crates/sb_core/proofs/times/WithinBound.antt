-- The rows of a closing are within the bound of the lane below.
use Rattle.std.proofs.Common.{◌≡◌, ℕ, ◌+◌, ◌≤◌, Bool, not, List, refl, arith}
use Rattle.std.specs.Prelude.{nat_lt}
use Rattle.std.specs.List.{filter, AllByRecursion}
use Rattle.sb_containers.specs.base.records.declared.item.Record.{Record}
use Rattle.sb_containers.specs.base.records.Records.{record_cmp, before, at_least}
use Rattle.sb_containers.specs.base.ElementLemmas.{every, All-passed}
use Rattle.sb_containers.specs.base.SortingLemmas.{All-in_order}
use Rattle.sb_containers.specs.base.window.declared.windows.TheConstants.{MAX_SIZE}
use Rattle.sb_containers.specs.base.records.declared.element.KeptRec.{KeptRec}
use Rattle.sb_containers.specs.base.pipeline.Shapes.{Shape}
use Rattle.sb_containers.specs.base.pipeline.Operators.{Operator, WindowOperator, operator_rows}
use Rattle.sb_containers.specs.base.pipeline.Operators.Operator.{ParDo, Windowed, Sink}
use Rattle.sb_core.specs.Closings.{rows_at}
use Rattle.sb_core.specs.Bounds.{bound_at}
use Rattle.sb_core.specs.Soundness.{AreKeptAt}
use Rattle.sb_core.proofs.windows.WindowOperators.{IsGrouping}

pub All-kept : {X : Type 0} (P : X → Type 0) (p : X → Bool) (xs : List X) → AllByRecursion P xs → AllByRecursion P (filter p xs)
All-kept P p xs all = All-passed P P p (λ x h _. h) xs all

pub rows-bounded : (plan : Shape) (o : Operator) (n w floor mark : ℕ) (kept : List KeptRec) → ((g : WindowOperator) → o ≡ Windowed g → IsGrouping g) → AreKeptAt o w (bound_at plan n) kept → AllByRecursion (λ r. r.time ≤ bound_at plan n + MAX_SIZE) (rows_at o floor mark kept)
rows-bounded plan (ParDo op) n w floor mark kept groups all = tt
rows-bounded plan Sink n w floor mark kept groups all = tt
rows-bounded plan (Windowed g) n w floor mark kept groups all =
    All-in_order (λ (r : Record). r.time ≤ bound_at plan n + MAX_SIZE) record_cmp (before mark (at_least floor (operator_rows g kept)))
    (All-kept (λ (r : Record). r.time ≤ bound_at plan n + MAX_SIZE) (λ r. nat_lt r.time mark) (at_least floor (operator_rows g kept))
    (All-kept (λ (r : Record). r.time ≤ bound_at plan n + MAX_SIZE) (λ r. not (nat_lt r.time floor)) (operator_rows g kept)
    (every (λ r h. omega (arith, h, (groups g refl).most)) (operator_rows g kept) ((groups g refl).within (bound_at plan n) kept (every (λ e h. h.1) kept all)))))
