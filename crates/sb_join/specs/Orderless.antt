-- A join does not depend on the order in which records come.
use Rattle.std.proofs.Common.{ℕ, not, eqb, List, ◌++◌, refl}
use Rattle.std.specs.Prelude.{nat_lt}
use Rattle.std.specs.List.{filter}
use Rattle.sb_runs.specs.records.declared.element.KeptRec.{KeptRec}
use Rattle.sb_runs.specs.records.Elements.{of_lane}
use Rattle.sb_runs.specs.records.Reorderings.{IsReordered}
use Rattle.sb_runs.specs.window.SumLemmas.{IsReordered-append, IsReordered-map, IsReordered-filter}
use Rattle.sb_windowed.specs.Joins.{join_rows}
use Rattle.sb_join.specs.Kept.{JoinState, gives}
use Rattle.sb_windowed.proofs.PairOrder.{join_rows-reordered}

of_lane-reordered : (lane : ℕ) (l m : List KeptRec) → IsReordered l m → IsReordered (of_lane lane l) (of_lane lane m)
of_lane-reordered lane l m h =
    IsReordered-map (λ e. e.rec) (filter (λ e. eqb e.lane lane) l) (filter (λ e. eqb e.lane lane) m)
    (IsReordered-filter (λ e. eqb e.lane lane) l m h)

pub gives-orderless : (s : JoinState) (l m : List KeptRec) → IsReordered l m → IsReordered (gives s l) (gives s m)
gives-orderless s l m h =
    IsReordered-filter (λ r. not (nat_lt r.time s.closed))
    (join_rows s.combine s.windows (s.left ++ of_lane 0 l) (s.right ++ of_lane 1 l))
    (join_rows s.combine s.windows (s.left ++ of_lane 0 m) (s.right ++ of_lane 1 m))
    (join_rows-reordered s.combine s.windows (s.left ++ of_lane 0 l) (s.left ++ of_lane 0 m)
    (s.right ++ of_lane 1 l) (s.right ++ of_lane 1 m)
    (IsReordered-append s.left s.left (of_lane 0 l) (of_lane 0 m) (λ f. refl) (of_lane-reordered 0 l m h))
    (IsReordered-append s.right s.right (of_lane 1 l) (of_lane 1 m) (λ f. refl) (of_lane-reordered 1 l m h)))
