-- The mark of a node is as before where it has begun no closing more.
use Rattle.std.proofs.Common.{◌≡◌, ℕ, ◌-◌, ◌≤◌, cond, eqb, List, [], ◌∷◌, ◌++◌, length, Some, Option, get_or, sym, ap, subst, ◌∙◌, arith, ⊎_elim}
use Rattle.std.specs.Prelude.{◌⊎◌}
use Rattle.std.specs.List.{sum_by, slice_get, slice_set}
use Rattle.std.proofs.lemmas.Bool.{eq-eqb, cases_eq}
use Rattle.std.proofs.lemmas.List.{get_or_append_left}
use Rattle.std.proofs.lemmas.Option.{get_or_from_slice_get}
use Rattle.sb_node.specs.base.pipeline.Shapes.{Shape}
use Rattle.sb_node.specs.base.records.Reading.{◌>>=◌}
use Rattle.sb_tally.specs.core.containers.declared.container.CoreLane.{CoreLane}
use Rattle.sb_tally.specs.core.declared.moment.Node.{Node}
use Rattle.sb_tally.specs.core.declared.moment.Moment.{Moment}
use Rattle.sb_tally.specs.core.Bounds.{bound_at}
use Rattle.sb_tally.specs.core.containers.LaneOrder.{IsLane}
use Rattle.sb_tally.specs.core.containers.Marks.{begun_count, last_of_first, least_begun_mark}
use Rattle.sb_tally.specs.core.Moments.{no_node, node_at}
use Rattle.sb_tally.specs.core.Soundness.{IsSound}
use Rattle.sb_tally.proofs.core.containers.Begun.{begun_within, begun_mark}
use Rattle.sb_tally.proofs.core.exact.Nodes.{closed-set, sum_by-set_get}

-- the marks are as before, or one more
abbrev pub SameMarks : CoreLane → CoreLane → Type 0
SameMarks lane with = (with.marks ≡ lane.marks) ⊎ ((mark : ℕ) × (with.marks ≡ lane.marks ++ mark ∷ []))

pub node_is : (m : Moment) (k : ℕ) (n : Node) → slice_get m.nodes k ≡ Some n → node_at m k ≡ n
node_is m k n at = get_or_from_slice_get m.nodes k n no_node at

longer : (mark : ℕ) (marks : List ℕ) (n : ℕ) → n ≤ length marks → last_of_first n (marks ++ mark ∷ []) ≡ last_of_first n marks
longer mark marks n h = ⊎_elim
    (λ e. ap (λ b. cond b 0 (get_or (marks ++ mark ∷ []) (n - 1) 0)) (eq-eqb n 0 e) ∙ sym (ap (λ b. cond b 0 (get_or marks (n - 1) 0)) (eq-eqb n 0 e)))
    (λ ne. ap (cond (eqb n 0) 0) (get_or_append_left marks (mark ∷ []) 0 (n - 1) (omega arith)))
    (cases_eq n 0)

module _ (plan : Shape) (m later : Moment) (sound : IsSound plan m) (still : IsSound plan later) (k l : ℕ) (n now : Node) (lane with : CoreLane) where
  pub calm : slice_get m.nodes k ≡ Some n → slice_get later.nodes k ≡ Some now → slice_get n.lanes l ≡ Some lane → now.lanes ≡ slice_set n.lanes l with → now.closings ≡ n.closings → SameMarks lane with → least_begun_mark now.lanes ≡ least_begun_mark n.lanes
  calm at at_now in_it set closings marks = ap least_begun_mark set ∙ closed-set n.lanes l lane with in_it same_mark
    where
      old : n.closings ≡ sum_by begun_count n.lanes
      old = subst (λ (x : Node). x.closings ≡ sum_by begun_count x.lanes) (node_is m k n at) (sound.closings k)

      new : now.closings ≡ sum_by begun_count now.lanes
      new = subst (λ (x : Node). x.closings ≡ sum_by begun_count x.lanes) (node_is later k now at_now) (still.closings k)

      as_many : begun_count with ≡ begun_count lane
      as_many = let e = ap (sum_by begun_count) set in omega (arith, old, new, e, closings, sum_by-set_get begun_count n.lanes l lane with in_it)

      there : ((slice_get m.nodes k) >>= λ x. slice_get x.lanes l) ≡ Some lane
      there = ap (λ (o : Option Node). o >>= λ x. slice_get x.lanes l) at ∙ in_it

      ok : IsLane (bound_at plan k) lane
      ok = sound.lanes (record { node = k; lane = l }) lane there

      same_mark : begun_mark with ≡ begun_mark lane
      same_mark = ⊎_elim
          (λ e. (λ i. last_of_first (as_many i) (e i)))
          (λ w. (λ i. last_of_first (as_many i) (w.1 i)) ∙ longer w.0 lane.marks (begun_count lane) (begun_within (bound_at plan k) lane ok))
          marks
