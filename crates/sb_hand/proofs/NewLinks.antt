-- New nodes are linked: they have no container.
use Rattle.std.proofs.Common.{◌≡◌, ℕ, suc, zero, Bool, List, Some, sym, ap, ◌∙◌}
use Rattle.std.specs.Prelude.{replicate}
use Rattle.std.specs.List.{slice_get}
use Rattle.std.proofs.lemmas.Option.{same_Some}
use Rattle.sb_shown.specs.base.pipeline.Operators.{lanes_of, operator_at}
use Rattle.sb_shown.specs.base.pipeline.Shapes.{Shape}
use Rattle.sb_shown.specs.lane.LaneView.{LaneView, empty_lane, link_at}
use Rattle.sb_shown.specs.node.declared.state.NodeState.{NodeState}
use Rattle.sb_shown.specs.Linking.{AreLinked}
use Rattle.sb_hand.specs.NewNodes.{AreNewNodes}

of-same : {X : Type 0} (n k : ℕ) (x y : X) → slice_get (replicate n x) k ≡ Some y → x ≡ y
of-same zero k x y h = cc
of-same (suc n) zero x y h = same_Some x y h
of-same (suc n) (suc k) x y h = of-same n k x y h

pub new-linked : (plan : Shape) (pending : ℕ) (keeps : Bool) (count : ℕ) (nodes : List NodeState) → AreNewNodes plan pending keeps count nodes → AreLinked plan nodes
new-linked plan pending keeps count nodes are = record {
  leads = λ k s own under is pardo has below. λ epoch link h from.
      let new = are.each k has.own has.there in
      let empty : empty_lane pending ≡ own = of-same (lanes_of (operator_at (slice_get plan.steps k))) 0 (empty_lane pending) own (ap (λ (ls : List LaneView). slice_get ls 0) (sym new.lanes) ∙ has.in_it) in
      let none : link_at epoch (empty_lane pending) ≡ Some link = ap (link_at epoch) empty ∙ h in cc;
}
