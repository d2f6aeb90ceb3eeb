use Rattle.std.proofs.Common.{◌≡◌, ℕ, get_or, sym, ap, ◌∙◌, arith, ⊎_elim}
use Rattle.std.proofs.lemmas.Bool.{cases_lt}
use Rattle.sb_shown.specs.lane.Looks.{look_of}
use Rattle.sb_shown.specs.lane.LaneView.{LaneView}
use Rattle.sb_shown.specs.lane.Placed.{conts_of}
use Rattle.sb_shown.specs.node.Looking.{CannotClose}
use Rattle.sb_hand.proofs.Having.{same-get}
use Rattle.sb_hand.proofs.steps.closable_lane.Goals as goal

pub loop-lane-preserved : goal.loop-lane-preserved
loop-lane-preserved c = λ k d h. ⊎_elim (λ lt. c.loop-lane.invariant k d lt) (λ ge. here k d (omega arith)) (cases_lt k c.loop-lane.lane)
  where
    here : (k : ℕ) (d : LaneView) → k ≡ c.loop-lane.lane → CannotClose (get_or c.args.lanes.now k d)
    here k d e =
        let x = c.index-lanes-lane.result in
        let is : get_or c.args.lanes.now k d ≡ x = ap (λ k. get_or c.args.lanes.now k d) e ∙ same-get c.args.lanes.now c.loop-lane.lane d x c.loop-lane-test.true ∙ sym c.index-lanes-lane.is in
        (c.in_default.field-0, ap (λ (s : LaneView). look_of (conts_of s.containers)) is ∙ sym c.look.ensures ∙ c.in_default.is)
