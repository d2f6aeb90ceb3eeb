use Rattle.std.proofs.Common.{List, ap, ◌∙◌}
use Rattle.std.specs.List.{slice_get}
use Rattle.sb_hand.specs.lane.LaneView.{LaneView, empty_lane}
use Rattle.model_tests.proofs.node.sealed_node.Goals as goal

pub seal-requires-clause-lane : goal.seal-requires-clause-lane
seal-requires-clause-lane c = (empty_lane 1, ap (λ (lanes : List LaneView). slice_get lanes 0) c.in_ok-node.ensures.lanes)

pub returns : goal.returns
returns c =
    let there = ap (λ (lanes : List LaneView). slice_get lanes 0) c.in_ok-node.ensures.lanes in
    (c.in_ok-seal.ensures.seals (empty_lane 1) there).rest.kept ∙ c.in_ok-node.ensures.kept
