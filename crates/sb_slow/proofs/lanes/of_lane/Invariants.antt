use Rattle.std.proofs.Common.{◌≡◌, take}
use Rattle.sb_base.specs.records.Elements as elements_spec
use Rattle.sb_slow.proofs.lanes.of_lane.Given as goal

abbrev pub invariant-loop-element : goal.invariant-loop-element
invariant-loop-element l = l.records.items ≡ elements_spec.of_lane l.lane (take l.element-index l.elements)
