use Rattle.std.proofs.Common.{◌≡◌, ◌≤◌, ◌∷◌, [], List, length, Some, ap, refl, arith}
use Rattle.std.specs.List.{slice_get}
use Rattle.sb_hand.specs.lane.LaneView.{LaneView}
use Rattle.model_tests.proofs.node.has_one_lane.Goals as goal

first : (lanes : List LaneView) → 1 ≤ length lanes → (at : LaneView) × (slice_get lanes 0 ≡ Some at)
first [] some = absurd (omega (arith, some))
first (lane ∷ lanes) some = (lane, refl)

pub returns-in-len1 : goal.returns-in-len1
returns-in-len1 c = λ yes. first c.args.node.now.lanes.items (omega (arith, c.in-len1.len_at_least, ap length c.as_slice.ensures.value))
