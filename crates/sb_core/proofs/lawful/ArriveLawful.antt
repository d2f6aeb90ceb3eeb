-- A bundle arrives: the moment stays lawful.
use Rattle.sb_containers.specs.base.ElementLemmas.{every}
use Rattle.std.proofs.Common.{◌≡◌, ◌-◌, List, Some, refl, arith}
use Rattle.std.specs.List.{slice_get}
use Rattle.sb_containers.specs.base.records.declared.item.Record.{Record}
use Rattle.sb_containers.specs.declared.container.CoreLane.{CoreLane}
use Rattle.sb_containers.specs.base.pipeline.declared.transform.Down.{Down}
use Rattle.sb_core.specs.declared.moment.Node.{Node}
use Rattle.sb_containers.specs.base.pipeline.Shapes.{Shape}
use Rattle.sb_core.specs.declared.moment.Moment.{Moment}
use Rattle.sb_containers.specs.Lanes.{with_arrival, next_epoch, next_floor}
use Rattle.sb_core.specs.Moments.{lane_at, set_lane, set_node, with_held}
use Rattle.sb_containers.specs.LaneOrder.{IsWithin, IsLane}
use Rattle.sb_core.specs.Bounds.{bound_at}
use Rattle.sb_core.proofs.sound.Orderly.{IsLawful}
use Rattle.sb_core.proofs.lawful.Frame.{frame, holds_still}
use Rattle.sb_containers.proofs.Stays.{IsKept}
use Rattle.sb_core.proofs.exact.Nodes.{lane_at-is}
use Rattle.sb_containers.proofs.Arriving.{arrival-lane, arrival-kept}

-- ---- the event, in the next epoch of any lane: an arrival, and the rows of a Close
pub arrival-lawful : (plan : Shape) (m : Moment) (d : Down) (node : Node) (lane : CoreLane) (records : List Record) → slice_get m.nodes d.node ≡ Some node → slice_get node.lanes d.lane ≡ Some lane
    → IsWithin (next_floor lane) (bound_at plan d.node) records → IsLawful plan m → IsLawful plan (set_node d.node (set_lane d.lane (with_arrival (next_epoch lane) (next_floor lane) records lane) node) (with_held m.held m))
arrival-lawful plan m d node lane records at in_it times lawful =
    let was : lane_at m d ≡ Some lane = lane_at-is m d node lane at in_it in
    let ok : IsLane (bound_at plan d.node) lane = lawful.lanes d lane was in
    let kept : IsKept lane (with_arrival (next_epoch lane) (next_floor lane) records lane) = arrival-kept (bound_at plan d.node) records lane ok times in
    frame plan m d node lane (with_arrival (next_epoch lane) (next_floor lane) records lane) at in_it kept m.held lawful (arrival-lane (bound_at plan d.node) records lane ok times)
    (every (λ h. holds_still plan m d node lane (with_arrival (next_epoch lane) (next_floor lane) records lane) at in_it kept m.held h) m.held lawful.holds)
    (λ k. omega arith) (λ e. refl) (λ k. refl)
