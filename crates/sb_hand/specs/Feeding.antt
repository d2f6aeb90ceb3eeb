-- What the feeder may bring, and what comes of it.
use Rattle.std.specs.Prelude.{◌≡◌, ◌≤◌, ◌<◌, ℕ, ◌+◌, ◌-◌, ◌^◌, List, length, Some}
use Rattle.std.specs.List.{AllByRecursion}
use Rattle.sb_shown.specs.base.records.declared.item.Stream.{Stream}
use Rattle.sb_shown.specs.base.records.declared.item.TheConstants.{MAX_TIME, END_MARK}
use Rattle.sb_shown.specs.base.bundle.declared.bundle.Bundle.{Bundle}
use Rattle.sb_shown.specs.base.pipeline.declared.transform.Down.{Down}
use Rattle.sb_shown.specs.base.pipeline.Shapes.{Shape, source}
use Rattle.sb_shown.specs.core.containers.Lanes.{next_epoch, next_floor, with_arrival}
use Rattle.sb_shown.specs.diary.declared.event.DiaryEvent.TheVariants as line
use Rattle.sb_shown.specs.lane.declared.answers.ArriveStop.{ArriveStop}
use Rattle.sb_shown.specs.lane.declared.answers.ArriveStop.TheVariants.{Full, Memory}
use Rattle.sb_shown.specs.lane.Unfinished.{unfinished_of}
use Rattle.sb_shown.specs.lane.LaneView.{LaneView, lane_of}
use Rattle.sb_shown.specs.lane.Placed.{conts_of}
use Rattle.sb_shown.specs.node.declared.state.NodeState.{NodeState}
use Rattle.sb_shown.specs.node.Coming.{IsBackFrom}
use Rattle.sb_shown.specs.Sets.{HasLane, StaysAt, Turns}

-- the lane that takes the stream, if the plan uses it
pub record TakesStream (plan : Shape) (stream : Stream) (nodes : List NodeState) : Type 0 where
  pub place : Down
  pub goes : source plan stream ≡ Some place
  pub lane : LaneView
  pub has : HasLane place.node place.lane lane nodes

-- a bundle of the stream's next epoch, with records, but no more than a bundle has, and all in time
pub record MayArrive (plan : Shape) (size : ℕ) (stream : Stream) (bundle : Bundle) (nodes : List NodeState)
    : Type 0 where
  pub into : TakesStream plan stream nodes
  pub some : 1 ≤ length bundle.records
  pub most : length bundle.records ≤ size
  pub epoch : bundle.epoch ≡ next_epoch (lane_of into.lane)
  pub floor : bundle.floor ≡ next_floor (lane_of into.lane)
  pub times : AllByRecursion (λ r. (bundle.floor ≤ r.time) × (r.time ≤ MAX_TIME)) bundle.records

-- a watermark of the stream that does not go back
pub record MaySeal (plan : Shape) (stream : Stream) (mark : ℕ) (nodes : List NodeState) : Type 0 where
  pub into : TakesStream plan stream nodes
  pub bound : mark ≤ END_MARK
  pub rises : next_floor (lane_of into.lane) ≤ mark

-- the bundle comes back; it is full only where as many as the lane's limit are waiting or out
abbrev pub IsTurnedBack : Shape → Stream → List NodeState → Bundle → ArriveStop → Type 0
IsTurnedBack plan stream nodes bundle (Full back) =
    (back ≡ bundle)
    × (into : TakesStream plan stream nodes)
    × (into.lane.pending ≤ unfinished_of (conts_of into.lane.containers))
IsTurnedBack plan stream nodes bundle (Memory back) = back ≡ bundle

-- a bundle is in lane l of node k, with the next number, and there were fewer than the lane's limit
pub record ArrivesIn (k l : ℕ) (old new : List NodeState) (lane : LaneView) (bundle : Bundle) (number : ℕ)
    : Type 0 where
  pub numbered : number ≡ lane.arrived + 1
  pub room : lane.arrived < 2 ^ 64 - 1
  pub fewer : unfinished_of (conts_of lane.containers) < lane.pending
  pub turns : Turns k l old new lane (with_arrival bundle.epoch bundle.floor bundle.records (lane_of lane))
      (line.Arrive l bundle.epoch (lane.arrived + 1) (length bundle.records))

-- a bundle comes back from lane l of node k, and the nodes show what they did
pub record ComesBack (k l : ℕ) (old new : List NodeState) (lane : LaneView) (bundle : Bundle) (stop : ArriveStop)
    : Type 0 where
  pub back : IsBackFrom lane bundle stop
  pub stays : StaysAt k l old new lane
