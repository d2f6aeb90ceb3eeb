-- What the feeder may bring, by what it has brought.
use Rattle.std.specs.Prelude.{◌≡◌, ◌≤◌, ℕ, length, Some}
use Rattle.std.specs.List.{AllByRecursion}
use Rattle.sb_hand.specs.base.records.declared.item.Stream.{Stream}
use Rattle.sb_hand.specs.base.records.declared.item.TheConstants.{MAX_TIME, END_MARK}
use Rattle.sb_hand.specs.base.bundle.declared.bundle.Bundle.{Bundle}
use Rattle.sb_hand.specs.base.pipeline.declared.transform.Down.{Down}
use Rattle.sb_hand.specs.base.pipeline.Shapes.{source}
use Rattle.sb_hand.specs.core.containers.declared.container.CoreLane.{CoreLane}
use Rattle.sb_hand.specs.core.containers.Lanes.{next_epoch, next_floor}
use Rattle.sb_hand.specs.core.Moments.{empty_lane}
use Rattle.sb_hand.specs.lane.declared.answers.ArriveStop.{ArriveStop}
use Rattle.sb_hand.specs.lane.declared.answers.ArriveStop.TheVariants.{Full, Memory}
use Rattle.sb_cascade.specs.declared.cascade.Cascade.{Cascade}
use Rattle.sb_cascade.specs.declared.pass.CascadePass.{CascadePass}
use Rattle.sb_shared.specs.declared.telling.Change.{Change}
use Rattle.sb_shared.specs.declared.telling.Change.TheVariants as change
use Rattle.sb_cascade.specs.Calls.{LeftBy, hands, plan_of, setting_of}
use Rattle.sb_cascade.specs.Told.{Is}
use Rattle.sb_shared.specs.Views.{stream_feed}

-- a lane that was sealed with the marks that the feeder brought of a stream
abbrev pub sealed_lane : Stream → CascadePass → CoreLane
sealed_lane stream p = record empty_lane { marks = (stream_feed stream (hands p).feed).marks }

-- a bundle of the stream's next epoch, with records, but no more than a bundle has, and all in time
pub record MayArrive (c : Cascade) (p : CascadePass) (stream : Stream) (bundle : Bundle) : Type 0 where
  pub place : Down
  pub goes : source (plan_of c) stream ≡ Some place
  pub some : 1 ≤ length bundle.records
  pub most : length bundle.records ≤ (setting_of c).bundle
  pub epoch : bundle.epoch ≡ next_epoch (sealed_lane stream p)
  pub floor : bundle.floor ≡ next_floor (sealed_lane stream p)
  pub times : AllByRecursion (λ r. (bundle.floor ≤ r.time) × (r.time ≤ MAX_TIME)) bundle.records

-- a watermark of the stream that does not go back
pub record MaySeal (c : Cascade) (p : CascadePass) (stream : Stream) (mark : ℕ) : Type 0 where
  pub place : Down
  pub goes : source (plan_of c) stream ≡ Some place
  pub bound : mark ≤ END_MARK
  pub rises : next_floor (sealed_lane stream p) ≤ mark

-- the pass left the node that takes the stream with such a change
abbrev pub LeftSource : Cascade → Stream → (Change → Type 0) → CascadePass → CascadePass → Type 0
LeftSource c stream so p q = (d : Down) × (source (plan_of c) stream ≡ Some d) × LeftBy d.node so p q

-- the pass left that node, and told that the lane that takes the bundles of the stream is full
abbrev pub LeftFull : Cascade → Stream → CascadePass → CascadePass → Type 0
LeftFull c stream p q =
    (d : Down) × (source (plan_of c) stream ≡ Some d) × LeftBy d.node (Is (change.Full d.lane)) p q

-- the bundle comes back; `Full` only if a look under the turn said that the lane is, and else nothing has changed
abbrev pub IsTurnedBack : Cascade → Stream → Bundle → CascadePass → CascadePass → ArriveStop → Type 0
IsTurnedBack c stream bundle p q (Full back) = (back ≡ bundle) × LeftFull c stream p q
IsTurnedBack c stream bundle p q (Memory back) = (back ≡ bundle) × LeftSource c stream (Is change.Nothing) p q
