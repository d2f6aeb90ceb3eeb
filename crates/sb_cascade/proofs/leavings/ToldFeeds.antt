-- A leaving has done its change with what the feeder brings, by what the feeder knows.
use Rattle.std.proofs.Common.{◌≡◌, ℕ, ◌+◌, ◌-◌, ◌^◌, ◌<◌, ◌≤◌, true, List, [], length, Some, sym, ap, subst, arith}
use Rattle.std.specs.Prelude.{slice_index}
use Rattle.std.specs.declared.snapshot.Snapshot.{Snapshot}
use Rattle.sb_hand.specs.base.records.declared.item.Record.{Record}
use Rattle.sb_hand.specs.base.records.declared.item.Stream.{Stream}
use Rattle.sb_hand.specs.base.bundle.declared.bundle.Bundle.{Bundle}
use Rattle.sb_hand.specs.base.pipeline.declared.transform.Down.{Down}
use Rattle.sb_hand.specs.base.pipeline.Shapes.{source}
use Rattle.sb_hand.specs.core.containers.declared.container.CoreLane.{CoreLane}
use Rattle.sb_hand.specs.core.containers.Lanes.{next_epoch, next_floor, with_arrival}
use Rattle.sb_hand.specs.core.Moments.{empty_lane}
use Rattle.sb_hand.specs.diary.declared.event.DiaryEvent.TheVariants as line
use Rattle.sb_hand.specs.lane.LaneView.{LaneView, lane_of}
use Rattle.sb_hand.specs.node.Changes.{HasLane, Turns}
use Rattle.sb_shared.specs.declared.telling.Change.TheVariants.{Arrive}
use Rattle.sb_shared.specs.declared.telling.Hands.{Hands}
use Rattle.sb_shared.specs.declared.telling.Setting.{Setting}
use Rattle.sb_shared.specs.Found.{IsFound}
use Rattle.sb_shared.specs.SharedNodes.{ChangesOwn, SharedView}
use Rattle.sb_shared.specs.Views.{stream_feed, held_by}
use Rattle.sb_shared.proofs.leavings.Acts.{Acts}
use Rattle.sb_shared.proofs.entered.Found.{marks_fed}
use Rattle.sb_shared.proofs.leavings.FreshEvents.{AreInTime, arrives}
use Rattle.sb_cascade.proofs.leavings.ToldWorks.{not_empty}

-- a lane that was sealed with the marks that were fed of a stream
abbrev pub lane_by : Stream → Hands → CoreLane
lane_by s w = record empty_lane { marks = (stream_feed s w.feed).marks }

module _ (a : Setting) (w : Hands) (k : ℕ) (x : SharedView) (f : IsFound a w k x) (on : w.feed.on ≡ true) (s : Stream) (d : Down) (from : source a.plan s ≡ Some d) (here : d.node ≡ k) (at : LaneView) (has : HasLane d.lane at x.own) where
  -- to the feeder the lane of a stream has the next epoch that it knows
  pub epoch_fed : next_epoch (lane_of at) ≡ next_epoch (lane_by s w)
  epoch_fed = ap (λ (marks : List ℕ). length marks) (marks_fed a w k x f on s d from here at has)

  -- and the floor of it
  pub floor_fed : next_floor (lane_of at) ≡ next_floor (lane_by s w)
  floor_fed = ap (λ (marks : List ℕ). slice_index marks (length marks - 1)) (marks_fed a w k x f on s d from here at has)

module _ (a : Setting) (w : Hands) (seen k : ℕ) (x y : SharedView) (s : Stream) (t : Snapshot (List Record)) where
  -- a bundle of the next epoch comes
  pub arrives_told : (b : Bundle) → t.value ≡ b.records → (d : Down) (lane : LaneView) (links : LaneView → LaneView → Type 0) (n : ℕ) → source a.plan s ≡ Some d → d.node ≡ k → n ≡ lane.arrived + 1
      → b.epoch ≡ next_epoch (lane_of lane) → b.floor ≡ next_floor (lane_of lane) → 1 ≤ length b.records → length b.records ≤ a.bundle → AreInTime b.floor b.records → lane.arrived < 2 ^ 64 - 1
      → ChangesOwn (Turns d.lane lane (with_arrival b.epoch b.floor b.records (lane_of lane)) links (line.Arrive d.lane b.epoch n (length b.records))) x y → held_by w ≡ [] → Acts a w seen k x y (Arrive s t)
  arrives_told b told d lane links n from here number epoch floor some most times room own none =
      arrives a w seen k x y s t d lane links from here (not_empty t.value (omega (arith, some, many))) (omega (arith, most, many))
      (subst (λ z. z) (λ i. AreInTime (floor i) (sym told i)) times) room
      (subst (λ z. z) (λ i. ChangesOwn (Turns d.lane lane (with_arrival (epoch i) (floor i) (sym told i) (lane_of lane)) links (line.Arrive d.lane (epoch i) (number i) (length (sym told i)))) x y) own) none
    where
      many : length t.value ≡ length b.records
      many = ap (λ (l : List Record). length l) told
