-- A change of one lane of one node.
use Rattle.std.specs.Prelude.{◌≡◌, ℕ, ◌+◌, List, [], ◌∷◌, ◌++◌, length, Some, slice_get, slice_set, map}
use Rattle.sb_node.specs.diary.declared.event.DiaryEvent.{DiaryEvent}
use Rattle.sb_node.specs.diary.declared.event.DiaryEvent.TheVariants as line
use Rattle.sb_node.specs.base.bundle.declared.bundle.Bundle.{Bundle}
use Rattle.sb_tally.specs.core.containers.declared.container.CoreLane.{CoreLane}
use Rattle.sb_node.specs.lane.LaneView.{LaneView, lane_of}
use Rattle.sb_node.specs.lane.Placed.{conts_of}
use Rattle.sb_node.specs.lane.Taking.{take_first, finish_first}
use Rattle.sb_tally.specs.core.containers.Lanes.{with_first_closing}
use Rattle.sb_node.specs.base.records.declared.item.Record.{Record}
use Rattle.sb_node.specs.base.records.Elements.{on_lane}
use Rattle.sb_node.specs.base.window.Groupings.{Adds, Closes}
use Rattle.sb_node.specs.base.pipeline.Operators.{Operator}
use Rattle.sb_node.specs.work.declared.outputs.Part.{Part}
use Rattle.sb_tally.specs.core.containers.Marks.{before_closing}
use Rattle.sb_node.specs.Marking.{mark_for}
use Rattle.sb_node.specs.declared.kept.Kept.{Kept}
use Rattle.sb_node.specs.Keeping.{IsSpent, IsMadeFor, IsPartFor, closed_mark, gives}
use Rattle.sb_node.specs.declared.closing.Closing.{Closing}
use Rattle.sb_node.specs.declared.state.NodeState.{NodeState}

-- the lane is there, and is so
pub record HasLane (k l : ℕ) (lane : LaneView) (nodes : List NodeState) : Type 0 where
  pub own : NodeState
  pub there : slice_get nodes k ≡ Some own
  pub in_it : slice_get own.lanes.items l ≡ Some lane

-- lane l of node k, which was so, is so
pub record SetsLane (k l : ℕ) (lane now : LaneView) (line : DiaryEvent) (old new : List NodeState) : Type 0 where
  pub own : NodeState
  pub there : slice_get old k ≡ Some own
  pub in_it : slice_get own.lanes.items l ≡ Some lane
  pub with : NodeState
  pub set : new ≡ slice_set old k with
  pub lanes : with.lanes.items ≡ slice_set own.lanes.items l now
  pub kept : with.kept ≡ own.kept
  pub closings : with.closings ≡ own.closings
  pub diary : with.diary.events ≡ own.diary.events ++ line ∷ []
  pub keeps : with.diary.keeps ≡ own.diary.keeps
  pub limit : now.pending ≡ lane.pending

-- and the node keeps something else, and has begun so many closings more
pub record SetsNode (k l : ℕ) (lane now : LaneView) (more : ℕ) (was is : Kept) (line : DiaryEvent)
    (old new : List NodeState) : Type 0 where
  pub own : NodeState
  pub there : slice_get old k ≡ Some own
  pub in_it : slice_get own.lanes.items l ≡ Some lane
  pub was_so : own.kept ≡ was
  pub with : NodeState
  pub set : new ≡ slice_set old k with
  pub lanes : with.lanes.items ≡ slice_set own.lanes.items l now
  pub kept : with.kept ≡ is
  pub closings : with.closings ≡ own.closings + more
  pub diary : with.diary.events ≡ own.diary.events ++ line ∷ []
  pub keeps : with.diary.keeps ≡ own.diary.keeps
  pub limit : now.pending ≡ lane.pending

-- the lane becomes this lane of the core
pub record Turns (k l : ℕ) (old new : List NodeState) (lane : LaneView) (later : CoreLane) (line : DiaryEvent)
    : Type 0 where
  pub now : LaneView
  pub sets : SetsLane k l lane now line old new
  pub is : lane_of now ≡ later

-- the first waiting bundle of the lane is taken
pub record Takes (k l : ℕ) (old new : List NodeState) (lane : LaneView) (b : Bundle) : Type 0 where
  pub now : LaneView
  pub sets : SetsLane k l lane now (line.Take l b.number) old new
  pub took : take_first (conts_of lane.containers) ≡ Some (b, conts_of now.containers)
  pub is : lane_of now ≡ record (lane_of lane) { conts = conts_of now.containers }

-- a part is taken in, and its bundle is done with
pub record Absorbs (k l : ℕ) (old new : List NodeState) (lane : LaneView) (epoch number : ℕ) (part : Part)
    : Type 0 where
  pub now : LaneView
  pub was : Kept
  pub is : Kept
  pub sets : SetsNode k l lane now 0 was is (line.Finish l number 0) old new
  pub lane_is : lane_of now ≡ record (lane_of lane) { conts = finish_first epoch number (conts_of lane.containers) }
  pub unspent : IsSpent is → ⊥
  pub made : (op : Operator) → IsMadeFor op was → IsMadeFor op is
  pub closed : closed_mark is ≡ closed_mark was
  pub adds : (records : List Record) → IsPartFor was part l records
      → Adds (closed_mark was) (gives was) (gives is) (on_lane l records)

-- this closing begins: the oldest container of its lane is closing, and its rows come out
pub record BeginsAt (c : Closing) (old new : List NodeState) (lane : LaneView) : Type 0 where
  pub now : LaneView
  pub was : Kept
  pub is : Kept
  pub sets : SetsNode c.node c.lane lane now 1 was is (line.Begin c.lane c.epoch c.mark (length c.rows.items)) old new
  pub lane_is : lane_of now ≡ record (lane_of lane) { conts = with_first_closing (conts_of lane.containers) }
  pub serial_is : c.serial ≡ sets.own.closings
  pub floor_is : c.floor ≡ before_closing (map lane_of sets.own.lanes.items)
  pub mark_is : c.mark ≡ mark_for c.lane (map lane_of sets.own.lanes.items)
  pub unspent : IsSpent is → ⊥
  pub made : (op : Operator) → IsMadeFor op was → IsMadeFor op is
  pub closed : closed_mark is ≡ c.mark
  pub closes : Closes c.mark (gives was) c.rows.items (gives is)

-- lane l of node k shows what it did, and so does the rest of the node
pub record StaysAt (k l : ℕ) (old new : List NodeState) (lane : LaneView) : Type 0 where
  pub own : NodeState
  pub there : slice_get old k ≡ Some own
  pub in_it : slice_get own.lanes.items l ≡ Some lane
  pub with : NodeState
  pub set : new ≡ slice_set old k with
  pub now : LaneView
  pub lanes : with.lanes.items ≡ slice_set own.lanes.items l now
  pub lane_is : lane_of now ≡ lane_of lane
  pub kept : with.kept ≡ own.kept
  pub closings : with.closings ≡ own.closings
  pub diary : with.diary.events ≡ own.diary.events
  pub keeps : with.diary.keeps ≡ own.diary.keeps
  pub limit : now.pending ≡ lane.pending
