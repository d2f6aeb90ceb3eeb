-- What an event makes of a node: one lane of it changes, and its diary has a line more.
use Rattle.std.specs.Prelude.{◌≡◌, ℕ, ◌+◌, List, length, map, Some, slice_get, slice_set}
use Rattle.sb_work.specs.base.records.declared.item.Record.{Record}
use Rattle.sb_work.specs.base.records.Elements.{on_lane}
use Rattle.sb_work.specs.base.bundle.declared.bundle.Bundle.{Bundle}
use Rattle.sb_work.specs.base.window.Groupings.{Adds, Closes}
use Rattle.sb_work.specs.base.pipeline.Operators.{Operator}
use Rattle.sb_work.specs.declared.outputs.Part.{Part}
use Rattle.sb_lane.specs.containers.declared.container.CoreLane.{CoreLane}
use Rattle.sb_lane.specs.containers.Lanes.{with_first_closing}
use Rattle.sb_lane.specs.containers.Marks.{before_closing}
use Rattle.sb_diary.specs.Diaries.{with_line}
use Rattle.sb_diary.specs.declared.event.DiaryEvent.{DiaryEvent}
use Rattle.sb_diary.specs.declared.event.DiaryEvent.TheVariants as line
use Rattle.sb_node.specs.Keeping.{IsSpent, IsMadeFor, IsPartFor, closed_mark, gives}
use Rattle.sb_lane.specs.LaneView.{LaneView, lane_of}
use Rattle.sb_lane.specs.Placed.{conts_of}
use Rattle.sb_lane.specs.Taking.{take_first, finish_first}
use Rattle.sb_node.specs.declared.closing.Closing.{Closing}
use Rattle.sb_node.specs.declared.state.NodeState.{NodeState}
use Rattle.sb_node.specs.LinkChanges.{GetsLink, LinksStay}
use Rattle.sb_node.specs.Marking.{mark_for}

-- lane l of the node
abbrev pub HasLane : ℕ → LaneView → NodeState → Type 0
HasLane l lane node = slice_get node.lanes.items l ≡ Some lane

-- lane l, which was so, is so, and the diary has a line more
pub record SetsLane (l : ℕ) (lane now : LaneView) (line : DiaryEvent) (old new : NodeState) : Type 0 where
  pub in_it : HasLane l lane old
  pub lanes : new.lanes.items ≡ slice_set old.lanes.items l now
  pub limit : now.pending ≡ lane.pending
  pub diary : new.diary ≡ with_line line old.diary

-- what is kept, and how many closings have begun, is as it was
pub record KeepsRest (old new : NodeState) : Type 0 where
  pub kept : new.kept ≡ old.kept
  pub closings : new.closings ≡ old.closings

-- lane l becomes this lane of the core, and its links change so
pub record Turns (l : ℕ) (lane : LaneView) (later : CoreLane) (links : LaneView → LaneView → Type 0)
    (line : DiaryEvent) (old new : NodeState) : Type 0 where
  pub now : LaneView
  pub sets : SetsLane l lane now line old new
  pub rest : KeepsRest old new
  pub is : lane_of now ≡ later
  pub linked : links lane now

-- the first waiting bundle of lane l is taken
pub record Takes (l : ℕ) (lane : LaneView) (b : Bundle) (old new : NodeState) : Type 0 where
  pub now : LaneView
  pub sets : SetsLane l lane now (line.Take l b.number) old new
  pub rest : KeepsRest old new
  pub took : take_first (conts_of lane.containers) ≡ Some (b, conts_of now.containers)
  pub is : lane_of now ≡ record (lane_of lane) { conts = conts_of now.containers }
  pub linked : LinksStay lane now

-- a part is taken in, and its bundle is done with
pub record Absorbs (l : ℕ) (lane : LaneView) (epoch number : ℕ) (part : Part) (old new : NodeState) : Type 0 where
  pub now : LaneView
  pub sets : SetsLane l lane now (line.Finish l number 0) old new
  pub closings : new.closings ≡ old.closings
  pub is : lane_of now ≡ record (lane_of lane) { conts = finish_first epoch number (conts_of lane.containers) }
  pub linked : LinksStay lane now
  pub was : IsSpent old.kept → ⊥
  pub unspent : IsSpent new.kept → ⊥
  pub made : (op : Operator) → IsMadeFor op old.kept → IsMadeFor op new.kept
  pub closed : closed_mark new.kept ≡ closed_mark old.kept
  pub adds : (records : List Record) → IsPartFor old.kept part l records
      → Adds (closed_mark old.kept) (gives old.kept) (gives new.kept) (on_lane l records)

-- what is kept is closed up to a mark, and these rows come out; all else is as it was
pub record ClosesKept (mark : ℕ) (rows : List Record) (old new : NodeState) : Type 0 where
  pub set : new ≡ record old { kept = new.kept }
  pub was : IsSpent old.kept → ⊥
  pub unspent : IsSpent new.kept → ⊥
  pub made : (op : Operator) → IsMadeFor op old.kept → IsMadeFor op new.kept
  pub closed : closed_mark new.kept ≡ mark
  pub closes : Closes mark (gives old.kept) rows (gives new.kept)

-- this closing begins: the oldest container of its lane is closing, and so many rows are due
pub record Starts (lane : LaneView) (c : Closing) (count : ℕ) (old new : NodeState) : Type 0 where
  pub now : LaneView
  pub sets : SetsLane c.lane lane now (line.Begin c.lane c.epoch c.mark count) old new
  pub kept : new.kept ≡ old.kept
  pub closings : new.closings ≡ old.closings + 1
  pub is : lane_of now ≡ record (lane_of lane) { conts = with_first_closing (conts_of lane.containers) }
  pub linked : LinksStay lane now
  pub serial_is : c.serial ≡ old.closings
  pub floor_is : c.floor ≡ before_closing (map lane_of old.lanes.items)
  pub mark_is : c.mark ≡ mark_for c.lane (map lane_of old.lanes.items)

-- this closing begins: the oldest container of its lane is closing, and its rows come out
pub record Begins (lane : LaneView) (c : Closing) (old new : NodeState) : Type 0 where
  pub now : LaneView
  pub sets : SetsLane c.lane lane now (line.Begin c.lane c.epoch c.mark (length c.rows.items)) old new
  pub closings : new.closings ≡ old.closings + 1
  pub is : lane_of now ≡ record (lane_of lane) { conts = with_first_closing (conts_of lane.containers) }
  pub linked : LinksStay lane now
  pub serial_is : c.serial ≡ old.closings
  pub floor_is : c.floor ≡ before_closing (map lane_of old.lanes.items)
  pub mark_is : c.mark ≡ mark_for c.lane (map lane_of old.lanes.items)
  pub was : IsSpent old.kept → ⊥
  pub unspent : IsSpent new.kept → ⊥
  pub made : (op : Operator) → IsMadeFor op old.kept → IsMadeFor op new.kept
  pub closed : closed_mark new.kept ≡ c.mark
  pub closes : Closes c.mark (gives old.kept) c.rows.items (gives new.kept)

-- lane l shows what it did, and all else is as it was
pub record Stays (l : ℕ) (lane : LaneView) (old new : NodeState) : Type 0 where
  pub now : LaneView
  pub in_it : HasLane l lane old
  pub lanes : new.lanes.items ≡ slice_set old.lanes.items l now
  pub rest : KeepsRest old new
  pub diary : new.diary ≡ old.diary
  pub is : lane_of now ≡ lane_of lane
  pub limit : now.pending ≡ lane.pending
  pub linked : LinksStay lane now

-- what the node keeps is unknown from now on; all else is as it was
pub record LosesKept (old new : NodeState) : Type 0 where
  pub set : new ≡ record old { kept = new.kept }
  pub spent : IsSpent new.kept

-- the container of an epoch in lane 0 is linked to a place below; all else is as it was
pub record GetsDown (epoch place : ℕ) (lane : LaneView) (old new : NodeState) : Type 0 where
  pub now : LaneView
  pub in_it : HasLane 0 lane old
  pub lanes : new.lanes.items ≡ slice_set old.lanes.items 0 now
  pub rest : KeepsRest old new
  pub diary : new.diary ≡ old.diary
  pub is : lane_of now ≡ lane_of lane
  pub limit : now.pending ≡ lane.pending
  pub linked : GetsLink epoch place lane now
