-- What contracts see of a node under its turn, and what a call makes of it.
use Rattle.std.specs.Prelude.{◌≡◌, ◌⊎◌, ℕ, ◌+◌, ◌*◌, ◌==◌, Bool, true, false, if◌then◌else◌, List, [], ◌++◌}
use Rattle.std.specs.Prelude.{length, map, sum_by, is_some, Option, Some, None, Ok}
use Rattle.std.specs.List.{list_any}
use Rattle.sb_shown.specs.base.records.declared.item.Record.{Record}
use Rattle.sb_shown.specs.core.containers.LaneOrder.{cont_at}
use Rattle.sb_shown.specs.core.containers.declared.container.Cont.{Cont}
use Rattle.sb_shown.specs.core.containers.declared.container.CoreLane.{CoreLane}
use Rattle.sb_shown.specs.diary.Diaries.{with_spare}
use Rattle.sb_shown.specs.diary.declared.event.DiaryEvent.{DiaryEvent}
use Rattle.sb_shown.specs.lane.Changes.{StandsAt}
use Rattle.sb_shown.specs.lane.LaneView.{LaneView, lane_of}
use Rattle.sb_shown.specs.lane.Links.{Link, down_of, with_link, links_of, with_place}
use Rattle.sb_shown.specs.lane.Looks.{look_of}
use Rattle.sb_shown.specs.lane.Placed.{conts_of}
use Rattle.sb_shown.specs.lane.declared.answers.LaneClose.{LaneClose}
use Rattle.sb_shown.specs.node.Changes.{ClosesKept, Starts}
use Rattle.sb_shown.specs.node.Looking.{EarlierCannotClose, IsNotYet, NoneClosing}
use Rattle.sb_shown.specs.node.Marking.{mark_for}
use Rattle.sb_shown.specs.node.declared.closing.Closing.{Closing}
use Rattle.sb_shown.specs.node.declared.state.NodeState.{NodeState}
use Rattle.sb_shared.specs.declared.shared_node.BeginStop.{BeginStop}
use Rattle.sb_shared.specs.declared.shared_node.BeginStop.TheVariants.{NotYet, Memory, Spent}

-- the state of the node, at the sink the rows that are not drained, and whether what the node keeps is unknown
pub record SharedView : Type 0 where
  pub own : NodeState
  pub tray : List Record
  pub spent : Bool

-- how many lines the diary has
abbrev pub lines_of : SharedView → ℕ
lines_of x = length x.own.diary.events

-- the lines that the bundles of a container have coming, and the closing: a take and a finish, a finish, an end
abbrev pub owed_in : Cont → ℕ
owed_in c = 2 * length c.waiting + length c.out + (if c.closing then 1 else 0)

-- and those of all containers of these lanes
abbrev pub owed_lines : List LaneView → ℕ
owed_lines lanes = sum_by (λ lane. sum_by owed_in (conts_of lane.containers)) lanes

-- what others see of the node: all but room, and what it keeps
pub record Face : Type 0 where
  pub lanes : List CoreLane
  pub links : List (List Link)
  pub limits : List ℕ
  pub closings : ℕ
  pub lines : List DiaryEvent
  pub keeps : Bool
  pub tray : List Record

abbrev pub face : SharedView → Face
face x = record {
  lanes = map lane_of x.own.lanes.items;
  links = map (λ l. links_of l.containers) x.own.lanes.items;
  limits = map (λ l. l.pending) x.own.lanes.items;
  closings = x.own.closings;
  lines = x.own.diary.events;
  keeps = x.own.diary.keeps;
  tray = x.tray;
}

-- nothing but room has changed
pub record ShowsSame (old new : SharedView) : Type 0 where
  pub face_is : face new ≡ face old
  pub kept : new.own.kept ≡ old.own.kept
  pub spent : new.spent ≡ old.spent

-- what the node keeps is unknown from now on; but for that, nothing but room has changed
pub record LosesKept (old new : SharedView) : Type 0 where
  pub face_is : face new ≡ face old
  pub spent : new.spent ≡ true

-- the state of the node changes so, once room is reserved
pub record ChangesOwn (so : NodeState → NodeState → Type 0) (old new : SharedView) : Type 0 where
  pub room : ℕ
  pub own : so (record old.own { diary = with_spare room old.own.diary }) new.own
  pub tray : new.tray ≡ old.tray
  pub spent : new.spent ≡ old.spent

-- a bundle is out of the container of its epoch
abbrev pub IsOut : ℕ → ℕ → List Cont → Type 0
IsOut epoch number conts =
    (c : Cont) × (cont_at epoch conts ≡ Some c) × (list_any (λ n. n == number) c.out ≡ true)

-- the container of an epoch stands at this place; it was there, or was made
pub record PutsAt (epoch place : ℕ) (was is : LaneView) : Type 0 where
  pub links : (links_of is.containers ≡ links_of was.containers)
      ⊎ ((made : ℕ) × (links_of is.containers ≡ with_place epoch made (links_of was.containers)))
  pub stands : StandsAt epoch place is.containers

-- the links, with that of an epoch set to a place below, if that is known and it had none
abbrev pub with_link_once : Option ℕ → ℕ → List Link → List Link
with_link_once None epoch links = links
with_link_once (Some place) epoch links = if is_some (down_of epoch links) then links else with_link epoch place links

abbrev pub FinishesLinked : ℕ → Option ℕ → LaneView → LaneView → Type 0
FinishesLinked epoch link was is = links_of is.containers ≡ with_link_once link epoch (links_of was.containers)

-- a closing begins, of the oldest container of the first lane that can close; its rows are in it, or of the sink's in the tray
pub record BeginsAt (sink : Bool) (c : Closing) (old new : SharedView) : Type 0 where
  pub lane : LaneView
  pub close : LaneClose
  pub looks : look_of (conts_of lane.containers) ≡ Ok close
  pub epoch_is : close.epoch ≡ c.epoch
  pub first : EarlierCannotClose c.lane old.own.lanes.items
  pub none : NoneClosing old.own.lanes.items
  pub rows : List Record
  pub mid : NodeState
  pub room : ℕ
  pub closes : ClosesKept (mark_for c.lane (map lane_of old.own.lanes.items)) rows
      (record old.own { diary = with_spare room old.own.diary }) mid
  pub starts : Starts lane c (length rows) mid new.own
  pub rows_are : c.rows.items ≡ (if sink then [] else rows)
  pub tray : new.tray ≡ old.tray ++ (if sink then rows else [])
  pub was : old.spent ≡ false
  pub is : new.spent ≡ false

-- why a closing did not begin, and what stands then
abbrev pub StopsAt : BeginStop → SharedView → SharedView → Type 0
StopsAt (NotYet why) old new = IsNotYet old.own.lanes.items why × (new ≡ old)
StopsAt Memory old new = ShowsSame old new
StopsAt Spent old new = LosesKept old new
