-- How the containers of a transform of single records are linked to those below, while passes work on both. The
-- container below is made by one pass at one step, and linked by it at a later one.
use Rattle.std.specs.Prelude.{◌≡◌, ◌⊎◌, ℕ, ◌+◌, ◌≤◌, Bool, true, false, if◌then◌else◌, List, length, Option, Some, None}
use Rattle.std.specs.Prelude.{slice_get, slice_set}
use mathlib.Core.Option.{some}
use lib.ListN.{get_elem?}
use Rattle.sb_shown.specs.base.records.declared.item.Record.{Record}
use Rattle.sb_shown.specs.base.pipeline.declared.transform.Down.{Down}
use Rattle.sb_shown.specs.base.pipeline.declared.transform.Step.{Step}
use Rattle.sb_shown.specs.base.pipeline.Operators.{operator_at}
use Rattle.sb_shown.specs.base.pipeline.Shapes.{Shape, source}
use Rattle.sb_shown.specs.core.Closings.{is_pardo}
use Rattle.sb_shown.specs.core.Events.{below}
use Rattle.sb_shown.specs.core.declared.held.Held.{Held}
use Rattle.sb_shown.specs.core.declared.held.Held.TheVariants.{Work, Close}
use Rattle.sb_shown.specs.lane.LaneView.{LaneView, link_at}
use Rattle.sb_shown.specs.lane.Links.{Link, down_of, links_of}
use Rattle.sb_shown.specs.node.Changes.{HasLane}
use Rattle.sb_shown.specs.node.LinkChanges.{DropsLink, GetsPlace, LinksStay}
use Rattle.sb_shown.specs.Linking.{place_in}
use Rattle.sb_shared.specs.declared.telling.Change.{Change}
use Rattle.sb_shared.specs.declared.telling.Change.TheVariants.{Arrive, Seal, Take, Deliver, Finish, Begin, Rows, Pass}
use Rattle.sb_shared.specs.declared.telling.Change.TheVariants.{End}
use Rattle.sb_shared.specs.declared.telling.Change.TheVariants.{Idle, NotYet, Full, Drain, Spent, Nothing}
use Rattle.sb_shared.specs.declared.telling.Hands.{Hands}
use Rattle.sb_shared.specs.declared.telling.Piece.{Piece}
use Rattle.sb_shared.specs.declared.telling.Setting.{Setting}
use Rattle.sb_shared.specs.Doings.{work_of}
use Rattle.sb_shared.specs.SharedNodes.{FinishesLinked, PutsAt, SharedView, face}

-- lane l of node k is there, and is so
pub record HasLaneIn (k l : ℕ) (lane : LaneView) (states : List SharedView) : Type 0 where
  pub state : SharedView
  pub there : get_elem? states k ≡ some state
  pub in_it : HasLane l lane state.own

-- the lane that takes what transform k gives is so
pub record IsUnder (plan : Shape) (k : ℕ) (under : LaneView) (states : List SharedView) : Type 0 where
  pub step : Step
  pub is : slice_get plan.steps k ≡ Some step
  pub has : HasLaneIn step.down.node step.down.lane under states

-- whether node k is a transform of single records
abbrev pub is_pardo_at : Setting → ℕ → Bool
is_pardo_at a k = is_pardo (operator_at (slice_get a.plan.steps k))

-- the node of what is in hand
abbrev pub giver : Held → ℕ
giver (Work k l epoch floor number records delivered) = k
giver (Close k l epoch serial floor mark rows passed) = k

-- the epoch that what it gives has below
abbrev pub epoch_below : Held → ℕ
epoch_below (Work k l epoch floor number records delivered) = epoch
epoch_below (Close k l epoch serial floor mark rows passed) = serial

-- whether it may give anything below: a bundle does so only at a transform of single records
abbrev pub may_give : Setting → Held → Bool
may_give a (Work k l epoch floor number records delivered) = is_pardo_at a k
may_give a (Close k l epoch serial floor mark rows passed) = true

-- a pass has in hand a bundle of this epoch of node k, of which what it gives is delivered
pub record IsDelivered (k epoch : ℕ) (views : List Hands) : Type 0 where
  pub id : ℕ
  pub pass : Hands
  pub there : get_elem? views id ≡ some pass
  pub lane : ℕ
  pub floor : ℕ
  pub number : ℕ
  pub records : List Record
  pub held : pass.held ≡ Some (Work k lane epoch floor number records true)

-- A container of node k whose epoch is not sealed below is linked to the place of the epoch's container there, if there
-- is one. It may still be linked to none, while a pass has delivered a bundle of it and not finished it.
abbrev pub LeadsBelow : ℕ → LaneView → LaneView → List Hands → Type 0
LeadsBelow k own under views =
    (epoch : ℕ) (link : Link) → link_at epoch own ≡ Some link → length under.marks ≤ epoch
    → (link.down ≡ place_in epoch (links_of under.containers)) ⊎ ((link.down ≡ None) × IsDelivered k epoch views)

-- the place below that goes with what is in hand is that of the epoch's container, if the epoch is not sealed there
abbrev pub LeadsRight : Setting → List SharedView → Held → Option ℕ → Type 0
LeadsRight a states h link =
    (place : ℕ) (under : LaneView) → link ≡ Some place → may_give a h ≡ true → IsUnder a.plan (giver h) under states
    → length under.marks ≤ epoch_below h → place_in (epoch_below h) (links_of under.containers) ≡ Some place

-- Each lane of a transform of single records leads to the lane below, and so does what passes have in hand and what
-- lies on the shelf. A bundle of which what it gives is delivered has its place below.
pub record AreLinked (a : Setting) (shelf : List (Option Piece)) (states : List SharedView) (views : List Hands)
    : Type 0 where
  pub own : (k : ℕ) (own under : LaneView) → is_pardo_at a k ≡ true → HasLaneIn k 0 own states
      → IsUnder a.plan k under states → LeadsBelow k own under views
  pub in_hand : (id : ℕ) (w : Hands) (h : Held) → get_elem? views id ≡ some w → w.held ≡ Some h
      → LeadsRight a states h w.link
  pub on_shelf : (i : ℕ) (p : Piece) → get_elem? shelf i ≡ some (Some p)
      → LeadsRight a states (work_of p.claim false) p.link
  pub delivered : (k epoch : ℕ) (d : IsDelivered k epoch views) → (place : ℕ) × (d.pass.link ≡ Some place)

-- lane l of a node has its links changed so, and so many marks more; its other lanes stay
pub record SetsLinks (l more : ℕ) (so : LaneView → LaneView → Type 0) (x y : SharedView) : Type 0 where
  pub lane : LaneView
  pub now : LaneView
  pub in_it : HasLane l lane x.own
  pub lanes : y.own.lanes.items ≡ slice_set x.own.lanes.items l now
  pub linked : so lane now
  pub marks : length now.marks ≡ length lane.marks + more

-- so has the lane at this place, which is one of node k
pub record SetsLinksAt (place : Option Down) (k more : ℕ) (so : LaneView → LaneView → Type 0) (x y : SharedView)
    : Type 0 where
  pub lane : ℕ
  pub place_is : place ≡ Some (record { node = k; lane = lane })
  pub sets : SetsLinks lane more so x y

-- the lane's next epoch has a place, that it got now or had before
abbrev pub PlacesNext : LaneView → LaneView → Type 0
PlacesNext was is = GetsPlace (length was.marks) was is

-- no lane changes for others
abbrev pub LanesStay : SharedView → SharedView → Type 0
LanesStay x y = ((face y).lanes ≡ (face x).lanes) × ((face y).links ≡ (face x).links)

-- the link that a bundle in hand leaves in its container: at a transform of single records, that of the pass
abbrev pub link_left : Setting → ℕ → Hands → Option ℕ
link_left a k w = if is_pardo_at a k then w.link else None

-- what a pass that takes a bundle of a transform of single records knows of where its output goes: its container's link
abbrev pub KnowsLink : Setting → ℕ → ℕ → Option ℕ → SharedView → Type 0
KnowsLink a k epoch link x =
    is_pardo_at a k ≡ true → (lane : LaneView) → HasLane 0 lane x.own → link ≡ down_of epoch (links_of lane.containers)

-- what becomes of links and marks as a pass that knows w leaves node k
abbrev pub LinksBy : Setting → Hands → ℕ → SharedView → SharedView → Change → Type 0
LinksBy a w k x y (Arrive stream records) = SetsLinksAt (source a.plan stream) k 0 PlacesNext x y
LinksBy a w k x y (Seal stream mark) = SetsLinksAt (source a.plan stream) k 1 PlacesNext x y
LinksBy a w k x y (Take c link) =
    SetsLinks c.value.lane 0 LinksStay x y × KnowsLink a k c.value.bundle.epoch link x
LinksBy a w k x y (Deliver c place) =
    SetsLinksAt (below a.plan c.value.node) k 0 (PutsAt c.value.bundle.epoch place) x y
LinksBy a w k x y (Finish c delivered) =
    SetsLinks c.value.lane 0 (FinishesLinked c.value.bundle.epoch (link_left a k w)) x y
LinksBy a w k x y (Begin c passed) = SetsLinks c.value.lane 0 LinksStay x y
LinksBy a w k x y (Rows c first most place) =
    SetsLinksAt (below a.plan c.value.node) k 0 (PutsAt c.value.serial place) x y
LinksBy a w k x y (Pass c) = SetsLinksAt (below a.plan c.value.node) k 1 PlacesNext x y
LinksBy a w k x y (End c) = SetsLinks c.value.lane 0 DropsLink x y
LinksBy a w k x y Idle = LanesStay x y
LinksBy a w k x y (NotYet why) = LanesStay x y
LinksBy a w k x y (Full lane) = LanesStay x y
LinksBy a w k x y (Drain rows) = LanesStay x y
LinksBy a w k x y Spent = LanesStay x y
LinksBy a w k x y Nothing = LanesStay x y

-- the place that a pass knows for what it has in hand is right, as far as it shows in node k, which takes what it gives
abbrev pub IsPlaceHere : Setting → Hands → ℕ → SharedView → Type 0
IsPlaceHere a w k x =
    (h : Held) (place l : ℕ) (s : Step) (at : LaneView) → w.held ≡ Some h → w.link ≡ Some place
    → may_give a h ≡ true → slice_get a.plan.steps (giver h) ≡ Some s → s.down ≡ record { node = k; lane = l }
    → HasLane l at x.own → length at.marks ≤ epoch_below h
    → place_in (epoch_below h) (links_of at.containers) ≡ Some place
