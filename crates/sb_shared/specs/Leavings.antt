-- What a leaving owes: that it is its event on what the node shows, and that it tells the truth.
use Rattle.std.specs.Prelude.{◌≡◌, ◌≢◌, ◌⊎◌, ℕ, ◌≤◌, ◌<◌, true, All, List, [], ◌∷◌, ◌++◌, length, Some, slice_get}
use Rattle.sb_shown.specs.base.records.declared.item.Record.{Record}
use Rattle.sb_shown.specs.base.records.declared.item.Stream.{Stream}
use Rattle.sb_shown.specs.base.pipeline.declared.transform.Down.{Down}
use Rattle.sb_shown.specs.base.pipeline.Shapes.{source}
use Rattle.sb_shown.specs.core.declared.moment.Node.{Node}
use Rattle.sb_shown.specs.core.Laws.{concerns, place_of}
use Rattle.sb_shown.specs.core.Parts.{Part, only_node, part_after, held_after}
use Rattle.sb_shown.specs.lane.LaneView.{LaneView}
use Rattle.sb_shown.specs.lane.Placed.{conts_of}
use Rattle.sb_shown.specs.lane.Unfinished.{unfinished_of}
use Rattle.sb_shown.specs.node.Looking.{EarlierCannotClose, IsNotYet, NoneWaits}
use Rattle.sb_shown.specs.tally.Keeping.{feed_after}
use Rattle.sb_shown.specs.tally.Tally.{Feed}
use Rattle.sb_shared.specs.declared.telling.Change.{Change}
use Rattle.sb_shared.specs.declared.telling.Change.TheVariants.{Arrive, Seal, Take, Deliver, Finish, Begin, Rows, Pass}
use Rattle.sb_shared.specs.declared.telling.Change.TheVariants.{End}
use Rattle.sb_shared.specs.declared.telling.Change.TheVariants.{Idle, NotYet, Full, Drain, Spent, Nothing}
use Rattle.sb_shared.specs.declared.telling.Hands.{Hands}
use Rattle.sb_shared.specs.declared.telling.Setting.{Setting}
use Rattle.sb_shared.specs.Doings.{Doing, Quiet, Fresh, Of, doing_of, drained_rows, lines_by}
use Rattle.sb_shared.specs.Found.{IsFound}
use Rattle.sb_shared.specs.Linked.{LinksBy}
use Rattle.sb_shared.specs.SharedNodes.{SharedView}
use Rattle.sb_shared.specs.Shown.{ShowsPart, operator_of, settings_in}
use Rattle.sb_shared.specs.Views.{after, feed_of, held_by}

-- as many bundles of lane l as its limit are waiting or out
abbrev pub IsFull : ℕ → SharedView → Type 0
IsFull l x = (lane : LaneView) × (slice_get x.own.lanes.items l ≡ Some lane)
    × (lane.pending ≤ unfinished_of (conts_of lane.containers))

-- fewer are
abbrev pub HasRoom : ℕ → SharedView → Type 0
HasRoom l x = (lane : LaneView) × (slice_get x.own.lanes.items l ≡ Some lane)
    × (unfinished_of (conts_of lane.containers) < lane.pending)

-- fewer are of the lane that takes the bundles of a stream, and it is one of node k
abbrev pub HasRoomFor : Setting → Stream → ℕ → SharedView → Type 0
HasRoomFor a stream k x = (d : Down) × (source a.plan stream ≡ Some d) × (d.node ≡ k) × HasRoom d.lane x

-- which change a leaving of node k may tell that found the state x and leaves y: a look tells only what is there, a
-- bundle of a stream comes only where there is room for it, and a closing begins only in the first lane that can close
abbrev pub Looks : Setting → ℕ → SharedView → SharedView → Change → Type 0
Looks a k x y Idle = All NoneWaits x.own.lanes.items
Looks a k x y (NotYet why) = IsNotYet x.own.lanes.items why
Looks a k x y (Full lane) = IsFull lane x
Looks a k x y (Drain rows) = y.tray ≡ []
Looks a k x y Spent = y.spent ≡ true
Looks a k x y (Arrive stream records) = HasRoomFor a stream k x
Looks a k x y (Seal stream mark) = Unit {0}
Looks a k x y (Take c link) = Unit {0}
Looks a k x y (Deliver c place) = Unit {0}
Looks a k x y (Finish c delivered) = Unit {0}
Looks a k x y (Begin c passed) = EarlierCannotClose c.value.lane x.own.lanes.items
Looks a k x y (Rows c first most place) = Unit {0}
Looks a k x y (Pass c) = Unit {0}
Looks a k x y (End c) = Unit {0}
Looks a k x y Nothing = Unit {0}

-- what the event makes of the node's part and of what the pass has in hand, if its condition holds
abbrev pub May : Setting → ℕ → Hands → Hands → Node → Doing → Part → Type 0
May a k w w' p Quiet q = (q ≡ only_node [] p) × (held_by w' ≡ held_by w)
May a k w w' p (Fresh e) q =
    (place_of a.plan e ≡ Some k) × (held_by w ≡ []) × (part_after a.plan a.bundle e p ≡ Some q)
    × (held_by w' ≡ q.held)
May a k w w' p (Of e h) q =
    (place_of a.plan e ≡ Some k) × (concerns e h ≡ true) × (held_by w ≡ h ∷ [])
    × (held_after a.plan a.bundle e h p ≡ Some q) × (held_by w' ≡ q.held)

-- what was fed, after a leaving
abbrev pub feed_then : Doing → Feed → Feed
feed_then Quiet feed = feed
feed_then (Fresh e) feed = feed_after e feed
feed_then (Of e h) feed = feed_after e feed

-- the pass feeds and drains nothing by the leaving, whatever was fed
pub record FeedsNothing (w w' : Hands) (d : Doing) (rows : List Record) : Type 0 where
  pub same : w'.feed ≡ w.feed
  pub nothing : (feed : Feed) → feed_then d feed ≡ feed
  pub none : rows ≡ []

-- or it is the feeder's, and knows what the event feeds and what it drains
pub record FeedsThis (w w' : Hands) (d : Doing) (rows : List Record) : Type 0 where
  pub was : w.feed.on ≡ true
  pub is : w'.feed.on ≡ true
  pub drained : w'.feed.drained ≡ w.feed.drained ++ rows
  pub feed : feed_of w'.feed ≡ feed_then d (feed_of w.feed)

abbrev pub Feeds : Hands → Hands → Doing → List Record → Type 0
Feeds w w' d rows = FeedsNothing w w' d rows ⊎ FeedsThis w w' d rows

-- With the part p that the state x shows, the event makes q of it, and the state y shows that, with the event's line in
-- the diary. A pass that saw or raised the state word up to `seen` may leave what is kept unknown only if `seen` says
-- that there was no memory.
pub record DoesPart (a : Setting) (w w' : Hands) (seen k : ℕ) (x y : SharedView) (c : Change) (p : Node)
    : Type 0 where
  pub q : Part
  pub may : May a k w w' p (doing_of k c) q
  pub shows : ShowsPart (operator_of a k) y q.node
  pub lines : y.own.diary.events ≡ x.own.diary.events ++ lines_by a (doing_of k c) p
  pub settings : settings_in y ≡ settings_in x
  pub tray : drained_rows c ++ y.tray ≡ x.tray ++ q.rows
  pub rows : k ≢ length a.plan.steps → (q.rows ≡ []) × (drained_rows c ≡ [])
  pub dry : (drained_rows c ≡ []) ⊎ (y.tray ≡ [])
  pub spent : y.spent ≡ true → (x.spent ≡ true) ⊎ (3 ≤ seen)

-- a leaving of node k by a pass that knows w is its change, whatever part the state was found to show
pub record Does (a : Setting) (w : Hands) (seen k : ℕ) (x y : SharedView) (c : Change) : Type 0 where
  pub feeds : Feeds w (after w k c) (doing_of k c) (drained_rows c)
  pub part : (f : IsFound a w k x) → DoesPart a w (after w k c) seen k x y c f.part
  pub links : LinksBy a w k x y c
