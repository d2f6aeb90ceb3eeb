-- The moment that a cascade shows, at any time: what the rule says.
use Rattle.std.specs.Prelude.{◌≡◌, suc, ℕ, ◌≤◌, ◌<◌, true, false, List, [], ◌++◌, length, map, Option, Some, slice_get}
use Rattle.std.specs.List.{AllByRecursion}
use mathlib.Core.Option.{some}
use lib.ListN.{get_elem?}
use Rattle.sb_shown.specs.base.records.declared.item.Record.{Record}
use Rattle.sb_shown.specs.base.pipeline.Plans.{IsPlan}
use Rattle.sb_shown.specs.base.pipeline.Operators.{Operator, operator_at}
use Rattle.sb_shown.specs.core.declared.held.Held.{Held}
use Rattle.sb_shown.specs.core.declared.moment.Node.{Node}
use Rattle.sb_shown.specs.core.declared.moment.Moment.{Moment}
use Rattle.sb_shown.specs.core.Moments.{empty_node}
use Rattle.sb_shown.specs.core.Soundness.{IsSound}
use Rattle.sb_shown.specs.core.Exactness.{IsExact}
use Rattle.sb_shown.specs.diary.declared.event.DiaryEvent.{DiaryEvent}
use Rattle.sb_shown.specs.lane.LaneView.{lane_of}
use Rattle.sb_shown.specs.tally.Tally.{IsTallied}
use Rattle.sb_turn.specs.Turning.{log_of}
use Rattle.sb_shown.specs.Showing.{IsKept, Settings, settings_for}
use Rattle.sb_shared.specs.declared.telling.Change.{Change}
use Rattle.sb_shared.specs.declared.telling.Hands.{Hands}
use Rattle.sb_shared.specs.declared.telling.Piece.{Piece}
use Rattle.sb_shared.specs.declared.telling.Setting.{Setting}
use Rattle.sb_shared.specs.Doings.{Story, replay}
use Rattle.sb_shared.specs.Linked.{AreLinked}
use Rattle.sb_shared.specs.SharedNodes.{SharedView}
use Rattle.sb_shared.specs.Views.{all_in_hand, records_of_feed, feed_of, no_feed}

abbrev pub moment_of : ℕ → List Node → List Held → List Record → Moment
moment_of bundle nodes held rows = record { bundle = bundle; nodes = nodes; held = held; rows = rows }

-- what node k of the plan is
abbrev pub operator_of : Setting → ℕ → Operator
operator_of a k = operator_at (slice_get a.plan.steps k)

-- its part in the first moment, and its empty diary
abbrev pub beginning_of : Setting → ℕ → Story
beginning_of a k = record { node = empty_node (operator_of a k); lines = [] }

-- the state shows this part of a node; of what a spent one keeps nothing is said
pub record ShowsPart (op : Operator) (x : SharedView) (p : Node) : Type 0 where
  pub lanes : p.lanes ≡ map lane_of x.own.lanes.items
  pub closings : p.closings ≡ x.own.closings
  pub kept : x.spent ≡ false → IsKept op x.own.kept p

-- what the node was made with
abbrev pub settings_in : SharedView → Settings
settings_in x = record { keeps = x.own.diary.keeps; limits = map (λ l. l.pending) x.own.lanes.items }

-- the rows of the second list are later than those of the first
abbrev pub AreLater : List Record → List Record → Type 0
AreLater drained tray = AllByRecursion (λ d. AllByRecursion (λ r. d.time < r.time) tray) drained

-- the lines of the diaries of all nodes
abbrev pub diaries_in : List SharedView → List (List DiaryEvent)
diaries_in states = map (λ x. x.own.diary.events) states

-- A state of each node of the plan shows its part of a moment, which is what the node's leavings made of it, and so is
-- its diary. The moment has in hand what the passes have and what lies on the shelf. It is sound, exact for what the
-- feeder has fed, and tallies with the diaries. Its rows are those that the feeder has drained, and then the sink's
-- tray. The feeder alone has ended the work, unless there was no memory.
pub record ShowsMoment (a : Setting) (shelf : List (Option Piece)) (status : ℕ) (states : List SharedView)
    (logs : List (List Change)) (views : List Hands) : Type 0 where
  pub plan : IsPlan a.plan
  pub parts : List Node
  pub rows : List Record
  pub feeder : Hands
  -- a part for each state
  pub as_many : length states ≡ length parts
  pub shown : (k : ℕ) (x : SharedView) → get_elem? states k ≡ some x
      → (p : Node) × (slice_get parts k ≡ Some p) × ShowsPart (operator_of a k) x p
      × (replay a k (log_of logs k) (beginning_of a k) ≡ Some (record { node = p; lines = x.own.diary.events }))
  pub settings : (k : ℕ) (x : SharedView) → get_elem? states k ≡ some x
      → settings_in x ≡ settings_for a.keeps a.pending (operator_of a k)
  -- what a node keeps is unknown only if the state word says that there was no memory
  pub spent : (k : ℕ) (x : SharedView) → get_elem? states k ≡ some x → x.spent ≡ true → 3 ≤ status
  -- the first pass is the feeder's, and no other
  pub first : get_elem? views 0 ≡ some feeder
  pub feeds : feeder.feed.on ≡ true
  pub others : (j : ℕ) (w : Hands) → get_elem? views (suc j) ≡ some w → w.feed ≡ no_feed
  -- the state word says that there was no memory, or it is what the feeder raised it to
  pub word : status < 3 → status ≡ feeder.feed.raised
  pub sound : IsSound a.plan (moment_of a.bundle parts (all_in_hand views shelf) rows)
  pub exact : IsExact a.plan (moment_of a.bundle parts (all_in_hand views shelf) rows) (records_of_feed feeder.feed)
  pub tallied : IsTallied a.plan (moment_of a.bundle parts (all_in_hand views shelf) rows) (diaries_in states)
      (feed_of feeder.feed)
  pub tray : (x : SharedView) → get_elem? states (length a.plan.steps) ≡ some x
      → rows ≡ feeder.feed.drained ++ x.tray
  -- a row that is not drained is later than all that are
  pub later : (x : SharedView) → get_elem? states (length a.plan.steps) ≡ some x
      → AreLater feeder.feed.drained x.tray
  -- containers are linked to those below
  pub linked : AreLinked a shelf states views
