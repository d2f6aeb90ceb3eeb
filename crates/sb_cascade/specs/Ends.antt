-- How a cascade begins, and what is known of its nodes at the end.
use Rattle.std.specs.Prelude.{◌≡◌, ℕ, ◌<◌, false, List, [], ◌++◌, length, map, Some, slice_get}
use mathlib.Core.Option.{some}
use lib.ListN.{get_elem?}
use Rattle.sb_hand.specs.base.records.declared.item.Record.{Record}
use Rattle.sb_hand.specs.core.declared.moment.Node.{Node}
use Rattle.sb_hand.specs.core.Soundness.{IsSound}
use Rattle.sb_hand.specs.core.Exactness.{IsExact}
use Rattle.sb_hand.specs.tally.Tally.{IsTallied}
use Rattle.sb_hand.specs.node.declared.state.NodeState.{NodeState}
use Rattle.sb_hand.specs.Showing.{settings_for}
use Rattle.sb_hand.specs.Linking.{AreLinked}
use Rattle.sb_shared.specs.turn.declared.turns.View.{View}
use Rattle.sb_shared.specs.turn.Turning.{Listed, events, log_of, once_in}
use Rattle.sb_shared.specs.declared.telling.Change.{Change}
use Rattle.sb_shared.specs.declared.telling.Hands.{Hands}
use Rattle.sb_shared.specs.declared.telling.Setting.{Setting}
use Rattle.sb_shared.specs.Doings.{is_event, replay}
use Rattle.sb_shared.specs.SharedNodes.{SharedView}
use Rattle.sb_shared.specs.Shown.{AreLater, ShowsPart, beginning_of, diaries_in, moment_of, operator_of, settings_in}
use Rattle.sb_shared.specs.Views.{records_of_feed, feed_of}

-- what lies under the turn of a new node
abbrev pub fresh_state : NodeState → SharedView
fresh_state own = record { own = own; tray = []; spent = false }

-- The feeder's pass, the only one left, knows v, and these are the states of the nodes. They show a moment with nothing
-- in hand, which is what the events of the nodes made of it, and so are the diaries; each of these events stands once
-- among those that the pass, and those that it joined, tell. The moment is sound, exact for what was fed, and tallies
-- with the diaries. Its rows are those that were drained, and then the sink's tray.
pub record IsShut (a : Setting) (v : View SharedView Change Hands) (states : List SharedView) : Type 0 where
  pub parts : List Node
  pub rows : List Record
  -- the events of each node
  pub logs : List (List Change)
  pub as_many : length states ≡ length parts
  pub shown : (k : ℕ) (x : SharedView) → get_elem? states k ≡ some x
      → (p : Node) × (slice_get parts k ≡ Some p) × ShowsPart (operator_of a k) x p
      × (replay a k (log_of logs k) (beginning_of a k) ≡ Some (record { node = p; lines = x.own.diary.events }))
  pub settings : (k : ℕ) (x : SharedView) → get_elem? states k ≡ some x
      → settings_in x ≡ settings_for a.keeps a.pending (operator_of a k)
  pub listed : Listed is_event (λ k. 0) logs v.trace × Listed is_event (λ k. 0) logs v.joined
  pub once : (k number : ℕ) → events is_event k number v ≡ once_in 0 (length (log_of logs k)) number
  pub sound : IsSound a.plan (moment_of a.bundle parts [] rows)
  pub exact : IsExact a.plan (moment_of a.bundle parts [] rows) (records_of_feed v.client.feed)
  pub tallied : IsTallied a.plan (moment_of a.bundle parts [] rows) (diaries_in states) (feed_of v.client.feed)
  -- if the state word is known not to say that there was no memory, it is known what each node keeps
  pub sane : (n : ℕ) → v.exact ≡ Some n → n < 3
      → (k : ℕ) (x : SharedView) → get_elem? states k ≡ some x → x.spent ≡ false
  pub tray : (x : SharedView) → get_elem? states (length a.plan.steps) ≡ some x
      → rows ≡ v.client.feed.drained ++ x.tray
  pub later : (x : SharedView) → get_elem? states (length a.plan.steps) ≡ some x
      → AreLater v.client.feed.drained x.tray
  -- and it is known exactly where the containers lead
  pub linked : AreLinked a.plan (map (λ x. x.own) states)
