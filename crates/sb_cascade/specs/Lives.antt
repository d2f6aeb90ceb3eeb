-- How a cascade begins, and the hand that comes back.
use Rattle.std.specs.Prelude.{◌≡◌, ◌<◌, ℕ, Bool, false, List, length, Some, slice_get}
use Rattle.sb_hand.specs.base.pipeline.Shapes.{Shape}
use Rattle.sb_hand.specs.core.declared.moment.Moment.{Moment}
use Rattle.sb_hand.specs.core.declared.moment.Node.{Node}
use Rattle.sb_hand.specs.core.Exactness.{IsExact}
use Rattle.sb_hand.specs.tally.Tally.{IsTallied}
use Rattle.sb_shared.specs.turn.declared.turns.View.{View}
use Rattle.sb_shared.specs.turn.Turning.{Listed, events, log_of, once_in}
use Rattle.sb_hand.specs.node.declared.state.NodeState.{NodeState}
use Rattle.sb_hand.specs.Hands.{HandView, Shows}
use Rattle.sb_hand.specs.Showing.{diaries_of, settings_at, settings_of}
use Rattle.sb_shared.specs.declared.telling.Change.{Change}
use Rattle.sb_shared.specs.declared.telling.Hands.{Hands}
use Rattle.sb_shared.specs.declared.telling.Setting.{Setting}
use Rattle.sb_shared.specs.Doings.{is_event, replay}
use Rattle.sb_shared.specs.SharedNodes.{SharedView}
use Rattle.sb_shared.specs.Shown.{AreLater, beginning_of}
use Rattle.sb_shared.specs.Views.{records_of_feed, feed_of}

-- it is made with what the hand was made with
pub record IsShared (plan : Shape) (bundle pending : ℕ) (keeps : Bool) (a : Setting) : Type 0 where
  pub plan_is : a.plan ≡ plan
  pub bundle_is : a.bundle ≡ bundle
  pub pending_is : a.pending ≡ pending
  pub keeps_is : a.keeps ≡ keeps

-- The moment that the hand shows is what the events of the nodes made of it, and so are the diaries: the events that
-- the feeder's pass, which knew v, and those that it joined, tell, each once.
pub record IsToldBy (a : Setting) (v : View SharedView Change Hands) (nodes : List NodeState) (m : Moment)
    : Type 0 where
  pub logs : List (List Change)
  pub replayed : (k : ℕ) (own : NodeState) (n : Node) → slice_get nodes k ≡ Some own → slice_get m.nodes k ≡ Some n
      → replay a k (log_of logs k) (beginning_of a k) ≡ Some (record { node = n; lines = own.diary.events })
  pub listed : Listed is_event (λ k. 0) logs v.trace × Listed is_event (λ k. 0) logs v.joined
  pub once : (k number : ℕ) → events is_event k number v ≡ once_in 0 (length (log_of logs k)) number

-- the hand shows a moment that is exact for what the feeder fed, and tallies with the diaries
pub record ShowsAll (a : Setting) (v : View SharedView Change Hands) (h : HandView) : Type 0 where
  pub moment : Moment
  pub shows : Shows h v.client.feed.drained moment
  pub exact : IsExact a.plan moment (records_of_feed v.client.feed)
  pub tallied : IsTallied a.plan moment (diaries_of h.nodes) (feed_of v.client.feed)
  pub told : IsToldBy a v h.nodes moment

-- The hand that comes back from a cascade whose feeder's pass knew v. It is spent only if the state word may say that
-- there was no memory. Its tray is later than all rows that were drained.
pub record GivesBack (a : Setting) (v : View SharedView Change Hands) (h : HandView) : Type 0 where
  pub plan : h.plan ≡ a.plan
  pub bundle : h.bundle ≡ a.bundle
  pub pending : h.pending ≡ a.pending
  pub settings : settings_of h.nodes ≡ settings_at a.keeps a.pending a.plan
  pub unspent : (n : ℕ) → v.exact ≡ Some n → n < 3 → h.spent ≡ false
  pub shows : h.spent ≡ false → ShowsAll a v h
  pub later : AreLater v.client.feed.drained h.tray
