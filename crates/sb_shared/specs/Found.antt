-- What a pass may rely on as it enters a node, of a bundle that it claims, and between any two steps.
use Rattle.std.specs.Prelude.{◌≡◌, ℕ, ◌≤◌, ◌<◌, true, All, List, ◌++◌, length, Some, slice_get}
use Rattle.sb_shown.specs.base.records.declared.item.TheConstants.{END_MARK}
use Rattle.sb_shown.specs.base.pipeline.Plans.{IsPlan}
use Rattle.sb_shown.specs.core.declared.held.Held.{Held}
use Rattle.sb_shown.specs.core.declared.moment.Node.{Node}
use Rattle.sb_shown.specs.core.declared.moment.Moment.{Moment}
use Rattle.sb_shown.specs.core.Soundness.{IsSound}
use Rattle.sb_shown.specs.core.Exactness.{IsExact}
use Rattle.sb_shown.specs.diary.declared.event.DiaryEvent.{DiaryEvent}
use Rattle.sb_shown.specs.tally.Tally as tally
use Rattle.sb_shown.specs.tally.Tally.{IsTallied}
use Rattle.sb_shown.specs.work.declared.claim.Claim.{Claim}
use Rattle.sb_shared.specs.declared.telling.Feed.{Feed}
use Rattle.sb_shared.specs.declared.telling.Hands.{Hands}
use Rattle.sb_shared.specs.declared.telling.Piece.{Piece}
use Rattle.sb_shared.specs.declared.telling.Setting.{Setting}
use Rattle.sb_shared.specs.Linked.{IsPlaceHere}
use Rattle.sb_shared.specs.SharedNodes.{SharedView}
use Rattle.sb_shared.specs.Shown.{AreLater, ShowsPart, operator_of}
use Rattle.sb_shared.specs.Views.{records_of_feed, feed_of, held_by, work_on}

-- A pass that knows this enters node k, and finds this state: a sound moment, which tallies with the diaries, shows it,
-- and in the moment the pass has in hand what it has. To the feeder it shows that no row of the tray is earlier than
-- one that is drained.
pub record IsFound (a : Setting) (w : Hands) (k : ℕ) (x : SharedView) : Type 0 where
  pub plan : IsPlan a.plan
  pub moment : Moment
  pub part : Node
  pub rest : List Held
  pub diaries : List (List DiaryEvent)
  pub feed : tally.Feed
  pub sound : IsSound a.plan moment
  pub tallied : IsTallied a.plan moment diaries feed
  pub bundle : moment.bundle ≡ a.bundle
  pub there : slice_get moment.nodes k ≡ Some part
  pub shown : ShowsPart (operator_of a k) x part
  pub held : moment.held ≡ held_by w ++ rest
  pub feed_is : w.feed.on ≡ true → feed ≡ feed_of w.feed
  pub exact : w.feed.on ≡ true → IsExact a.plan moment (records_of_feed w.feed)
  pub rows : w.feed.on ≡ true → k ≡ length a.plan.steps → moment.rows ≡ w.feed.drained ++ x.tray
  pub later : w.feed.on ≡ true → k ≡ length a.plan.steps → AreLater w.feed.drained x.tray
  pub place : IsPlaceHere a w k x

-- a bundle on the shelf is out in a sound moment
pub record IsLaid (a : Setting) (p : Piece) : Type 0 where
  pub plan : IsPlan a.plan
  pub moment : Moment
  pub rest : List Held
  pub sound : IsSound a.plan moment
  pub held : moment.held ≡ work_on p ++ rest

-- the node of a bundle is a transform or the sink, and its times are below the last mark
pub record IsClaim (a : Setting) (c : Claim) : Type 0 where
  pub node : c.node ≤ length a.plan.steps
  pub times : All (λ r. r.time < END_MARK) c.bundle.records

-- All rows of a moment are drained, which is exact for what the feeder has fed, and tallies with the diaries.
pub record IsDrained (a : Setting) (f : Feed) : Type 0 where
  pub plan : IsPlan a.plan
  pub moment : Moment
  pub diaries : List (List DiaryEvent)
  pub sound : IsSound a.plan moment
  pub exact : IsExact a.plan moment (records_of_feed f)
  pub tallied : IsTallied a.plan moment diaries (feed_of f)
  pub rows : moment.rows ≡ f.drained

-- Between any two steps there is a sound moment in which the pass has in hand what it has; the feeder knows that it is
-- exact for what it has fed, and tallies with the diaries, which are legal.
pub record IsShown (a : Setting) (w : Hands) : Type 0 where
  pub moment : Moment
  pub rest : List Held
  pub diaries : List (List DiaryEvent)
  pub sound : IsSound a.plan moment
  pub held : moment.held ≡ held_by w ++ rest
  pub exact : w.feed.on ≡ true → IsExact a.plan moment (records_of_feed w.feed)
  pub tallied : w.feed.on ≡ true → IsTallied a.plan moment diaries (feed_of w.feed)
