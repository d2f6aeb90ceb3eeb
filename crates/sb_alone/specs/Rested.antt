-- What a hand stands for between two lines of an input.
use Rattle.std.specs.Prelude.{◌≡◌, ◌≤◌, Bool, true, false, List, [], map}
use Rattle.sb_feeds.specs.base.records.declared.item.Record.{Record}
use Rattle.sb_feeds.specs.base.records.declared.item.Stream.{Stream}
use Rattle.sb_feeds.specs.base.records.declared.item.TheConstants.{END_MARK}
use Rattle.sb_feeds.specs.base.pipeline.Plans.{IsPlan}
use Rattle.sb_hand.specs.core.declared.moment.Moment.{Moment}
use Rattle.sb_hand.specs.core.Exactness.{IsExact}
use Rattle.sb_hand.specs.tally.Tally.{Feed, IsTallied}
use Rattle.sb_hand.specs.tally.Whole.{fed_bundle}
use Rattle.sb_hand.specs.HandLaws.{AreIdle}
use Rattle.sb_hand.specs.Hands.{HandView, Shows}
use Rattle.sb_hand.specs.Showing.{diaries_of, settings_at, settings_of}
use Rattle.sb_feeds.specs.one_feed.Feeds.{AreRowsSoFar, Fed, bundles_in, records_of_feed, floor_in, marks_in}

-- what was fed, as the tally counts it: rows that were drained are rows of the moment still, so none counts as drained
abbrev pub feed_of : Fed → Feed
feed_of f = record { bundles = λ s. map fed_bundle (bundles_in f s); marks = marks_in f; drained = 0 }

-- the plan and the sizes are as they were, and what the nodes were made with too, unless the hand is spent
pub record HasSameSetting (old new : HandView) : Type 0 where
  pub plan : new.plan ≡ old.plan
  pub bundle : new.bundle ≡ old.bundle
  pub pending : new.pending ≡ old.pending
  pub stays_spent : old.spent ≡ true → new.spent ≡ true
  pub settings : new.spent ≡ false → settings_of new.nodes ≡ settings_of old.nodes

-- a hand that was fed so much, and out of which these rows were drained: it shows a moment that is exact for what was
-- fed, and with which its diaries tally
pub record IsWhole (h : HandView) (f : Fed) (rows : List Record) : Type 0 where
  pub is_plan : IsPlan h.plan
  pub unspent : h.spent ≡ false
  pub some_bundles : 1 ≤ h.pending
  pub keeps : Bool
  pub settings : settings_of h.nodes ≡ settings_at keeps h.pending h.plan
  pub moment : Moment
  pub shows : Shows h rows moment
  pub exact : IsExact h.plan moment (records_of_feed f)
  pub tallied : IsTallied h.plan moment (diaries_of h.nodes) (feed_of f)
  pub bound : (s : Stream) → floor_in f s ≤ END_MARK

-- and no node has anything to do, and all rows were drained
pub record IsRested (h : HandView) (f : Fed) (rows : List Record) : Type 0 where
  pub whole : IsWhole h f rows
  pub idle : AreIdle h.plan h.nodes
  pub none_ready : h.tray ≡ []

-- and what came out are the first rows of the plan
pub record IsRestedSoFar (h : HandView) (f : Fed) (rows : List Record) : Type 0 where
  pub rested : IsRested h f rows
  pub so_far : AreRowsSoFar h.plan f rows
