-- What came out of an engine, in other words.
use Rattle.std.proofs.Common.{ℕ, List, [], ◌++◌, Option, Result, Ok, Err}
use Rattle.sb_feeds.specs.base.records.declared.intake.Stop.{Stop}
use Rattle.sb_feeds.specs.base.records.declared.item.Dropped.{Dropped}
use Rattle.sb_feeds.specs.base.records.declared.item.Record.{Record}
use Rattle.sb_feeds.specs.base.pipeline.Shapes.{Shape}
use Rattle.sb_feeds.specs.emit.Taps.{TapState}
use Rattle.sb_hand.specs.Hands.{HandView}
use Rattle.sb_feeds.specs.one_feed.declared.give.GiveStop.{GiveStop}
use Rattle.sb_feeds.specs.one_feed.Feeds.{Fed}
use Rattle.sb_feeds.specs.one_feed.Gives.{GivesOut}
use Rattle.sb_feeds.specs.one_feed.InputFeeds.{Feeds, FeedsAll}
use Rattle.sb_alone.specs.Rested.{IsRested, IsRestedSoFar}

pub gives_as : {O : Type 0} (first second : List Record → Type 0) (after : O → List Record → O → Type 0) (o p : O) (a b : List TapState) (rows : List Record)
    → ((l : List Record) → first l → second l) → GivesOut first after o p a b rows → GivesOut second after o p a b rows
gives_as first second after o p a b rows so g = record { rows = g.rows; stand = so (rows ++ g.rows) g.stand; wrote = g.wrote; offered = g.offered }

-- the same, of an engine that stands otherwise
pub feeds-as : {O : Type 0} (after : O → List Record → O → Type 0) (plan : Shape) (size : ℕ) (left left' : Option (List ℕ)) (stands later : Fed → List Record → Type 0)
    (o p : O) (taps taps' : List TapState) (dropped dropped' : List Dropped) (stop : Stop) → ((f : Fed) (rows : List Record) → stands f rows → later f rows)
    → FeedsAll plan size left left' stands after o p taps taps' dropped dropped' stop → FeedsAll plan size left left' later after o p taps taps' dropped dropped' stop
feeds-as after plan size left left' stands later o p taps taps' dropped dropped' stop so e = record {
  given = e.given;
  stopped = e.stopped;
  cutters = e.cutters;
  f = e.f;
  fed = e.fed;
  gives = gives_as (stands e.f) (later e.f) after o p taps taps' [] (so e.f) e.gives;
  listed = e.listed;
}

-- a hand at rest, without what is known of its rows
pub feeds-rested : {O : Type 0} (plan : Shape) (size : ℕ) (left left' : Option (List ℕ)) (h : HandView) (after part : O → List Record → O → Type 0)
    (o p : O) (taps taps' : List TapState) (dropped dropped' : List Dropped) (fed : Result Stop GiveStop)
    → Feeds plan size left left' (IsRestedSoFar h) after part o p taps taps' dropped dropped' fed → Feeds plan size left left' (IsRested h) after part o p taps taps' dropped dropped' fed
feeds-rested plan size left left' h after part o p taps taps' dropped dropped' (Ok stop) e = feeds-as after plan size left left' (IsRestedSoFar h) (IsRested h) o p taps taps' dropped dropped' stop (λ f rows x. x.rested) e
feeds-rested plan size left left' h after part o p taps taps' dropped dropped' (Err why) e = e
