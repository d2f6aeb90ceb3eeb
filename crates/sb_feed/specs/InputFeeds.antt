-- What feeding the lines of a whole input does.
use Rattle.std.specs.Prelude.{◌≡◌, ◌++◌, ℕ, List, [], Option, Result, Ok, Err}
use Rattle.sb_base.specs.records.declared.item.Dropped.{Dropped}
use Rattle.sb_base.specs.records.declared.item.Record.{Record}
use Rattle.sb_base.specs.records.declared.intake.Stop.{Stop}
use Rattle.sb_base.specs.records.Streams.{dropped_of}
use Rattle.sb_base.specs.pipeline.Shapes.{Shape, streams_of}
use Rattle.sb_emit.specs.Taps.{TapState}
use Rattle.sb_feed.specs.declared.cutters.Cutters.{Cutters}
use Rattle.sb_feed.specs.declared.give.GiveStop.{GiveStop}
use Rattle.sb_feed.specs.Due.{AreFirstDropped, AreFirstRows}
use Rattle.sb_feed.specs.FedByItems.{IsFedBy, end_items}
use Rattle.sb_feed.specs.Feeds.{Fed}
use Rattle.sb_feed.specs.Given.{Given, items_of, stop_at}
use Rattle.sb_feed.specs.Gives.{GivesOut, TapsAt, WroteAt}
use Rattle.sb_feed.specs.Reads.{FaultCause}

-- the input was fed up to where reading stopped, and all late records that were dropped are listed
pub record FeedsAll {O : Type 0} (plan : Shape) (size : ℕ) (left left' : Option (List ℕ))
    (stands : Fed → List Record → Type 0) (after : O → List Record → O → Type 0) (o p : O)
    (taps taps' : List TapState) (dropped dropped' : List Dropped) (stop : Stop) : Type 0 where
  pub given : Given left left'
  pub stopped : stop ≡ stop_at plan given
  pub cutters : Cutters
  pub f : Fed
  pub fed : IsFedBy size (items_of plan given ++ end_items (streams_of plan) stop) f cutters
  pub gives : GivesOut (stands f) after o p taps taps' []
  pub listed : dropped' ≡ dropped ++ dropped_of (items_of plan given)

-- of some first rows a part was written, or all and a tap failed at one, and the first of the late records that were
-- dropped are listed
pub record FeedsSome {O : Type 0} (plan : Shape) (left left' : Option (List ℕ))
    (after part : O → List Record → O → Type 0) (o p : O)
    (taps taps' : List TapState) (dropped dropped' : List Dropped) (why : GiveStop) : Type 0 where
  pub given : Given left left'
  pub rows : List Record
  pub first : AreFirstRows plan (items_of plan given) rows
  pub wrote : WroteAt after part why o rows p
  pub at : TapsAt why rows taps taps'
  pub late : List Dropped
  pub first_late : AreFirstDropped (items_of plan given) late
  pub listed : dropped' ≡ dropped ++ late

abbrev pub Feeds : {O : Type 0} → Shape → ℕ → Option (List ℕ) → Option (List ℕ) → (Fed → List Record → Type 0)
    → (O → List Record → O → Type 0) → (O → List Record → O → Type 0) → O → O → List TapState → List TapState
    → List Dropped → List Dropped → Result Stop GiveStop → Type 0
Feeds plan size left left' stands after part o p taps taps' dropped dropped' (Ok stop) =
    FeedsAll plan size left left' stands after o p taps taps' dropped dropped' stop
Feeds plan size left left' stands after part o p taps taps' dropped dropped' (Err why) =
    FeedsSome plan left left' after part o p taps taps' dropped dropped' why

-- a fault of the source is told by its own stop alone
abbrev pub FeedCause : ℕ → ℕ → Result Stop GiveStop → Type 0
FeedCause before now (Ok stop) = FaultCause before now stop
FeedCause before now (Err why) = now ≡ before
