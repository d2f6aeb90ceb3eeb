-- What feeding an input into a ring of rows does, which another thread prints.
use Rattle.std.specs.Prelude.{◌≡◌, ◌++◌, ℕ, List, Option, Result, Ok, Err}
use Rattle.sb_engines.specs.feeds.base.records.declared.intake.Stop.{Stop}
use Rattle.sb_engines.specs.feeds.base.records.declared.item.Dropped.{Dropped}
use Rattle.sb_engines.specs.feeds.base.records.declared.item.Record.{Record}
use Rattle.sb_engines.specs.feeds.base.records.Streams.{dropped_of}
use Rattle.sb_engines.specs.feeds.base.pipeline.Shapes.{Shape, streams_of}
use Rattle.sb_engines.specs.feeds.one_feed.declared.cutters.Cutters.{Cutters}
use Rattle.sb_engines.specs.feeds.one_feed.declared.give.GiveStop.{GiveStop}
use Rattle.sb_engines.specs.feeds.one_feed.declared.give.GiveStop.TheVariants as give
use Rattle.sb_engines.specs.feeds.one_feed.Due.{AreFirstDropped, AreFirstRows}
use Rattle.sb_engines.specs.feeds.one_feed.FedByItems.{IsFedBy, end_items}
use Rattle.sb_engines.specs.feeds.one_feed.Feeds.{Fed}
use Rattle.sb_engines.specs.feeds.one_feed.Given.{Given, items_of, stop_at}
use Rattle.sb_engines.specs.feeds.declared.rows.ends.RowsOut.{RowsOut}
use Rattle.sb_engines.specs.feeds.RowsSends.{AreSent, AreSentInPart, EndsRows}

-- the input was fed up to where reading stopped, and the rows that came out were sent
pub record FeedsAllRows (plan : Shape) (size : ℕ) (left left' : Option (List ℕ)) (stands : Fed → List Record → Type 0)
    (o p : RowsOut) (dropped dropped' : List Dropped) (stop : Stop) : Type 0 where
  pub given : Given left left'
  pub stopped : stop ≡ stop_at plan given
  pub cutters : Cutters
  pub f : Fed
  pub fed : IsFedBy size (items_of plan given ++ end_items (streams_of plan) stop) f cutters
  pub rows : List Record
  pub stand : stands f rows
  pub sent : AreSent o rows p
  pub listed : dropped' ≡ dropped ++ dropped_of (items_of plan given)

-- of some first rows a part was sent
pub record FeedsSomeRows (plan : Shape) (left left' : Option (List ℕ)) (o p : RowsOut)
    (dropped dropped' : List Dropped) : Type 0 where
  pub given : Given left left'
  pub rows : List Record
  pub first : AreFirstRows plan (items_of plan given) rows
  pub sent : AreSentInPart o rows p
  pub late : List Dropped
  pub first_late : AreFirstDropped (items_of plan given) late
  pub listed : dropped' ≡ dropped ++ late

abbrev pub FeedsRows : Shape → ℕ → Option (List ℕ) → Option (List ℕ) → (Fed → List Record → Type 0) → RowsOut → RowsOut
    → List Dropped → List Dropped → Result Stop GiveStop → Type 0
FeedsRows plan size left left' stands o p dropped dropped' (Ok stop) =
    FeedsAllRows plan size left left' stands o p dropped dropped' stop
FeedsRows plan size left left' stands o p dropped dropped' (Err why) =
    FeedsSomeRows plan left left' o p dropped dropped'

-- and then the end, if the printer needs more
pub record FeedsRing (plan : Shape) (size : ℕ) (left left' : Option (List ℕ)) (stands : Fed → List Record → Type 0)
    (o p : RowsOut) (dropped dropped' : List Dropped) (fed : Result Stop GiveStop) : Type 0 where
  pub between : RowsOut
  pub feeds : FeedsRows plan size left left' stands o between dropped dropped' fed
  pub ended : EndsRows between p

-- a run ends by a failure of the printer, else as its feeder has ended: if all was printed that this has sent, it found
-- no memory where it stopped early
abbrev pub ends_with : {T : Type 0} → Result Stop GiveStop → Result T GiveStop → Result Stop GiveStop
ends_with (Ok stop) (Ok x) = Ok stop
ends_with (Err early) (Ok x) = Err give.Memory
ends_with (Ok stop) (Err why) = Err why
ends_with (Err early) (Err why) = Err why
