-- What feeding the values of two rings does.
use Rattle.std.specs.Prelude.{◌≡◌, ◌≤◌, ◌⊎◌, ℕ, true, List, [], ◌++◌, Result, Ok, Err, Some}
use Rattle.std.specs.List.{AllByRecursion}
use Rattle.sb_engines.specs.feeds.base.records.declared.item.Dropped.{Dropped}
use Rattle.sb_engines.specs.feeds.base.records.declared.item.Item.{Item}
use Rattle.sb_engines.specs.feeds.base.records.declared.item.Record.{Record}
use Rattle.sb_engines.specs.feeds.base.records.declared.item.Stream.{Stream}
use Rattle.sb_engines.specs.feeds.base.records.declared.item.Stream.TheVariants.{A, B}
use Rattle.sb_engines.specs.feeds.base.records.declared.item.Streams.{Streams}
use Rattle.sb_engines.specs.feeds.base.records.Streams.{dropped_of, last_watermark, records_of}
use Rattle.sb_engines.specs.feeds.base.pipeline.Shapes.{Shape, streams_of}
use Rattle.sb_engines.specs.feeds.emit.Taps.{TapState}
use Rattle.sb_engines.specs.feeds.one_feed.declared.cutters.Cutters.{Cutters}
use Rattle.sb_engines.specs.feeds.one_feed.declared.give.GiveStop.{GiveStop}
use Rattle.sb_engines.specs.feeds.one_feed.Due.{AreFirstDropped}
use Rattle.sb_engines.specs.feeds.one_feed.FedByItems.{IsFedBy, end_items}
use Rattle.sb_engines.specs.feeds.one_feed.Feeds.{AreRowsSoFar, Fed, IsFrom, records_of_feed, floor_in}
use Rattle.sb_engines.specs.feeds.one_feed.Gives.{GivesOut, TapsAt, WroteAt}
use Rattle.sb_engines.specs.feeds.declared.fed.Fed.{Fed as AValue}
use Rattle.sb_engines.specs.feeds.Fed.{has_stop}
use Rattle.sb_run.specs.declared.files.inlets.FilesStop.{FilesStop}
use Rattle.sb_run.specs.Pops.{AreMerged, as_stop, files_stop_if, stop_among, items_taken}

-- what was fed of the items taken of each stream, and what was not yet. Behind a stop no more is taken
pub record CoversTaken (streams : Streams) (values : Stream → List AValue) (f : Fed) : Type 0 where
  pub rest : Stream → List Record
  pub are : (s : Stream) → records_of_feed f s ++ rest s ≡ records_of s (items_taken streams s (values s))
  pub coming : (s : Stream) → AllByRecursion (IsFrom (floor_in f s)) (rest s)
  pub floors : (s : Stream)
      → (floor_in f s ≤ last_watermark s (items_taken streams s (values s))) ⊎ (has_stop (values s) ≡ true)

-- the values were fed, up to the stop of each ring, and all late records that were dropped are listed
pub record FeedsFiles {O : Type 0} (plan : Shape) (size : ℕ) (values : Stream → List AValue)
    (stands : Fed → List Record → Type 0) (after : O → List Record → O → Type 0) (o p : O)
    (taps taps' : List TapState) (dropped dropped' : Stream → List Dropped) (stop : FilesStop) : Type 0 where
  pub stopped : files_stop_if (stop_among (values A)) (stop_among (values B)) ≡ Some stop
  pub items : List Item
  pub merged : AreMerged items (λ s. items_taken (streams_of plan) s (values s))
  pub cutters : Cutters
  pub f : Fed
  pub fed : IsFedBy size (items ++ end_items (streams_of plan) (as_stop stop)) f cutters
  pub gives : GivesOut (stands f) after o p taps taps' []
  pub listed : (s : Stream) → dropped' s ≡ dropped s ++ dropped_of (items_taken (streams_of plan) s (values s))

-- feeding failed when so many of the values had come: a part of the rows so far was written, or all and a tap failed at
-- one, and the first of the late records that were dropped are listed
pub record FeedsPart {O : Type 0} (plan : Shape) (values : Stream → List AValue)
    (after part : O → List Record → O → Type 0) (o p : O) (taps taps' : List TapState)
    (dropped dropped' : Stream → List Dropped) (why : GiveStop) : Type 0 where
  pub popped : Stream → List AValue
  pub later : Stream → List AValue
  pub are : (s : Stream) → values s ≡ popped s ++ later s
  pub f : Fed
  pub covers : CoversTaken (streams_of plan) popped f
  pub rows : List Record
  pub so_far : AreRowsSoFar plan f rows
  pub wrote : WroteAt after part why o rows p
  pub at : TapsAt why rows taps taps'
  pub late : Stream → List Dropped
  pub first_late : (s : Stream) → AreFirstDropped (items_taken (streams_of plan) s (popped s)) (late s)
  pub listed : (s : Stream) → dropped' s ≡ dropped s ++ late s

abbrev pub FeedsValues : {O : Type 0} → Shape → ℕ → (Stream → List AValue) → (Fed → List Record → Type 0)
    → (O → List Record → O → Type 0) → (O → List Record → O → Type 0) → O → O → List TapState → List TapState
    → (Stream → List Dropped) → (Stream → List Dropped) → Result FilesStop GiveStop → Type 0
FeedsValues plan size values stands after part o p taps taps' dropped dropped' (Ok stop) =
    FeedsFiles plan size values stands after o p taps taps' dropped dropped' stop
FeedsValues plan size values stands after part o p taps taps' dropped dropped' (Err why) =
    FeedsPart plan values after part o p taps taps' dropped dropped' why
