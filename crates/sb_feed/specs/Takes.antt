-- What taking an item does: it goes into the cutters, what they give is fed to the engine, and rows come out.
use Rattle.std.specs.Prelude.{◌≤◌, ◌<◌, ◌+◌, ℕ, List, length, Result, Ok, Err}
use Rattle.sb_base.specs.records.declared.item.Item.{Item}
use Rattle.sb_base.specs.records.declared.item.Record.{Record}
use Rattle.sb_base.specs.records.declared.item.Stream.{Stream}
use Rattle.sb_base.specs.records.declared.item.TheConstants.{END_MARK}
use Rattle.sb_base.specs.records.declared.intake.TheConstants.{MAX_LINES}
use Rattle.sb_base.specs.records.Streams.{last_watermark}
use Rattle.sb_base.specs.pipeline.Shapes.{Shape, streams_of}
use Rattle.sb_emit.specs.Taps.{TapState}
use Rattle.sb_feed.specs.declared.cutters.Cutters.{Cutters}
use Rattle.sb_feed.specs.declared.give.GiveStop.{GiveStop}
use Rattle.sb_feed.specs.FedByItems.{Covers, IsFedBy, IsTimely}
use Rattle.sb_feed.specs.Feeds.{Fed}
use Rattle.sb_feed.specs.Gives.{GivesOut, StopsOut}

-- the item may be taken: the items before it were fed, and it is in time
pub record MayTake (stands : Fed → List Record → Type 0) (plan : Shape) (size : ℕ) (cutters : Cutters) (i : Item)
    (items : List Item) (f : Fed) (rows : List Record) : Type 0 where
  pub stand : stands f rows
  pub fed : IsFedBy size items f cutters
  pub timely : IsTimely (streams_of plan) items i
  pub few : length items < MAX_LINES + 3
  pub some : 1 ≤ size

-- the end of a stream, or of all, may be taken: fewer items than so many were fed
pub record MayEnd (stands : Fed → List Record → Type 0) (size : ℕ) (cutters : Cutters) (most : ℕ)
    (items : List Item) (f : Fed) (rows : List Record) : Type 0 where
  pub stand : stands f rows
  pub fed : IsFedBy size items f cutters
  pub few : length items < most
  pub marks : (s : Stream) → last_watermark s items ≤ END_MARK
  pub some : 1 ≤ size

-- these items were taken: what was fed then, and what came out
pub record Takes {O : Type 0} (stands : Fed → List Record → Type 0) (after : O → List Record → O → Type 0) (o p : O)
    (taps taps' : List TapState) (size : ℕ) (items : List Item) (cutters : Cutters) (before : List Record)
    : Type 0 where
  pub f : Fed
  pub fed : IsFedBy size items f cutters
  pub gives : GivesOut (stands f) after o p taps taps' before

-- the last of the items could not be taken, or what it gives could not be fed or given out
pub record Fails {O : Type 0} (plan : Shape) (after part : O → List Record → O → Type 0) (o p : O)
    (taps taps' : List TapState) (items : List Item) (before : List Record) (why : GiveStop) : Type 0 where
  pub f : Fed
  pub covers : Covers items f
  pub stops : StopsOut plan after part o p taps taps' f before why

abbrev pub TakesOrFails : {O T : Type 0} → Shape → ℕ → (Fed → List Record → Type 0)
    → (O → List Record → O → Type 0) → (O → List Record → O → Type 0) → O → O → List TapState → List TapState
    → List Item → Cutters → List Record → Result T GiveStop → Type 0
TakesOrFails plan size stands after part o p taps taps' items cutters before (Ok x) =
    Takes stands after o p taps taps' size items cutters before
TakesOrFails plan size stands after part o p taps taps' items cutters before (Err why) =
    Fails plan after part o p taps taps' items before why
