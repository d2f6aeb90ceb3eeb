-- What feeding the values of the ring of an input does.
use Rattle.std.specs.Prelude.{◌≡◌, ℕ, List, [], ◌∷◌, ◌++◌, Option, Some, Result, Ok, Err}
use Rattle.sb_engines.specs.feeds.base.records.declared.intake.Stop.{Stop}
use Rattle.sb_engines.specs.feeds.base.records.declared.item.Record.{Record}
use Rattle.sb_engines.specs.feeds.base.pipeline.Shapes.{Shape, streams_of}
use Rattle.sb_engines.specs.feeds.emit.Taps.{TapState}
use Rattle.sb_engines.specs.feeds.one_feed.declared.give.GiveStop.{GiveStop}
use Rattle.sb_engines.specs.feeds.one_feed.Feeds.{AreRowsSoFar, Fed}
use Rattle.sb_engines.specs.feeds.one_feed.Gives.{GivesOut, TapsAt, WroteAt}
use Rattle.sb_engines.specs.feeds.declared.input.fed.InputFed.{InputFed}
use Rattle.sb_engines.specs.feeds.declared.input.fed.InputFed.TheVariants.{Begin}
use Rattle.sb_engines.specs.feeds.InputFed.{fed_by, stop_value}

-- the values that came of an input: what is read, then what is fed, and then the stop, if it came
abbrev pub HaveCome : Shape → ℕ → List InputFed → List InputFed → Option Stop → Type 0
HaveCome plan size values popped stop = values ≡ Begin (streams_of plan) size ∷ (popped ++ stop_value stop)

-- the values were fed, up to the stop
pub record FeedsToStop {O : Type 0} (plan : Shape) (size : ℕ) (values : List InputFed)
    (stands : Fed → List Record → Type 0) (after : O → List Record → O → Type 0) (o p : O)
    (taps taps' : List TapState) (stop : Stop) : Type 0 where
  pub popped : List InputFed
  pub came : HaveCome plan size values popped (Some stop)
  pub gives : GivesOut (stands (fed_by popped)) after o p taps taps' []

-- feeding failed when these values had come: a part of the rows so far was written, or all and a tap failed at one
pub record FeedsInPart {O : Type 0} (plan : Shape) (size : ℕ) (values : List InputFed)
    (after part : O → List Record → O → Type 0) (o p : O) (taps taps' : List TapState) (why : GiveStop)
    : Type 0 where
  pub popped : List InputFed
  pub stop : Option Stop
  pub came : HaveCome plan size values popped stop
  pub rows : List Record
  pub so_far : AreRowsSoFar plan (fed_by popped) rows
  pub wrote : WroteAt after part why o rows p
  pub at : TapsAt why rows taps taps'

abbrev pub FeedsPopped : {O : Type 0} → Shape → ℕ → List InputFed → (Fed → List Record → Type 0)
    → (O → List Record → O → Type 0) → (O → List Record → O → Type 0) → O → O → List TapState → List TapState
    → Result Stop GiveStop → Type 0
FeedsPopped plan size values stands after part o p taps taps' (Ok stop) =
    FeedsToStop plan size values stands after o p taps taps' stop
FeedsPopped plan size values stands after part o p taps taps' (Err why) =
    FeedsInPart plan size values after part o p taps taps' why
