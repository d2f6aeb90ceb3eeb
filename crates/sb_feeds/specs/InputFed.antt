-- What any input feeds: bundles and watermarks, in the order in which its lines give them.
use Rattle.std.specs.Prelude.{◌≡◌, ◌⊎◌, ℕ, List, [], ◌∷◌, ◌++◌, Option, Some, None, ⊤}
use Rattle.sb_feed.specs.base.records.declared.intake.Stop.{Stop}
use Rattle.sb_feed.specs.base.records.declared.item.Dropped.{Dropped}
use Rattle.sb_feed.specs.base.records.declared.item.Record.{Record}
use Rattle.sb_feed.specs.base.records.Streams.{dropped_of}
use Rattle.sb_feed.specs.base.pipeline.Shapes.{Shape, streams_of}
use Rattle.sb_feed.specs.outside.Sources.{Rose}
use Rattle.sb_feed.specs.declared.cutters.Cutters.{Cutters}
use Rattle.sb_feed.specs.Due.{AreFirstDropped, AreFirstRows}
use Rattle.sb_feed.specs.FedByItems.{IsFedBy, end_items}
use Rattle.sb_feed.specs.Feeds.{AreRowsSoFar, Fed, MayArrive, MaySeal, nothing_fed, with_bundle, with_mark}
use Rattle.sb_feed.specs.Given.{Given, items_of, stop_at}
use Rattle.sb_feed.specs.Reads.{FaultCause}
use Rattle.sb_feeds.specs.declared.input.fed.InputFed.{InputFed}
use Rattle.sb_feeds.specs.declared.input.fed.InputFed.TheVariants.{Begin, Bundle, Mark, NoMemory, Stop as AStop}

-- what was fed with one value more
abbrev pub fed_with : InputFed → Fed → Fed
fed_with (Begin streams size) f = f
fed_with (Bundle s b) f = with_bundle s b f
fed_with (Mark s t) f = with_mark s t f
fed_with (AStop stop) f = f
fed_with NoMemory f = f

-- and with all of these
abbrev pub fed_after : List InputFed → Fed → Fed
fed_after [] f = f
fed_after (v ∷ values) f = fed_after values (fed_with v f)

-- what was fed with these values from the first on
abbrev pub fed_by : List InputFed → Fed
fed_by values = fed_after values nothing_fed

-- an engine of the plan that was fed this may be fed the value
abbrev pub MayCome : Shape → ℕ → Fed → InputFed → Type 0
MayCome plan size f (Begin streams most) = ⊤
MayCome plan size f (Bundle s b) = MayArrive plan size f s b
MayCome plan size f (Mark s t) = MaySeal plan f s t
MayCome plan size f (AStop stop) = ⊤
MayCome plan size f NoMemory = ⊤

-- so it is with each of the values, one after another
abbrev pub MayAllCome : Shape → ℕ → Fed → List InputFed → Type 0
MayAllCome plan size f [] = ⊤
MayAllCome plan size f (v ∷ values) = MayCome plan size f v × MayAllCome plan size (fed_with v f) values

-- the rule of the ring: the streams and the size come first, and then what an engine of any plan of these streams may
-- be fed behind what was sent
abbrev pub MayFollow : List InputFed → InputFed → Type 0
MayFollow [] next = ⊤
MayFollow (Begin streams size ∷ values) next =
    (plan : Shape) → streams_of plan ≡ streams → MayCome plan size (fed_by values) next
MayFollow (Bundle s b ∷ values) next = ⊥
MayFollow (Mark s t ∷ values) next = ⊥
MayFollow (AStop stop ∷ values) next = ⊥
MayFollow (NoMemory ∷ values) next = ⊥

-- the first stop among the values
abbrev pub stop_among : List InputFed → Option Stop
stop_among [] = None
stop_among (Begin streams size ∷ values) = stop_among values
stop_among (Bundle s b ∷ values) = stop_among values
stop_among (Mark s t ∷ values) = stop_among values
stop_among (AStop stop ∷ values) = Some stop
stop_among (NoMemory ∷ values) = stop_among values

-- the stop as a value, if it was sent
abbrev pub stop_value : Option Stop → List InputFed
stop_value None = []
stop_value (Some stop) = AStop stop ∷ []

-- a fault of the source is told by its own stop alone. Where no stop was sent, a read may have failed
abbrev pub ReadCause : ℕ → ℕ → Option Stop → Type 0
ReadCause before now None = (now ≡ before) ⊎ Rose before now
ReadCause before now (Some stop) = FaultCause before now stop

-- all was sent that the input gave, up to where reading stopped, and all late records that were dropped are listed
pub record IsSentWhole {left left' : Option (List ℕ)} (plan : Shape) (size : ℕ) (given : Given left left')
    (sent : List InputFed) (dropped dropped' : List Dropped) (stop : Stop) : Type 0 where
  pub stopped : stop ≡ stop_at plan given
  pub cutters : Cutters
  pub fed : IsFedBy size (items_of plan given ++ end_items (streams_of plan) stop) (fed_by sent) cutters
  pub listed : dropped' ≡ dropped ++ dropped_of (items_of plan given)

abbrev pub IsWholeIf : {left left' : Option (List ℕ)} → Shape → ℕ → Given left left' → List InputFed → List Dropped
    → List Dropped → Option Stop → Type 0
IsWholeIf plan size given sent dropped dropped' None = ⊤
IsWholeIf plan size given sent dropped dropped' (Some stop) = IsSentWhole plan size given sent dropped dropped' stop

-- the first values of an input were sent: rows so far of any first ones of them are first rows of the items that the
-- input gave
pub record IsReadOf (plan : Shape) (size : ℕ) (left left' : Option (List ℕ)) (before now : ℕ) (values : List InputFed)
    (dropped dropped' : List Dropped) (stop : Option Stop) : Type 0 where
  pub given : Given left left'
  pub sent : List InputFed
  pub are : values ≡ Begin (streams_of plan) size ∷ (sent ++ stop_value stop)
  pub unstopped : stop_among sent ≡ None
  pub first : (some later : List InputFed) → sent ≡ some ++ later → (rows : List Record)
      → AreRowsSoFar plan (fed_by some) rows → AreFirstRows plan (items_of plan given) rows
  pub late : List Dropped
  pub first_late : AreFirstDropped (items_of plan given) late
  pub listed : dropped' ≡ dropped ++ late
  pub whole : IsWholeIf plan size given sent dropped dropped' stop
  pub cause : ReadCause before now stop
