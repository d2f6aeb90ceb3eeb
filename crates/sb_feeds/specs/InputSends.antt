-- What sending the items of an input does: the cutters take them, and what these give goes into the ring.
use Rattle.std.specs.Prelude.{◌≡◌, ℕ, List, [], ◌∷◌, ◌++◌, None}
use Rattle.sb_feed.specs.base.records.declared.intake.Stop.{Stop}
use Rattle.sb_feed.specs.base.records.declared.item.Item.{Item}
use Rattle.sb_feed.specs.base.records.declared.item.Record.{Record}
use Rattle.sb_feed.specs.base.pipeline.Shapes.{Shape, streams_of}
use Rattle.sb_feed.specs.declared.cutters.Cutters.{Cutters}
use Rattle.sb_feed.specs.FedByItems.{Covers, IsFedBy}
use Rattle.sb_feed.specs.Feeds.{Fed, nothing_fed}
use Rattle.sb_feeds.specs.declared.input.fed.InputFed.{InputFed}
use Rattle.sb_feeds.specs.declared.input.fed.InputFed.TheVariants.{Begin, Stop as AStop}
use Rattle.sb_feeds.specs.declared.input.sending.Sending.{Sending}
use Rattle.sb_feeds.specs.declared.input.sending.Sending.TheVariants.{Done, NoMemory, Over}
use Rattle.sb_feeds.specs.InputFed.{MayAllCome, fed_after, fed_by, stop_among}

-- the ring has these values: an engine of the plan may be fed them, and was then fed this
pub record IsSentAs (plan : Shape) (size : ℕ) (values : List InputFed) (f : Fed) : Type 0 where
  pub sent : List InputFed
  pub are : values ≡ Begin (streams_of plan) size ∷ sent
  pub may : MayAllCome plan size nothing_fed sent
  pub fed : fed_by sent ≡ f
  pub unstopped : stop_among sent ≡ None

-- no rows come out where values are sent
abbrev pub HasSent : Shape → ℕ → List InputFed → Fed → List Record → Type 0
HasSent plan size values f rows = IsSentAs plan size values f × (rows ≡ [])

-- the items were sent: what the cutters gave of them is in the ring
pub record AreSent (plan : Shape) (size : ℕ) (items : List Item) (values : List InputFed) (cutters : Cutters)
    : Type 0 where
  pub f : Fed
  pub sent : IsSentAs plan size values f
  pub fed : IsFedBy size items f cutters

-- of what they give the last values may be unsent
pub record AreSentInPart (plan : Shape) (size : ℕ) (items : List Item) (values : List InputFed) : Type 0 where
  pub f : Fed
  pub sent : IsSentAs plan size values f
  pub unsent : List InputFed
  pub may : MayAllCome plan size f unsent
  pub covers : Covers items (fed_after unsent f)

abbrev pub Sends : Shape → ℕ → List Item → List InputFed → Cutters → Sending → Type 0
Sends plan size items values cutters Done = AreSent plan size items values cutters
Sends plan size items values cutters Over = AreSentInPart plan size items values
Sends plan size items values cutters NoMemory = AreSentInPart plan size items values

-- all was sent, and the stop behind it
pub record AreSentTo (plan : Shape) (size : ℕ) (items : List Item) (stop : Stop) (values : List InputFed)
    (cutters : Cutters) : Type 0 where
  pub before : List InputFed
  pub sent : AreSent plan size items before cutters
  pub are : values ≡ before ++ AStop stop ∷ []

abbrev pub EndsSending : Shape → ℕ → List Item → Stop → List InputFed → Cutters → Sending → Type 0
EndsSending plan size items stop values cutters Done = AreSentTo plan size items stop values cutters
EndsSending plan size items stop values cutters Over = AreSentInPart plan size items values
EndsSending plan size items stop values cutters NoMemory = AreSentInPart plan size items values
