-- What a pass knows, and what it knows after a leaving, a laying, a claim and a raise of the state word.
use Rattle.std.specs.Prelude.{ℕ, true, false, if◌then◌else◌, nat_lt, max, List, [], ◌∷◌, ◌++◌, length, drop, map}
use Rattle.std.specs.Prelude.{Option, Some, None}
use Rattle.sb_shown.specs.base.records.declared.item.Record.{Record}
use Rattle.sb_shown.specs.base.records.declared.item.Stream.{Stream}
use Rattle.sb_shown.specs.base.records.declared.item.Stream.TheVariants.{A, B}
use Rattle.sb_shown.specs.core.declared.held.Held.{Held}
use Rattle.sb_shown.specs.tally.Tally as tally
use Rattle.sb_turn.specs.Held.{all_held}
use Rattle.sb_shared.specs.declared.telling.Change.{Change}
use Rattle.sb_shared.specs.declared.telling.Change.TheVariants.{Arrive, Seal, Take, Deliver, Finish, Begin, Rows, Pass}
use Rattle.sb_shared.specs.declared.telling.Change.TheVariants.{End}
use Rattle.sb_shared.specs.declared.telling.Change.TheVariants.{Idle, NotYet, Full, Drain, Spent, Nothing}
use Rattle.sb_shared.specs.declared.telling.FedBundle.{FedBundle}
use Rattle.sb_shared.specs.declared.telling.Feed.{Feed}
use Rattle.sb_shared.specs.declared.telling.Hands.{Hands}
use Rattle.sb_shared.specs.declared.telling.Piece.{Piece}
use Rattle.sb_shared.specs.declared.telling.StreamFeed.{StreamFeed}
use Rattle.sb_shared.specs.Doings.{work_of, close_of}

-- nothing was fed of a stream
abbrev pub nothing_fed : StreamFeed
nothing_fed = record { bundles = []; marks = [] }

-- what a pass feeds that is not the feeder's
abbrev pub no_feed : Feed
no_feed = record { on = false; a = nothing_fed; b = nothing_fed; drained = []; raised = 0 }

-- a pass with nothing in hand, that is not the feeder's
abbrev pub idle_hands : Hands
idle_hands = record { held = None; link = None; feed = no_feed }

-- the feeder's pass at the start
abbrev pub first_hands : Hands
first_hands = record { held = None; link = None; feed = record no_feed { on = true } }

-- a bundle more of a stream, of the epoch after the marks
abbrev pub one_bundle_more : List Record → StreamFeed → StreamFeed
one_bundle_more records f =
    record f { bundles = f.bundles ++ record { epoch = length f.marks; records = records } ∷ [] }

abbrev pub with_bundle : Stream → List Record → Feed → Feed
with_bundle A records f = record f { a = one_bundle_more records f.a }
with_bundle B records f = record f { b = one_bundle_more records f.b }

-- a mark more of a stream
abbrev pub with_mark : Stream → ℕ → Feed → Feed
with_mark A mark f = record f { a = record f.a { marks = f.a.marks ++ mark ∷ [] } }
with_mark B mark f = record f { b = record f.b { marks = f.b.marks ++ mark ∷ [] } }

-- these rows drained more
abbrev pub with_drained : List Record → Feed → Feed
with_drained rows f = record f { drained = f.drained ++ rows }

-- the state word raised to n
abbrev pub with_raise : ℕ → Feed → Feed
with_raise n f = record f { raised = max f.raised n }

-- what a pass has after this
abbrev pub hands_with : Held → Option ℕ → Hands → Hands
hands_with h link w = record w { held = Some h; link = link }

abbrev pub with_empty_hands : Hands → Hands
with_empty_hands w = record w { held = None; link = None }

-- what a pass knows after it left node k with a change
abbrev pub after : Hands → ℕ → Change → Hands
after w k (Arrive stream records) = record w { feed = with_bundle stream records.value w.feed }
after w k (Seal stream mark) = record w { feed = with_mark stream mark w.feed }
after w k (Take c link) = hands_with (work_of c.value false) link w
after w k (Deliver c place) = hands_with (work_of c.value true) (Some place) w
after w k (Finish c delivered) = with_empty_hands w
after w k (Begin c passed) = hands_with (close_of c.value c.value.rows.items passed) None w
after w k (Rows c first most place) =
    hands_with (close_of c.value (drop most (drop first c.value.rows.items)) false) (Some place) w
after w k (Pass c) = hands_with (close_of c.value [] true) None w
after w k (End c) = with_empty_hands w
after w k Idle = w
after w k (NotYet why) = w
after w k (Full lane) = w
after w k (Drain rows) = record w { feed = with_drained rows.value w.feed }
after w k Spent = w
after w k Nothing = w

-- after it laid a bundle on the shelf, and after it claimed one
abbrev pub hands_after_put : Hands → Piece → Hands
hands_after_put w p = with_empty_hands w

abbrev pub hands_after_claim : Hands → Piece → Hands
hands_after_claim w p = hands_with (work_of p.claim false) p.link w

-- after it raised the state word to n: to 3, which says that there was no memory, any pass may, and no view tells it
abbrev pub hands_after_raise : Hands → ℕ → Hands
hands_after_raise w n = if nat_lt n 3 then record w { feed = with_raise n w.feed } else w

-- the one thing, if there is one
abbrev pub as_list : {X : Type 0} → Option X → List X
as_list None = []
as_list (Some x) = x ∷ []

-- what a pass has in hand, and what a bundle on the shelf is in the core
abbrev pub held_by : Hands → List Held
held_by w = as_list w.held

abbrev pub work_on : Piece → List Held
work_on p = work_of p.claim false ∷ []

-- all that passes have in hand, and what lies on the shelf
abbrev pub all_in_hand : List Hands → List (Option Piece) → List Held
all_in_hand views shelf = all_held held_by work_on views shelf

-- what was fed of a stream
abbrev pub stream_feed : Stream → Feed → StreamFeed
stream_feed A f = f.a
stream_feed B f = f.b

-- a bundle that was fed, as the tally has it
abbrev pub fed_bundle : FedBundle → tally.Fed
fed_bundle b = record { epoch = b.epoch; records = b.records }

-- what was fed, as the tally has it; the rows that are shown have the drained ones too
abbrev pub feed_of : Feed → tally.Feed
feed_of f = record {
  bundles = λ s. map fed_bundle (stream_feed s f).bundles;
  marks = λ s. (stream_feed s f).marks;
  drained = 0;
}

-- the records that were fed of each stream
abbrev pub records_of_feed : Feed → Stream → List Record
records_of_feed f = tally.records_of_feed (feed_of f)
