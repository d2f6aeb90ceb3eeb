-- What a leaving is in the core: an event, or nothing.
use Rattle.std.specs.Prelude.{ℕ, Bool, true, false, List, [], ◌∷◌, ◌++◌, drop, Option, Some}
use Rattle.sb_shown.specs.base.records.Reading.{◌>>=◌}
use Rattle.sb_shown.specs.base.records.declared.item.Record.{Record}
use Rattle.sb_shown.specs.core.declared.event.Event.{Event}
use Rattle.sb_shown.specs.core.declared.event.Event.TheVariants as event
use Rattle.sb_shown.specs.core.declared.held.Held.{Held}
use Rattle.sb_shown.specs.core.declared.held.Held.TheVariants.{Work, Close}
use Rattle.sb_shown.specs.core.declared.moment.Node.{Node}
use Rattle.sb_shown.specs.core.Parts.{Part, only_node, part_after, held_after}
use Rattle.sb_shown.specs.diary.declared.event.DiaryEvent.{DiaryEvent}
use Rattle.sb_shown.specs.tally.Written.{line_after, held_line}
use Rattle.sb_shown.specs.node.declared.closing.Closing.{Closing}
use Rattle.sb_shown.specs.work.declared.claim.Claim.{Claim}
use Rattle.sb_shared.specs.declared.telling.Change.{Change}
use Rattle.sb_shared.specs.declared.telling.Change.TheVariants.{Arrive, Seal, Take, Deliver, Finish, Begin, Rows, Pass}
use Rattle.sb_shared.specs.declared.telling.Change.TheVariants.{End}
use Rattle.sb_shared.specs.declared.telling.Change.TheVariants.{Idle, NotYet, Full, Drain, Spent, Nothing}
use Rattle.sb_shared.specs.declared.telling.Setting.{Setting}

-- the bundle in hand, as the core has it
abbrev pub work_of : Claim → Bool → Held
work_of c delivered = Work c.node c.lane c.bundle.epoch c.bundle.floor c.bundle.number c.bundle.records delivered

-- the closing in hand, with these rows left
abbrev pub close_of : Closing → List Record → Bool → Held
close_of c rows passed = Close c.node c.lane c.epoch c.serial c.floor c.mark rows passed

-- nothing; an event that concerns nothing in hand; an event of this Work or Close
pub data Doing : Type 0 where
  Quiet : Doing
  Fresh : (e : Event) → Doing
  Of : (e : Event) (h : Held) → Doing

-- of a leaving of node k
abbrev pub doing_of : ℕ → Change → Doing
doing_of k (Arrive stream records) = Fresh (event.Arrive stream records.value)
doing_of k (Seal stream mark) = Fresh (event.Seal stream mark)
doing_of k (Take c link) = Fresh (event.Take k c.value.lane c.value.bundle.number)
doing_of k (Deliver c place) =
    Of (event.Deliver c.value.node c.value.lane c.value.bundle.number) (work_of c.value false)
doing_of k (Finish c delivered) =
    Of (event.Finish c.value.node c.value.lane c.value.bundle.number) (work_of c.value delivered)
doing_of k (Begin c passed) = Fresh (event.Begin k c.value.lane)
doing_of k (Rows c first most place) =
    Of (event.Deliver c.value.node c.value.lane 0) (close_of c.value (drop first c.value.rows.items) false)
doing_of k (Pass c) = Of (event.Pass c.value.node) (close_of c.value [] false)
doing_of k (End c) = Of (event.End c.value.node) (close_of c.value [] true)
doing_of k Idle = Quiet
doing_of k (NotYet why) = Quiet
doing_of k (Full lane) = Quiet
doing_of k (Drain rows) = Quiet
doing_of k Spent = Quiet
doing_of k Nothing = Quiet

abbrev pub is_done : Doing → Bool
is_done Quiet = false
is_done (Fresh e) = true
is_done (Of e h) = true

-- whether the change is an event
abbrev pub is_event : Change → Bool
is_event c = is_done (doing_of 0 c)

-- what a leaving makes of its node's part, if its condition holds
abbrev pub part_by : Setting → Doing → Node → Option Part
part_by a Quiet node = Some (only_node [] node)
part_by a (Fresh e) node = part_after a.plan a.bundle e node
part_by a (Of e h) node = held_after a.plan a.bundle e h node

-- the line that it adds to the node's diary
abbrev pub lines_by : Setting → Doing → Node → List DiaryEvent
lines_by a Quiet node = []
lines_by a (Fresh e) node = line_after a.plan e node ∷ []
lines_by a (Of e h) node = held_line a.plan a.bundle e h node ∷ []

-- a node's part, and the lines of its diary
pub record Story : Type 0 where
  pub node : Node
  pub lines : List DiaryEvent

-- what the leavings of node k make of both, if the condition of each holds
abbrev pub replay : Setting → ℕ → List Change → Story → Option Story
replay a k [] s = Some s
replay a k (c ∷ cs) s =
    part_by a (doing_of k c) s.node >>= λ p.
    replay a k cs (record { node = p.node; lines = s.lines ++ lines_by a (doing_of k c) s.node })

-- the rows that the feeder drains by a leaving
abbrev pub drained_rows : Change → List Record
drained_rows (Drain rows) = rows.value
drained_rows (Arrive stream records) = []
drained_rows (Seal stream mark) = []
drained_rows (Take c link) = []
drained_rows (Deliver c place) = []
drained_rows (Finish c delivered) = []
drained_rows (Begin c passed) = []
drained_rows (Rows c first most place) = []
drained_rows (Pass c) = []
drained_rows (End c) = []
drained_rows Idle = []
drained_rows (NotYet why) = []
drained_rows (Full lane) = []
drained_rows Spent = []
drained_rows Nothing = []
