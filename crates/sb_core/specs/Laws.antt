-- The laws of the engine: what holds of every plan, every moment and every list of events.
use Rattle.std.specs.Prelude.{slice_set, ◌≡◌, Bool, true, false, drop, IsPermutation, ℕ, ◌≤◌, List, [], ◌∷◌, ◌++◌, length, Some}
use Rattle.std.specs.List.{list_any}
use Rattle.sb_containers.specs.base.records.declared.item.Record.{Record}
use Rattle.sb_containers.specs.base.records.declared.item.Stream.{Stream}
use Rattle.sb_containers.specs.base.records.declared.item.Stream.TheVariants.{A, B}
use Rattle.sb_containers.specs.base.pipeline.Shapes.{Shape, source}
use Rattle.sb_core.specs.declared.moment.Moment.{Moment}
use Rattle.sb_core.specs.declared.event.Event.{Event}
use Rattle.sb_core.specs.declared.event.Event.TheVariants.{Arrive, Seal, Take, Deliver, Finish, Begin, Pass, End}
use Rattle.sb_containers.specs.Marks.{first_is_closing, least_begun_mark}
use Rattle.sb_core.specs.Events.{after, run}
pub use Rattle.sb_core.specs.Events.{concerns, place_of}
use Rattle.sb_core.specs.Moments.{is_close, with_held, first, lane_at, node_at, floor_at}
use Rattle.sb_containers.specs.base.records.declared.item.TheConstants.{END_MARK}
use Rattle.sb_core.specs.Exactness.{IsAdmissible, IsExact}
use Rattle.sb_containers.specs.base.pipeline.Plans.{IsPlan}
use Rattle.sb_containers.specs.base.pipeline.Results.{rows_below}
use Rattle.sb_core.specs.Soundness.{IsSound}
use Rattle.sb_core.specs.declared.held.Held.{Held}
use Rattle.sb_core.specs.declared.held.Held.TheVariants.{Work, Close}
use Rattle.sb_core.specs.declared.moment.Node.{Node}
use Rattle.sb_containers.specs.base.pipeline.declared.transform.Down.{Down}
use Rattle.sb_containers.specs.declared.container.CoreLane.{CoreLane}
use Rattle.sb_containers.specs.base.bundle.declared.bundle.TheConstants.{MAX_BUNDLE}

-- what was fed, and what the event feeds
abbrev pub records_fed_after : Event → (Stream → List Record) → Stream → List Record
records_fed_after (Arrive A records) fed A = fed A ++ records
records_fed_after (Arrive A records) fed B = fed B
records_fed_after (Arrive B records) fed A = fed A
records_fed_after (Arrive B records) fed B = fed B ++ records
records_fed_after (Seal stream mark) fed s = fed s
records_fed_after (Take node lane number) fed s = fed s
records_fed_after (Deliver node lane number) fed s = fed s
records_fed_after (Finish node lane number) fed s = fed s
records_fed_after (Begin node lane) fed s = fed s
records_fed_after (Pass node) fed s = fed s
records_fed_after (End node) fed s = fed s

-- what a list of events feeds
abbrev pub records_fed_by : List Event → (Stream → List Record) → Stream → List Record
records_fed_by [] fed = fed
records_fed_by (e ∷ es) fed = records_fed_by es (records_fed_after e fed)

-- what was exact before the events is exact after them, for what was fed with what they feed
abbrev pub KeepsExact : Shape → Moment → Moment → List Event → Type 0
KeepsExact plan old new events =
    (fed : Stream → List Record) → IsExact plan old fed → IsExact plan new (records_fed_by events fed)

-- each single event whose condition holds keeps a moment sound, and whole for what was fed with what the event feeds
abbrev pub EventsKeepSound : Type 0
EventsKeepSound =
    (plan : Shape) → IsPlan plan → (m later : Moment) (event : Event) → after plan m event ≡ Some later → IsSound plan m
    → IsSound plan later × KeepsExact plan m later (event ∷ [])

-- from the first moment every list of events leads to a sound moment that is whole for what was fed
abbrev pub RunsAreSound : Type 0
RunsAreSound =
    (plan : Shape) → IsPlan plan → (bundle : ℕ) → 1 ≤ bundle → bundle ≤ MAX_BUNDLE
    → (events : List Event) (m : Moment) → run plan events (first plan bundle) ≡ Some m
    → IsSound plan m × IsExact plan m (records_fed_by events (λ s. []))

-- the mark up to which the sink has closed
abbrev pub written_to : Shape → Moment → ℕ
written_to plan m = least_begun_mark (node_at m (length plan.steps)).lanes

-- the rows of a sound and whole moment are the plan's below that mark, whatever comes
abbrev pub RowsAreThePlans : Type 0
RowsAreThePlans =
    (plan : Shape) (m : Moment) (fed coming : Stream → List Record)
    → IsSound plan m → IsExact plan m fed → IsAdmissible plan m coming
    → m.rows ≡ rows_below (written_to plan m) plan (λ s. fed s ++ coming s)

-- each stream's lane is sealed with the last mark, and no container is left
pub record IsDone (plan : Shape) (m : Moment) : Type 0 where
  pub sealed : (s : Stream) (d : Down) → source plan s ≡ Some d → floor_at m d ≡ END_MARK
  pub none_left : (d : Down) (lane : CoreLane) → lane_at m d ≡ Some lane → lane.conts ≡ []

-- then the rows are all that the plan gives over what was fed
abbrev pub RowsAreAll : Type 0
RowsAreAll =
    (plan : Shape) → IsPlan plan → (m : Moment) (fed : Stream → List Record)
    → IsSound plan m → IsExact plan m fed → IsDone plan m → m.rows ≡ rows_below END_MARK plan fed

-- the order of what is held does not matter
abbrev pub HeldInAnyOrder : Type 0
HeldInAnyOrder =
    (plan : Shape) (m : Moment) (held : List Held) → IsPermutation m.held held → IsSound plan m
    → IsSound plan (with_held held m) × KeepsExact plan m (with_held held m) []

abbrev pub delivered_now : ℕ → Held → List Held
delivered_now bundle (Work k l epoch floor number records delivered) = Work k l epoch floor number records true ∷ []
delivered_now bundle (Close k l epoch serial floor mark rows passed) =
    Close k l epoch serial floor mark (drop bundle rows) passed ∷ []

abbrev pub passed_now : Held → List Held
passed_now (Work k l epoch floor number records delivered) = []
passed_now (Close k l epoch serial floor mark rows passed) = Close k l epoch serial floor mark rows true ∷ []

-- what becomes of it
abbrev pub remains_of : ℕ → Event → Held → List Held
remains_of bundle (Deliver node lane number) h = delivered_now bundle h
remains_of bundle (Finish node lane number) h = []
remains_of bundle (Pass node) h = passed_now h
remains_of bundle (End node) h = []
remains_of bundle (Arrive stream records) h = []
remains_of bundle (Seal stream mark) h = []
remains_of bundle (Take node lane number) h = []
remains_of bundle (Begin node lane) h = []

-- an event of the Work or Close at the head leaves there what becomes of it
abbrev pub EventsAtTheHead : Type 0
EventsAtTheHead =
    (plan : Shape) → IsPlan plan → (m later : Moment) (event : Event) (h : Held) (rest : List Held)
    → concerns event h ≡ true
    → after plan (with_held (h ∷ rest) m) event ≡ Some later → IsSound plan (with_held (h ∷ rest) m)
    → IsSound plan (with_held (remains_of m.bundle event h ++ rest) later)
    × KeepsExact plan (with_held (h ∷ rest) m) (with_held (remains_of m.bundle event h ++ rest) later) []

-- the other nodes stay as they are
abbrev pub OneNodeChanges : Type 0
OneNodeChanges =
    (plan : Shape) (m later : Moment) (event : Event) → after plan m event ≡ Some later
    → (k : ℕ) × (node : Node) × (place_of plan event ≡ Some k) × (later.nodes ≡ slice_set m.nodes k node)

abbrev pub takes_up : Event → Bool
takes_up (Take node lane number) = true
takes_up (Begin node lane) = true
takes_up (Arrive stream records) = false
takes_up (Seal stream mark) = false
takes_up (Deliver node lane number) = false
takes_up (Finish node lane number) = false
takes_up (Pass node) = false
takes_up (End node) = false

-- a Take and a Begin hold one more, which may stand at the head
abbrev pub NewAtTheHead : Type 0
NewAtTheHead =
    (plan : Shape) → IsPlan plan → (m later : Moment) (event : Event)
    → takes_up event ≡ true → after plan m event ≡ Some later → IsSound plan m
    → (h : Held) × (later.held ≡ m.held ++ h ∷ [])
    × IsSound plan (with_held (h ∷ m.held) later) × KeepsExact plan m (with_held (h ∷ m.held) later) []

-- where no lane of a node is closing, no Close of it is held: so a node's part tells whether a closing may begin
abbrev pub IdleByItsLanes : Type 0
IdleByItsLanes =
    (plan : Shape) (m : Moment) (k : ℕ) → IsSound plan m
    → ((l : ℕ) (lane : CoreLane) → lane_at m (record { node = k; lane = l }) ≡ Some lane
    → first_is_closing lane.conts ≡ false)
    → list_any (is_close k) m.held ≡ false

-- from the first moment, after every list of events: the rows are the plan's below the sink's mark for every
-- continuation, and all of them where each stream is sealed with the last mark and no container is left
abbrev pub RunsGiveTheRows : Type 0
RunsGiveTheRows =
    (plan : Shape) → IsPlan plan → (bundle : ℕ) → 1 ≤ bundle → bundle ≤ MAX_BUNDLE
    → (events : List Event) (m : Moment) → run plan events (first plan bundle) ≡ Some m
    → ((coming : Stream → List Record) → IsAdmissible plan m coming
    → m.rows ≡ rows_below (written_to plan m) plan (λ s. records_fed_by events (λ s. []) s ++ coming s))
    × (IsDone plan m → m.rows ≡ rows_below END_MARK plan (records_fed_by events (λ s. [])))
