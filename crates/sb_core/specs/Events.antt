-- The events: what each does to the part of one node, and None where its condition fails; and so to the moment.
use Rattle.std.specs.Prelude.{ℕ, ◌+◌, ◌^◌, ◌-◌, ◌==◌, nat_lt, nat_le, Bool, true, false, not, ◌&&◌, ◌||◌, if◌then◌else◌, List, [], ◌∷◌, ◌++◌, length, take, drop, Option, Some, None, slice_get, slice_set}
use Rattle.std.specs.List.{list_any, list_all}
use Rattle.sb_containers.specs.base.records.declared.item.Record.{Record}
use Rattle.sb_containers.specs.base.records.declared.item.TheConstants.{MAX_TIME, END_MARK}
use Rattle.sb_containers.specs.base.records.Reading.{◌>>=◌}
use Rattle.sb_containers.specs.base.records.Elements.{on_lane}
use Rattle.sb_containers.specs.base.pipeline.declared.transform.Down.{Down}
use Rattle.sb_containers.specs.base.pipeline.Shapes.{Shape, source}
use Rattle.sb_containers.specs.base.pipeline.Operators.{operator_at}
use Rattle.sb_core.specs.declared.moment.Node.{Node}
use Rattle.sb_core.specs.declared.moment.Moment.{Moment}
use Rattle.sb_core.specs.declared.held.Held.{Held}
use Rattle.sb_core.specs.declared.held.Held.TheVariants.{Work, Close}
use Rattle.sb_core.specs.declared.event.Event.{Event}
use Rattle.sb_core.specs.declared.event.Event.TheVariants.{Arrive, Seal, Take, Deliver, Finish, Begin, Pass, End}
use Rattle.sb_containers.specs.Choices.{only_if, is_empty, first_and_rest}
use Rattle.sb_containers.specs.Lanes.{next_epoch, next_floor, with_arrival, with_seal, take_from, finish_in, closable, with_first_closing}
use Rattle.sb_containers.specs.Marks.{first_is_closing, least_begun_mark}
use Rattle.sb_core.specs.Moments.{set_lane, is_work, is_close, is_close_of}
use Rattle.sb_core.specs.Closings.{delivery, kept_elements, kept_at, rows_at, rows_at_sink, is_sink}

-- the place below a node
abbrev pub below : Shape → ℕ → Option Down
below plan k = slice_get plan.steps k >>= λ s. Some s.down

-- the node whose part an event changes
abbrev pub place_of : Shape → Event → Option ℕ
place_of plan (Arrive stream records) = source plan stream >>= λ d. Some d.node
place_of plan (Seal stream mark) = source plan stream >>= λ d. Some d.node
place_of plan (Take node lane number) = Some node
place_of plan (Deliver node lane number) = below plan node >>= λ d. Some d.node
place_of plan (Finish node lane number) = Some node
place_of plan (Begin node lane) = Some node
place_of plan (Pass node) = below plan node >>= λ d. Some d.node
place_of plan (End node) = Some node

-- whether the event is of this Work or Close
abbrev pub concerns : Event → Held → Bool
concerns (Deliver node lane number) h = if number == 0 then is_close_of node lane h else is_work node lane number h
concerns (Finish node lane number) h = is_work node lane number h
concerns (Pass node) h = is_close node h
concerns (End node) h = is_close node h
concerns (Arrive stream records) h = false
concerns (Seal stream mark) h = false
concerns (Take node lane number) h = false
concerns (Begin node lane) h = false

-- whether it is of a Work or a Close at all
abbrev pub is_of_held : Event → Bool
is_of_held (Deliver node lane number) = true
is_of_held (Finish node lane number) = true
is_of_held (Pass node) = true
is_of_held (End node) = true
is_of_held (Arrive stream records) = false
is_of_held (Seal stream mark) = false
is_of_held (Take node lane number) = false
is_of_held (Begin node lane) = false

-- the node after, what is held in place of the Work or Close, and the rows that are added
pub record Part : Type 0 where
  pub node : Node
  pub held : List Held
  pub rows : List Record

abbrev pub only_node : List Held → Node → Part
only_node held node = record { node = node; held = held; rows = [] }

-- a bundle comes into a lane of the node
abbrev pub put_in : ℕ → ℕ → ℕ → List Record → List Held → Node → Option Part
put_in l epoch floor records held node =
    slice_get node.lanes l >>= λ lane.
    only_if (nat_lt lane.arrived (2 ^ 64 - 1))
    (Some (only_node held (set_lane l (with_arrival epoch floor records lane) node)))

-- of an event that concerns nothing held
abbrev pub part_after : Shape → ℕ → Event → Node → Option Part
part_after plan bundle (Arrive stream records) node =
    source plan stream >>= λ d.
    slice_get node.lanes d.lane >>= λ lane.
    only_if (not (is_empty records) && (nat_le (length records) bundle
    && list_all (λ r. nat_le (next_floor lane) r.time && nat_le r.time MAX_TIME) records))
    (put_in d.lane (next_epoch lane) (next_floor lane) records [] node)
part_after plan bundle (Seal stream mark) node =
    source plan stream >>= λ d.
    slice_get node.lanes d.lane >>= λ lane.
    only_if (nat_le mark END_MARK && nat_le (next_floor lane) mark)
    (Some (only_node [] (set_lane d.lane (with_seal mark lane) node)))
part_after plan bundle (Take k l number) node =
    slice_get node.lanes l >>= λ lane.
    take_from number lane.conts >>= λ q.
    Some (only_node (Work k l q.0.epoch q.0.floor number q.0.records false ∷ [])
    (set_lane l (record lane { conts = q.1 }) node))
part_after plan bundle (Begin k l) node =
    slice_get node.lanes l >>= λ lane.
    closable lane.ended lane.conts >>= λ c.
    let d = operator_at (slice_get plan.steps k) in
    let begun_node = set_lane l (record lane { conts = with_first_closing lane.conts }) node in
    let floor = least_begun_mark node.lanes in
    let mark = least_begun_mark begun_node.lanes in
    only_if (not (list_any (λ lane. first_is_closing lane.conts) node.lanes))
    (Some (record {
      node = record begun_node { kept = kept_at d mark node.kept; closings = node.closings + 1 };
      held = Close k l c.epoch node.closings floor mark (rows_at d floor mark node.kept) (is_sink d) ∷ [];
      rows = rows_at_sink d mark node.kept;
    }))
part_after plan bundle (Deliver k l number) node = None
part_after plan bundle (Finish k l number) node = None
part_after plan bundle (Pass k) node = None
part_after plan bundle (End k) node = None

-- of an event that concerns this Work or Close
abbrev pub held_after : Shape → ℕ → Event → Held → Node → Option Part
held_after plan bundle (Deliver k i n) (Close y l epoch serial floor mark rows passed) node =
    below plan y >>= λ d.
    only_if (not (is_empty rows))
    (put_in d.lane serial floor (take bundle rows)
    (Close y l epoch serial floor mark (drop bundle rows) passed ∷ []) node)
held_after plan bundle (Deliver k i n) (Work y l epoch floor number records delivered) node =
    below plan y >>= λ d.
    let images = delivery (operator_at (slice_get plan.steps y)) records in
    only_if (not delivered && not (is_empty images))
    (put_in d.lane epoch floor images (Work y l epoch floor number records true ∷ []) node)
held_after plan bundle (Finish k i n) (Work y l epoch floor number records delivered) node =
    slice_get node.lanes l >>= λ lane.
    let d = operator_at (slice_get plan.steps y) in
    only_if (delivered || is_empty (delivery d records))
    (Some (only_node [] (record (set_lane l (record lane { conts = finish_in epoch number lane.conts }) node) {
      kept = node.kept ++ kept_elements d (on_lane l records);
    })))
held_after plan bundle (Pass k) (Close y l epoch serial floor mark rows passed) node =
    below plan y >>= λ d.
    slice_get node.lanes d.lane >>= λ under.
    only_if (not passed && is_empty rows)
    (Some (only_node (Close y l epoch serial floor mark rows true ∷ []) (set_lane d.lane (with_seal mark under) node)))
held_after plan bundle (End k) (Close y l epoch serial floor mark rows passed) node =
    slice_get node.lanes l >>= λ lane.
    only_if passed
    (Some (only_node [] (set_lane l (record lane { conts = drop 1 lane.conts; ended = lane.ended + 1 }) node)))
held_after plan bundle event h node = None

-- the moment with the part of node k another
abbrev pub with_part : ℕ → List Held → Moment → Part → Moment
with_part k rest m p =
    record m { nodes = slice_set m.nodes k p.node; held = rest ++ p.held; rows = m.rows ++ p.rows }

-- the moment after an event of nothing held, by the part of node k
abbrev pub moment_after : Shape → Moment → Event → ℕ → Node → Option Moment
moment_after plan m event k node = part_after plan m.bundle event node >>= λ p. Some (with_part k m.held m p)

-- and after an event of a Work or a Close, the first held that it is of
abbrev pub held_moment_after : Shape → Moment → Event → ℕ → Node → Option Moment
held_moment_after plan m event k node =
    first_and_rest (concerns event) m.held >>= λ q.
    held_after plan m.bundle event q.0 node >>= λ p.
    Some (with_part k q.1 m p)

-- the moment after an event, by the part of its node
abbrev pub after : Shape → Moment → Event → Option Moment
after plan m event =
    place_of plan event >>= λ k.
    slice_get m.nodes k >>= λ node.
    if is_of_held event then held_moment_after plan m event k node else moment_after plan m event k node

-- the moment after a list of events
abbrev pub run : Shape → List Event → Moment → Option Moment
run plan [] m = Some m
run plan (e ∷ es) m = after plan m e >>= run plan es
