-- What the code makes of the whole moment at each event: it is proved to be the moment after the event.
use Rattle.std.specs.Prelude.{ℕ, ◌+◌, ◌==◌, nat_le, true, false, not, ◌&&◌, ◌||◌, if◌then◌else◌, List, [], ◌∷◌, ◌++◌, length, take, drop, Option, Some, None, slice_get, slice_set}
use Rattle.std.specs.List.{list_any, list_all}
use Rattle.sb_containers.specs.base.records.declared.item.Record.{Record}
use Rattle.sb_containers.specs.base.records.declared.item.Stream.{Stream}
use Rattle.sb_containers.specs.base.records.declared.item.TheConstants.{MAX_TIME, END_MARK}
use Rattle.sb_containers.specs.base.records.Reading.{◌>>=◌}
use Rattle.sb_containers.specs.base.records.Elements.{on_lane}
use Rattle.sb_containers.specs.base.pipeline.declared.transform.Down.{Down}
use Rattle.sb_containers.specs.base.pipeline.Shapes.{Shape, source}
use Rattle.sb_containers.specs.base.pipeline.Operators.{operator_at}
use Rattle.sb_core.specs.declared.moment.Moment.{Moment}
use Rattle.sb_core.specs.declared.held.Held.{Held}
use Rattle.sb_core.specs.declared.held.Held.TheVariants.{Work, Close}
use Rattle.sb_core.specs.declared.event.Event.{Event}
use Rattle.sb_core.specs.declared.event.Event.TheVariants.{Arrive, Seal, Take, Deliver, Finish, Begin, Pass, End}
use Rattle.sb_containers.specs.Choices.{only_if, is_empty, first_and_rest}
use Rattle.sb_containers.specs.Lanes.{next_epoch, next_floor, with_seal, take_from, finish_in, closable, with_first_closing}
use Rattle.sb_containers.specs.Marks.{least_begun_mark}
use Rattle.sb_core.specs.Moments.{lane_at, set_lane, set_node, with_lane, with_held, is_work, is_close, is_close_of}
use Rattle.sb_core.specs.Closings.{delivery, kept_elements, kept_at, rows_at, rows_at_sink, is_sink}
use Rattle.sb_core.specs.Events.{below}
use Rattle.sb_core.specs.LaneSteps.{arrived_at}

abbrev pub after_arrive : Shape → Moment → Stream → List Record → Option Moment
after_arrive plan m stream records =
    source plan stream >>= λ d.
    lane_at m d >>= λ lane.
    only_if (not (is_empty records) && (nat_le (length records) m.bundle
    && list_all (λ r. nat_le (next_floor lane) r.time && nat_le r.time MAX_TIME) records))
    (arrived_at d (next_epoch lane) (next_floor lane) records m)

abbrev pub after_seal : Shape → Moment → Stream → ℕ → Option Moment
after_seal plan m stream mark =
    source plan stream >>= λ d.
    lane_at m d >>= λ lane.
    only_if (nat_le mark END_MARK && nat_le (next_floor lane) mark) (with_lane d (with_seal mark lane) m)

abbrev pub after_take : Moment → Down → ℕ → Option Moment
after_take m d number =
    lane_at m d >>= λ lane.
    take_from number lane.conts >>= λ q.
    with_lane d (record lane { conts = q.1 })
    (with_held (m.held ++ Work d.node d.lane q.0.epoch q.0.floor number q.0.records false ∷ []) m)

-- a Work is delivered
abbrev pub deliver_work : Shape → Moment → Held → List Held → Option Moment
deliver_work plan m (Close node lane epoch serial floor mark rows passed) others = None
deliver_work plan m (Work node lane epoch floor number records delivered) others =
    below plan node >>= λ d.
    let images = delivery (operator_at (slice_get plan.steps node)) records in
    only_if (not delivered && not (is_empty images))
    (arrived_at d epoch floor images (with_held (others ++ Work node lane epoch floor number records true ∷ []) m))

-- the next rows of a Close are delivered
abbrev pub deliver_rows : Shape → Moment → Held → List Held → Option Moment
deliver_rows plan m (Work node lane epoch floor number records delivered) others = None
deliver_rows plan m (Close node lane epoch serial floor mark rows passed) others =
    below plan node >>= λ d.
    only_if (not (is_empty rows))
    (arrived_at d serial floor (take m.bundle rows)
    (with_held (others ++ Close node lane epoch serial floor mark (drop m.bundle rows) passed ∷ []) m))

abbrev pub after_finish : Shape → Moment → Held → List Held → Option Moment
after_finish plan m (Close node lane epoch serial floor mark rows passed) others = None
after_finish plan m (Work k l epoch floor number records delivered) others =
    slice_get m.nodes k >>= λ node.
    slice_get node.lanes l >>= λ lane.
    let d = operator_at (slice_get plan.steps k) in
    only_if (delivered || is_empty (delivery d records))
    (Some (with_held others (set_node k
    (record (set_lane l (record lane { conts = finish_in epoch number lane.conts }) node) {
      kept = node.kept ++ kept_elements d (on_lane l records);
    }) m)))

-- a closing begins
abbrev pub after_begin : Shape → Moment → ℕ → ℕ → Option Moment
after_begin plan m k l =
    slice_get m.nodes k >>= λ node.
    slice_get node.lanes l >>= λ lane.
    closable lane.ended lane.conts >>= λ c.
    let d = operator_at (slice_get plan.steps k) in
    let begun_node = set_lane l (record lane { conts = with_first_closing lane.conts }) node in
    let floor = least_begun_mark node.lanes in
    let mark = least_begun_mark begun_node.lanes in
    only_if (not (list_any (is_close k) m.held))
    (Some (record m {
      nodes = slice_set m.nodes k (record begun_node { kept = kept_at d mark node.kept; closings = node.closings + 1 });
      held = m.held ++ Close k l c.epoch node.closings floor mark (rows_at d floor mark node.kept) (is_sink d) ∷ [];
      rows = m.rows ++ rows_at_sink d mark node.kept;
    }))

-- a mark is passed
abbrev pub after_pass : Shape → Moment → Held → List Held → Option Moment
after_pass plan m (Work node lane epoch floor number records delivered) others = None
after_pass plan m (Close node lane epoch serial floor mark rows passed) others =
    below plan node >>= λ d.
    lane_at m d >>= λ under.
    only_if (not passed && is_empty rows)
    (with_lane d (with_seal mark under)
    (with_held (others ++ Close node lane epoch serial floor mark rows true ∷ []) m))

abbrev pub after_end : Moment → Held → List Held → Option Moment
after_end m (Work node lane epoch floor number records delivered) others = None
after_end m (Close k l epoch serial floor mark rows passed) others =
    lane_at m (record { node = k; lane = l }) >>= λ lane.
    only_if passed
    (with_lane (record { node = k; lane = l }) (record lane { conts = drop 1 lane.conts; ended = lane.ended + 1 })
    (with_held others m))

-- the output of a bundle is put below
abbrev pub bundle_delivered : Shape → Moment → ℕ → ℕ → ℕ → Option Moment
bundle_delivered plan m node lane number =
    first_and_rest (is_work node lane number) m.held >>= λ q. deliver_work plan m q.0 q.1

-- a bundle is finished
abbrev pub bundle_finished : Shape → Moment → ℕ → ℕ → ℕ → Option Moment
bundle_finished plan m node lane number =
    first_and_rest (is_work node lane number) m.held >>= λ q. after_finish plan m q.0 q.1

-- the next rows of a closing are put below
abbrev pub rows_delivered : Shape → Moment → ℕ → ℕ → Option Moment
rows_delivered plan m node lane = first_and_rest (is_close_of node lane) m.held >>= λ q. deliver_rows plan m q.0 q.1

-- the mark of a closing is passed
abbrev pub mark_passed : Shape → Moment → ℕ → Option Moment
mark_passed plan m node = first_and_rest (is_close node) m.held >>= λ q. after_pass plan m q.0 q.1

-- a closing is ended
abbrev pub closing_ended : Moment → ℕ → Option Moment
closing_ended m node = first_and_rest (is_close node) m.held >>= λ q. after_end m q.0 q.1

-- the moment that the code makes of an event, and None where it refuses
abbrev pub made : Shape → Moment → Event → Option Moment
made plan m (Arrive stream records) = after_arrive plan m stream records
made plan m (Seal stream mark) = after_seal plan m stream mark
made plan m (Take node lane number) = after_take m (record { node = node; lane = lane }) number
made plan m (Deliver node lane number) =
    if number == 0 then rows_delivered plan m node lane else bundle_delivered plan m node lane number
made plan m (Finish node lane number) = bundle_finished plan m node lane number
made plan m (Begin node lane) = after_begin plan m node lane
made plan m (Pass node) = mark_passed plan m node
made plan m (End node) = closing_ended m node
