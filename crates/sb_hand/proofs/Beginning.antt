-- A closing begins.
use Rattle.std.proofs.Common.{◌≡◌, ℕ, suc, ◌+◌, ◌≤◌, Bool, true, false, not, List, [], ◌∷◌, ◌++◌, length, map, Some, Option, sym, refl, ap, subst, ◌∙◌, arith}
use Rattle.std.specs.Prelude.{◌||◌, Ok}
use Rattle.std.specs.List.{slice_get, slice_set, list_any}
use Rattle.std.proofs.lemmas.List.{map-set}
use Rattle.sb_shown.specs.base.records.declared.item.Record.{Record}
use Rattle.sb_shown.specs.base.records.Reading.{◌>>=◌}
use Rattle.sb_shown.specs.base.records.Records.{sorted_records, before}
use Rattle.sb_shown.specs.base.records.declared.element.KeptRec.{KeptRec}
use Rattle.sb_shown.specs.base.pipeline.Shapes.{Shape}
use Rattle.sb_shown.specs.base.pipeline.Plans.{IsPlan}
use Rattle.sb_shown.specs.base.pipeline.Operators.{Operator, operator_at, lanes_of}
use Rattle.sb_shown.specs.base.pipeline.Operators.Operator.{ParDo, Windowed, Sink}
use Rattle.sb_shown.specs.core.containers.declared.container.Cont.{Cont}
use Rattle.sb_shown.specs.core.containers.declared.container.CoreLane.{CoreLane}
use Rattle.sb_shown.specs.core.declared.moment.Node.{Node}
use Rattle.sb_shown.specs.core.declared.moment.Moment.{Moment}
use Rattle.sb_shown.specs.core.declared.held.Held.{Held}
use Rattle.sb_shown.specs.core.declared.held.Held.TheVariants.{Close}
use Rattle.sb_shown.specs.core.declared.event.Event.TheVariants.{Begin}
use Rattle.sb_shown.specs.core.Bounds.{bound_at}
use Rattle.sb_shown.specs.core.Closings.{kept_at, rows_at, rows_at_sink, is_sink}
use Rattle.sb_shown.specs.core.Events.{after}
use Rattle.sb_shown.specs.core.containers.Lanes.{closable, with_first_closing}
use Rattle.sb_shown.specs.core.containers.Marks.{before_closing, first_is_closing, least_begun_mark}
use Rattle.sb_shown.specs.core.Moments.{set_lane, is_close_of, empty_lane}
use Rattle.sb_shown.specs.core.Parts.{Part, part_after, with_part}
use Rattle.sb_shown.specs.core.Soundness.{IsSound}
use Rattle.sb_shown.proofs.core.sound.AfterSound.{events-keep_sound}
use Rattle.sb_shown.proofs.core.parts.PartsLaw.{parts-are_events}
use Rattle.sb_shown.specs.lane.declared.answers.LaneClose.{LaneClose}
use Rattle.sb_shown.specs.lane.Looks.{look_of}
use Rattle.sb_shown.specs.lane.LaneView.{LaneView, lane_of}
use Rattle.sb_shown.specs.lane.Placed.{conts_of}
use Rattle.sb_shown.specs.node.declared.closing.Closing.{Closing}
use Rattle.sb_shown.specs.node.declared.state.NodeState.{NodeState}
use Rattle.sb_shown.specs.node.declared.kept.Kept.{Kept}
use Rattle.sb_shown.specs.node.Keeping.{IsMadeFor, IsSpent, ShowsKept, closed_mark, output_from, gives}
use Rattle.sb_shown.specs.node.Marking.{mark_for}
use Rattle.sb_hand.specs.Runs.{close_of}
use Rattle.sb_shown.specs.Sets.{HasLane, BeginsAt}
use Rattle.sb_shown.specs.Showing.{ShowsNode, Stands, Reaches, Does, diaries_of}
use Rattle.sb_shown.proofs.Calm.{node_is}
use Rattle.sb_shown.proofs.lane.InTheCore.{MayClose, may-close}
use Rattle.sb_shown.proofs.ClosingMarks.{calm_before, mark_for-is}
use Rattle.sb_shown.proofs.ShowsKept.{StandsFor, groups-at, rows-closes, shows-closes, rows-at}
use Rattle.std.proofs.lemmas.Option.{get_or_from_slice_get}
use Rattle.sb_shown.specs.diary.declared.event.DiaryEvent.{DiaryEvent}
use Rattle.sb_shown.specs.diary.declared.event.DiaryEvent.TheVariants as line
use Rattle.sb_shown.specs.tally.Written.{line_after}
use Rattle.sb_shown.proofs.Single.{chain, passing, there-too, get-map, event-free}
use Rattle.sb_shown.proofs.Steps.{begun_part, lanes_two}

module _ (plan : Shape) (is_plan : IsPlan plan) (bundle : ℕ) (nodes : List NodeState) (rows : List Record) (m : Moment) (s : Stands plan bundle nodes [] rows m) (k l : ℕ) (within : k ≤ length plan.steps) (lane : LaneView) (has : HasLane k l lane nodes) (close : LaneClose) (looks : look_of (conts_of lane.containers) ≡ Ok close) (n : Node) (at_m : slice_get m.nodes k ≡ Some n) where
  pub shown : ShowsNode (operator_at (slice_get plan.steps k)) has.own n
  shown = s.each k has.own n has.there at_m

  pub lane_in : slice_get n.lanes l ≡ Some (lane_of lane)
  lane_in = ap (λ ls. slice_get ls l) shown.lanes ∙ get-map lane_of has.own.lanes.items l lane has.in_it

  in_moment : (i : ℕ) (x : CoreLane) → slice_get n.lanes i ≡ Some x → (slice_get m.nodes k >>= λ y. slice_get y.lanes i) ≡ Some x
  in_moment i x h = ap (λ (o : Option Node). o >>= λ y. slice_get y.lanes i) at_m ∙ h

  pub may : MayClose (lane_of lane) close
  may = may-close (bound_at plan k) (lane_of lane) close (s.sound.lanes (record { node = k; lane = l }) (lane_of lane) (in_moment l (lane_of lane) lane_in)) looks

  -- nothing is held, so no lane is closing
  none : (i : ℕ) (x : CoreLane) → slice_get n.lanes i ≡ Some x → first_is_closing x.conts ≡ false
  none i x h = by_case (first_is_closing x.conts) refl
    where
      by_case : (b : Bool) → first_is_closing x.conts ≡ b → b ≡ false
      by_case true e =
          let z : list_any (is_close_of k i) m.held ≡ true = s.sound.closing_held (record { node = k; lane = i }) x (in_moment i x h) e in
          let w : false ≡ true = sym (ap (list_any (is_close_of k i)) s.held_is) ∙ z in cc
      by_case false e = refl

  none_any : list_any (λ (x : CoreLane). first_is_closing x.conts) n.lanes ≡ false
  none_any = go n.lanes none
    where
      go : (lanes : List CoreLane) → ((i : ℕ) (x : CoreLane) → slice_get lanes i ≡ Some x → first_is_closing x.conts ≡ false) → list_any (λ (x : CoreLane). first_is_closing x.conts) lanes ≡ false
      go [] each = refl
      go (x ∷ lanes) each = (λ i. each 0 x refl i || go lanes (λ j y h. each (suc j) y h) i)

  pub part_is : part_after plan bundle (Begin k l) n ≡ Some (begun_part (operator_at (slice_get plan.steps k)) k l n (lane_of lane) may.first)
  part_is = chain (slice_get n.lanes l) _ (lane_of lane) _ lane_in (chain (closable lane.ended (conts_of lane.containers)) _ may.first _ may.may (passing _ _ _ (ap not none_any) refl))

  pub mark_is : least_begun_mark (slice_set n.lanes l (record (lane_of lane) { conts = with_first_closing (conts_of lane.containers) })) ≡ mark_for l (map lane_of has.own.lanes.items)
  mark_is =
      mark_for-is l n.lanes (lane_of lane) may.first may.rest two lane_in may.conts none ∙ ap (mark_for l) shown.lanes
    where
      two : length n.lanes ≤ 2
      two = let e : length n.lanes ≡ lanes_of (operator_at (slice_get plan.steps k)) = ap (λ (x : Node). length x.lanes) (sym (node_is m k n at_m)) ∙ s.sound.lanes_there k within in omega (arith, e, lanes_two (operator_at (slice_get plan.steps k)))

  pub floor_is : before_closing (map lane_of has.own.lanes.items) ≡ least_begun_mark n.lanes
  floor_is = ap before_closing (sym shown.lanes) ∙ calm_before n.lanes none

  rises_in : (rest : List Held) → IsSound plan (with_part k [] m (begun_part (operator_at (slice_get plan.steps k)) k l n (lane_of lane) may.first)) → least_begun_mark n.lanes ≤ least_begun_mark (slice_set n.lanes l (record (lane_of lane) { conts = with_first_closing (conts_of lane.containers) }))
  rises_in rest still = still.holds.0.rises

  -- the mark does not fall
  pub rises : closed_mark has.own.kept ≤ mark_for l (map lane_of has.own.lanes.items)
  rises =
      let p = begun_part (operator_at (slice_get plan.steps k)) k l n (lane_of lane) may.first in
      let e : after plan m (Begin k l) ≡ Some (with_part k [] m p) = parts-are_events plan m (Begin k l) k n p s.sound refl at_m (ap (λ b. part_after plan b (Begin k l) n) s.bundle_is ∙ part_is) ∙ ap (λ x. Some (with_part k x m p)) s.held_is in
      let still = (events-keep_sound plan is_plan m (with_part k [] m p) (Begin k l) e s.sound).0 in
      let le = rises_in [] still in
      omega (arith, le, mark_is, shown.kept.closed_is)

rows_at-sink : (op : Operator) (floor mark : ℕ) (kept : List KeptRec) → is_sink op ≡ true → rows_at op floor mark kept ≡ []
rows_at-sink (ParDo op) floor mark kept h = cc
rows_at-sink (Windowed g) floor mark kept h = cc
rows_at-sink Sink floor mark kept h = refl

collected-sink : (op : Operator) (floor mark : ℕ) (kept : List KeptRec) → is_sink op ≡ true → rows_at_sink op mark kept ≡ sorted_records (before mark (output_from op floor kept))
collected-sink (ParDo op) floor mark kept h = cc
collected-sink (Windowed g) floor mark kept h = cc
collected-sink Sink floor mark kept h = refl

collected-other : (op : Operator) (mark : ℕ) (kept : List KeptRec) → is_sink op ≡ false → rows_at_sink op mark kept ≡ []
collected-other (ParDo op) mark kept h = refl
collected-other (Windowed g) mark kept h = refl
collected-other Sink mark kept h = cc

module _ (plan : Shape) (is_plan : IsPlan plan) (bundle : ℕ) (c : Closing) (nodes new : List NodeState) (within : c.node ≤ length plan.steps) (lane : LaneView) (close : LaneClose) (looks : look_of (conts_of lane.containers) ≡ Ok close) (of_it : close.epoch ≡ c.epoch)
    (b : BeginsAt c nodes new lane) where
  abbrev has_it : HasLane c.node c.lane lane nodes
  has_it = record { own = b.sets.own; there = b.sets.there; in_it = b.sets.in_it }

  module _ (rows : List Record) (m : Moment) (s : Stands plan bundle nodes [] rows m) (n : Node) (at_m : slice_get m.nodes c.node ≡ Some n) where
    abbrev op : Operator
    op = operator_at (slice_get plan.steps c.node)

    abbrev begun_lane : CoreLane
    begun_lane = record (lane_of lane) { conts = with_first_closing (conts_of lane.containers) }

    abbrev first : Cont
    first = (may plan is_plan bundle nodes rows m s c.node c.lane within lane has_it close looks n at_m).first

    abbrev part : Part
    part = begun_part op c.node c.lane n (lane_of lane) first

    sh : ShowsNode op b.sets.own n
    sh = shown plan is_plan bundle nodes rows m s c.node c.lane within lane has_it close looks n at_m

    floor_path : least_begun_mark n.lanes ≡ c.floor
    floor_path = sym (floor_is plan is_plan bundle nodes rows m s c.node c.lane within lane has_it close looks n at_m) ∙ sym b.floor_is

    floor_now : closed_mark b.was ≡ c.floor
    floor_now = ap closed_mark (sym b.sets.was_so) ∙ sh.kept.closed_is ∙ floor_path

    mark_path : least_begun_mark (slice_set n.lanes c.lane begun_lane) ≡ c.mark
    mark_path = mark_is plan is_plan bundle nodes rows m s c.node c.lane within lane has_it close looks n at_m ∙ sym b.mark_is

    shows0 : StandsFor op c.floor (gives b.was) n.kept
    shows0 = subst (λ x. StandsFor op x (gives b.was) n.kept) floor_now (subst (λ (x : Kept). ShowsKept op x n.kept) b.sets.was_so sh.kept.kept)

    out_is : sorted_records (before c.mark (output_from op c.floor n.kept)) ≡ c.rows.items
    out_is = sym (rows-closes op c.floor c.mark (gives b.was) (gives b.is) n.kept c.rows.items shows0 b.closes)

    epoch_path : first.epoch ≡ c.epoch
    epoch_path = (may plan is_plan bundle nodes rows m s c.node c.lane within lane has_it close looks n at_m).epoch_is ∙ of_it

    serial_path : n.closings ≡ c.serial
    serial_path = sh.closings ∙ sym b.serial_is

    node_shows : IsSound plan (with_part c.node [] m part) → ShowsNode op b.sets.with part.node
    node_shows still =
        let up : c.floor ≤ c.mark = let le = rises_in plan is_plan bundle nodes rows m s c.node c.lane within lane has_it close looks n at_m [] still in omega (arith, le, floor_path, mark_path) in
        let rest : StandsFor op c.mark (gives b.is) (kept_at op c.mark n.kept) = shows-closes op (groups-at plan is_plan c.node) c.floor c.mark (gives b.was) (gives b.is) n.kept c.rows.items up shows0 b.closes in
        record {
          lanes = ap (λ ls. slice_set ls c.lane begun_lane) sh.lanes ∙ ap (slice_set (map lane_of b.sets.own.lanes.items) c.lane) (sym b.lane_is) ∙ sym (map-set lane_of b.sets.own.lanes.items c.lane b.now) ∙ ap (map lane_of) (sym b.sets.lanes);
          closings = ap (λ x. x + 1) sh.closings ∙ sym b.sets.closings;
          kept = record {
            made = subst (λ (x : Kept). IsMadeFor op x) (sym b.sets.kept) (b.made op (subst (λ (x : Kept). IsMadeFor op x) b.sets.was_so sh.kept.made));
            unspent = subst (λ (x : Kept). IsSpent x → ⊥) (sym b.sets.kept) b.unspent;
            closed_is = ap closed_mark b.sets.kept ∙ b.closed ∙ sym mark_path;
            kept = subst (λ z. z) (λ i. ShowsKept op (sym b.sets.kept i) (kept_at op (sym mark_path i) n.kept)) (subst (λ x. StandsFor op x (gives b.is) (kept_at op c.mark n.kept)) (sym b.closed) rest);
          };
        }

    -- what the diary says of it
    line_is : (taken added : List Record) → rows_at op c.floor c.mark n.kept ≡ taken → rows_at_sink op c.mark n.kept ≡ added → length taken + length added ≡ length c.rows.items → line_after plan (Begin c.node c.lane) n ≡ line.Begin c.lane c.epoch c.mark (length c.rows.items)
    line_is taken added taken_is added_is count =
        (λ i. begun (get_or_from_slice_get n.lanes c.lane (lane_of lane) empty_lane lane_there i))
        ∙ (λ i. line.Begin c.lane (oldest_path i) (mark_path i) (length (rows_at op (floor_path i) (mark_path i) n.kept) + length (rows_at_sink op (mark_path i) n.kept)))
        ∙ (λ i. line.Begin c.lane c.epoch c.mark (length (taken_is i) + length (added_is i)))
        ∙ ap (λ n. line.Begin c.lane c.epoch c.mark n) count
      where
        begun : CoreLane → DiaryEvent
        begun x =
            line.Begin c.lane x.ended (least_begun_mark (set_lane c.lane (record x { conts = with_first_closing x.conts }) n).lanes)
            (length (rows_at op (least_begun_mark n.lanes) (least_begun_mark (set_lane c.lane (record x { conts = with_first_closing x.conts }) n).lanes) n.kept) + length (rows_at_sink op (least_begun_mark (set_lane c.lane (record x { conts = with_first_closing x.conts }) n).lanes) n.kept))

        lane_there : slice_get n.lanes c.lane ≡ Some (lane_of lane)
        lane_there = lane_in plan is_plan bundle nodes rows m s c.node c.lane within lane has_it close looks n at_m

        oldest_path : lane.ended ≡ c.epoch
        oldest_path = sym (may plan is_plan bundle nodes rows m s c.node c.lane within lane has_it close looks n at_m).oldest ∙ epoch_path

    pub begins : (taken added : List Record) (passed : Bool) → is_sink op ≡ passed → rows_at op c.floor c.mark n.kept ≡ taken → rows_at_sink op c.mark n.kept ≡ added → length taken + length added ≡ length c.rows.items → Reaches plan bundle (Begin c.node c.lane ∷ []) m (diaries_of nodes) new (close_of c taken passed ∷ []) (rows ++ added)
    begins taken added passed sink taken_is added_is count =
        subst (λ z. z) (λ i. Reaches plan bundle (Begin c.node c.lane ∷ []) m (diaries_of nodes) (sym b.sets.set i) (Close c.node c.lane (epoch_path i) (serial_path i) (floor_path i) (mark_path i) ((ap (λ f. rows_at op f (least_begun_mark (slice_set n.lanes c.lane begun_lane)) n.kept) floor_path ∙ ap (λ x. rows_at op c.floor x n.kept) mark_path ∙ taken_is) i) (sink i) ∷ []) (rows ++ (ap (λ x. rows_at_sink op x n.kept) mark_path ∙ added_is) i))
        (event-free plan is_plan bundle nodes [] rows m s c.node b.sets.own b.sets.with n part b.sets.there at_m (Begin c.node c.lane) (line.Begin c.lane c.epoch c.mark (length c.rows.items)) refl refl (part_is plan is_plan bundle nodes rows m s c.node c.lane within lane has_it close looks n at_m) b.sets.diary (line_is taken added taken_is added_is count) node_shows)

  -- a closing of a transform
  pub begin-does : is_sink (operator_at (slice_get plan.steps c.node)) ≡ false → Does plan bundle (Begin c.node c.lane ∷ []) nodes [] new (close_of c c.rows.items false ∷ []) []
  begin-does other = λ rows m s.
      let found = there-too nodes m.nodes c.node b.sets.own s.count b.sets.there in
      begins rows m s found.0 found.1 c.rows.items [] false other
      (rows-at (operator_at (slice_get plan.steps c.node)) c.floor c.mark found.0.kept other ∙ out_is rows m s found.0 found.1) (collected-other (operator_at (slice_get plan.steps c.node)) c.mark found.0.kept other) (omega arith)

  -- a closing of the sink
  pub begin-sink : is_sink (operator_at (slice_get plan.steps c.node)) ≡ true → Does plan bundle (Begin c.node c.lane ∷ []) nodes [] new (close_of c [] true ∷ []) c.rows.items
  begin-sink sink = λ rows m s.
      let found = there-too nodes m.nodes c.node b.sets.own s.count b.sets.there in
      begins rows m s found.0 found.1 [] c.rows.items true sink
      (rows_at-sink (operator_at (slice_get plan.steps c.node)) c.floor c.mark found.0.kept sink) (collected-sink (operator_at (slice_get plan.steps c.node)) c.floor c.mark found.0.kept sink ∙ out_is rows m s found.0 found.1) (omega arith)
