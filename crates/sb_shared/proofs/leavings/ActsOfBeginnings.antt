-- A leaving with which a closing begins.
use Rattle.std.proofs.Common.{◌≡◌, ℕ, ◌+◌, ◌≤◌, Bool, true, false, cond, List, [], ◌∷◌, ◌++◌, length, map, sym, refl, ap, subst, ◌∙◌, arith, inl}
use Rattle.std.specs.List.{slice_get, slice_set}
use Rattle.std.specs.declared.snapshot.Snapshot.{Snapshot}
use Rattle.std.proofs.lemmas.Bool.{ne_eqb}
use Rattle.std.proofs.lemmas.Option.{get_or_from_slice_get}
use Rattle.sb_shown.specs.base.records.declared.item.Record.{Record}
use Rattle.sb_shown.specs.base.records.declared.element.KeptRec.{KeptRec}
use Rattle.sb_shown.specs.base.records.Records.{sorted_records, before}
use Rattle.sb_shown.specs.base.window.Groupings.{Closes}
use Rattle.sb_shown.specs.base.pipeline.Operators.{Operator}
use Rattle.sb_shown.specs.base.pipeline.Operators.Operator.{ParDo, Windowed, Sink}
use Rattle.sb_shown.specs.core.declared.event.Event.TheVariants as event
use Rattle.sb_shown.specs.core.declared.held.Held.TheVariants.{Close}
use Rattle.sb_shown.specs.core.containers.declared.container.CoreLane.{CoreLane}
use Rattle.sb_shown.specs.core.declared.moment.Node.{Node}
use Rattle.sb_shown.specs.core.Closings.{kept_at, rows_at, rows_at_sink, is_sink}
use Rattle.sb_shown.specs.core.containers.Lanes.{with_first_closing}
use Rattle.sb_shown.specs.core.containers.Marks.{before_closing, least_begun_mark}
use Rattle.sb_shown.specs.core.Moments.{empty_lane, set_lane}
use Rattle.sb_shown.specs.core.Parts.{Part}
use Rattle.sb_shown.specs.diary.declared.event.DiaryEvent.{DiaryEvent}
use Rattle.sb_shown.specs.diary.declared.event.DiaryEvent.TheVariants as line
use Rattle.sb_shown.specs.lane.LaneView.{LaneView, lane_of}
use Rattle.sb_shown.specs.lane.Placed.{conts_of}
use Rattle.sb_shown.specs.node.Keeping.{IsMadeFor, IsSpent, ShowsKept, closed_mark, output_from, gives}
use Rattle.sb_shown.specs.node.Changes.{HasLane}
use Rattle.sb_shown.specs.node.Marking.{mark_for}
use Rattle.sb_shown.specs.node.declared.closing.Closing.{Closing}
use Rattle.sb_shown.specs.node.declared.state.NodeState.{NodeState}
use Rattle.sb_shown.specs.tally.Written.{line_after}
use Rattle.sb_shown.specs.Showing.{IsKept}
use Rattle.sb_shown.proofs.ShowsKept.{StandsFor, groups-at, rows-closes, shows-closes}
use Rattle.sb_shared.specs.declared.telling.Change.TheVariants.{Begin}
use Rattle.sb_shared.specs.declared.telling.Hands.{Hands}
use Rattle.sb_shared.specs.declared.telling.Setting.{Setting}
use Rattle.sb_shared.specs.Found.{IsFound}
use Rattle.sb_shared.specs.Leavings.{DoesPart}
use Rattle.sb_shared.specs.SharedNodes.{BeginsAt, SharedView}
use Rattle.sb_shared.specs.Shown.{ShowsPart, operator_of}
use Rattle.sb_shared.specs.Views.{after, held_by}
use Rattle.sb_shared.proofs.leavings.Acts.{Acts}
use Rattle.sb_shared.proofs.entered.Begun as at
use Rattle.sb_shared.proofs.entered.FoundLanes.{lane_in_part, sink_here}
use Rattle.sb_shared.proofs.links.SetLanes.{lanes_set, limits_set}

-- the rows that a closing has, and those that go to the sink
rows_at-if : (op : Operator) (floor mark : ℕ) (kept : List KeptRec) → rows_at op floor mark kept ≡ cond (is_sink op) [] (sorted_records (before mark (output_from op floor kept)))
rows_at-if (ParDo op) floor mark kept = refl
rows_at-if (Windowed g) floor mark kept = refl
rows_at-if Sink floor mark kept = refl

collected-if : (op : Operator) (floor mark : ℕ) (kept : List KeptRec) → rows_at_sink op mark kept ≡ cond (is_sink op) (sorted_records (before mark (output_from op floor kept))) []
collected-if (ParDo op) floor mark kept = refl
collected-if (Windowed g) floor mark kept = refl
collected-if Sink floor mark kept = refl

-- they are all of them
all_of : (sink : Bool) (rows : List Record) → length (cond sink [] rows) + length (cond sink rows []) ≡ length rows
all_of true rows = omega arith
all_of false rows = omega arith

module _ (a : Setting) (w : Hands) (seen : ℕ) (x y : SharedView) (t : Snapshot Closing) (b : BeginsAt (is_sink (operator_of a t.value.node)) t.value x y) (free : held_by w ≡ []) (f : IsFound a w t.value.node x) where
  abbrev c : Closing
  c = t.value

  abbrev op : Operator
  op = operator_of a c.node

  abbrev n : Node
  n = f.part

  -- the rest is as it was when the closing starts
  mid_lanes : b.mid.lanes.items ≡ x.own.lanes.items
  mid_lanes = ap (λ (z : NodeState). z.lanes.items) b.closes.set

  has : HasLane c.lane b.lane x.own
  has = ap (λ ls. slice_get ls c.lane) (sym mid_lanes) ∙ b.starts.sets.in_it

  abbrev begun_lane : CoreLane
  begun_lane = record (lane_of b.lane) { conts = with_first_closing (conts_of b.lane.containers) }

  abbrev begun : Part
  begun = at.begun a w c.node x f c.lane b.lane has b.close b.looks b.none

  floor_path : least_begun_mark n.lanes ≡ c.floor
  floor_path =
      sym (at.floor_is a w c.node x f c.lane b.lane has b.close b.looks b.none)
      ∙ ap (λ (ls : List LaneView). before_closing (map lane_of ls)) (sym mid_lanes) ∙ sym b.starts.floor_is

  mark_same : mark_for c.lane (map lane_of x.own.lanes.items) ≡ c.mark
  mark_same = ap (λ (ls : List LaneView). mark_for c.lane (map lane_of ls)) (sym mid_lanes) ∙ sym b.starts.mark_is

  mark_path : least_begun_mark (slice_set n.lanes c.lane begun_lane) ≡ c.mark
  mark_path = at.mark_is a w c.node x f c.lane b.lane has b.close b.looks b.none ∙ mark_same

  serial_path : n.closings ≡ c.serial
  serial_path = f.shown.closings ∙ ap (λ (z : NodeState). z.closings) (sym b.closes.set) ∙ sym b.starts.serial_is

  epoch_path : (at.may a w c.node x f c.lane b.lane has b.close b.looks b.none).first.epoch ≡ c.epoch
  epoch_path = (at.may a w c.node x f c.lane b.lane has b.close b.looks b.none).epoch_is ∙ b.epoch_is

  -- what was kept stood for the elements of the part, and its rows are those of the core
  was_kept : IsKept op x.own.kept n
  was_kept = f.shown.kept b.was

  stood : StandsFor op c.floor (gives x.own.kept) n.kept
  stood = subst (λ z. StandsFor op z (gives x.own.kept) n.kept) (was_kept.closed_is ∙ floor_path) was_kept.kept

  closes : Closes c.mark (gives x.own.kept) b.rows (gives b.mid.kept)
  closes = subst (λ z. Closes z (gives x.own.kept) b.rows (gives b.mid.kept)) mark_same b.closes.closes

  rows_are : sorted_records (before c.mark (output_from op c.floor n.kept)) ≡ b.rows
  rows_are = sym (rows-closes op c.floor c.mark (gives x.own.kept) (gives b.mid.kept) n.kept b.rows stood closes)

  due : rows_at op (least_begun_mark n.lanes) (least_begun_mark (slice_set n.lanes c.lane begun_lane)) n.kept ≡ cond (is_sink op) [] b.rows
  due = (λ i. rows_at op (floor_path i) (mark_path i) n.kept) ∙ rows_at-if op c.floor c.mark n.kept ∙ ap (cond (is_sink op) []) rows_are

  to_tray : rows_at_sink op (least_begun_mark (slice_set n.lanes c.lane begun_lane)) n.kept ≡ cond (is_sink op) b.rows []
  to_tray = ap (λ m. rows_at_sink op m n.kept) mark_path ∙ collected-if op c.floor c.mark n.kept ∙ ap (λ r. cond (is_sink op) r []) rows_are

  -- what stays
  climbs : c.floor ≤ c.mark
  climbs = let le = at.climbs a w c.node x f c.lane b.lane has b.close b.looks b.none in omega (arith, le, floor_path, mark_path)

  stands : StandsFor op c.mark (gives b.mid.kept) (kept_at op c.mark n.kept)
  stands = shows-closes op (groups-at a.plan f.plan c.node) c.floor c.mark (gives x.own.kept) (gives b.mid.kept) n.kept b.rows climbs stood closes

  is_kept : IsKept op y.own.kept begun.node
  is_kept = record {
    made = subst (λ z. IsMadeFor op z) (sym b.starts.kept) (b.closes.made op was_kept.made);
    unspent = subst (λ z. IsSpent z → ⊥) (sym b.starts.kept) b.closes.unspent;
    closed_is = ap closed_mark b.starts.kept ∙ b.closes.closed ∙ mark_same ∙ sym mark_path;
    kept = subst (λ z. z) (λ i. ShowsKept op (sym b.starts.kept i) (kept_at op (sym mark_path i) n.kept))
        (subst (λ z. StandsFor op z (gives b.mid.kept) (kept_at op c.mark n.kept)) (sym (b.closes.closed ∙ mark_same)) stands);
  }

  shows : ShowsPart op y begun.node
  shows = record {
    lanes = lanes_set n.lanes x.own.lanes.items y.own.lanes.items c.lane b.starts.now begun_lane f.shown.lanes (b.starts.sets.lanes ∙ ap (λ ls. slice_set ls c.lane b.starts.now) mid_lanes) b.starts.is;
    closings = ap (λ z. z + 1) (f.shown.closings ∙ ap (λ (z : NodeState). z.closings) (sym b.closes.set)) ∙ sym b.starts.closings;
    kept = λ _. is_kept;
  }

  -- the line of its diary
  line_is : line_after a.plan (event.Begin c.node c.lane) n ≡ line.Begin c.lane c.epoch c.mark (length b.rows)
  line_is =
      ap told (get_or_from_slice_get n.lanes c.lane (lane_of b.lane) empty_lane (lane_in_part a w c.node x f c.lane b.lane has))
      ∙ (λ i. line.Begin c.lane (oldest_path i) (mark_path i) (length (due i) + length (to_tray i)))
      ∙ ap (line.Begin c.lane c.epoch c.mark) (all_of (is_sink op) b.rows)
    where
      told : CoreLane → DiaryEvent
      told z =
          line.Begin c.lane z.ended (least_begun_mark (set_lane c.lane (record z { conts = with_first_closing z.conts }) n).lanes)
          (length (rows_at op (least_begun_mark n.lanes) (least_begun_mark (set_lane c.lane (record z { conts = with_first_closing z.conts }) n).lanes) n.kept) + length (rows_at_sink op (least_begun_mark (set_lane c.lane (record z { conts = with_first_closing z.conts }) n).lanes) n.kept))

      oldest_path : b.lane.ended ≡ c.epoch
      oldest_path = sym (at.may a w c.node x f c.lane b.lane has b.close b.looks b.none).oldest ∙ epoch_path

  begins_here : DoesPart a w (after w c.node (Begin t (is_sink op))) seen c.node x y (Begin t (is_sink op)) f.part
  begins_here = record {
    q = begun;
    may = (
      refl,
      free,
      at.begun_is a w c.node x f c.lane b.lane has b.close b.looks b.none,
      (λ i. Close c.node c.lane (sym epoch_path i) (sym serial_path i) (sym floor_path i) (sym mark_path i) (sym (due ∙ sym b.rows_are) i) (is_sink op) ∷ []),
    );
    shows = shows;
    lines =
        ap (λ d. d.events) b.starts.sets.diary ∙ ap (λ (z : NodeState). z.diary.events ++ line.Begin c.lane c.epoch c.mark (length b.rows) ∷ []) b.closes.set
        ∙ ap (λ e. x.own.diary.events ++ e ∷ []) (sym line_is);
    settings = λ i. record {
      keeps = (ap (λ d. d.keeps) b.starts.sets.diary ∙ ap (λ (z : NodeState). z.diary.keeps) b.closes.set) i;
      limits = limits_set x.own.lanes.items y.own.lanes.items c.lane b.lane b.starts.now has (b.starts.sets.lanes ∙ ap (λ ls. slice_set ls c.lane b.starts.now) mid_lanes) b.starts.sets.limit i;
    };
    tray = b.tray ∙ ap (λ r. x.tray ++ r) (sym to_tray);
    rows = λ other. (to_tray ∙ ap (λ s. cond s b.rows []) (sym (sink_here a w c.node x f (length a.plan.steps) refl) ∙ ne_eqb c.node (length a.plan.steps) other), refl);
    dry = inl refl;
    spent = λ e. let z : true ≡ false = sym e ∙ b.is in cc;
  }

-- a closing begins, in any moment that may have been found
pub begins : (a : Setting) (w : Hands) (seen k : ℕ) (x y : SharedView) (t : Snapshot Closing) → t.value.node ≡ k → BeginsAt (is_sink (operator_of a k)) t.value x y → held_by w ≡ []
    → Acts a w seen k x y (Begin t (is_sink (operator_of a k)))
begins a w seen k x y t here =
    subst (λ k. BeginsAt (is_sink (operator_of a k)) t.value x y → held_by w ≡ [] → Acts a w seen k x y (Begin t (is_sink (operator_of a k))))
    here (begins_here a w seen x y t)

-- the same, of one who knows whether it is the sink
pub begins_as : (a : Setting) (w : Hands) (seen k : ℕ) (x y : SharedView) (t : Snapshot Closing) (sink : Bool) → is_sink (operator_of a k) ≡ sink → t.value.node ≡ k → BeginsAt sink t.value x y → held_by w ≡ []
    → Acts a w seen k x y (Begin t sink)
begins_as a w seen k x y t sink is here =
    subst (λ s. BeginsAt s t.value x y → held_by w ≡ [] → Acts a w seen k x y (Begin t s)) is (begins a w seen k x y t here)
