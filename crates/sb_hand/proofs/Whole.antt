-- A whole closing.
use Rattle.std.proofs.Common.{◌≡◌, ℕ, suc, zero, ◌+◌, ◌≤◌, ◌<◌, true, false, List, [], ◌∷◌, ◌++◌, length, drop, map, Some, sym, refl, ap, subst, ◌∙◌, arith, append-nil}
use Rattle.std.specs.Prelude.{Ok}
use Rattle.std.specs.List.{slice_get}
use Rattle.std.proofs.lemmas.Option.{same_Some, slice_get_past}
use Rattle.sb_shown.specs.base.records.declared.item.Record.{Record}
use Rattle.sb_shown.specs.base.pipeline.declared.transform.Step.{Step}
use Rattle.sb_shown.specs.base.pipeline.Shapes.{Shape}
use Rattle.sb_shown.specs.base.pipeline.Plans.{IsPlan}
use Rattle.sb_shown.specs.base.pipeline.Operators.{operator_at}
use Rattle.sb_shown.specs.core.declared.event.Event.TheVariants.{Begin, Pass, End}
use Rattle.sb_shown.specs.core.Closings.{is_sink}
use Rattle.sb_shown.specs.core.containers.Marks.{first_is_closing}
use Rattle.sb_shown.proofs.core.times.Timely.{no_sink}
use Rattle.sb_shown.specs.lane.declared.answers.LaneClose.{LaneClose}
use Rattle.sb_shown.specs.lane.Looks.{look_of}
use Rattle.sb_shown.specs.lane.LaneView.{LaneView, lane_of}
use Rattle.sb_shown.specs.lane.Placed.{conts_of}
use Rattle.sb_shown.specs.node.declared.closing.Closing.{Closing}
use Rattle.sb_shown.specs.node.declared.state.NodeState.{NodeState}
use Rattle.sb_shown.specs.node.Marking.{mark_for}
use Rattle.sb_hand.specs.Runs.{close_of, deliveries, Ends, ClosesNode}
use Rattle.sb_hand.specs.Runs.IsClosingRun.{OfTransform, OfSink}
use Rattle.sb_shown.specs.Sets.{HasLane, BeginsAt, Turns}
use Rattle.sb_shown.specs.Showing.{Does, CanStand}
use Rattle.sb_hand.proofs.Beginning.{begin-does, begin-sink, rises}
use Rattle.sb_shown.specs.diary.declared.event.DiaryEvent.TheVariants as line
use Rattle.sb_hand.proofs.Composing.{does-then, can-after}
use Rattle.sb_hand.proofs.Doing.{end-does}
use Rattle.sb_hand.proofs.LeftToDo.{lowers-then, begins-lowers, ends-lowers}
use Rattle.sb_hand.proofs.Having.{closing-lane, lanes-are}
use Rattle.sb_shown.proofs.Steps.{lanes_two}
use Rattle.sb_shown.proofs.SettingsStay.{settings-lane, settings-node}
use Rattle.sb_shown.specs.node.Keeping.{closed_mark}
use Rattle.sb_shown.proofs.Single.{there-too}

pub transform-op : (steps : List Step) (k : ℕ) → k < length steps → is_sink (operator_at (slice_get steps k)) ≡ false
transform-op steps k h = let x = slice_get-some steps k h in ap (λ o. is_sink (operator_at o)) x.1 ∙ no_sink x.0.kind
  where
    slice_get-some : (steps : List Step) (k : ℕ) → k < length steps → (s : Step) × (slice_get steps k ≡ Some s)
    slice_get-some [] k h = absurd (omega arith)
    slice_get-some (s ∷ steps) zero h = (s, refl)
    slice_get-some (s ∷ steps) (suc k) h = slice_get-some steps k (omega arith)

pub sink-op : (steps : List Step) (k : ℕ) → k ≡ length steps → is_sink (operator_at (slice_get steps k)) ≡ true
sink-op steps k h = ap (λ o. is_sink (operator_at o)) (slice_get_past steps k (omega arith))

-- a node has one lane or two
pub few-there : (plan : Shape) (bundle : ℕ) (nodes : List NodeState) → CanStand plan bundle nodes [] → (k : ℕ) → k ≤ length plan.steps → (own : NodeState) → slice_get nodes k ≡ Some own → length own.lanes.items ≤ 2
few-there plan bundle nodes can k within own there =
    let e = lanes-are plan bundle nodes [] can.rows can.moment can.stands k own within there in
    omega (arith, e, lanes_two (operator_at (slice_get plan.steps k)))

-- the mark does not fall, whatever node is there
pub rises-there : (plan : Shape) (is_plan : IsPlan plan) (bundle : ℕ) (nodes : List NodeState) → CanStand plan bundle nodes [] → (k l : ℕ) → k ≤ length plan.steps → (lane : LaneView) → HasLane k l lane nodes → (close : LaneClose) → look_of (conts_of lane.containers) ≡ Ok close
    → (own : NodeState) → slice_get nodes k ≡ Some own → closed_mark own.kept ≤ mark_for l (map lane_of own.lanes.items)
rises-there plan is_plan bundle nodes can k l within lane has close looks own there =
    let s = can.stands in
    let n = there-too nodes can.moment.nodes k has.own s.count has.there in
    let same : has.own ≡ own = same_Some has.own own (sym has.there ∙ there) in
    subst (λ (x : NodeState). closed_mark x.kept ≤ mark_for l (map lane_of x.lanes.items)) same (rises plan is_plan bundle nodes can.rows can.moment s k l within lane has close looks n.0 n.1)

module _ (plan : Shape) (is_plan : IsPlan plan) (bundle : ℕ) (c : Closing) (old mid : List NodeState) (lane : LaneView) (close : LaneClose) (looks : look_of (conts_of lane.containers) ≡ Ok close) (epoch_is : close.epoch ≡ c.epoch)
    (b : BeginsAt c old mid lane) where
  pub begins-transform : c.node < length plan.steps → Does plan bundle (Begin c.node c.lane ∷ []) old [] mid (close_of c c.rows.items false ∷ []) []
  begins-transform within = begin-does plan is_plan bundle c old mid (omega arith) lane close looks epoch_is b (transform-op plan.steps c.node within)

  pub begins-sink : c.node ≡ length plan.steps → Does plan bundle (Begin c.node c.lane ∷ []) old [] mid (close_of c [] true ∷ []) c.rows.items
  begins-sink at_end = begin-sink plan is_plan bundle c old mid (omega arith) lane close looks epoch_is b (sink-op plan.steps c.node at_end)

  pub closes-transform : (new : List NodeState) (tray : List Record) → c.node < length plan.steps → Ends plan bundle c mid new → ClosesNode plan bundle c.node c.lane old tray new tray
  closes-transform new tray within e = record {
    events = Begin c.node c.lane ∷ [] ++ (deliveries c.node c.lane e.count ++ Pass c.node ∷ End c.node ∷ []);
    are = OfTransform e.count within;
    added = [];
    tray_is = sym (append-nil tray);
    does = does-then plan bundle (Begin c.node c.lane ∷ []) (deliveries c.node c.lane e.count ++ Pass c.node ∷ End c.node ∷ []) old mid new [] (close_of c c.rows.items false ∷ []) [] [] [] (begins-transform within) e.does;
    lowers = lowers-then c.node 0 1 old mid new (begins-lowers c old mid lane b) e.lowers;
    settings = e.settings ∙ settings-node old mid c.node c.lane lane b.now 1 b.was b.is (line.Begin c.lane c.epoch c.mark (length c.rows.items)) b.sets;
  }

  pub sink-lane : CanStand plan bundle old [] → c.node ≡ length plan.steps → (x : LaneView) × HasLane c.node c.lane x mid × (first_is_closing (conts_of x.containers) ≡ true) × (x.ended < length x.marks)
  sink-lane can at_end =
      let z = can-after plan bundle (Begin c.node c.lane ∷ []) old mid [] (close_of c [] true ∷ []) c.rows.items can (begins-sink at_end) in
      closing-lane plan bundle mid (close_of c [] true ∷ []) z.rows z.moment z.stands c.node c.lane c.epoch c.serial c.floor c.mark [] true refl

  pub closes-sink : (new : List NodeState) (tray later : List Record) → c.node ≡ length plan.steps → later ≡ tray ++ c.rows.items → (x : LaneView) → Turns c.node c.lane mid new x (record (lane_of x) { conts = drop 1 (conts_of x.containers); ended = x.ended + 1 }) (line.End c.lane c.epoch) → x.ended < length x.marks → ClosesNode plan bundle c.node c.lane old tray new later
  closes-sink new tray later at_end e x t less = record {
    events = Begin c.node c.lane ∷ [] ++ End c.node ∷ [];
    are = OfSink at_end;
    added = c.rows.items;
    tray_is = e;
    does = subst (λ (l : List Record). Does plan bundle (Begin c.node c.lane ∷ [] ++ End c.node ∷ []) old [] new [] l) (append-nil c.rows.items)
        (does-then plan bundle (Begin c.node c.lane ∷ []) (End c.node ∷ []) old mid new [] (close_of c [] true ∷ []) [] c.rows.items [] (begins-sink at_end)
        (end-does plan is_plan bundle mid new c.node c.lane c.epoch c.serial c.floor c.mark [] x t.now t.sets t.is));
    lowers = lowers-then c.node 0 1 old mid new (begins-lowers c old mid lane b) (ends-lowers c.node c.lane mid new x (line.End c.lane c.epoch) less t);
    settings =
        settings-lane mid new c.node c.lane x t.now (line.End c.lane c.epoch) t.sets
        ∙ settings-node old mid c.node c.lane lane b.now 1 b.was b.is (line.Begin c.lane c.epoch c.mark (length c.rows.items)) b.sets;
  }
