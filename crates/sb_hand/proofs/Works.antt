-- A whole bundle.
use Rattle.std.proofs.Common.{◌≡◌, ℕ, ◌+◌, ◌-◌, ◌^◌, ◌≤◌, ◌<◌, true, false, List, [], ◌∷◌, length, drop, Some, sym, refl, ap, subst, ◌∙◌, arith}
use Rattle.std.specs.Prelude.{Bool, All}
use Rattle.std.specs.List.{slice_get, AllByRecursion}
use Rattle.std.specs.Option.{option_map}
use Rattle.std.proofs.lemmas.List.Elements.{All-from_recursion}
use Rattle.sb_shown.specs.base.bundle.declared.bundle.Bundle.{Bundle}
use Rattle.sb_shown.specs.base.records.declared.item.Record.{Record}
use Rattle.sb_shown.specs.base.records.declared.item.TheConstants.{END_MARK}
use Rattle.sb_shown.specs.base.pipeline.declared.transform.Step.{Step}
use Rattle.sb_shown.specs.base.pipeline.declared.transform.Down.{Down}
use Rattle.sb_shown.specs.base.records.Elements.{on_lane}
use Rattle.sb_shown.specs.base.pipeline.Shapes.{Shape}
use Rattle.sb_shown.specs.base.pipeline.Plans.{IsPlan}
use Rattle.sb_shown.specs.base.pipeline.Operators.{operator_at}
use Rattle.sb_shown.specs.core.declared.event.Event.TheVariants.{Take, Deliver, Finish}
use Rattle.sb_shown.specs.core.Bounds.{bound_at}
use Rattle.sb_shown.specs.core.containers.Choices.{is_empty}
use Rattle.sb_shown.specs.core.Closings.{delivery, is_pardo}
use Rattle.sb_shown.specs.core.containers.LaneOrder.{IsWithin}
use Rattle.sb_shown.specs.core.containers.Lanes.{with_arrival}
use Rattle.sb_shown.proofs.core.times.TimeBounds.{bound-before_end}
use Rattle.sb_shown.specs.lane.LaneView.{LaneView, lane_of}
use Rattle.sb_shown.specs.lane.Placed.{conts_of}
use Rattle.sb_shown.specs.lane.Taking.{finish_first}
use Rattle.sb_shown.specs.node.declared.state.NodeState.{NodeState}
use Rattle.sb_hand.specs.Runs.{work_of, bundle_events, FinishesWork, WorksOff}
use Rattle.sb_shown.specs.Sets.{HasLane, SetsLane, Takes, Turns, Absorbs}
use Rattle.sb_shown.specs.diary.declared.event.DiaryEvent.TheVariants as line
use Rattle.sb_shown.specs.Showing.{CanStand, Does, ShowsNode, settings_of}
use Rattle.sb_shown.specs.node.Keeping.{IsPartFor}
use Rattle.sb_shown.specs.base.window.Groupings.{IsFrom}
use Rattle.sb_shown.specs.work.Processing.{IsPart}
use Rattle.sb_shown.specs.work.declared.outputs.Part.{Part}
use Rattle.std.proofs.lemmas.Option.{same_Some, slice_get_within}
use Rattle.sb_shown.proofs.SettingsStay.{settings-lane, settings-node}
use Rattle.sb_shown.proofs.Single.{there-too}
use Rattle.sb_hand.specs.Todo.{Lowers}
use Rattle.sb_hand.proofs.LeftToDo.{lowers-then, takes-lowers, finish-turns-lowers, absorbs-lowers, below-lowers}
use Rattle.sb_hand.proofs.Composing.{does-then}
use Rattle.sb_hand.proofs.Doing.{take-does, deliver-does}
use Rattle.sb_hand.proofs.Finishes.{finish-does, absorb-does, the_work, work_from}
use Rattle.sb_hand.proofs.Having.{finds, lanes-are, has-down}
use Rattle.sb_shown.proofs.Steps.{step-of}

-- the lane of the bundle in hand
pub work-lane : (plan : Shape) (bundle : ℕ) (nodes : List NodeState) (k l : ℕ) (b : Bundle) (delivered : Bool) → CanStand plan bundle nodes (work_of k l b delivered ∷ []) → (lane : LaneView) × HasLane k l lane nodes
work-lane plan bundle nodes k l b delivered can =
    let s = can.stands in
    let w = the_work plan can.moment s.sound k l b.epoch b.floor b.number b.records delivered s.held_is in
    let f = finds plan bundle nodes (work_of k l b delivered ∷ []) can.rows can.moment s (record { node = k; lane = l }) w.lane w.there in
    (f.lane, f.has)

-- its times
pub work-times : (plan : Shape) → IsPlan plan → (bundle : ℕ) (nodes : List NodeState) (k l : ℕ) (b : Bundle) → CanStand plan bundle nodes (work_of k l b false ∷ []) → All (λ r. r.time < END_MARK) b.records
work-times plan is_plan bundle nodes k l b can =
    let s = can.stands in
    let w = the_work plan can.moment s.sound k l b.epoch b.floor b.number b.records false s.held_is in
    All-from_recursion (λ (r : Record). r.time < END_MARK) b.records (go b.records w.times)
  where
    go : (rs : List Record) → IsWithin b.floor (bound_at plan k) rs → AllByRecursion (λ (r : Record). r.time < END_MARK) rs
    go [] all = tt
    go (r ∷ rs) all = (omega (arith, all.0.1, bound-before_end plan is_plan k), go rs all.1)

-- what its node takes in of it
pub work-part : (plan : Shape) → IsPlan plan → (bundle : ℕ) (nodes : List NodeState) (k l : ℕ) (b : Bundle) → CanStand plan bundle nodes (work_of k l b false ∷ []) → k ≤ length plan.steps
    → (part : Part) → IsPart (operator_at (slice_get plan.steps k)) l b.records part → (own : NodeState) → slice_get nodes k ≡ Some own → IsPartFor own.kept part l b.records
work-part plan is_plan bundle nodes k l b can within part is_part own there =
    let s = can.stands in
    let n = there-too nodes can.moment.nodes k own s.count there in
    let sh : ShowsNode (operator_at (slice_get plan.steps k)) own n.0 = s.each k own n.0 there n.1 in
    let w = work-lane plan bundle nodes k l b false can in
    let same : w.1.own ≡ own = same_Some w.1.own own (sym w.1.there ∙ there) in
    let inside : l < length w.1.own.lanes.items = slice_get_within w.1.own.lanes.items l w.0 w.1.in_it in
    let lanes = lanes-are plan bundle nodes (work_of k l b false ∷ []) can.rows can.moment s k own within there in
    record {
      operator = operator_at (slice_get plan.steps k);
      made = sh.kept.made;
      is_lane = omega (arith, inside, ap (λ (x : NodeState). length x.lanes.items) same, lanes);
      is_part = is_part;
      in_time = work-times plan is_plan bundle nodes k l b can;
      from = subst (λ x. IsFrom x (on_lane l b.records)) (sym sh.kept.closed_is) (work_from plan can.moment s.sound k l b.epoch b.floor b.number b.records false s.held_is n.0 n.1);
    }

module _ (plan : Shape) (is_plan : IsPlan plan) (bundle : ℕ) (k l : ℕ) (b : Bundle) (old : List NodeState) (can : CanStand plan bundle old (work_of k l b false ∷ [])) where
  -- a ParDo that gives nothing
  pub works-empty : (new : List NodeState) (lane : LaneView) → is_pardo (operator_at (slice_get plan.steps k)) ≡ true → delivery (operator_at (slice_get plan.steps k)) b.records ≡ []
      → Turns k l old new lane (record (lane_of lane) { conts = finish_first b.epoch b.number (conts_of lane.containers) }) (line.Finish l b.number 0) → FinishesWork plan bundle k l b old new
  works-empty new lane pardo none t = record {
    gave = false;
    does = finish-does plan is_plan bundle old new k l b.epoch b.floor b.number b.records false lane 0 (ap length (sym none)) pardo (ap is_empty none) t;
    lowers = finish-turns-lowers k l b.epoch b.number old new lane (line.Finish l b.number 0) t;
    settings = settings-lane old new k l lane t.now (line.Finish l b.number 0) t.sets;
  }

  -- any other node
  pub works-part : (new : List NodeState) (lane : LaneView) (part : Part) → is_pardo (operator_at (slice_get plan.steps k)) ≡ false
      → ((own : NodeState) → slice_get old k ≡ Some own → IsPartFor own.kept part l b.records) → Absorbs k l old new lane b.epoch b.number part → FinishesWork plan bundle k l b old new
  works-part new lane part other is_part a = record {
    gave = false;
    does = absorb-does plan is_plan bundle old new k l b.epoch b.floor b.number b.records lane part other is_part a;
    lowers = absorbs-lowers k l b.epoch b.number part old new lane a;
    settings = settings-node old new k l lane a.now 0 a.was a.is (line.Finish l b.number 0) a.sets;
  }

  -- a ParDo that gives something
  pub given-below : (mid : List NodeState) (d : Down) (given : List Record) → option_map (λ (s : Step). s.down) (slice_get plan.steps k) ≡ Some d → given ≡ delivery (operator_at (slice_get plan.steps k)) b.records → 0 < length given
      → ((at : LaneView) → HasLane d.node d.lane at old → (at.arrived < 2 ^ 64 - 1) × Turns d.node d.lane old mid at (with_arrival b.epoch b.floor given (lane_of at)) (line.Arrive d.lane b.epoch (at.arrived + 1) (length given)))
      → Does plan bundle (Deliver k l b.number ∷ []) old (work_of k l b false ∷ []) mid (work_of k l b true ∷ []) []
  given-below mid d given down gives some put =
      let st = step-of plan.steps k d down in
      let has = has-down plan bundle old (work_of k l b false ∷ []) can k d down in
      let t = put has.0 has.1 in
      deliver-does plan is_plan bundle old mid k l b.epoch b.floor b.number b.records given st.0 has.0 t.1.now st.1 gives (not_empty given some) (subst (λ (x : Down). SetsLane x.node x.lane has.0 t.1.now (line.Arrive x.lane b.epoch (has.0.arrived + 1) (length given)) old mid) (sym st.2) t.1.sets) t.0 t.1.is
    where
      not_empty : (l : List Record) → 0 < length l → is_empty l ≡ false
      not_empty [] h = absurd (omega arith)
      not_empty (r ∷ l) h = refl

  pub given-lowers : (mid : List NodeState) (d : Down) (given : List Record) → option_map (λ (s : Step). s.down) (slice_get plan.steps k) ≡ Some d
      → ((at : LaneView) → HasLane d.node d.lane at old → (at.arrived < 2 ^ 64 - 1) × Turns d.node d.lane old mid at (with_arrival b.epoch b.floor given (lane_of at)) (line.Arrive d.lane b.epoch (at.arrived + 1) (length given)))
      → Lowers k 0 old mid
  given-lowers mid d given down put =
      let st = step-of plan.steps k d down in
      let has = has-down plan bundle old (work_of k l b false ∷ []) can k d down in
      let t = put has.0 has.1 in
      below-lowers k d.node d.lane old mid has.0 t.1.now (line.Arrive d.lane b.epoch (has.0.arrived + 1) (length given)) (subst (λ (x : Down). k < x.node) st.2 (is_plan.further k st.0 st.1)) t.1.sets

  pub given-settings : (mid : List NodeState) (d : Down) (given : List Record) → option_map (λ (s : Step). s.down) (slice_get plan.steps k) ≡ Some d
      → ((at : LaneView) → HasLane d.node d.lane at old → (at.arrived < 2 ^ 64 - 1) × Turns d.node d.lane old mid at (with_arrival b.epoch b.floor given (lane_of at)) (line.Arrive d.lane b.epoch (at.arrived + 1) (length given)))
      → settings_of mid ≡ settings_of old
  given-settings mid d given down put =
      let has = has-down plan bundle old (work_of k l b false ∷ []) can k d down in
      let t = put has.0 has.1 in
      settings-lane old mid d.node d.lane has.0 t.1.now (line.Arrive d.lane b.epoch (has.0.arrived + 1) (length given)) t.1.sets

  pub works-given : (mid new : List NodeState) (lane : LaneView) (count : ℕ) → count ≡ length (delivery (operator_at (slice_get plan.steps k)) b.records) → is_pardo (operator_at (slice_get plan.steps k)) ≡ true
      → Does plan bundle (Deliver k l b.number ∷ []) old (work_of k l b false ∷ []) mid (work_of k l b true ∷ []) []
      → Lowers k 0 old mid
      → settings_of mid ≡ settings_of old
      → Turns k l mid new lane (record (lane_of lane) { conts = finish_first b.epoch b.number (conts_of lane.containers) }) (line.Finish l b.number count) → FinishesWork plan bundle k l b old new
  works-given mid new lane count count_is pardo d low stay t = record {
    gave = true;
    does = does-then plan bundle (Deliver k l b.number ∷ []) (Finish k l b.number ∷ []) old mid new (work_of k l b false ∷ []) (work_of k l b true ∷ []) [] [] [] d
        (finish-does plan is_plan bundle mid new k l b.epoch b.floor b.number b.records true lane count count_is pardo refl t);
    lowers = lowers-then k 0 0 old mid new low (finish-turns-lowers k l b.epoch b.number mid new lane (line.Finish l b.number count) t);
    settings = settings-lane mid new k l lane t.now (line.Finish l b.number count) t.sets ∙ stay;
  }

-- a bundle is taken
pub taken : (plan : Shape) (is_plan : IsPlan plan) (bundle k l : ℕ) (old mid : List NodeState) (lane : LaneView) (b : Bundle) → Takes k l old mid lane b → Does plan bundle (Take k l b.number ∷ []) old [] mid (work_of k l b false ∷ []) []
taken plan is_plan bundle k l old mid lane b t = take-does plan is_plan bundle old mid k l lane t.now b t.sets t.took t.is

pub works : (plan : Shape) (is_plan : IsPlan plan) (bundle k l : ℕ) (old mid new : List NodeState) (lane : LaneView) (b : Bundle) → Takes k l old mid lane b → FinishesWork plan bundle k l b mid new → WorksOff plan bundle k l old new
works plan is_plan bundle k l old mid new lane b t f = by_case f.gave f.does
  where
    less : Lowers k 1 old new
    less = lowers-then k 1 0 old mid new (takes-lowers k l old mid lane b t) f.lowers

    stay : settings_of new ≡ settings_of old
    stay = f.settings ∙ settings-lane old mid k l lane t.now (line.Take l b.number) t.sets

    by_case : (gave : Bool) → Does plan bundle (drop 1 (bundle_events k l b.number gave)) mid (work_of k l b false ∷ []) new [] [] → WorksOff plan bundle k l old new
    by_case true d = record { number = b.number; gave = true; does = does-then plan bundle (Take k l b.number ∷ []) (Deliver k l b.number ∷ Finish k l b.number ∷ []) old mid new [] (work_of k l b false ∷ []) [] [] [] (taken plan is_plan bundle k l old mid lane b t) d; lowers = less; settings = stay }
    by_case false d = record { number = b.number; gave = false; does = does-then plan bundle (Take k l b.number ∷ []) (Finish k l b.number ∷ []) old mid new [] (work_of k l b false ∷ []) [] [] [] (taken plan is_plan bundle k l old mid lane b t) d; lowers = less; settings = stay }
