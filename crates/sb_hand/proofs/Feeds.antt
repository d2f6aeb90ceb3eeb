-- What a bundle and a watermark of a stream do to all nodes.
use Rattle.std.proofs.Common.{◌≡◌, ℕ, ◌+◌, ◌-◌, ◌≤◌, ◌<◌, ◌^◌, true, not, List, [], ◌∷◌, ◌++◌, length, map, Some, Option, sym, refl, ap, subst, ◌∙◌, arith, inl, inr, ⊎_elim, append-nil}
use Rattle.std.specs.Prelude.{◌&&◌, nat_le, Result, Ok, Err, IfOk, IfErr, OnOk, OnErr}
use Rattle.std.specs.List.{slice_get, slice_set, list_all, AllByRecursion}
use Rattle.std.proofs.lemmas.Bool.{cases_eq, le-leb}
use Rattle.std.proofs.lemmas.List.{length-set, map-set}
use Rattle.std.proofs.lemmas.Option.{same_Some}
use Rattle.sb_shown.specs.base.records.declared.item.Record.{Record}
use Rattle.sb_shown.specs.base.records.declared.item.Stream.{Stream}
use Rattle.sb_shown.specs.base.records.declared.item.TheConstants.{MAX_TIME, END_MARK}
use Rattle.sb_shown.specs.base.records.Reading.{◌>>=◌}
use Rattle.sb_shown.specs.base.bundle.declared.bundle.Bundle.{Bundle}
use Rattle.sb_shown.specs.base.pipeline.declared.transform.Down.{Down}
use Rattle.sb_shown.specs.base.pipeline.Operators.{operator_at}
use Rattle.sb_shown.specs.base.pipeline.Plans.{IsPlan}
use Rattle.sb_shown.specs.base.pipeline.Shapes.{Shape, source}
use Rattle.sb_shown.specs.core.declared.event.Event.{Event}
use Rattle.sb_shown.specs.core.declared.event.Event.TheVariants.{Arrive, Seal}
use Rattle.sb_shown.specs.core.declared.held.Held.{Held}
use Rattle.sb_shown.specs.core.containers.declared.container.CoreLane.{CoreLane}
use Rattle.sb_shown.specs.core.declared.moment.Moment.{Moment}
use Rattle.sb_shown.specs.core.declared.moment.Node.{Node}
use Rattle.sb_shown.specs.core.containers.Choices.{is_empty}
use Rattle.sb_shown.specs.core.containers.Lanes.{next_epoch, next_floor, with_arrival, with_seal}
use Rattle.sb_shown.specs.core.Moments.{set_lane}
use Rattle.sb_shown.specs.core.Parts.{only_node, put_in}
use Rattle.sb_shown.proofs.core.exact.Nodes.{slice_get-set_same, slice_get-set_other}
use Rattle.sb_shown.specs.diary.declared.event.DiaryEvent.{DiaryEvent}
use Rattle.sb_shown.specs.diary.declared.event.DiaryEvent.TheVariants as line
use Rattle.sb_shown.specs.node.declared.kept.Kept.{Kept}
use Rattle.sb_shown.specs.lane.declared.answers.ArriveStop.{ArriveStop}
use Rattle.sb_shown.specs.lane.declared.answers.ArriveStop.TheVariants.{Full, Memory}
use Rattle.sb_shown.specs.lane.LaneView.{LaneView, lane_of}
use Rattle.sb_shown.specs.lane.Placed.{conts_of}
use Rattle.sb_shown.specs.lane.Unfinished.{unfinished_of}
use Rattle.sb_shown.specs.tally.Written.{arrival_line, seal_line}
use Rattle.sb_shown.specs.tally.Written as written
use Rattle.sb_shown.specs.node.declared.state.NodeState.{NodeState}
use Rattle.sb_shown.specs.node.Coming.{IsBackFrom}
use Rattle.sb_hand.specs.Feeding.{ArrivesIn, ComesBack, IsTurnedBack, MayArrive, MaySeal, TakesStream}
use Rattle.sb_shown.specs.Sets.{HasLane, SetsLane, StaysAt, Turns}
use Rattle.sb_shown.specs.Showing.{CanStand, Does, IsKept, ShowsNode, Stands, diaries_of, settings_of}
use Rattle.sb_shown.proofs.LaneEvents.{lane_in, the_lane-is, lane-free, put-is}
use Rattle.sb_shown.proofs.SettingsStay.{set_same, settings-lane, settings-set}
use Rattle.sb_shown.proofs.Single.{chain, passing, there-too, get-map}

-- ---- nothing is done
module _ (plan : Shape) (size : ℕ) (old new : List NodeState) (k l : ℕ) (lane : LaneView) (t : StaysAt k l old new lane) where
  same_diaries : diaries_of new ≡ diaries_of old
  same_diaries =
      ap diaries_of t.set ∙ map-set (λ (n : NodeState). n.diary.events) old k t.with
      ∙ ap (slice_set (diaries_of old) k) t.diary
      ∙ set_same (diaries_of old) k t.own.diary.events (get-map (λ (n : NodeState). n.diary.events) old k t.own t.there)

  same_lanes : map lane_of t.with.lanes.items ≡ map lane_of t.own.lanes.items
  same_lanes =
      ap (map lane_of) t.lanes ∙ map-set lane_of t.own.lanes.items l t.now
      ∙ ap (slice_set (map lane_of t.own.lanes.items) l) t.lane_is
      ∙ set_same (map lane_of t.own.lanes.items) l (lane_of lane) (get-map lane_of t.own.lanes.items l lane t.in_it)

  module _ (held : List Held) (rows : List Record) (m : Moment) (s : Stands plan size old held rows m) where
    here : (n : Node) → slice_get m.nodes k ≡ Some n → ShowsNode (operator_at (slice_get plan.steps k)) t.with n
    here n at =
        let shown : ShowsNode (operator_at (slice_get plan.steps k)) t.own n = s.each k t.own n t.there at in
        record {
          lanes = shown.lanes ∙ sym same_lanes;
          closings = shown.closings ∙ sym t.closings;
          kept = subst (λ (x : Kept). IsKept (operator_at (slice_get plan.steps k)) x n) (sym t.kept) shown.kept;
        }

    each : (j : ℕ) (x : NodeState) (n : Node) → slice_get (slice_set old k t.with) j ≡ Some x → slice_get m.nodes j ≡ Some n → ShowsNode (operator_at (slice_get plan.steps j)) x n
    each j x n h g = ⊎_elim
        (λ e. let a : t.with ≡ x = same_Some t.with x (sym (slice_get-set_same old k t.own t.with t.there) ∙ sym (ap (slice_get (slice_set old k t.with)) e) ∙ h) in
        subst (λ z. z) (λ i. ShowsNode (operator_at (slice_get plan.steps (sym e i))) (a i) n) (here n (ap (slice_get m.nodes) (sym e) ∙ g)))
        (λ ne. s.each j x n (sym (slice_get-set_other old k j t.with ne) ∙ h) g)
        (cases_eq j k)

    stands : Stands plan size new held rows m
    stands = subst (λ (z : List NodeState). Stands plan size z held rows m) (sym t.set) (record {
      bundle_is = s.bundle_is;
      count = s.count ∙ sym (length-set old k t.with);
      each = each;
      held_is = s.held_is;
      rows_is = s.rows_is;
      sound = s.sound;
    })

  pub stays-holding : (held : List Held) → Does plan size [] old held new held []
  stays-holding held = λ rows m s. record {
    later = m;
    runs = refl;
    told = same_diaries;
    stands = subst (λ (r : List Record). Stands plan size new held r m) (sym (append-nil rows)) (stands held rows m s);
  }

  pub stays-does : Does plan size [] old [] new [] []
  stays-does = stays-holding []

  pub stays-settings : settings_of new ≡ settings_of old
  stays-settings = settings-set old new k l t.own t.with lane t.now t.there t.in_it t.set t.lanes t.keeps t.limit

-- ---- a bundle and a watermark
not_empty : (records : List Record) → 1 ≤ length records → not (is_empty records) ≡ true
not_empty [] h = absurd (omega arith)
not_empty (r ∷ records) h = refl

in_time : (floor : ℕ) (records : List Record) → AllByRecursion (λ r. (floor ≤ r.time) × (r.time ≤ MAX_TIME)) records → list_all (λ r. nat_le floor r.time && nat_le r.time MAX_TIME) records ≡ true
in_time floor [] all = refl
in_time floor (r ∷ records) all = λ i. (le-leb floor r.time all.0.0 i && le-leb r.time MAX_TIME all.0.1 i) && in_time floor records all.1 i

module _ (plan : Shape) (is_plan : IsPlan plan) (size : ℕ) (old new : List NodeState) where
  pub arrive-does : (stream : Stream) (b : Bundle) (may : MayArrive plan size stream b old) (now : LaneView)
      → SetsLane may.into.place.node may.into.place.lane may.into.lane now (line.Arrive may.into.place.lane b.epoch (may.into.lane.arrived + 1) (length b.records)) old new
      → may.into.lane.arrived < 2 ^ 64 - 1 → lane_of now ≡ with_arrival b.epoch b.floor b.records (lane_of may.into.lane)
      → Does plan size (Arrive stream b.records ∷ []) old [] new [] []
  arrive-does stream b may now sets room is = λ rows m s.
      let d = may.into.place in
      let lane = may.into.lane in
      let at = there-too old m.nodes d.node sets.own s.count sets.there in
      let told : DiaryEvent = line.Arrive d.lane b.epoch (lane.arrived + 1) (length b.records) in
      let in_it = lane_in plan is_plan size old new [] rows m s d.node d.lane lane now told sets at.0 at.1 in
      let times : AllByRecursion (λ r. (next_floor (lane_of lane) ≤ r.time) × (r.time ≤ MAX_TIME)) b.records = subst (λ f. AllByRecursion (λ r. (f ≤ r.time) × (r.time ≤ MAX_TIME)) b.records) may.floor may.times in
      lane-free plan is_plan size old new [] rows m s d.node d.lane lane now told sets at.0 at.1 (inl (ap (λ (x : CoreLane). x.marks) is)) (Arrive stream b.records) [] refl
      (ap (λ (o : Option Down). o >>= λ d. Some d.node) may.into.goes)
      (chain (source plan stream) _ d _ may.into.goes
      (chain (slice_get at.0.lanes d.lane) _ (lane_of lane) _ in_it
      (passing _ _ _ (λ i. not_empty b.records may.some i && (le-leb (length b.records) size may.most i && in_time (next_floor (lane_of lane)) b.records times i))
      ((λ i. put_in d.lane (sym may.epoch i) (sym may.floor i) b.records [] at.0)
      ∙ put-is d.lane b.epoch b.floor b.records [] at.0 (lane_of lane) in_it room
      ∙ ap (λ x. Some (only_node [] (set_lane d.lane x at.0))) (sym is)))))
      ((λ i. arrival_line (written.lane_of (may.into.goes i)) (next_epoch (written.the_lane (written.lane_of (may.into.goes i)) at.0)) b.records at.0)
      ∙ ap (λ (x : CoreLane). line.Arrive d.lane (next_epoch x) (x.arrived + 1) (length b.records)) (the_lane-is plan is_plan size old new [] rows m s d.node d.lane lane now told sets at.0 at.1)
      ∙ ap (λ e. line.Arrive d.lane e (lane.arrived + 1) (length b.records)) (sym may.epoch))

  pub seal-does : (stream : Stream) (mark : ℕ) (may : MaySeal plan stream mark old) (now : LaneView)
      → SetsLane may.into.place.node may.into.place.lane may.into.lane now (line.Seal may.into.place.lane (next_epoch (lane_of may.into.lane)) mark) old new
      → lane_of now ≡ with_seal mark (lane_of may.into.lane)
      → Does plan size (Seal stream mark ∷ []) old [] new [] []
  seal-does stream mark may now sets is = λ rows m s.
      let d = may.into.place in
      let lane = may.into.lane in
      let at = there-too old m.nodes d.node sets.own s.count sets.there in
      let told : DiaryEvent = line.Seal d.lane (next_epoch (lane_of lane)) mark in
      let in_it = lane_in plan is_plan size old new [] rows m s d.node d.lane lane now told sets at.0 at.1 in
      lane-free plan is_plan size old new [] rows m s d.node d.lane lane now told sets at.0 at.1 (inr (mark, ap (λ (x : CoreLane). x.marks) is)) (Seal stream mark) [] refl
      (ap (λ (o : Option Down). o >>= λ d. Some d.node) may.into.goes)
      (chain (source plan stream) _ d _ may.into.goes
      (chain (slice_get at.0.lanes d.lane) _ (lane_of lane) _ in_it
      (passing _ _ _ (λ i. le-leb mark END_MARK may.bound i && le-leb (next_floor (lane_of lane)) mark may.rises i)
      (ap (λ x. Some (only_node [] (set_lane d.lane x at.0))) (sym is)))))
      ((λ i. seal_line (written.lane_of (may.into.goes i)) mark at.0)
      ∙ ap (λ (x : CoreLane). line.Seal d.lane (next_epoch x) mark) (the_lane-is plan is_plan size old new [] rows m s d.node d.lane lane now told sets at.0 at.1))

-- ---- what the functions of feeding say
module _ (plan : Shape) (is_plan : IsPlan plan) (size : ℕ) (old new : List NodeState) (stream : Stream) (place : Down) (goes : Some place ≡ source plan stream) where
  same_place : (into : TakesStream plan stream old) → into.place ≡ place
  same_place into = same_Some into.place place (sym into.goes ∙ sym goes)

  at_place : (into : TakesStream plan stream old) → HasLane place.node place.lane into.lane old
  at_place into = subst (λ (d : Down). HasLane d.node d.lane into.lane old) (same_place into) into.has

  still : (events : List Event) → Does plan size events old [] new [] [] → CanStand plan size old [] → CanStand plan size new []
  still events does can = let r = does can.rows can.moment can.stands in record { rows = can.rows ++ []; moment = r.later; stands = r.stands }

  pub record Arrived (b : Bundle) (r : Result ℕ ArriveStop) : Type 0 where
    pub number : IfOk r (λ n. (into : TakesStream plan stream old) → n ≡ into.lane.arrived + 1)
    pub fewer : OnOk r ((into : TakesStream plan stream old) → unfinished_of (conts_of into.lane.containers) < into.lane.pending)
    pub arrives : OnOk r (Does plan size (Arrive stream b.records ∷ []) old [] new [] [])
    pub settings : settings_of new ≡ settings_of old
    pub back : IfErr r (λ e. IsTurnedBack plan stream old b e)
    pub same : OnErr r (Does plan size [] old [] new [] [])
    pub can : CanStand plan size old [] → CanStand plan size new []

  turned_back : (b : Bundle) (stop : ArriveStop) (into : TakesStream plan stream old) → IsBackFrom into.lane b stop → IsTurnedBack plan stream old b stop
  turned_back b (Full back) into r = (r.0, into, r.1)
  turned_back b (Memory back) into r = r

  pub arrived : (b : Bundle) → MayArrive plan size stream b old → (r : Result ℕ ArriveStop)
      → IfOk r (λ n. (at : LaneView) → HasLane place.node place.lane at old → ArrivesIn place.node place.lane old new at b n)
      → IfErr r (λ e. (at : LaneView) → HasLane place.node place.lane at old → ComesBack place.node place.lane old new at b e)
      → Arrived b r
  arrived b may (Ok n) ok err =
      let into = may.into in
      let a = ok into.lane (at_place into) in
      let does : Does plan size (Arrive stream b.records ∷ []) old [] new [] [] = arrive-does plan is_plan size old new stream b may a.turns.now
      (subst (λ (d : Down). SetsLane d.node d.lane into.lane a.turns.now (line.Arrive d.lane b.epoch (into.lane.arrived + 1) (length b.records)) old new) (sym (same_place into)) a.turns.sets) a.room a.turns.is in
      record {
        number = λ i. (ok i.lane (at_place i)).numbered;
        fewer = λ i. (ok i.lane (at_place i)).fewer;
        arrives = does;
        settings = settings-lane old new place.node place.lane into.lane a.turns.now (line.Arrive place.lane b.epoch (into.lane.arrived + 1) (length b.records)) a.turns.sets;
        back = tt;
        same = tt;
        can = still (Arrive stream b.records ∷ []) does;
      }
  arrived b may (Err e) ok err =
      let into = may.into in
      let a = err into.lane (at_place into) in
      let does : Does plan size [] old [] new [] [] = stays-does plan size old new place.node place.lane into.lane a.stays in
      record {
        number = tt;
        fewer = tt;
        arrives = tt;
        settings = stays-settings plan size old new place.node place.lane into.lane a.stays;
        back = turned_back b e into a.back;
        same = does;
        can = still [] does;
      }

  pub record Sealed (T E : Type 0) (mark : ℕ) (r : Result T E) : Type 0 where
    pub seals : OnOk r (Does plan size (Seal stream mark ∷ []) old [] new [] [])
    pub settings : settings_of new ≡ settings_of old
    pub same : OnErr r (Does plan size [] old [] new [] [])
    pub can : CanStand plan size old [] → CanStand plan size new []

  pub sealed : (T E : Type 0) (mark : ℕ) → MaySeal plan stream mark old → (r : Result T E)
      → OnOk r ((at : LaneView) → HasLane place.node place.lane at old → Turns place.node place.lane old new at (with_seal mark (lane_of at)) (line.Seal place.lane (next_epoch (lane_of at)) mark))
      → OnErr r ((at : LaneView) → HasLane place.node place.lane at old → StaysAt place.node place.lane old new at)
      → Sealed T E mark r
  sealed T E mark may (Ok x) ok err =
      let into = may.into in
      let t = ok into.lane (at_place into) in
      let does : Does plan size (Seal stream mark ∷ []) old [] new [] [] = seal-does plan is_plan size old new stream mark may t.now
      (subst (λ (d : Down). SetsLane d.node d.lane into.lane t.now (line.Seal d.lane (next_epoch (lane_of into.lane)) mark) old new) (sym (same_place into)) t.sets) t.is in
      record {
        seals = does;
        settings = settings-lane old new place.node place.lane into.lane t.now (line.Seal place.lane (next_epoch (lane_of into.lane)) mark) t.sets;
        same = tt;
        can = still (Seal stream mark ∷ []) does;
      }
  sealed T E mark may (Err x) ok err =
      let into = may.into in
      let a = err into.lane (at_place into) in
      let does : Does plan size [] old [] new [] [] = stays-does plan size old new place.node place.lane into.lane a in
      record {
        seals = tt;
        settings = stays-settings plan size old new place.node place.lane into.lane a;
        same = does;
        can = still [] does;
      }
