-- What each single event does to what the nodes of a lawful moment have yet to give.
use Rattle.sb_containers.specs.base.NumberLemmas.{bind_some}
use Rattle.sb_containers.specs.Choices
use Rattle.sb_core.specs.Closings
use Rattle.sb_core.specs.Events
use Rattle.sb_core.specs.LaneSteps
use Rattle.sb_core.specs.MomentSteps
use Rattle.sb_containers.specs.Lanes
use Rattle.sb_containers.specs.Marks
use Rattle.sb_core.specs.Moments
use Rattle.sb_containers.specs.base.records.declared.item.TheConstants
use Rattle.std.proofs.Common.{◌≡◌, ℕ, ◌+◌, ◌-◌, ◌≤◌, ◌<◌, ◌^◌, Bool, true, false, not, cond, eqb, List, [], ◌∷◌, ◌++◌, length, take, drop, Some, Option, sym, refl, ap, subst, ◌∙◌, arith, ⊎_elim, set as slice_set}
use Rattle.std.specs.Prelude.{◌&&◌, nat_lt, nat_le}
use Rattle.std.specs.List.{flat_map, sum_by, slice_get, list_all, All, AllByRecursion}
use Rattle.std.proofs.lemmas.Bool.{not-true, and_parts}
use Rattle.std.proofs.lemmas.Bool.Decides.{nat_tests}
use Rattle.std.proofs.lemmas.List.Elements.{All-from_recursion, All-append, All-weaker}
use Rattle.std.proofs.lemmas.Option.{slice_get_within, same_Some}
use Rattle.std.proofs.lemmas.List.Sums.{sum_by-append}
use Rattle.std.proofs.Math.Nat.{add_comm}
use Rattle.sb_containers.specs.base.records.declared.item.Record.{Record}
use Rattle.sb_containers.specs.base.records.declared.item.Stream.{Stream}
use Rattle.sb_containers.specs.base.records.declared.item.Stream.TheVariants.{A, B}
use Rattle.sb_containers.specs.declared.container.Cont.{Cont}
use Rattle.sb_containers.specs.declared.container.CoreLane.{CoreLane}
use Rattle.sb_containers.specs.base.pipeline.declared.transform.Down.{Down}
use Rattle.sb_core.specs.declared.moment.Node.{Node}
use Rattle.sb_containers.specs.base.pipeline.declared.transform.Step.{Step}
use Rattle.sb_containers.specs.base.pipeline.Shapes.{Shape, source}
use Rattle.sb_core.specs.declared.moment.Moment.{Moment}
use Rattle.sb_core.specs.declared.held.Held.{Held}
use Rattle.sb_core.specs.declared.held.Held.TheVariants.{Work, Close}
use Rattle.sb_core.specs.declared.event.Event.TheVariants.{Finish, Begin}
use Rattle.sb_core.specs.Exactness.{gives, work_in, rows_left_in, IsAdmissible}
use Rattle.sb_core.specs.Moments.{node_at, floor_of, floor_at, epoch_of, epoch_at}
use Rattle.sb_containers.specs.LaneOrder.{IsLane, IsReady}
use Rattle.sb_core.specs.Bounds.{bound_at}
use Rattle.sb_core.specs.Closings.{is_pardo}
use Rattle.sb_core.proofs.sound.Orderly.{IsLawful}
use Rattle.sb_containers.specs.base.SumLemmas.{IsReordered, IsReordered-flat_map}
use Rattle.sb_containers.proofs.Lists.{cond_is_some, waiting_of, IsReordered-pulled}
use Rattle.sb_containers.specs.base.pipeline.Operators.{Operator, operator_at}
use Rattle.sb_containers.specs.base.pardo.Outputs.{outputs_of}
use Rattle.sb_containers.specs.base.pipeline.Operators.Operator.{ParDo, Windowed, Sink}
use Rattle.sb_core.specs.Holdings.{IsHeld}
use Rattle.sb_containers.proofs.LaneLaws.{All-pulled}
use Rattle.sb_core.proofs.exact.Nodes.{lane_at-set, lane_at-cases, node_at-same, node_at-set_same, lane_at-is}
use Rattle.sb_containers.proofs.Begun.{begun_mark}
use Rattle.sb_core.proofs.exact.MoveExact.{arrival-gives, calm-gives, waiting-with_seal, rows-gives, delivery-gives}
use Rattle.sb_core.proofs.exact.FinishExact.{finished-gives}
use Rattle.sb_containers.specs.base.pipeline.Plans.{IsPlan}
use Rattle.sb_core.proofs.exact.BeginExact.{begun-gives}
use Rattle.sb_core.proofs.windows.WindowsAt.{windows-at}
use Rattle.sb_core.proofs.exact.Flow.{extra}
use Rattle.sb_core.proofs.exact.Gives.{lane_at-parts, with_lane-is, sum_by-held_push}
use Rattle.sb_core.proofs.exact.TakeExact.{take-gives}
use Rattle.sb_core.proofs.exact.Exactly.{Carries, carries-same, carries-fed, carries-given, with_more}
use Rattle.sb_core.proofs.exact.Exactly.Moved.{Nothing, Fed, Given}
use Rattle.sb_core.proofs.times.Timely.{IsTimely, no_sink}
use Rattle.sb_core.proofs.times.LawfulTimely.{lawful-timely}
use Rattle.sb_containers.proofs.Arriving.{arrival_calm}
use Rattle.sb_containers.proofs.Sealing.{seal_calm, sealed_floor}

-- ---- after a change of a lane that keeps its marks, no more may come
floor-set : (m : Moment) (n l : ℕ) (node new : Node) (lane with : CoreLane) → slice_get m.nodes n ≡ Some node → slice_get node.lanes l ≡ Some lane → new.lanes ≡ slice_set node.lanes l with
    → Lanes.next_floor with ≡ Lanes.next_floor lane → (d : Down) → floor_at (Moments.set_node n new m) d ≡ floor_at m d
floor-set m n l node new lane with at in_it lanes same d = lane_at-set m n l node new lane with at in_it lanes floor_of same d

admits : (plan : Shape) (m m' : Moment) → ((d : Down) → floor_at m' d ≡ floor_at m d) → (coming : Stream → List Record) → IsAdmissible plan m' coming → IsAdmissible plan m coming
admits plan m m' same coming ok s d is = subst (λ n. All (λ r. (n ≤ r.time) × (r.time ≤ TheConstants.MAX_TIME)) (coming s)) (same d) (ok s d is)

-- the same where the floors rise
admits_less : (plan : Shape) (m m' : Moment) → ((d : Down) → floor_at m d ≤ floor_at m' d) → (coming : Stream → List Record) → IsAdmissible plan m' coming → IsAdmissible plan m coming
admits_less plan m m' rises coming ok s d is =
    All-weaker (λ r. (floor_at m' d ≤ r.time) × (r.time ≤ TheConstants.MAX_TIME)) (λ r. (floor_at m d ≤ r.time) × (r.time ≤ TheConstants.MAX_TIME)) (λ r h. (omega (arith, rises d, h.0), h.1)) (coming s) (ok s d is)

floor-rises : (m : Moment) (n l : ℕ) (node new : Node) (lane with : CoreLane) → slice_get m.nodes n ≡ Some node → slice_get node.lanes l ≡ Some lane → new.lanes ≡ slice_set node.lanes l with
    → Lanes.next_floor lane ≤ Lanes.next_floor with → (d : Down) → floor_at m d ≤ floor_at (Moments.set_node n new m) d
floor-rises m n l node new lane with at in_it lanes up d = ⊎_elim
    (λ h. subst (λ o. floor_of o ≤ floor_at (Moments.set_node n new m) d) (sym h.2) (subst (λ o. Lanes.next_floor lane ≤ floor_of o) (sym h.1) up))
    (λ h. subst (λ o. floor_at m d ≤ floor_of o) (sym h) (omega arith))
    (lane_at-cases m n l node new lane with at in_it lanes d)

-- ---- a bundle is taken
pub take-carries : (plan : Shape) (m m' : Moment) (d : Down) (number : ℕ) → MomentSteps.after_take m d number ≡ Some m' → Carries plan m m' Nothing
take-carries plan m m' d number h =
    carries-same plan m m' (λ k es fs within in_time same. take-gives plan m m' d number h k es fs same) (admits plan m m' floors)
  where
    floors : (e : Down) → floor_at m' e ≡ floor_at m e
    floors e =
        let a = bind_some (Moments.lane_at m d) _ m' h in
        let b = bind_some (Lanes.take_from number a.0.conts) _ m' a.2 in
        let at = lane_at-parts m d a.0 a.1 in
        let held = m.held ++ Work d.node d.lane b.0.0.epoch b.0.0.floor number b.0.0.records false ∷ [] in
        let is = with_lane-is (Moments.with_held held m) d at.0 (record a.0 { conts = b.0.1 }) m' at.1 b.2 in
        ap (λ x. floor_at x e) (sym is) ∙ floor-set m d.node d.lane at.0 (Moments.set_lane d.lane (record a.0 { conts = b.0.1 }) at.0) a.0 (record a.0 { conts = b.0.1 }) at.1 at.2 refl refl e

pub nat_le-le : (a b : ℕ) → nat_le a b ≡ true → a ≤ b
nat_le-le a b h = grind (arith, nat_tests)

-- ---- a bundle arrives
pub list_all-AllByRecursion : (p : Record → Bool) (P : Record → Type 0) → ((r : Record) → p r ≡ true → P r) → (l : List Record) → list_all p l ≡ true → AllByRecursion P l
list_all-AllByRecursion p P w [] h = tt
list_all-AllByRecursion p P w (r ∷ l) h = let k = and_parts (p r) (list_all p l) h in (w r k.0, list_all-AllByRecursion p P w l k.1)

admits_more : (plan : Shape) (m m' : Moment) (s : Stream) (d : Down) (records : List Record) → source plan s ≡ Some d → AllByRecursion (λ r. (floor_at m d ≤ r.time) × (r.time ≤ TheConstants.MAX_TIME)) records
    → ((e : Down) → floor_at m' e ≡ floor_at m e) → (coming : Stream → List Record) → IsAdmissible plan m' coming → IsAdmissible plan m (with_more s records coming)
admits_more plan m m' s d records is times floors coming ok t e at = go s t refl (source plan) is at (admits plan m m' floors coming ok t e at)
  where
    go : (s t : Stream) → s ≡ s → (src : Stream → Option Down) → src s ≡ Some d → src t ≡ Some e → All (λ r. (floor_at m e ≤ r.time) × (r.time ≤ TheConstants.MAX_TIME)) (coming t) → All (λ r. (floor_at m e ≤ r.time) × (r.time ≤ TheConstants.MAX_TIME)) (with_more s records coming t)
    go A A z src is at old = let k : d ≡ e = same_Some _ _ (sym is ∙ at) in All-append (λ r. (floor_at m e ≤ r.time) × (r.time ≤ TheConstants.MAX_TIME)) records (coming A) (All-from_recursion (λ r. (floor_at m e ≤ r.time) × (r.time ≤ TheConstants.MAX_TIME)) records (subst (λ d. AllByRecursion (λ r. (floor_at m d ≤ r.time) × (r.time ≤ TheConstants.MAX_TIME)) records) k times)) old
    go A B z src is at old = old
    go B A z src is at old = old
    go B B z src is at old = let k : d ≡ e = same_Some _ _ (sym is ∙ at) in All-append (λ r. (floor_at m e ≤ r.time) × (r.time ≤ TheConstants.MAX_TIME)) records (coming B) (All-from_recursion (λ r. (floor_at m e ≤ r.time) × (r.time ≤ TheConstants.MAX_TIME)) records (subst (λ d. AllByRecursion (λ r. (floor_at m d ≤ r.time) × (r.time ≤ TheConstants.MAX_TIME)) records) k times)) old

pub arrive-carries : (plan : Shape) (m m' : Moment) (s : Stream) (records : List Record) → MomentSteps.after_arrive plan m s records ≡ Some m' → IsLawful plan m → (d : Down) × (source plan s ≡ Some d) × Carries plan m m' (Fed s d records)
arrive-carries plan m m' s records h lawful =
    let a = bind_some (source plan s) _ m' h in
    let b = bind_some (Moments.lane_at m a.0) _ m' a.2 in
    let c = cond_is_some _ _ m' b.2 in
    let e = bind_some (Moments.lane_at m a.0) _ m' c.1 in
    let g = cond_is_some _ _ m' e.2 in
    (a.0, a.1, go a.0 b.0 e.0 a.1 b.1 (same_Some _ _ (sym e.1 ∙ b.1)) c.0 g.1)
  where
    go : (d : Down) (lane again : CoreLane) → source plan s ≡ Some d → Moments.lane_at m d ≡ Some lane → again ≡ lane
        → (not (Choices.is_empty records) && (nat_le (length records) m.bundle && list_all (λ r. nat_le (Lanes.next_floor lane) r.time && nat_le r.time TheConstants.MAX_TIME) records)) ≡ true
        → Moments.with_lane d (Lanes.with_arrival (Lanes.next_epoch lane) (Lanes.next_floor lane) records again) m ≡ Some m' → Carries plan m m' (Fed s d records)
    go d lane again is at same test h =
        let p = lane_at-parts m d lane at in
        let with : CoreLane = Lanes.with_arrival (Lanes.next_epoch lane) (Lanes.next_floor lane) records lane in
        let made = with_lane-is m d p.0 with m' p.1 (ap (λ x. Moments.with_lane d (Lanes.with_arrival (Lanes.next_epoch lane) (Lanes.next_floor lane) records x) m) (sym same) ∙ h) in
        let floors : (e : Down) → floor_at m' e ≡ floor_at m e = λ e. ap (λ x. floor_at x e) (sym made) ∙ floor-set m d.node d.lane p.0 (Moments.set_lane d.lane with p.0) lane with p.1 p.2 refl refl e in
        let mark = arrival_calm (bound_at plan d.node) (Lanes.next_epoch lane) (Lanes.next_floor lane) records lane (lawful.lanes d lane at) (omega arith) in
        let times = list_all-AllByRecursion (λ r. nat_le (Lanes.next_floor lane) r.time && nat_le r.time TheConstants.MAX_TIME) (λ r. (floor_at m d ≤ r.time) × (r.time ≤ TheConstants.MAX_TIME)) (λ r t. let k = and_parts (nat_le (Lanes.next_floor lane) r.time) (nat_le r.time TheConstants.MAX_TIME) t in (subst (λ n. n ≤ r.time) (sym (ap floor_of at)) (nat_le-le (Lanes.next_floor lane) r.time k.0), nat_le-le r.time TheConstants.MAX_TIME k.1)) records (and_parts (nat_le (length records) m.bundle) _ (and_parts (not (Choices.is_empty records)) _ test).1).1 in
        carries-fed plan m m' s d records is
        (λ k es fs x. subst (λ z. IsReordered (gives plan m k es) (gives plan z k fs)) made
        (arrival-gives plan m d p.0 lane p.1 p.2 (Lanes.next_epoch lane) (Lanes.next_floor lane) records m.held mark k es fs [] (λ f. refl) (λ f. refl) (λ _. refl) x))
        (admits_more plan m m' s d records is times floors)

-- ---- a bundle is finished
pub finish-carries : (plan : Shape) (m m' : Moment) (n l number : ℕ) → MomentSteps.made plan m (Finish n l number) ≡ Some m' → IsLawful plan m → Carries plan m m' Nothing
finish-carries plan m m' n l number h lawful =
    let a = bind_some (Choices.first_and_rest (Moments.is_work n l number) m.held) _ m' h in
    go a.0 (IsReordered-pulled (Moments.is_work n l number) m.held a.0 a.1) (All-pulled (IsHeld plan m) (Moments.is_work n l number) m.held a.0 a.1 lawful.holds).0 a.2
  where
    go : (q : Held × List Held) → IsReordered m.held (q.0 ∷ q.1) → IsHeld plan m q.0 → MomentSteps.after_finish plan m q.0 q.1 ≡ Some m' → Carries plan m m' Nothing
    go (Close k l epoch serial floor mark rows passed, others) pulled held h = cc
    go (Work k l epoch floor number records delivered, others) pulled held h =
        let a = bind_some (slice_get m.nodes k) _ m' h in
        let b = bind_some (slice_get a.0.lanes l) _ m' a.2 in
        let c = cond_is_some _ _ m' b.2 in
        let is = same_Some _ _ c.1 in
        let floors : (e : Down) → floor_at m' e ≡ floor_at m e = λ e. ap (λ x. floor_at x e) (sym is) ∙ floor-set m k l a.0 _ b.0 (record b.0 { conts = Lanes.finish_in epoch number b.0.conts }) a.1 b.1 refl refl e in
        carries-same plan m m'
        (λ n es fs within in_time same. subst (λ z. IsReordered (gives plan m n es) (gives plan z n fs)) is
        (finished-gives plan m k l epoch floor number records delivered others a.0 b.0 pulled a.1 b.1 c.0 held.only_pardo n es fs same))
        (admits plan m m' floors)

-- ---- a closing begins
abbrev pub closed_rises : Shape → Moment → Moment → ℕ → Type 0
closed_rises plan m m' n = Marks.least_begun_mark (node_at m n).lanes ≤ Marks.least_begun_mark (node_at m' n).lanes

pub begin-carries : (plan : Shape) → IsPlan plan → (m m' : Moment) (n l : ℕ) → MomentSteps.made plan m (Begin n l) ≡ Some m' → IsLawful plan m → IsLawful plan m' → closed_rises plan m m' n → Carries plan m m' Nothing
begin-carries plan is_plan m m' n l h lawful later rises =
    let a = bind_some (slice_get m.nodes n) _ m' h in
    let b = bind_some (slice_get a.0.lanes l) _ m' a.2 in
    let c = bind_some (Lanes.closable b.0.ended b.0.conts) _ m' b.2 in
    let d = cond_is_some _ _ m' c.2 in
    let is = same_Some _ _ d.1 in
    let within : n < length m.nodes = slice_get_within m.nodes n a.0 a.1 in
    let begun : CoreLane = record b.0 { conts = Lanes.with_first_closing b.0.conts } in
    let floors : (e : Down) → floor_at m' e ≡ floor_at m e = λ e. ap (λ x. floor_at x e) (sym is) ∙ floor-set m n l a.0 _ b.0 begun a.1 b.1 refl refl e in
    let before = ap (λ (x : Node). Marks.least_begun_mark x.lanes) (node_at-same m n a.0 a.0 a.1) in
    let after = ap (λ (x : Moment). Marks.least_begun_mark (node_at x n).lanes) (sym is) ∙ ap (λ (x : Node). Marks.least_begun_mark x.lanes) (node_at-set_same m n a.0 _ a.1) in
    carries-same plan m m'
    (λ k es fs in_plan in_time same. subst (λ z. IsReordered (gives plan m k es) (gives plan z k fs)) is
    (begun-gives plan m n l a.0 b.0 c.0.epoch (windows-at plan is_plan n) a.1 b.1 (subst (λ x. x ≤ Marks.least_begun_mark (slice_set a.0.lanes l begun)) before (subst (λ x. Marks.least_begun_mark (node_at m n).lanes ≤ x) after rises))
    (subst (IsTimely plan) (sym is) (lawful-timely plan m' later)) (within_n n within) k es fs in_plan in_time same))
    (admits plan m m' floors)
  where
    within_n : (n : ℕ) → n < length m.nodes → n ≤ length plan.steps
    within_n n h = omega (arith, lawful.nodes)

pub seal-carries : (plan : Shape) (m m' : Moment) (s : Stream) (mark : ℕ) → MomentSteps.after_seal plan m s mark ≡ Some m' → IsLawful plan m → Carries plan m m' Nothing
seal-carries plan m m' s mark h lawful =
    let a = bind_some (source plan s) _ m' h in
    let b = bind_some (Moments.lane_at m a.0) _ m' a.2 in
    let c = cond_is_some _ _ m' b.2 in
    go a.0 b.0 b.1 c.0 c.1
  where
    go : (d : Down) (lane : CoreLane) → Moments.lane_at m d ≡ Some lane → (nat_le mark TheConstants.END_MARK && nat_le (Lanes.next_floor lane) mark) ≡ true → Moments.with_lane d (Lanes.with_seal mark lane) m ≡ Some m' → Carries plan m m' Nothing
    go d lane at test h =
        let p = lane_at-parts m d lane at in
        let made = with_lane-is m d p.0 (Lanes.with_seal mark lane) m' p.1 h in
        let up : Lanes.next_floor lane ≤ mark = nat_le-le (Lanes.next_floor lane) mark (and_parts (nat_le mark TheConstants.END_MARK) (nat_le (Lanes.next_floor lane) mark) test).1 in
        let floors : (e : Down) → floor_at m e ≤ floor_at m' e = λ e. subst (λ x. floor_at m e ≤ floor_at x e) made (floor-rises m d.node d.lane p.0 (Moments.set_lane d.lane (Lanes.with_seal mark lane) p.0) lane (Lanes.with_seal mark lane) p.1 p.2 refl (subst (λ n. Lanes.next_floor lane ≤ n) (sym (sealed_floor mark lane)) up) e) in
        carries-same plan m m'
        (λ k es fs within in_time same. subst (λ z. IsReordered (gives plan m k es) (gives plan z k fs)) made
        (calm-gives plan m d p.0 lane p.1 p.2 (Lanes.with_seal mark lane) m.held (seal_calm (bound_at plan d.node) mark lane (lawful.lanes d lane at)) (waiting-with_seal mark lane) (λ k f. refl) (λ k f. refl) k es fs same))
        (admits_less plan m m' floors)

-- ---- the next rows of a Close are delivered
pub below-is : (plan : Shape) (k : ℕ) (d : Down) → Events.below plan k ≡ Some d → (s : Step) × (slice_get plan.steps k ≡ Some s) × (s.down ≡ d)
below-is plan k d h = let b = bind_some (slice_get plan.steps k) (λ s. Some s.down) d h in (b.0, b.1, same_Some b.0.down d b.2)

pub transform_is : (plan : Shape) (k : ℕ) (s : Step) → slice_get plan.steps k ≡ Some s → Closings.is_sink (operator_at (slice_get plan.steps k)) ≡ false
transform_is plan k s is = ap (λ o. Closings.is_sink (operator_at o)) is ∙ no_sink s.kind

-- a delivery gives the next rows of a Close, or what a ParDo gives for its Work
abbrev pub given_now : Shape → ℕ → Held → List Record
given_now plan bundle (Work y l epoch floor number records delivered) = Closings.delivery (operator_at (slice_get plan.steps y)) records
given_now plan bundle (Close y l epoch serial floor mark rows passed) = take bundle rows

abbrev pub node_of : Held → ℕ
node_of (Work y l epoch floor number records delivered) = y
node_of (Close y l epoch serial floor mark rows passed) = y

abbrev pub CarriesFrom : Shape → Moment → Moment → Held → Type 0
CarriesFrom plan m m' h = (d : Down) × (Events.below plan (node_of h) ≡ Some d) × Carries plan m m' (Given (node_of h) d (given_now plan m.bundle h))

module _ (plan : Shape) (m m' : Moment) (lawful : IsLawful plan m) where
  arrived : (d : Down) (epoch floor : ℕ) (records : List Record) (held : List Held) → LaneSteps.arrived_at d epoch floor records (Moments.with_held held m) ≡ Some m'
      → (node : Node) × (lane : CoreLane) × (slice_get m.nodes d.node ≡ Some node) × (slice_get node.lanes d.lane ≡ Some lane) × (Moments.set_node d.node (Moments.set_lane d.lane (Lanes.with_arrival epoch floor records lane) node) (Moments.with_held held m) ≡ m')
  arrived d epoch floor records held h =
      let a = bind_some (Moments.lane_at (Moments.with_held held m) d) _ m' h in
      let p = lane_at-parts (Moments.with_held held m) d a.0 a.1 in
      let c = cond_is_some (nat_lt a.0.arrived (2 ^ 64 - 1)) _ m' a.2 in
      (p.0, a.0, p.1, p.2, with_lane-is (Moments.with_held held m) d p.0 (Lanes.with_arrival epoch floor records a.0) m' p.1 c.1)

  place : (d : Down) (node : Node) (lane : CoreLane) → slice_get m.nodes d.node ≡ Some node → slice_get node.lanes d.lane ≡ Some lane → Moments.lane_at m d ≡ Some lane
  place d node lane at in_it = lane_at-is m d node lane at in_it

  pub rows-carries : (q : Held × List Held) → IsReordered m.held (q.0 ∷ q.1) → IsHeld plan m q.0 → MomentSteps.deliver_rows plan m q.0 q.1 ≡ Some m' → CarriesFrom plan m m' q.0
  rows-carries (Work k l epoch floor number records delivered, others) pulled held h = cc
  rows-carries (Close y l epoch serial floor mark rows passed, others) pulled held h =
      let a = bind_some (Events.below plan y) _ m' h in
      let b = below-is plan y a.0 a.1 in
      let c = cond_is_some (not (Choices.is_empty rows)) _ m' a.2 in
      (a.0, a.1, go a.0 b.0 b.1 b.2 (left passed refl c.0) c.1)
    where
      left : (p : Bool) → passed ≡ p → not (Choices.is_empty rows) ≡ true → passed ≡ false
      left true e h = let n : false ≡ true = sym (ap (λ l. not (Choices.is_empty l)) (held.no_rows e)) ∙ h in cc
      left false e h = e

      less : List Held
      less = others ++ Close y l epoch serial floor mark (drop m.bundle rows) passed ∷ []

      go : (d : Down) (s : Step) → slice_get plan.steps y ≡ Some s → s.down ≡ d → passed ≡ false → LaneSteps.arrived_at d serial floor (take m.bundle rows) (Moments.with_held less m) ≡ Some m' → Carries plan m m' (Given y d (take m.bundle rows))
      go d s is down unpassed h =
          let p = arrived d serial floor (take m.bundle rows) less h in
          let at : Moments.lane_at m d ≡ Some p.1 = place d p.0 p.1 p.2 p.3 in
          let next : Lanes.next_epoch p.1 ≡ serial = sym (ap epoch_of at) ∙ ap (epoch_at m) (sym down) ∙ held.next_under unpassed s is in
          let further : y < d.node = subst (λ (d : Down). y < d.node) down (lawful.below y s is).further in
          let calm : begun_mark (Lanes.with_arrival serial floor (take m.bundle rows) p.1) ≡ begun_mark p.1 = arrival_calm (bound_at plan d.node) serial floor (take m.bundle rows) p.1 (lawful.lanes d p.1 at) (omega arith) in
          carries-given plan m m' y d (take m.bundle rows) (slice_get_within plan.steps y s is) further (λ t e. ap (λ (s : Step). s.down) (same_Some t s (sym e ∙ is)) ∙ down)
          (λ k es fs same. subst (λ z. IsReordered (gives plan m k es) (extra y (take m.bundle rows) k ++ gives plan z k fs)) p.4
          (rows-gives plan m y l epoch serial floor mark rows passed others m.bundle d p.0 p.1 p.2 p.3 pulled further (transform_is plan y s is) calm k es fs same))
          (admits plan m m' (λ e. ap (λ x. floor_at x e) (sym p.4) ∙ floor-set m d.node d.lane p.0 (Moments.set_lane d.lane (Lanes.with_arrival serial floor (take m.bundle rows) p.1) p.0) p.1 (Lanes.with_arrival serial floor (take m.bundle rows) p.1) p.2 p.3 refl refl e))

  -- ---- a mark is passed
  pub pass-carries : (q : Held × List Held) → IsReordered m.held (q.0 ∷ q.1) → IsHeld plan m q.0 → MomentSteps.after_pass plan m q.0 q.1 ≡ Some m' → Carries plan m m' Nothing
  pass-carries (Work k l epoch floor number records delivered, others) pulled held h = cc
  pass-carries (Close y l epoch serial floor mark rows passed, others) pulled held h =
      let a = bind_some (Events.below plan y) _ m' h in
      let b = bind_some (Moments.lane_at m a.0) _ m' a.2 in
      let c = cond_is_some (not passed && Choices.is_empty rows) _ m' b.2 in
      let d = below-is plan y a.0 a.1 in
      go a.0 b.0 d.0 d.1 d.2 b.1 (not-true passed (and_parts (not passed) (Choices.is_empty rows) c.0).0) c.1
    where
      done : List Held
      done = others ++ Close y l epoch serial floor mark rows true ∷ []

      und : (k : ℕ) → IsReordered (flat_map (rows_left_in k) m.held) (flat_map (rows_left_in k) done)
      und k f = IsReordered-flat_map (rows_left_in k) m.held (Close y l epoch serial floor mark rows passed ∷ others) pulled f ∙ sum_by-append f (cond (eqb y k) rows []) (flat_map (rows_left_in k) others) ∙ add_comm _ _ ∙ sym (sum_by-held_push f (rows_left_in k) others (Close y l epoch serial floor mark rows true))

      work : (k : ℕ) → IsReordered (flat_map (work_in k) m.held) (flat_map (work_in k) done)
      work k f = IsReordered-flat_map (work_in k) m.held (Close y l epoch serial floor mark rows passed ∷ others) pulled f ∙ sym (sum_by-held_push f (work_in k) others (Close y l epoch serial floor mark rows true) ∙ omega arith)

      go : (d : Down) (lane : CoreLane) (s : Step) → slice_get plan.steps y ≡ Some s → s.down ≡ d → Moments.lane_at m d ≡ Some lane → passed ≡ false → Moments.with_lane d (Lanes.with_seal mark lane) (Moments.with_held done m) ≡ Some m' → Carries plan m m' Nothing
      go d lane s is down at unpassed h =
          let p = lane_at-parts m d lane at in
          let made = with_lane-is (Moments.with_held done m) d p.0 (Lanes.with_seal mark lane) m' p.1 h in
          let low : Lanes.next_floor lane ≡ floor = sym (ap floor_of at) ∙ ap (floor_at m) (sym down) ∙ held.under unpassed s is in
          let up : Lanes.next_floor lane ≤ mark = omega (arith, held.rises) in
          let floors : (e : Down) → floor_at m e ≤ floor_at m' e = λ e. subst (λ x. floor_at m e ≤ floor_at x e) made (floor-rises m d.node d.lane p.0 (Moments.set_lane d.lane (Lanes.with_seal mark lane) p.0) lane (Lanes.with_seal mark lane) p.1 p.2 refl (subst (λ n. Lanes.next_floor lane ≤ n) (sym (sealed_floor mark lane)) up) e) in
          carries-same plan m m'
          (λ k es fs within in_time same. subst (λ z. IsReordered (gives plan m k es) (gives plan z k fs)) made
          (calm-gives plan m d p.0 lane p.1 p.2 (Lanes.with_seal mark lane) done (seal_calm (bound_at plan d.node) mark lane (lawful.lanes d lane at)) (waiting-with_seal mark lane) und work k es fs same))
          (admits_less plan m m' floors)

  -- ---- a closing ends
  pub end-carries : (q : Held × List Held) → IsReordered m.held (q.0 ∷ q.1) → IsHeld plan m q.0 → MomentSteps.after_end m q.0 q.1 ≡ Some m' → Carries plan m m' Nothing
  end-carries (Work k l epoch floor number records delivered, others) pulled held h = cc
  end-carries (Close y l epoch serial floor mark rows passed, others) pulled held h =
      let a = bind_some (Moments.lane_at m (record { node = y; lane = l })) _ m' h in
      let c = cond_is_some passed _ m' a.2 in
      go a.0 a.1 (subst (λ (x : CoreLane). Marks.first_is_closing x.conts ≡ true) (same_Some held.lane a.0 (sym held.there ∙ a.1)) held.closing) (held.no_rows c.0) c.1
    where
      place_of : Down
      place_of = record { node = y; lane = l }

      und : rows ≡ [] → (k : ℕ) → IsReordered (flat_map (rows_left_in k) m.held) (flat_map (rows_left_in k) others)
      und e k f = IsReordered-flat_map (rows_left_in k) m.held (Close y l epoch serial floor mark rows passed ∷ others) pulled f ∙ ap (λ r. sum_by f (r ++ flat_map (rows_left_in k) others)) (none (eqb y k) e)
        where
          none : (b : Bool) → rows ≡ [] → cond b rows [] ≡ []
          none true e = e
          none false e = refl

      work : (k : ℕ) → IsReordered (flat_map (work_in k) m.held) (flat_map (work_in k) others)
      work k f = IsReordered-flat_map (work_in k) m.held (Close y l epoch serial floor mark rows passed ∷ others) pulled f

      shorter : CoreLane → CoreLane
      shorter lane = record lane { conts = drop 1 lane.conts; ended = lane.ended + 1 }

      -- the container that goes has nothing waiting, and the next one is not closing
      waits : (cs : List Cont) → Marks.first_is_closing cs ≡ true → IsReady cs → IsReordered (waiting_of (drop 1 cs)) (waiting_of cs)
      waits [] c ready f = refl
      waits (x ∷ cs) c ready f = ap (λ w. sum_by f (flat_map (λ b. b.records) w ++ waiting_of cs)) (sym (ready c).0)

      calm_end : (lane : CoreLane) → Marks.first_is_closing lane.conts ≡ true → AllByRecursion (λ c. c.closing ≡ false) (drop 1 lane.conts) → begun_mark (shorter lane) ≡ begun_mark lane
      calm_end lane c others_calm =
          ap (λ b. Marks.last_of_first (cond b (lane.ended + 1 + 1) (lane.ended + 1)) lane.marks) (next (drop 1 lane.conts) others_calm)
          ∙ sym (ap (λ b. Marks.last_of_first (cond b (lane.ended + 1) lane.ended) lane.marks) c)
        where
          next : (cs : List Cont) → AllByRecursion (λ c. c.closing ≡ false) cs → Marks.first_is_closing cs ≡ false
          next [] all = refl
          next (x ∷ cs) all = all.0

      go : (lane : CoreLane) → Moments.lane_at m place_of ≡ Some lane → Marks.first_is_closing lane.conts ≡ true → rows ≡ [] → Moments.with_lane place_of (record lane { conts = drop 1 lane.conts; ended = lane.ended + 1 }) (Moments.with_held others m) ≡ Some m' → Carries plan m m' Nothing
      go lane at closing none h =
          let p = lane_at-parts m place_of lane at in
          let ok : IsLane (bound_at plan y) lane = lawful.lanes place_of lane at in
          let made = with_lane-is (Moments.with_held others m) place_of p.0 (shorter lane) m' p.1 h in
          carries-same plan m m'
          (λ k es fs within in_time same. subst (λ z. IsReordered (gives plan m k es) (gives plan z k fs)) made
          (calm-gives plan m place_of p.0 lane p.1 p.2 (shorter lane) others (calm_end lane closing ok.others) (waits lane.conts closing ok.ready) (und none) work k es fs same))
          (admits plan m m' (λ e. ap (λ x. floor_at x e) (sym made) ∙ floor-set m y l p.0 (Moments.set_lane l (shorter lane) p.0) lane (shorter lane) p.1 p.2 refl refl e))

  -- ---- a ParDo's Work is delivered, into an epoch that is not sealed below
  pub work-carries : (q : Held × List Held) → IsReordered m.held (q.0 ∷ q.1) → IsHeld plan m q.0 → MomentSteps.deliver_work plan m q.0 q.1 ≡ Some m'
      → ((y l epoch floor number : ℕ) (records : List Record) (s : Step) → q.0 ≡ Work y l epoch floor number records false → slice_get plan.steps y ≡ Some s → is_pardo (operator_at (slice_get plan.steps y)) ≡ true → epoch_at m s.down ≤ epoch) → CarriesFrom plan m m' q.0
  work-carries (Close k l epoch serial floor mark rows passed, others) pulled held h sealed = cc
  work-carries (Work y l epoch floor number records delivered, others) pulled held h sealed =
      let a = bind_some (Events.below plan y) _ m' h in
      let b = below-is plan y a.0 a.1 in
      let o = operator_at (slice_get plan.steps y) in
      let c = cond_is_some (not delivered && not (Choices.is_empty (Closings.delivery o records))) _ m' a.2 in
      let t = and_parts (not delivered) (not (Choices.is_empty (Closings.delivery o records))) c.0 in
      (a.0, a.1, by_operator o refl a.0 b.0 b.1 b.2 (not-true delivered t.0) t.1 c.1)
    where
      by_operator : (o : Operator) → operator_at (slice_get plan.steps y) ≡ o → (d : Down) (s : Step) → slice_get plan.steps y ≡ Some s → s.down ≡ d → delivered ≡ false → not (Choices.is_empty (Closings.delivery o records)) ≡ true
          → LaneSteps.arrived_at d epoch floor (Closings.delivery (operator_at (slice_get plan.steps y)) records) (Moments.with_held (others ++ Work y l epoch floor number records true ∷ []) m) ≡ Some m' → Carries plan m m' (Given y d (Closings.delivery (operator_at (slice_get plan.steps y)) records))
      by_operator (Windowed g) e d s is down f some h = cc
      by_operator Sink e d s is down f some h = cc
      by_operator (ParDo op) e d s is down f some h =
          let images = flat_map (outputs_of op) records in
          let held' = others ++ Work y l epoch floor number records true ∷ [] in
          let p = arrived d epoch floor images held' (ap (λ o. LaneSteps.arrived_at d epoch floor (Closings.delivery o records) (Moments.with_held held' m)) (sym e) ∙ h) in
          let at : Moments.lane_at m d ≡ Some p.1 = place d p.0 p.1 p.2 p.3 in
          let fresh : epoch_at m s.down ≤ epoch = sealed y l epoch floor number records s (ap (Work y l epoch floor number records) f) is (ap is_pardo e) in
          let next : epoch_at m s.down ≡ Lanes.next_epoch p.1 = ap (epoch_at m) down ∙ ap epoch_of at in
          let further : y < d.node = subst (λ (d : Down). y < d.node) down (lawful.below y s is).further in
          let calm : begun_mark (Lanes.with_arrival epoch floor images p.1) ≡ begun_mark p.1 = arrival_calm (bound_at plan d.node) epoch floor images p.1 (lawful.lanes d p.1 at) (omega arith) in
          let open_pulled : IsReordered m.held (Work y l epoch floor number records false ∷ others) = λ g. pulled g ∙ ap (λ b. sum_by g (Work y l epoch floor number records b ∷ others)) f in
          subst (λ o. Carries plan m m' (Given y d (Closings.delivery o records))) (sym e) (
          carries-given plan m m' y d images (slice_get_within plan.steps y s is) further (λ t e. ap (λ (s : Step). s.down) (same_Some t s (sym e ∙ is)) ∙ down)
          (λ k es fs same. subst (λ z. IsReordered (gives plan m k es) (extra y images k ++ gives plan z k fs)) p.4
          (delivery-gives plan m op y l epoch floor number records others d p.0 p.1 p.2 p.3 open_pulled further e calm k es fs same))
          (admits plan m m' (λ e. ap (λ x. floor_at x e) (sym p.4) ∙ floor-set m d.node d.lane p.0 (Moments.set_lane d.lane (Lanes.with_arrival epoch floor images p.1) p.0) p.1 (Lanes.with_arrival epoch floor images p.1) p.2 p.3 refl refl e)))
