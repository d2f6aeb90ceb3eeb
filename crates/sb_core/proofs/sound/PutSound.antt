-- An arrival and the deliveries keep a moment sound.
use Rattle.sb_containers.specs.base.NumberLemmas.{bind_some}
use Rattle.sb_containers.specs.base.ElementLemmas.{every}
use Rattle.sb_containers.specs.LaneOrder
use Rattle.sb_core.specs.Moments
use Rattle.sb_containers.specs.base.FeedingLemmas as Feeding
use Rattle.sb_core.proofs.sound.Orderly.{lawful_of, tidy_of, sound_of, IsLawful, IsTidy}
use Rattle.std.proofs.Common.{◌≡◌, ℕ, suc, zero, ◌+◌, ◌-◌, ◌^◌, ◌≤◌, ◌<◌, Bool, true, false, not, cond, eqb, List, [], ◌∷◌, ◌++◌, length, take, drop, Some, sym, refl, ap, subst, ◌∙◌, arith, ⊎_elim}
use Rattle.std.specs.Prelude.{◌&&◌, ◌||◌, nat_lt, nat_le, sum_by}
use Rattle.std.specs.List.{flat_map, slice_get, list_any, list_all, AllByRecursion}
use Rattle.std.proofs.lemmas.Bool.{cases_lt, eq-eqb, not-true, and_parts}
use Rattle.std.proofs.Math.Bool.{or-false}
use Rattle.std.proofs.lemmas.Option.{same_Some}
use Rattle.std.proofs.lemmas.List.{drop_all}
use Rattle.sb_containers.specs.base.records.declared.item.Record.{Record}
use Rattle.sb_containers.specs.declared.container.Cont.{Cont}
use Rattle.sb_containers.specs.declared.container.CoreLane.{CoreLane}
use Rattle.sb_containers.specs.base.records.declared.item.Stream.{Stream}
use Rattle.sb_containers.specs.base.pipeline.declared.transform.Down.{Down}
use Rattle.sb_core.specs.declared.moment.Node.{Node}
use Rattle.sb_containers.specs.base.pipeline.declared.transform.Step.{Step}
use Rattle.sb_containers.specs.base.pipeline.Shapes.{Shape, source}
use Rattle.sb_core.specs.declared.moment.Moment.{Moment}
use Rattle.sb_core.specs.declared.held.Held.{Held}
use Rattle.sb_core.specs.declared.held.Held.TheVariants.{Work, Close}
use Rattle.sb_containers.specs.base.records.Orders.{IsAscending}
use Rattle.sb_containers.specs.base.pipeline.Operators.{Operator, operator_at}
use Rattle.sb_containers.specs.base.pardo.Outputs.{outputs_of}
use Rattle.sb_containers.specs.base.pipeline.Plans.{IsPlan}
use Rattle.sb_containers.specs.base.pipeline.Operators.Operator.{ParDo, Windowed, Sink}
use Rattle.sb_containers.specs.Marks.{begun_count, least_begun_mark}
use Rattle.sb_core.specs.Moments.{is_work, lane_at, set_lane, set_node, with_held, node_at, floor_of, floor_at, epoch_of, epoch_at}
use Rattle.sb_core.specs.Closings.{is_sink, delivery, is_pardo}
use Rattle.sb_containers.specs.Choices.{is_empty}
use Rattle.sb_containers.specs.Lanes.{next_epoch, next_floor, with_arrival}
use Rattle.sb_containers.specs.base.records.declared.item.TheConstants.{MAX_TIME}
use Rattle.sb_core.specs.Events.{below}
use Rattle.sb_core.specs.LaneSteps.{arrived_at}
use Rattle.sb_core.specs.MomentSteps.{deliver_rows, deliver_work, after_arrive}
use Rattle.sb_containers.specs.LaneOrder.{IsWithin, IsLane}
use Rattle.sb_containers.proofs.Fitting.{Fits}
use Rattle.sb_containers.specs.base.records.Records.{record_cmp}
use Rattle.sb_core.specs.Bounds.{bound_at}
use Rattle.sb_core.specs.Holdings.{IsWork, IsClosing, IsHeld, is_unpassed, IsCloseOf}
use Rattle.sb_core.specs.Soundness.{has_cont, IsOpenBelow, IsSound}
use Rattle.sb_containers.specs.base.SumLemmas.{IsReordered}
use Rattle.sb_containers.specs.base.window.declared.windows.TheConstants.{MAX_SIZE}
use Rattle.sb_containers.proofs.Lists.{cond_is_some}
use Rattle.sb_core.proofs.exact.Gives.{lane_at-parts, with_lane-is}
use Rattle.sb_core.proofs.exact.Nodes.{lane_at-is}
use Rattle.sb_containers.proofs.Begun.{begun_mark, work_floor, work_epoch}
use Rattle.sb_core.proofs.times.LawfulTimely.{lane_of, lawful-timely}
use Rattle.sb_core.proofs.exact.EventExact.{nat_le-le, list_all-AllByRecursion, below-is, transform_is}
use Rattle.sb_core.proofs.exact.AfterExact.{lone, not_sealed, unpassed_under}
use Rattle.sb_core.proofs.lawful.ArriveLawful.{arrival-lawful}
use Rattle.sb_containers.proofs.Arriving.{arrival-kept, put-kept, next_fits}
use Rattle.sb_core.proofs.lawful.DeliverLawful.{rows-lawful, work-lawful, All-take, images_within, bound-rises}
use Rattle.sb_containers.proofs.Ordered.{begun_floor, lane-fits, has_one}
use Rattle.sb_core.proofs.sound.HeldLists.{any_same, any_swap, count_swap, every_both, All-last}
use Rattle.sb_core.proofs.sound.TidyLanes.{has-at}
use Rattle.sb_core.proofs.sound.PutTidy.{put-tidy}

-- a record that may come shows that the floor is a time
floor_in_time : (floor : ℕ) (records : List Record) → not (is_empty records) ≡ true → list_all (λ r. nat_le floor r.time && nat_le r.time MAX_TIME) records ≡ true → floor ≤ MAX_TIME
floor_in_time floor [] some all = cc
floor_in_time floor (r ∷ records) some all =
    let t = and_parts (nat_le floor r.time) (nat_le r.time MAX_TIME) (and_parts (nat_le floor r.time && nat_le r.time MAX_TIME) _ all).0 in
    omega (arith, nat_le-le floor r.time t.0, nat_le-le r.time MAX_TIME t.1)

-- ---- an arrival
pub arrive-sound : (plan : Shape) (is_plan : IsPlan plan) (m m' : Moment) (s : Stream) (records : List Record) → after_arrive plan m s records ≡ Some m' → IsSound plan m → IsSound plan m'
arrive-sound plan is_plan m m' s records h sound =
    let a = bind_some (source plan s) _ m' h in
    let b = bind_some (lane_at m a.0) _ m' a.2 in
    let c = cond_is_some _ _ m' b.2 in
    let e = bind_some (lane_at m a.0) _ m' c.1 in
    let g = cond_is_some _ _ m' e.2 in
    go a.0 b.0 e.0 a.1 b.1 (same_Some _ _ (sym e.1 ∙ b.1)) c.0 g.1
  where
    go : (d : Down) (lane again : CoreLane) → source plan s ≡ Some d → lane_at m d ≡ Some lane → again ≡ lane
        → (not (is_empty records) && (nat_le (length records) m.bundle && list_all (λ r. nat_le (next_floor lane) r.time && nat_le r.time MAX_TIME) records)) ≡ true
        → Moments.with_lane d (with_arrival (next_epoch lane) (next_floor lane) records again) m ≡ Some m' → IsSound plan m'
    go d lane again is at same test h =
        let p = lane_at-parts m d lane at in
        let with : CoreLane = with_arrival (next_epoch lane) (next_floor lane) records lane in
        let made = with_lane-is m d p.0 with m' p.1 (ap (λ x. Moments.with_lane d (with_arrival (next_epoch lane) (next_floor lane) records x) m) (sym same) ∙ h) in
        let some = and_parts (not (is_empty records)) _ test in
        let each = (and_parts (nat_le (length records) m.bundle) _ some.1).1 in
        let times : IsWithin (next_floor lane) (bound_at plan d.node) records =
        list_all-AllByRecursion (λ r. nat_le (next_floor lane) r.time && nat_le r.time MAX_TIME) (λ r. (next_floor lane ≤ r.time) × (r.time ≤ bound_at plan d.node)) (λ r t. let k = and_parts (nat_le (next_floor lane) r.time) (nat_le r.time MAX_TIME) t in (nat_le-le (next_floor lane) r.time k.0, let z : r.time ≤ MAX_TIME = nat_le-le r.time MAX_TIME k.1 in omega arith)) records each in
        subst (IsSound plan) made ((sound_of (record {
          lawful = arrival-lawful plan m d p.0 lane records p.1 p.2 times (lawful_of sound);
          tidy = put-tidy plan is_plan m d p.0 lane (next_epoch lane) (next_floor lane) records m.held p.1 p.2 (arrival-kept (bound_at plan d.node) records lane ((lawful_of sound).lanes d lane at) times) (tidy_of sound)
              (λ k l i. refl) (λ k. refl) (λ t it. (refl, floor_in_time (next_floor lane) records some.0 each)) (λ k t it e. absurd (Feeding.sources_apart plan is_plan s d k t is it e)) (tidy_of sound).closes;
        })))

module _ (plan : Shape) (is_plan : IsPlan plan) (m m' : Moment) (sound : IsSound plan m) where
  lawful : IsLawful plan m
  lawful = (lawful_of sound)

  tidy : IsTidy plan m
  tidy = (tidy_of sound)

  -- where a bundle went
  went : (d : Down) (epoch floor : ℕ) (records : List Record) (held : List Held) → arrived_at d epoch floor records (with_held held m) ≡ Some m'
      → (node : Node) × (lane : CoreLane) × (slice_get m.nodes d.node ≡ Some node) × (slice_get node.lanes d.lane ≡ Some lane) × (set_node d.node (set_lane d.lane (with_arrival epoch floor records lane) node) (with_held held m) ≡ m')
  went d epoch floor records held h =
      let a = bind_some (lane_at (with_held held m) d) _ m' h in
      let p = lane_at-parts (with_held held m) d a.0 a.1 in
      let c = cond_is_some (nat_lt a.0.arrived (2 ^ 64 - 1)) _ m' a.2 in
      (p.0, a.0, p.1, p.2, with_lane-is (with_held held m) d p.0 (with_arrival epoch floor records a.0) m' p.1 c.1)

  place : (d : Down) (node : Node) (lane : CoreLane) → slice_get m.nodes d.node ≡ Some node → slice_get node.lanes d.lane ≡ Some lane → lane_at m d ≡ Some lane
  place d node lane at in_it = lane_at-is m d node lane at in_it

  -- one held and the others: which of them are a Close that is not passed
  unpassed_first : (y l epoch serial floor mark : ℕ) (rows : List Record) (others : List Held) → IsReordered m.held (Close y l epoch serial floor mark rows false ∷ others) → list_any (is_unpassed y) m.held ≡ true
  unpassed_first y l epoch serial floor mark rows others pulled =
      any_same (is_unpassed y) m.held (Close y l epoch serial floor mark rows false ∷ others) (pulled (λ h. cond (is_unpassed y h) 1 0)) ∙ ap (λ b. (b && true) || list_any (is_unpassed y) others) (eq-eqb y y refl)

  -- ---- the next rows of a Close
  pub rows-sound : (q : Held × List Held) → IsReordered m.held (q.0 ∷ q.1) → IsHeld plan m q.0 × AllByRecursion (IsHeld plan m) q.1 → IsCloseOf plan m q.0 × AllByRecursion (IsCloseOf plan m) q.1 → deliver_rows plan m q.0 q.1 ≡ Some m' → IsSound plan m'
  rows-sound (Work k l epoch floor number records delivered, others) pulled held closes h = cc
  rows-sound (Close y l epoch serial floor mark rows passed, others) pulled held closes h =
      let a = bind_some (below plan y) _ m' h in
      let b = below-is plan y a.0 a.1 in
      let c = cond_is_some (not (is_empty rows)) _ m' a.2 in
      by_passed passed refl a.0 b.0 b.1 b.2 c.0 c.1
    where
      by_passed : (p : Bool) → passed ≡ p → (d : Down) (s : Step) → slice_get plan.steps y ≡ Some s → s.down ≡ d → not (is_empty rows) ≡ true
          → arrived_at d serial floor (take m.bundle rows) (with_held (others ++ Close y l epoch serial floor mark (drop m.bundle rows) passed ∷ []) m) ≡ Some m' → IsSound plan m'
      by_passed true e d s is down some h = let n : false ≡ true = sym (ap (λ l. not (is_empty l)) (held.0.no_rows e)) ∙ some in cc
      by_passed false e d s is down some h =
          let held' : List Held = others ++ Close y l epoch serial floor mark (drop m.bundle rows) false ∷ [] in
          let p = went d serial floor (take m.bundle rows) held' (ap (λ b. arrived_at d serial floor (take m.bundle rows) (with_held (others ++ Close y l epoch serial floor mark (drop m.bundle rows) b ∷ []) m)) (sym e) ∙ h) in
          let at : lane_at m d ≡ Some p.1 = place d p.0 p.1 p.2 p.3 in
          let close : IsClosing plan m y l epoch serial floor mark rows false = subst (λ b. IsClosing plan m y l epoch serial floor mark rows b) e held.0 in
          let next : next_epoch p.1 ≡ serial = sym (ap epoch_of at) ∙ ap (epoch_at m) (sym down) ∙ close.next_under refl s is in
          let low : next_floor p.1 ≡ floor = sym (ap floor_of at) ∙ ap (floor_at m) (sym down) ∙ close.under refl s is in
          let further : bound_at plan y + MAX_SIZE ≤ bound_at plan d.node = subst (λ (d : Down). bound_at plan y + MAX_SIZE ≤ bound_at plan d.node) down (bound-rises plan is_plan y s is) in
          let first : IsReordered m.held (Close y l epoch serial floor mark rows false ∷ others) = λ f. pulled f ∙ ap (λ b. sum_by f (Close y l epoch serial floor mark rows b ∷ others)) e in
          let ok : IsLane (bound_at plan d.node) p.1 = lawful.lanes d p.1 at in
          let fits : Fits serial floor p.1.conts = subst (λ z. Fits z floor p.1.conts) next (subst (λ z. Fits (next_epoch p.1) z p.1.conts) low (next_fits (bound_at plan d.node) p.1 ok)) in
          let times : IsWithin floor (bound_at plan d.node) (take m.bundle rows) = All-take (λ r. (floor ≤ r.time) × (r.time ≤ bound_at plan d.node)) m.bundle rows (every (λ r k. (k.0, omega (arith, k.1, further))) rows close.times) in
          subst (IsSound plan) p.4 ((sound_of (record {
            lawful = rows-lawful plan m d p.0 p.1 y l epoch serial floor mark rows others m.bundle p.2 p.3 lawful first held.1 close further next low;
            tidy = put-tidy plan is_plan m d p.0 p.1 serial floor (take m.bundle rows) held' p.2 p.3 (put-kept (bound_at plan d.node) serial floor (take m.bundle rows) p.1 ok times (omega arith) (omega arith) (λ _. sym low) fits) tidy
                (λ k i j. count_swap (is_work k i j) m.held others (Close y l epoch serial floor mark rows false) (Close y l epoch serial floor mark (drop m.bundle rows) false) first refl)
                (λ k. any_swap (is_unpassed k) m.held others (Close y l epoch serial floor mark rows false) (Close y l epoch serial floor mark (drop m.bundle rows) false) first refl)
                (λ t it. absurd (Feeding.sources_apart plan is_plan t d y s it is down))
                (λ k t it q. subst (λ k. IsOpenBelow (operator_at (slice_get plan.steps k)) (node_at m k).lanes (list_any (is_unpassed k) m.held) (next_epoch p.1) serial floor) (Feeding.apart plan is_plan y k s t is it (down ∙ sym q))
                (open_is (operator_at (slice_get plan.steps y)) (transform_is plan y s is) (λ z. closes.0.0.1.1 z) some (node_at m y).lanes (list_any (is_unpassed y) m.held) (next_epoch p.1) (unpassed_first y l epoch serial floor mark rows others first) (sym next)))
                (All-last (IsCloseOf plan m) others (Close y l epoch serial floor mark (drop m.bundle rows) false) closes.1 ((ascending-drop m.bundle rows closes.0.0.0, ((λ z. sym e ∙ closes.0.0.1.0 z), (λ z. let k : rows ≡ [] = closes.0.0.1.1 z in ap (drop m.bundle) k ∙ drop_all m.bundle [] (omega arith)))), closes.0.1));
          })))
        where
          open_is : (o : Operator) → is_sink o ≡ false → (is_pardo o ≡ true → rows ≡ []) → not (is_empty rows) ≡ true → (lanes : List CoreLane) (unpassed : Bool) (next : ℕ) → unpassed ≡ true → serial ≡ next → IsOpenBelow o lanes unpassed next serial floor
          open_is (ParDo op) sink none some lanes unpassed next u n = let z : false ≡ true = sym (ap (λ l. not (is_empty l)) (none refl)) ∙ some in cc
          open_is (Windowed g) sink none some lanes unpassed next u n = (u, n)
          open_is Sink sink none some lanes unpassed next u n = cc

          ascending-drop : (n : ℕ) (l : List Record) → IsAscending record_cmp l → IsAscending record_cmp (drop n l)
          ascending-drop zero l up = up
          ascending-drop (suc n) [] up = tt
          ascending-drop (suc n) (x ∷ l) up = ascending-drop n l up.1

  -- ---- a ParDo's Work
  -- the lane of a ParDo is its only one
  pub lone_has : (lanes : List CoreLane) (l e f : ℕ) (lane : CoreLane) → length lanes ≡ 1 → slice_get lanes l ≡ Some lane → list_any (has_cont e f) lanes ≡ has_cont e f lane
  lone_has [] l e f lane one h = cc
  lone_has (x ∷ []) zero e f lane one h = let k : x ≡ lane = cc in or-false (has_cont e f x) ∙ ap (has_cont e f) k
  lone_has (x ∷ []) (suc l) e f lane one h = cc
  lone_has (x ∷ y ∷ lanes) l e f lane one h = absurd (omega arith)

  pub lone_closed : (lanes : List CoreLane) (l : ℕ) (lane : CoreLane) → length lanes ≡ 1 → slice_get lanes l ≡ Some lane → least_begun_mark lanes ≡ begun_mark lane
  lone_closed [] l lane one h = cc
  lone_closed (x ∷ []) zero lane one h = let k : x ≡ lane = cc in ap begun_mark k
  lone_closed (x ∷ []) (suc l) lane one h = cc
  lone_closed (x ∷ y ∷ lanes) l lane one h = absurd (omega arith)

  pub work-sound : (q : Held × List Held) → IsReordered m.held (q.0 ∷ q.1) → IsHeld plan m q.0 × AllByRecursion (IsHeld plan m) q.1 → IsCloseOf plan m q.0 × AllByRecursion (IsCloseOf plan m) q.1 → deliver_work plan m q.0 q.1 ≡ Some m' → IsSound plan m'
  work-sound (Close k l epoch serial floor mark rows passed, others) pulled held closes h = cc
  work-sound (Work y l epoch floor number records delivered, others) pulled held closes h =
      let a = bind_some (below plan y) _ m' h in
      let b = below-is plan y a.0 a.1 in
      let o = operator_at (slice_get plan.steps y) in
      let c = cond_is_some (not delivered && not (is_empty (delivery o records))) _ m' a.2 in
      let t = and_parts (not delivered) (not (is_empty (delivery o records))) c.0 in
      by_operator o refl a.0 b.0 b.1 b.2 (not-true delivered t.0) t.1 c.1
    where
      by_operator : (o : Operator) → operator_at (slice_get plan.steps y) ≡ o → (d : Down) (s : Step) → slice_get plan.steps y ≡ Some s → s.down ≡ d → delivered ≡ false → not (is_empty (delivery o records)) ≡ true
          → arrived_at d epoch floor (delivery (operator_at (slice_get plan.steps y)) records) (with_held (others ++ Work y l epoch floor number records true ∷ []) m) ≡ Some m' → IsSound plan m'
      by_operator (Windowed g) e d s is down f some h = cc
      by_operator Sink e d s is down f some h = cc
      by_operator (ParDo op) e d s is down f some h =
          let images : List Record = flat_map (outputs_of op) records in
          let held' : List Held = others ++ Work y l epoch floor number records true ∷ [] in
          let p = went d epoch floor images held' (ap (λ o. arrived_at d epoch floor (delivery o records) (with_held held' m)) (sym e) ∙ h) in
          let at : lane_at m d ≡ Some p.1 = place d p.0 p.1 p.2 p.3 in
          let pardo : is_pardo (operator_at (slice_get plan.steps y)) ≡ true = ap is_pardo e in
          let work : IsWork plan m y l epoch floor number records false = subst (λ b. IsWork plan m y l epoch floor number records b) f held.0 in
          let first : IsReordered m.held (Work y l epoch floor number records false ∷ others) = λ g. pulled g ∙ ap (λ b. sum_by g (Work y l epoch floor number records b ∷ others)) f in
          let own : IsLane (bound_at plan y) work.lane = lawful.lanes (record { node = y; lane = l }) work.lane work.there in
          let one : length (node_at m y).lanes ≡ 1 = lawful.one_lane y pardo in
          let in_node : slice_get (node_at m y).lanes l ≡ Some work.lane = lane_of plan m lawful y l work.lane work.there in
          let next : epoch_at m s.down ≡ next_epoch p.1 = ap (epoch_at m) down ∙ ap epoch_of at in
          let low : floor_at m s.down ≡ next_floor p.1 = ap (floor_at m) down ∙ ap floor_of at in
          let from : next_epoch p.1 ≤ epoch = omega (arith, not_sealed plan m lawful y l epoch floor number records false s work pardo is) in
          let further : bound_at plan y + MAX_SIZE ≤ bound_at plan d.node = subst (λ (d : Down). bound_at plan y + MAX_SIZE ≤ bound_at plan d.node) down (bound-rises plan is_plan y s is) in
          let closed_is : least_begun_mark (node_at m y).lanes ≡ begun_mark work.lane = lone_closed (node_at m y).lanes l work.lane one in_node in
          let timely = (lawful-timely plan m lawful).below y s is in
          let behind : floor_at m s.down ≤ least_begun_mark (node_at m y).lanes = subst (λ z. z ≤ least_begun_mark (node_at m y).lanes) (sym (ap floor_of timely.there)) timely.behind in
          let begins : begun_mark work.lane ≤ work.cont.floor = work_floor (bound_at plan y) work.lane own epoch number work.cont work.of_epoch work.is_out in
          let above : next_floor p.1 ≤ floor = omega (arith, work.floor_is) in
          let many : (node_at m y).closings ≡ begun_count work.lane = lawful.closings y ∙ lone (node_at m y).lanes l work.lane one in_node in
          let at_least : begun_count work.lane ≤ epoch = work_epoch (bound_at plan y) work.lane own epoch number work.cont work.of_epoch work.is_out in
          let is_next : epoch ≡ next_epoch p.1 → floor ≡ next_floor p.1 = λ q. by_unpassed s is (list_any (is_unpassed y) m.held) refl work own many at_least closed_is next low q in
          let has : (x z : ℕ) → list_any (has_cont x z) (node_at m y).lanes ≡ has_cont x z work.lane = λ x z. lone_has (node_at m y).lanes l x z work.lane one in_node in
          let own_fits : Fits epoch floor work.lane.conts = subst (λ z. Fits epoch z work.lane.conts) work.floor_is (lane-fits (bound_at plan y) work.lane own epoch work.cont work.of_epoch) in
          let ok : IsLane (bound_at plan d.node) p.1 = lawful.lanes d p.1 at in
          let fits : Fits epoch floor p.1.conts = every_both (λ c z w. fit p.1 from above work.lane.conts own_fits c z (λ b. sym (has c.epoch c.floor) ∙ open_of (node_at m y).lanes (list_any (is_unpassed y) m.held) (next_epoch p.1) c.epoch c.floor e (w b))) p.1.conts (next_fits (bound_at plan d.node) p.1 ok) (tidy.open_below y s p.1 is (ap (lane_at m) down ∙ at)) in
          let times : IsWithin floor (bound_at plan d.node) images = images_within op floor (bound_at plan d.node) records (every (λ r k. (k.0, omega (arith, k.1, further))) records work.times) in
          subst (IsSound plan) p.4 ((sound_of (record {
            lawful = work-lawful plan m d p.0 p.1 op y l epoch floor number records others p.2 p.3 lawful first held.1 work pardo further from above is_next fits;
            tidy = put-tidy plan is_plan m d p.0 p.1 epoch floor images held' p.2 p.3 (put-kept (bound_at plan d.node) epoch floor images p.1 ok times from above is_next fits) tidy
                (λ k i j. count_swap (is_work k i j) m.held others (Work y l epoch floor number records false) (Work y l epoch floor number records true) first refl)
                (λ k. any_swap (is_unpassed k) m.held others (Work y l epoch floor number records false) (Work y l epoch floor number records true) first refl)
                (λ t it. absurd (Feeding.sources_apart plan is_plan t d y s it is down))
                (λ k t it q. subst (λ k. IsOpenBelow (operator_at (slice_get plan.steps k)) (node_at m k).lanes (list_any (is_unpassed k) m.held) (next_epoch p.1) epoch floor) (Feeding.apart plan is_plan y k s t is it (down ∙ sym q))
                (subst (λ o. IsOpenBelow o (node_at m y).lanes (list_any (is_unpassed y) m.held) (next_epoch p.1) epoch floor) (sym e) (has epoch floor ∙ has-at epoch floor work.lane.conts work.cont work.of_epoch work.floor_is)))
                (All-last (IsCloseOf plan m) others (Work y l epoch floor number records true) closes.1 tt);
          })))
        where
          open_of : (lanes : List CoreLane) (unpassed : Bool) (next x z : ℕ) → operator_at (slice_get plan.steps y) ≡ ParDo op → IsOpenBelow (operator_at (slice_get plan.steps y)) lanes unpassed next x z → list_any (has_cont x z) lanes ≡ true
          open_of lanes unpassed next x z e h = subst (λ o. IsOpenBelow o lanes unpassed next x z) e h

          by_unpassed : (s : Step) → slice_get plan.steps y ≡ Some s → (b : Bool) → list_any (is_unpassed y) m.held ≡ b → (work : IsWork plan m y l epoch floor number records false) → IsLane (bound_at plan y) work.lane → (node_at m y).closings ≡ begun_count work.lane → begun_count work.lane ≤ epoch
              → least_begun_mark (node_at m y).lanes ≡ begun_mark work.lane → {next low : ℕ} → epoch_at m s.down ≡ next → floor_at m s.down ≡ low → epoch ≡ next → floor ≡ low
          by_unpassed s is true u work own many at_least closed_is next low q = absurd (let k : epoch_at m s.down + 1 ≤ (node_at m y).closings = unpassed_under plan m lawful y s is m.held lawful.holds u in omega arith)
          by_unpassed s is false u work own many at_least closed_is next low q =
              let a : epoch_at m s.down ≡ (node_at m y).closings = (lawful.below y s is).as_many u in
              let b : floor_at m s.down ≡ least_begun_mark (node_at m y).lanes = (lawful.below y s is).as_passed u in
              let c : epoch ≡ begun_count work.lane = omega arith in
              sym work.floor_is ∙ begun_floor (bound_at plan y) work.lane own work.cont (ap (λ z. LaneOrder.cont_at z work.lane.conts) (sym c) ∙ work.of_epoch) ∙ sym closed_is ∙ sym b ∙ low

          -- a container below fits the Work's epoch and floor
          fit : (under : CoreLane) → next_epoch under ≤ epoch → next_floor under ≤ floor → (conts : List Cont) → Fits epoch floor conts → (c : Cont)
              → (c.epoch < next_epoch under → c.floor ≤ next_floor under) × (next_epoch under < c.epoch → next_floor under ≤ c.floor) × (c.epoch ≡ next_epoch under → c.floor ≡ next_floor under)
              → (next_epoch under ≤ c.epoch → list_any (λ x. (eqb x.epoch c.epoch) && (eqb x.floor c.floor)) conts ≡ true)
              → (c.epoch < epoch → c.floor ≤ floor) × (epoch < c.epoch → floor ≤ c.floor) × (c.epoch ≡ epoch → c.floor ≡ floor)
          fit under from above conts own c z w = ⊎_elim sealed (λ b. has_one (λ e f. (e < epoch → f ≤ floor) × (epoch < e → floor ≤ f) × (e ≡ epoch → f ≡ floor)) c.epoch c.floor conts own (w b)) (cases_lt c.epoch (next_epoch under))
            where
              sealed : c.epoch < next_epoch under → (c.epoch < epoch → c.floor ≤ floor) × (epoch < c.epoch → floor ≤ c.floor) × (c.epoch ≡ epoch → c.floor ≡ floor)
              sealed b = ((λ _. let k : c.floor ≤ next_floor under = z.0 b in omega arith), (λ k. absurd (omega arith)), (λ k. absurd (omega arith)))
