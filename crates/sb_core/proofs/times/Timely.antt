-- Nothing comes late to a lane: what each node gives is from the floor of the lane below on.
use Rattle.std.proofs.Common.{◌≡◌, ℕ, ◌+◌, ◌≤◌, Bool, true, false, not, cond, ltb, List, [], ◌∷◌, ◌++◌, length, Some, None, Option, sym, refl, ap, subst, ◌∙◌, arith, ⊎_elim}
use Rattle.std.specs.Prelude.{◌==◌}
use Rattle.std.proofs.lemmas.Option.{slice_get_cases}
use Rattle.std.specs.List.{flat_map, sum_by, slice_get, All, AllByRecursion}
use Rattle.std.proofs.lemmas.Bool.{le-ltb, ltb-false, cases_eq, eq-eqb, ne_eqb}
use Rattle.std.proofs.lemmas.List.Sums.{sum_by-append, sum_by-cons}
use Rattle.std.proofs.lemmas.List.Elements.{recursion_from_All}
use Rattle.std.proofs.lemmas.List.Concat.{flat_map-append}
use Rattle.sb_containers.specs.base.records.declared.item.Record.{Record}
use Rattle.sb_containers.specs.base.records.declared.element.KeptRec.{KeptRec}
use Rattle.sb_containers.specs.base.records.declared.item.Stream.{Stream}
use Rattle.sb_containers.specs.base.records.declared.item.Stream.TheVariants.{A, B}
use Rattle.sb_containers.specs.base.pardo.declared.operation.Op.{Op}
use Rattle.sb_containers.specs.base.KeepingLemmas.{outputs_keep_time}
use Rattle.sb_containers.specs.base.pipeline.declared.transform.Down.{Down}
use Rattle.sb_containers.specs.base.pipeline.declared.transform.Step.{Step}
use Rattle.sb_containers.specs.base.pipeline.Shapes.{Shape, source}
use Rattle.sb_core.specs.declared.moment.Moment.{Moment}
use Rattle.sb_containers.specs.declared.container.CoreLane.{CoreLane}
use Rattle.sb_containers.specs.base.records.Records.{at_least}
use Rattle.sb_containers.specs.base.pipeline.Operators.{Operator, operator_of, operator_at, operator_rows}
use Rattle.sb_containers.specs.base.pardo.Outputs.{outputs_of}
use Rattle.sb_containers.specs.base.records.Elements.{on_lane, all_records}
use Rattle.sb_containers.specs.base.pipeline.Flow.{arrivals_at, from_stream, from_streams}
use Rattle.sb_containers.specs.base.pipeline.Operators.Operator.{ParDo, Windowed, Sink}
use Rattle.sb_containers.specs.base.pipeline.declared.transform.Kind.{Kind}
use Rattle.sb_containers.specs.base.pipeline.declared.transform.Kind.TheVariants.{Do, Group, Session, Join}
use Rattle.sb_containers.specs.Marks.{least_begun_mark}
use Rattle.sb_containers.specs.Lanes.{next_floor}
use Rattle.sb_core.specs.Moments.{lane_at, node_at, floor_of, floor_at}
use Rattle.sb_core.specs.Closings.{is_sink}
use Rattle.sb_containers.specs.base.records.declared.item.TheConstants.{MAX_TIME}
use Rattle.sb_core.specs.Exactness.{waiting_from, work_in, rows_left_in, rest, gives, gives_by, IsAdmissible}
use Rattle.sb_containers.specs.base.SumLemmas.{sum_by-flat_map, sum_by-map, sum_by-filter}
use Rattle.sb_core.proofs.exact.Flow.{brought}
use Rattle.sb_core.proofs.windows.Groupings.{early, early_one}
use Rattle.sb_core.proofs.exact.Gives.{sum_by-rest}

-- 1 where the lane is not there, or the time is before the floor of its next epoch
abbrev pub late_for : Option CoreLane → ℕ → ℕ
late_for None time = 1
late_for (Some lane) time = cond (ltb time (next_floor lane)) 1 0

abbrev pub late : Moment → ℕ → KeptRec → ℕ
late m k e = late_for (lane_at m (record { node = k; lane = e.lane })) e.rec.time

-- a transform, and the lane below it
pub record IsTimelyAt (m : Moment) (k : ℕ) (d : Down) : Type 0 where
  pub lane : CoreLane
  pub there : lane_at m d ≡ Some lane
  pub rows : sum_by (early (next_floor lane)) (flat_map (rows_left_in k) m.held) ≡ 0
  pub behind : next_floor lane ≤ least_begun_mark (node_at m k).lanes

pub record IsTimely (plan : Shape) (m : Moment) : Type 0 where
  pub below : (k : ℕ) (s : Step) → slice_get plan.steps k ≡ Some s → IsTimelyAt m k s.down
  pub waiting : (k : ℕ) → sum_by (early_one (least_begun_mark (node_at m k).lanes)) (waiting_from 0 (node_at m k).lanes) ≡ 0
  pub works : (k : ℕ) → sum_by (early_one (least_begun_mark (node_at m k).lanes)) (flat_map (work_in k) m.held) ≡ 0
  pub seals : (k l : ℕ) (lane : CoreLane) → lane_at m (record { node = k; lane = l }) ≡ Some lane → least_begun_mark (node_at m k).lanes ≤ next_floor lane
  pub sources : (s : Stream) (d : Down) → source plan s ≡ Some d → (lane : CoreLane) × (lane_at m d ≡ Some lane)

-- a transform is no sink
pub no_sink : (kind : Kind) → is_sink (operator_of kind) ≡ false
no_sink (Do op) = refl
no_sink (Group agg windows) = refl
no_sink (Session agg gap) = refl
no_sink (Join combine windows) = refl

-- the node after the transforms is the sink
pub sink-last : (steps : List Step) (k count : ℕ) → count ≡ length steps → k ≤ length steps → (k == count) ≡ is_sink (operator_at (slice_get steps k))
sink-last steps k count e within = ⊎_elim
    (λ a. ne_eqb k count (λ same. omega (arith, a.1, e, same)) ∙ sym (ap (λ (o : Option Step). is_sink (operator_at o)) a.2 ∙ no_sink a.0.kind))
    (λ b. eq-eqb k count (omega (arith, b.0, e, within)) ∙ sym (ap (λ (o : Option Step). is_sink (operator_at o)) b.1)) (slice_get_cases steps k).1

-- ---- sums of ones that are zero
pub zero_by : {X : Type 0} (f g : X → ℕ) → ((x : X) → f x ≡ 0 → g x ≡ 0) → (l : List X) → sum_by f l ≡ 0 → sum_by g l ≡ 0
zero_by f g h [] e = refl
zero_by f g h (x ∷ l) e =
    sum_by-cons g x l ∙ (λ i. h x (omega (arith, sum_by-cons f x l)) i + zero_by f g h l (omega (arith, sum_by-cons f x l)) i)

-- 0 is the sign of a time from the mark on
pub early_zero : (mark time : ℕ) → cond {A = ℕ} (ltb time mark) 1 0 ≡ 0 → mark ≤ time
early_zero mark time e = by_case (ltb time mark) refl e
  where
    by_case : (b : Bool) → ltb time mark ≡ b → cond {A = ℕ} b 1 0 ≡ 0 → mark ≤ time
    by_case true h e = absurd (omega arith)
    by_case false h e = ltb-false time mark h

pub zero_early : (mark time : ℕ) → mark ≤ time → cond {A = ℕ} (ltb time mark) 1 0 ≡ 0
zero_early mark time h = ap (λ b. cond {A = ℕ} b 1 0) (le-ltb time mark h)

pub early_weaker : (low high : ℕ) → low ≤ high → (l : List Record) → sum_by (early high) l ≡ 0 → sum_by (early low) l ≡ 0
early_weaker low high h = zero_by (early high) (early low) (λ r e. let k : high ≤ r.time = early_zero high r.time e in zero_early low r.time (omega arith))

-- what is given is from the mark on
same_times : (mark : ℕ) (r : Record) (l : List Record) → AllByRecursion (λ x. x.time ≡ r.time) l → early mark r ≡ 0 → sum_by (early mark) l ≡ 0
same_times mark r [] all h = refl
same_times mark r (x ∷ l) all h = sum_by-cons (early mark) x l ∙ (λ i. (ap (λ t. cond {A = ℕ} (ltb t mark) 1 0) all.0 ∙ h) i + same_times mark r l all.1 h i)

early-image : (op : Op) (mark : ℕ) (r : Record) → early mark r ≡ 0 → sum_by (early mark) (outputs_of op r) ≡ 0
early-image op mark r h = same_times mark r (outputs_of op r) (outputs_keep_time op r) h

early-images : (op : Op) (mark : ℕ) (l : List Record) → sum_by (early mark) l ≡ 0 → sum_by (early mark) (flat_map (outputs_of op) l) ≡ 0
early-images op mark l h = sum_by-flat_map (early mark) (outputs_of op) l ∙ zero_by (early mark) (λ r. sum_by (early mark) (outputs_of op r)) (early-image op mark) l h

early-at_least : (mark : ℕ) (l : List Record) → sum_by (early mark) (at_least mark l) ≡ 0
early-at_least mark l = sum_by-filter (early mark) (λ r. not (ltb r.time mark)) l ∙ zeros l
  where
    one : (b : Bool) → cond (not b) (cond {A = ℕ} b 1 0) 0 ≡ 0
    one true = refl
    one false = refl

    zeros : (l : List Record) → sum_by (λ r. cond (not (ltb r.time mark)) (early mark r) 0) l ≡ 0
    zeros [] = refl
    zeros (r ∷ l) = sum_by-cons (λ r. cond (not (ltb r.time mark)) (early mark r) 0) r l ∙ (λ i. one (ltb r.time mark) i + zeros l i)

-- ---- what a node has to work off, where what comes is in time
module _ (plan : Shape) (m : Moment) (timely : IsTimely plan m) where
  coming_in_time : (k : ℕ) (es : List KeptRec) → sum_by (late m k) es ≡ 0 → sum_by (early_one (least_begun_mark (node_at m k).lanes)) es ≡ 0
  coming_in_time k es h = zero_by (late m k) (early_one (least_begun_mark (node_at m k).lanes)) (λ e z. from (lane_at m (record { node = k; lane = e.lane })) e refl z) es h
    where
      from : (o : Option CoreLane) (e : KeptRec) → lane_at m (record { node = k; lane = e.lane }) ≡ o → late_for o e.rec.time ≡ 0 → early_one (least_begun_mark (node_at m k).lanes) e ≡ 0
      from None e is z = absurd (omega arith)
      from (Some lane) e is z =
          let a : least_begun_mark (node_at m k).lanes ≤ next_floor lane = timely.seals k e.lane lane is in
          let b : next_floor lane ≤ e.rec.time = early_zero (next_floor lane) e.rec.time z in
          zero_early (least_begun_mark (node_at m k).lanes) e.rec.time (omega arith)

  pub rest_in_time : (k : ℕ) (es : List KeptRec) → sum_by (late m k) es ≡ 0 → sum_by (early_one (least_begun_mark (node_at m k).lanes)) (rest k (node_at m k) m.held es) ≡ 0
  rest_in_time k es h =
      sum_by-rest (early_one (least_begun_mark (node_at m k).lanes)) k (node_at m k) m.held es
      ∙ (λ i. (timely.waiting k i + timely.works k i) + coming_in_time k es h i)

  pub gives_in_time : (k : ℕ) (es : List KeptRec) (s : Step) → slice_get plan.steps k ≡ Some s → sum_by (late m k) es ≡ 0
      → sum_by (λ r. late m s.down.node (record { lane = s.down.lane; rec = r })) (gives plan m k es) ≡ 0
  gives_in_time k es s is h =
      let t = timely.below k s is in
      ap (λ o. sum_by (λ r. late_for o r.time) (gives plan m k es)) t.there
      ∙ ap (λ o. sum_by (early (next_floor t.lane)) (gives_by (operator_at o) k (node_at m k) m.held m.rows es)) is
      ∙ by_operator (operator_of s.kind) (no_sink s.kind) t.lane t.rows t.behind
    where
      by_operator : (o : Operator) → is_sink o ≡ false → (lane : CoreLane) → sum_by (early (next_floor lane)) (flat_map (rows_left_in k) m.held) ≡ 0 → next_floor lane ≤ least_begun_mark (node_at m k).lanes
          → sum_by (early (next_floor lane)) (gives_by o k (node_at m k) m.held m.rows es) ≡ 0
      by_operator (ParDo op) not_sink lane rows behind =
          sum_by-append (early (next_floor lane)) (flat_map (rows_left_in k) m.held) (flat_map (outputs_of op) (all_records (rest k (node_at m k) m.held es)))
          ∙ (λ i. rows i + early-images op (next_floor lane) (all_records (rest k (node_at m k) m.held es))
          (early_weaker (next_floor lane) (least_begun_mark (node_at m k).lanes) behind (all_records (rest k (node_at m k) m.held es)) (sum_by-map (early (least_begun_mark (node_at m k).lanes)) (λ e. e.rec) (rest k (node_at m k) m.held es) ∙ rest_in_time k es h)) i)
      by_operator (Windowed g) not_sink lane rows behind =
          sum_by-append (early (next_floor lane)) (flat_map (rows_left_in k) m.held) (at_least (least_begun_mark (node_at m k).lanes) (operator_rows g ((node_at m k).kept ++ rest k (node_at m k) m.held es)))
          ∙ (λ i. rows i + early_weaker (next_floor lane) (least_begun_mark (node_at m k).lanes) behind (at_least (least_begun_mark (node_at m k).lanes) (operator_rows g ((node_at m k).kept ++ rest k (node_at m k) m.held es))) (early-at_least (least_begun_mark (node_at m k).lanes) (operator_rows g ((node_at m k).kept ++ rest k (node_at m k) m.held es))) i)
      by_operator Sink not_sink lane rows behind = cc

  -- what the streams bring
  pub streams_in_time : (coming : Stream → List Record) → IsAdmissible plan m coming → (n : ℕ) → sum_by (late m n) (arrivals_at n (from_streams plan coming)) ≡ 0
  streams_in_time coming ok n =
      ap (sum_by (late m n)) (flat_map-append (brought n) (from_stream plan.source_a (coming A)) (from_stream plan.source_b (coming B)))
      ∙ sum_by-append (late m n) (arrivals_at n (from_stream plan.source_a (coming A))) (arrivals_at n (from_stream plan.source_b (coming B)))
      ∙ (λ i. one A plan.source_a refl (ok A) i + one B plan.source_b refl (ok B) i)
    where
      in_it : (d : Down) (l : List Record) → ((lane : CoreLane) × (lane_at m d ≡ Some lane)) → All (λ r. (floor_at m d ≤ r.time) × (r.time ≤ MAX_TIME)) l → sum_by (λ r. late m d.node (record { lane = d.lane; rec = r })) l ≡ 0
      in_it d l at all = zeros l (recursion_from_All (λ r. (floor_at m d ≤ r.time) × (r.time ≤ MAX_TIME)) l all)
        where
          zeros : (l : List Record) → AllByRecursion (λ r. (floor_at m d ≤ r.time) × (r.time ≤ MAX_TIME)) l → sum_by (λ r. late m d.node (record { lane = d.lane; rec = r })) l ≡ 0
          zeros [] all = refl
          zeros (r ∷ l) all =
              sum_by-cons (λ r. late m d.node (record { lane = d.lane; rec = r })) r l
              ∙ (λ i. (ap (λ o. late_for o r.time) at.1 ∙ zero_early (next_floor at.0) r.time (subst (λ n. n ≤ r.time) (ap floor_of at.1) all.0.0)) i + zeros l all.1 i)

      one : (s : Stream) (o : Option Down) → source plan s ≡ o → ((d : Down) → source plan s ≡ Some d → All (λ r. (floor_at m d ≤ r.time) × (r.time ≤ MAX_TIME)) (coming s)) → sum_by (late m n) (arrivals_at n (from_stream o (coming s))) ≡ 0
      one s None is all = refl
      one s (Some d) is all =
          sum_by-append (late m n) (brought n (record { down = d; records = coming s })) [] ∙ omega (arith, here d (timely.sources s d is) (all d is))
        where
          here : (d : Down) → ((lane : CoreLane) × (lane_at m d ≡ Some lane)) → All (λ r. (floor_at m d ≤ r.time) × (r.time ≤ MAX_TIME)) (coming s) → sum_by (late m n) (brought n (record { down = d; records = coming s })) ≡ 0
          here d at all = ⊎_elim
              (λ e. ap (λ b. sum_by (late m n) (cond b (on_lane d.lane (coming s)) [])) (eq-eqb d.node n e) ∙ sum_by-map (late m n) (λ r. record { lane = d.lane; rec = r }) (coming s)
              ∙ ap (λ k. sum_by (λ r. late m k (record { lane = d.lane; rec = r })) (coming s)) (sym e) ∙ in_it d (coming s) at all)
              (λ ne. ap (λ b. sum_by (late m n) (cond b (on_lane d.lane (coming s)) [])) (ne_eqb d.node n ne))
              (cases_eq d.node n)
