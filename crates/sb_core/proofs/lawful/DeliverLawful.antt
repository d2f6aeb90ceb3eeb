-- A bundle is delivered: the moment stays lawful.
use Rattle.sb_containers.specs.base.ElementLemmas.{every, All-flat_map}
use Rattle.std.proofs.Common.{eqb, ◌≡◌, ℕ, suc, zero, ◌+◌, ◌≤◌, ◌<◌, Bool, true, false, cond, List, [], ◌∷◌, ◌++◌, take, drop, Some, sym, refl, ap, subst, ◌∙◌, arith, zero-add, add-zero}
use Rattle.std.specs.List.{flat_map, slice_get, AllByRecursion}
use Rattle.std.proofs.lemmas.Bool.{eq-eqb, ne_eqb}
use Rattle.std.proofs.lemmas.Option.{same_Some}
use Rattle.sb_containers.specs.base.records.declared.item.Record.{Record}
use Rattle.sb_containers.specs.base.pardo.declared.operation.Op.{Op}
use Rattle.sb_containers.specs.base.KeepingLemmas.{outputs_keep_time}
use Rattle.sb_containers.specs.declared.container.CoreLane.{CoreLane}
use Rattle.sb_containers.specs.base.pipeline.declared.transform.Down.{Down}
use Rattle.sb_core.specs.declared.moment.Node.{Node}
use Rattle.sb_containers.specs.base.pipeline.Shapes.{Shape}
use Rattle.sb_core.specs.declared.moment.Moment.{Moment}
use Rattle.sb_core.specs.declared.held.Held.{Held}
use Rattle.sb_core.specs.declared.held.Held.TheVariants.{Work, Close}
use Rattle.sb_core.specs.Bounds.{above_from, bound_at}
use Rattle.sb_containers.specs.base.pardo.Outputs.{outputs_of}
use Rattle.sb_containers.specs.base.pipeline.Operators.{operator_at}
use Rattle.sb_containers.specs.base.pipeline.Plans.{IsPlan}
use Rattle.sb_containers.specs.base.pipeline.declared.transform.Step.{Step}
use Rattle.sb_containers.specs.Lanes.{next_epoch, next_floor, with_arrival}
use Rattle.sb_core.specs.Moments.{is_close, is_close_of, set_lane, set_node, with_held}
use Rattle.sb_containers.specs.LaneOrder.{IsWithin, IsLane}
use Rattle.sb_containers.proofs.Fitting.{Fits}
use Rattle.sb_core.specs.Closings.{is_pardo}
use Rattle.sb_core.specs.Holdings.{IsWork, IsClosing, IsHeld, is_unpassed}
use Rattle.sb_core.proofs.sound.Orderly.{IsLawful}
use Rattle.sb_containers.specs.base.SumLemmas.{IsReordered}
use Rattle.sb_containers.specs.base.window.declared.windows.TheConstants.{MAX_SIZE}
use Rattle.sb_core.proofs.lawful.Frame.{frame, holds_still}
use Rattle.sb_containers.proofs.Stays.{IsKept}
use Rattle.sb_containers.proofs.Arriving.{put-lane, put-kept, next_fits}
use Rattle.sb_core.proofs.sound.HeldLists.{any_swap, count_swap, All-last}
use Rattle.sb_core.proofs.exact.Nodes.{lane_at-is}
use Rattle.sb_core.proofs.lawful.HeldStill.{goes-on}

pub All-take : {X : Type 0} (P : X → Type 0) (n : ℕ) (xs : List X) → AllByRecursion P xs → AllByRecursion P (take n xs)
All-take P zero xs all = tt
All-take P (suc n) [] all = tt
All-take P (suc n) (x ∷ xs) all = (all.0, All-take P n xs all.1)

pub All-drop : {X : Type 0} (P : X → Type 0) (n : ℕ) (xs : List X) → AllByRecursion P xs → AllByRecursion P (drop n xs)
All-drop P zero xs all = all
All-drop P (suc n) [] all = tt
All-drop P (suc n) (x ∷ xs) all = All-drop P n xs all.1

-- ---- a transform's number of those above it is less than that of the node below
counted-more : (k : ℕ) (steps : List Step) (count : ℕ → ℕ) (n : ℕ) → count n ≤ above_from k steps count n
counted-more k [] count n = omega arith
counted-more k (s ∷ steps) count n = by_case (eqb s.down.node n) refl (counted-more (k + 1) steps (λ n. cond (eqb s.down.node n) (count n + count k + 1) (count n)) n)
  where
    by_case : (b : Bool) → eqb s.down.node n ≡ b → cond (eqb s.down.node n) (count n + count k + 1) (count n) ≤ above_from k (s ∷ steps) count n → count n ≤ above_from k (s ∷ steps) count n
    by_case true e h = let z : cond (eqb s.down.node n) (count n + count k + 1) (count n) ≡ count n + count k + 1 = ap (λ b. cond b (count n + count k + 1) (count n)) e in omega arith
    by_case false e h = let z : cond (eqb s.down.node n) (count n + count k + 1) (count n) ≡ count n = ap (λ b. cond b (count n + count k + 1) (count n)) e in omega arith

counted-already : (k : ℕ) (steps : List Step) (count : ℕ → ℕ) (n : ℕ) → ((j : ℕ) (s : Step) → slice_get steps j ≡ Some s → k + j < s.down.node) → n ≤ k → above_from k steps count n ≡ count n
counted-already k [] count n further h = refl
counted-already k (s ∷ steps) count n further h =
    let lower : k + 0 < s.down.node = further 0 s refl in
    counted-already (k + 1) steps (λ n. cond (eqb s.down.node n) (count n + count k + 1) (count n)) n (λ j t e. let z : k + suc j < t.down.node = further (suc j) t e in omega arith) (omega arith)
    ∙ ap (λ b. cond b (count n + count k + 1) (count n)) (ne_eqb s.down.node n (λ e. absurd (omega arith)))

above-more : (k : ℕ) (steps : List Step) (count : ℕ → ℕ) → ((j : ℕ) (s : Step) → slice_get steps j ≡ Some s → k + j < s.down.node) → (j : ℕ) (s : Step) → slice_get steps j ≡ Some s → above_from k steps count (k + j) + 1 ≤ above_from k steps count s.down.node
above-more k [] count further j s h = cc
above-more k (t ∷ steps) count further zero s h =
    let same : t ≡ s = same_Some t s h in
    let lower : k + 0 < s.down.node = further 0 s h in
    let a : above_from k (t ∷ steps) count (k + 0) ≡ count (k + 0) =
    counted-already (k + 1) steps (λ n. cond (eqb t.down.node n) (count n + count k + 1) (count n)) (k + 0) (λ j t e. let z : k + suc j < t.down.node = further (suc j) t e in omega arith) (omega arith)
    ∙ ap (λ b. cond b (count (k + 0) + count k + 1) (count (k + 0))) (ne_eqb t.down.node (k + 0) (λ e. absurd (let q : t.down.node ≡ s.down.node = ap (λ (s : Step). s.down.node) same in omega arith))) in
    let b : cond (eqb t.down.node s.down.node) (count s.down.node + count k + 1) (count s.down.node) ≤ above_from k (t ∷ steps) count s.down.node = counted-more (k + 1) steps (λ n. cond (eqb t.down.node n) (count n + count k + 1) (count n)) s.down.node in
    let c : cond (eqb t.down.node s.down.node) (count s.down.node + count k + 1) (count s.down.node) ≡ count s.down.node + count k + 1 = ap (λ b. cond b (count s.down.node + count k + 1) (count s.down.node)) (eq-eqb t.down.node s.down.node (ap (λ (s : Step). s.down.node) same)) in
    let d : count (k + 0) ≡ count k = ap count (add-zero k) in
    omega arith
above-more k (t ∷ steps) count further (suc j) s h =
    subst (λ z. above_from k (t ∷ steps) count z + 1 ≤ above_from k (t ∷ steps) count s.down.node) (shift k j)
    (above-more (k + 1) steps (λ n. cond (eqb t.down.node n) (count n + count k + 1) (count n)) (λ j t e. let z : k + suc j < t.down.node = further (suc j) t e in omega arith) j s h)
  where
    shift : (k j : ℕ) → k + 1 + j ≡ k + suc j
    shift k j = omega arith

pub bound-rises : (plan : Shape) → IsPlan plan → (k : ℕ) (s : Step) → slice_get plan.steps k ≡ Some s → bound_at plan k + MAX_SIZE ≤ bound_at plan s.down.node
bound-rises plan is_plan k s is =
    let h : above_from 0 plan.steps (λ n. 0) (0 + k) + 1 ≤ above_from 0 plan.steps (λ n. 0) s.down.node = above-more 0 plan.steps (λ n. 0) (λ j s e. let z : j < s.down.node = is_plan.further j s e in omega arith) k s is in
    let z : above_from 0 plan.steps (λ n. 0) (0 + k) ≡ above_from 0 plan.steps (λ n. 0) k = ap (above_from 0 plan.steps (λ n. 0)) (zero-add k) in
    omega arith

within_wider : (floor low high : ℕ) → low ≤ high → (l : List Record) → IsWithin floor low l → IsWithin floor high l
within_wider floor low high h l all = every (λ r k. (k.0, omega (arith, k.1))) l all

-- the images of a record have its time
pub images_within : (op : Op) (floor bound : ℕ) (l : List Record) → IsWithin floor bound l → IsWithin floor bound (flat_map (outputs_of op) l)
images_within op floor bound l all = All-flat_map (λ r. (floor ≤ r.time) × (r.time ≤ bound)) (λ r. (floor ≤ r.time) × (r.time ≤ bound)) (outputs_of op) (one op) l all
  where
    one : (op : Op) (r : Record) → (floor ≤ r.time) × (r.time ≤ bound) → AllByRecursion (λ r. (floor ≤ r.time) × (r.time ≤ bound)) (outputs_of op r)
    one op r h = every (λ x same. (subst (λ t. floor ≤ t) (sym same) h.0, subst (λ t. t ≤ bound) (sym same) h.1)) (outputs_of op r) (outputs_keep_time op r)

-- ---- the next rows of a Close
pub rows-lawful : (plan : Shape) (m : Moment) (d : Down) (node : Node) (lane : CoreLane) (y l epoch serial floor mark : ℕ) (rows : List Record) (others : List Held) (count : ℕ)
    → slice_get m.nodes d.node ≡ Some node → slice_get node.lanes d.lane ≡ Some lane → IsLawful plan m → IsReordered m.held (Close y l epoch serial floor mark rows false ∷ others) → AllByRecursion (IsHeld plan m) others
    → IsClosing plan m y l epoch serial floor mark rows false → bound_at plan y + MAX_SIZE ≤ bound_at plan d.node → next_epoch lane ≡ serial → next_floor lane ≡ floor
    → IsLawful plan (set_node d.node (set_lane d.lane (with_arrival serial floor (take count rows) lane) node) (with_held (others ++ Close y l epoch serial floor mark (drop count rows) false ∷ []) m))
rows-lawful plan m d node lane y l epoch serial floor mark rows others count at in_it lawful pulled holds closing further next low =
    frame plan m d node lane with at in_it kept held lawful placed
    (All-last (IsHeld plan (set_node d.node (set_lane d.lane (with_arrival serial floor (take count rows) lane) node) (with_held (others ++ Close y l epoch serial floor mark (drop count rows) false ∷ []) m))) others (Close y l epoch serial floor mark (drop count rows) false)
    (every (λ h. holds_still plan m d node lane with at in_it kept held h) others holds)
    (holds_still plan m d node lane with at in_it kept held (Close y l epoch serial floor mark (drop count rows) false)
    (goes-on closing (drop count rows) false (All-drop (λ r. (floor ≤ r.time) × (r.time ≤ bound_at plan y + MAX_SIZE)) count rows closing.times) (All-drop (λ r. r.time < mark) count rows closing.before_mark) (λ f. cc))))
    (λ k. omega (arith, count_swap (is_close k) m.held others (Close y l epoch serial floor mark rows false) (Close y l epoch serial floor mark (drop count rows) false) pulled refl))
    (λ e. any_swap (is_close_of e.node e.lane) m.held others (Close y l epoch serial floor mark rows false) (Close y l epoch serial floor mark (drop count rows) false) pulled refl)
    (λ k. any_swap (is_unpassed k) m.held others (Close y l epoch serial floor mark rows false) (Close y l epoch serial floor mark (drop count rows) false) pulled refl)
  where
    with : CoreLane
    with = with_arrival serial floor (take count rows) lane

    held : List Held
    held = others ++ Close y l epoch serial floor mark (drop count rows) false ∷ []

    ok : IsLane (bound_at plan d.node) lane
    ok = lawful.lanes d lane (lane_at-is m d node lane at in_it)

    times : IsWithin floor (bound_at plan d.node) (take count rows)
    times = within_wider floor (bound_at plan y + MAX_SIZE) (bound_at plan d.node) further (take count rows) (All-take (λ r. (floor ≤ r.time) × (r.time ≤ bound_at plan y + MAX_SIZE)) count rows closing.times)

    fits : Fits serial floor lane.conts
    fits = subst (λ z. Fits z floor lane.conts) next (subst (λ z. Fits (next_epoch lane) z lane.conts) low (next_fits (bound_at plan d.node) lane ok))

    placed : IsLane (bound_at plan d.node) (with_arrival serial floor (take count rows) lane)
    placed = put-lane (bound_at plan d.node) serial floor (take count rows) lane ok times (omega arith) (omega arith) (λ _. sym low) fits

    kept : IsKept lane (with_arrival serial floor (take count rows) lane)
    kept = put-kept (bound_at plan d.node) serial floor (take count rows) lane ok times (omega arith) (omega arith) (λ _. sym low) fits

-- ---- a ParDo's Work
pub work-lawful : (plan : Shape) (m : Moment) (d : Down) (node : Node) (lane : CoreLane) (op : Op) (y l epoch floor number : ℕ) (records : List Record) (others : List Held)
    → slice_get m.nodes d.node ≡ Some node → slice_get node.lanes d.lane ≡ Some lane → IsLawful plan m → IsReordered m.held (Work y l epoch floor number records false ∷ others) → AllByRecursion (IsHeld plan m) others
    → IsWork plan m y l epoch floor number records false → is_pardo (operator_at (slice_get plan.steps y)) ≡ true → bound_at plan y + MAX_SIZE ≤ bound_at plan d.node
    → next_epoch lane ≤ epoch → next_floor lane ≤ floor → (epoch ≡ next_epoch lane → floor ≡ next_floor lane) → Fits epoch floor lane.conts
    → IsLawful plan (set_node d.node (set_lane d.lane (with_arrival epoch floor (flat_map (outputs_of op) records) lane) node) (with_held (others ++ Work y l epoch floor number records true ∷ []) m))
work-lawful plan m d node lane op y l epoch floor number records others at in_it lawful pulled holds work pardo further from above is_next fits =
    frame plan m d node lane with at in_it kept held lawful placed
    (All-last (IsHeld plan (set_node d.node (set_lane d.lane (with_arrival epoch floor (flat_map (outputs_of op) records) lane) node) (with_held (others ++ Work y l epoch floor number records true ∷ []) m))) others (Work y l epoch floor number records true)
    (every (λ h. holds_still plan m d node lane with at in_it kept held h) others holds)
    (holds_still plan m d node lane with at in_it kept held (Work y l epoch floor number records true) (record { lane = work.lane; there = work.there; cont = work.cont; of_epoch = work.of_epoch; floor_is = work.floor_is; is_out = work.is_out; times = work.times; only_pardo = λ _. pardo })))
    (λ k. omega (arith, count_swap (is_close k) m.held others (Work y l epoch floor number records false) (Work y l epoch floor number records true) pulled refl))
    (λ e. any_swap (is_close_of e.node e.lane) m.held others (Work y l epoch floor number records false) (Work y l epoch floor number records true) pulled refl)
    (λ k. any_swap (is_unpassed k) m.held others (Work y l epoch floor number records false) (Work y l epoch floor number records true) pulled refl)
  where
    with : CoreLane
    with = with_arrival epoch floor (flat_map (outputs_of op) records) lane

    held : List Held
    held = others ++ Work y l epoch floor number records true ∷ []

    ok : IsLane (bound_at plan d.node) lane
    ok = lawful.lanes d lane (lane_at-is m d node lane at in_it)

    times : IsWithin floor (bound_at plan d.node) (flat_map (outputs_of op) records)
    times = within_wider floor (bound_at plan y) (bound_at plan d.node) (omega (arith, further)) (flat_map (outputs_of op) records) (images_within op floor (bound_at plan y) records work.times)

    placed : IsLane (bound_at plan d.node) (with_arrival epoch floor (flat_map (outputs_of op) records) lane)
    placed = put-lane (bound_at plan d.node) epoch floor (flat_map (outputs_of op) records) lane ok times from above is_next fits

    kept : IsKept lane (with_arrival epoch floor (flat_map (outputs_of op) records) lane)
    kept = put-kept (bound_at plan d.node) epoch floor (flat_map (outputs_of op) records) lane ok times from above is_next fits
