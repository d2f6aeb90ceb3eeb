-- A change in one lane, as each node sees it.
use Rattle.std.proofs.Common.{◌≡◌, ℕ, suc, zero, ◌+◌, Bool, true, false, cond, eqb, List, [], ◌∷◌, Some, Option, sym, refl, ap, subst, ◌∙◌, arith, zero-add, inl, inr, ⊎_elim, add-zero}
use Rattle.std.specs.Prelude.{◌≢◌, ◌⊎◌, min}
use Rattle.std.specs.List.{sum_by, slice_get, slice_set}
use Rattle.std.proofs.lemmas.List.{get_or-set_same, get_or-set_other}
use Rattle.std.proofs.lemmas.List.Sums.{sum_by-append, sum_by-set}
use Rattle.std.proofs.lemmas.Option.{slice_get_within, get_or_from_slice_get}
use Rattle.std.proofs.lemmas.Bool.{eq-eqb, ne_eqb, cases_eq}
use Rattle.sb_containers.specs.base.records.declared.element.KeptRec.{KeptRec}
use Rattle.sb_containers.specs.base.pipeline.declared.transform.Down.{Down}
use Rattle.sb_containers.specs.declared.container.CoreLane.{CoreLane}
use Rattle.sb_core.specs.declared.moment.Node.{Node}
use Rattle.sb_core.specs.declared.moment.Moment.{Moment}
use Rattle.sb_containers.specs.base.records.Elements.{on_lane}
use Rattle.sb_containers.specs.base.records.Reading.{◌>>=◌}
use Rattle.sb_containers.specs.Marks.{least_begun_mark}
use Rattle.sb_core.specs.Moments.{set_lane, set_node, lane_at, no_node, node_at}
use Rattle.sb_core.specs.Exactness.{waiting_in, waiting_from}
use Rattle.sb_core.proofs.exact.Flow.{brought}
use Rattle.sb_containers.proofs.Begun.{begun_mark}

-- one lane of many is another
pub sum_by-waiting_set : (f : KeptRec → ℕ) (i : ℕ) (lanes : List CoreLane) (l : ℕ) (lane with : CoreLane) → slice_get lanes l ≡ Some lane
    → sum_by f (waiting_from i (slice_set lanes l with)) + sum_by f (on_lane (i + l) (waiting_in lane)) ≡ sum_by f (waiting_from i lanes) + sum_by f (on_lane (i + l) (waiting_in with))
sum_by-waiting_set f i [] l lane with h = cc
sum_by-waiting_set f i (first ∷ lanes) zero lane with h =
    let e : first ≡ lane = cc in
    let a : sum_by f (waiting_from i (with ∷ lanes)) ≡ sum_by f (on_lane i (waiting_in with)) + sum_by f (waiting_from (i + 1) lanes) = sum_by-append f (on_lane i (waiting_in with)) (waiting_from (i + 1) lanes) in
    let b : sum_by f (waiting_from i (first ∷ lanes)) ≡ sum_by f (on_lane i (waiting_in first)) + sum_by f (waiting_from (i + 1) lanes) = sum_by-append f (on_lane i (waiting_in first)) (waiting_from (i + 1) lanes) in
    let c : sum_by f (on_lane (i + 0) (waiting_in lane)) ≡ sum_by f (on_lane i (waiting_in first)) = λ z. sum_by f (on_lane (add-zero i z) (waiting_in (sym e z))) in
    let d : sum_by f (on_lane (i + 0) (waiting_in with)) ≡ sum_by f (on_lane i (waiting_in with)) = λ z. sum_by f (on_lane (add-zero i z) (waiting_in with)) in
    omega arith
sum_by-waiting_set f i (first ∷ lanes) (suc l) lane with h =
    let ih : sum_by f (waiting_from (i + 1) (slice_set lanes l with)) + sum_by f (on_lane (i + suc l) (waiting_in lane)) ≡ sum_by f (waiting_from (i + 1) lanes) + sum_by f (on_lane (i + suc l) (waiting_in with)) =
    subst (λ n. sum_by f (waiting_from (i + 1) (slice_set lanes l with)) + sum_by f (on_lane n (waiting_in lane)) ≡ sum_by f (waiting_from (i + 1) lanes) + sum_by f (on_lane n (waiting_in with))) (step i l) (sum_by-waiting_set f (i + 1) lanes l lane with h) in
    let a : sum_by f (waiting_from i (first ∷ slice_set lanes l with)) ≡ sum_by f (on_lane i (waiting_in first)) + sum_by f (waiting_from (i + 1) (slice_set lanes l with)) = sum_by-append f (on_lane i (waiting_in first)) (waiting_from (i + 1) (slice_set lanes l with)) in
    let b : sum_by f (waiting_from i (first ∷ lanes)) ≡ sum_by f (on_lane i (waiting_in first)) + sum_by f (waiting_from (i + 1) lanes) = sum_by-append f (on_lane i (waiting_in first)) (waiting_from (i + 1) lanes) in
    omega arith
  where
    step : (i l : ℕ) → (i + 1) + l ≡ i + suc l
    step i l = omega arith

-- the least over the lanes, where of one lane it is as it was
pub least-set : (f : CoreLane → ℕ) (least : List CoreLane → ℕ) → ((x : CoreLane) → least (x ∷ []) ≡ f x) → ((x y : CoreLane) (xs : List CoreLane) → least (x ∷ y ∷ xs) ≡ min (f x) (least (y ∷ xs)))
    → (lanes : List CoreLane) (l : ℕ) (lane with : CoreLane) → slice_get lanes l ≡ Some lane → f with ≡ f lane → least (slice_set lanes l with) ≡ least lanes
least-set f least one more [] l lane with h e = cc
least-set f least one more (first ∷ []) zero lane with h e = let k : first ≡ lane = cc in one with ∙ e ∙ ap f (sym k) ∙ sym (one first)
least-set f least one more (first ∷ []) (suc l) lane with h e = cc
least-set f least one more (first ∷ second ∷ lanes) zero lane with h e = let k : first ≡ lane = cc in more with second lanes ∙ ap (λ n. min n (least (second ∷ lanes))) (e ∙ ap f (sym k)) ∙ sym (more first second lanes)
least-set f least one more (first ∷ second ∷ lanes) (suc zero) lane with h e = more first with lanes ∙ ap (min (f first)) (least-set f least one more (second ∷ lanes) zero lane with h e) ∙ sym (more first second lanes)
least-set f least one more (first ∷ second ∷ lanes) (suc (suc l)) lane with h e = more first second (slice_set lanes l with) ∙ ap (min (f first)) (least-set f least one more (second ∷ lanes) (suc l) lane with h e) ∙ sym (more first second lanes)

-- a lane that began the same marks
pub closed-set : (lanes : List CoreLane) (l : ℕ) (lane with : CoreLane) → slice_get lanes l ≡ Some lane → begun_mark with ≡ begun_mark lane → least_begun_mark (slice_set lanes l with) ≡ least_begun_mark lanes
closed-set = least-set begun_mark least_begun_mark (λ x. refl) (λ x y xs. refl)

-- node k of a moment in which one node is another
module _ (m : Moment) (n : ℕ) (node with : Node) (at : slice_get m.nodes n ≡ Some node) where
  pub node_at-same : node_at m n ≡ node
  node_at-same = get_or_from_slice_get m.nodes n node no_node at

  pub node_at-set_same : node_at (set_node n with m) n ≡ with
  node_at-set_same = get_or-set_same m.nodes n with no_node (slice_get_within m.nodes n node at)

  pub node_at-set_other : (k : ℕ) → k ≢ n → node_at (set_node n with m) k ≡ node_at m k
  node_at-set_other k ne = get_or-set_other m.nodes n k with no_node ne

  -- what is of the new node as it was of the old one is so of each node
  pub of_each_node : {Y : Type 0} (g : Node → Y) → g with ≡ g node → (k : ℕ) → g (node_at (set_node n with m) k) ≡ g (node_at m k)
  of_each_node g same k = ⊎_elim
      (λ e. ap (λ k. g (node_at (set_node n with m) k)) e ∙ ap g node_at-set_same ∙ same ∙ sym (ap (λ k. g (node_at m k)) e ∙ ap g node_at-same))
      (λ ne. ap g (node_at-set_other k ne)) (cases_eq k n)

-- a moment in which the lane at a place is another
module _ (m : Moment) (d : Down) (node : Node) (lane with : CoreLane) (at : slice_get m.nodes d.node ≡ Some node) (in_it : slice_get node.lanes d.lane ≡ Some lane) where
  abbrev pub changed : Moment
  changed = set_node d.node (set_lane d.lane with node) m

  pub waiting-changed : (f : KeptRec → ℕ) (k : ℕ)
      → sum_by f (waiting_from 0 (node_at changed k).lanes) + sum_by f (brought k (record { down = d; records = waiting_in lane }))
      ≡ sum_by f (waiting_from 0 (node_at m k).lanes) + sum_by f (brought k (record { down = d; records = waiting_in with }))
  waiting-changed f k = ⊎_elim here elsewhere (cases_eq k d.node)
    where
      sides : Node → Node → Bool → Type 0
      sides x y b =
          sum_by f (waiting_from 0 x.lanes) + sum_by f (cond b (on_lane d.lane (waiting_in lane)) [])
          ≡ sum_by f (waiting_from 0 y.lanes) + sum_by f (cond b (on_lane d.lane (waiting_in with)) [])

      here : k ≡ d.node → sides (node_at changed k) (node_at m k) (eqb d.node k)
      here e =
          let x : node_at changed k ≡ set_lane d.lane with node = ap (node_at changed) e ∙ node_at-set_same m d.node node (set_lane d.lane with node) at in
          let y : node_at m k ≡ node = ap (node_at m) e ∙ node_at-same m d.node node (set_lane d.lane with node) at in
          let b : eqb d.node k ≡ true = eq-eqb d.node k (sym e) in
          let h : sides (set_lane d.lane with node) node true = zeros (sum_by-waiting_set f 0 node.lanes d.lane lane with in_it) in
          subst (λ z. z) (λ i. sides (sym x i) (sym y i) (sym b i)) h
        where
          zeros : sum_by f (waiting_from 0 (slice_set node.lanes d.lane with)) + sum_by f (on_lane (0 + d.lane) (waiting_in lane)) ≡ sum_by f (waiting_from 0 node.lanes) + sum_by f (on_lane (0 + d.lane) (waiting_in with))
              → sum_by f (waiting_from 0 (slice_set node.lanes d.lane with)) + sum_by f (on_lane d.lane (waiting_in lane)) ≡ sum_by f (waiting_from 0 node.lanes) + sum_by f (on_lane d.lane (waiting_in with))
          zeros h = subst (λ n. sum_by f (waiting_from 0 (slice_set node.lanes d.lane with)) + sum_by f (on_lane n (waiting_in lane)) ≡ sum_by f (waiting_from 0 node.lanes) + sum_by f (on_lane n (waiting_in with))) (zero-add d.lane) h

      elsewhere : k ≢ d.node → sides (node_at changed k) (node_at m k) (eqb d.node k)
      elsewhere ne =
          let x : node_at changed k ≡ node_at m k = node_at-set_other m d.node node (set_lane d.lane with node) at k ne in
          let b : eqb d.node k ≡ false = ne_eqb d.node k (λ e. ne (sym e)) in
          let h : sides (node_at m k) (node_at m k) false = refl in
          subst (λ z. z) (λ i. sides (sym x i) (node_at m k) (sym b i)) h

  pub kept-changed : (k : ℕ) → (node_at changed k).kept ≡ (node_at m k).kept
  kept-changed k = of_each_node m d.node node (set_lane d.lane with node) at (λ n. n.kept) refl k

  pub closed-changed : begun_mark with ≡ begun_mark lane → (k : ℕ) → least_begun_mark (node_at changed k).lanes ≡ least_begun_mark (node_at m k).lanes
  closed-changed same k = of_each_node m d.node node (set_lane d.lane with node) at (λ n. least_begun_mark n.lanes) (closed-set node.lanes d.lane lane with in_it same) k

-- ---- what is at an index after a write
pub sum_by-set_get : {X : Type 0} (f : X → ℕ) (xs : List X) (i : ℕ) (x y : X) → slice_get xs i ≡ Some x → sum_by f (slice_set xs i y) + f x ≡ sum_by f xs + f y
sum_by-set_get f xs i x y h = ap (λ z. sum_by f (slice_set xs i y) + f z) (sym (get_or_from_slice_get xs i x x h)) ∙ sum_by-set f xs i y x (slice_get_within xs i x h)

pub sum_by-set_at : {X : Type 0} (f : X → ℕ) (xs : List X) (i : ℕ) (x y : X) → slice_get xs i ≡ Some x → f y ≡ f x → sum_by f (slice_set xs i y) ≡ sum_by f xs
sum_by-set_at f xs i x y h e = omega (arith, sum_by-set_get f xs i x y h, e)

pub slice_get-set_same : {X : Type 0} (xs : List X) (i : ℕ) (x y : X) → slice_get xs i ≡ Some x → slice_get (slice_set xs i y) i ≡ Some y
slice_get-set_same [] i x y h = cc
slice_get-set_same (z ∷ xs) zero x y h = refl
slice_get-set_same (z ∷ xs) (suc i) x y h = slice_get-set_same xs i x y h

pub slice_get-set_other : {X : Type 0} (xs : List X) (i j : ℕ) (y : X) → j ≢ i → slice_get (slice_set xs i y) j ≡ slice_get xs j
slice_get-set_other [] i j y ne = refl
slice_get-set_other (z ∷ xs) zero zero y ne = absurd (ne refl)
slice_get-set_other (z ∷ xs) zero (suc j) y ne = refl
slice_get-set_other (z ∷ xs) (suc i) zero y ne = refl
slice_get-set_other (z ∷ xs) (suc i) (suc j) y ne = slice_get-set_other xs i j y (λ e. ne (ap suc e))

-- a lane by its node
pub lane_at-is : (m : Moment) (d : Down) (node : Node) (lane : CoreLane) → slice_get m.nodes d.node ≡ Some node → slice_get node.lanes d.lane ≡ Some lane → lane_at m d ≡ Some lane
lane_at-is m d node lane at in_it = ap (λ (o : Option Node). o >>= λ x. slice_get x.lanes d.lane) at ∙ in_it

-- a lane of a moment in which a node's lane is another
module _ (m : Moment) (n l : ℕ) (node new : Node) (lane with : CoreLane) (at : slice_get m.nodes n ≡ Some node) (in_it : slice_get node.lanes l ≡ Some lane) (lanes : new.lanes ≡ slice_set node.lanes l with) where
  pub lane_at-set : {Y : Type 0} (g : Option CoreLane → Y) → g (Some with) ≡ g (Some lane) → (d : Down) → g (lane_at (set_node n new m) d) ≡ g (lane_at m d)
  lane_at-set {Y} g same d = ⊎_elim here (λ ne. ap (λ o. g (o >>= λ node. slice_get node.lanes d.lane)) (slice_get-set_other m.nodes n d.node new ne)) (cases_eq d.node n)
    where
      lane_of : Option Node → Option CoreLane
      lane_of o = o >>= λ node. slice_get node.lanes d.lane

      inner : g (slice_get new.lanes d.lane) ≡ g (slice_get node.lanes d.lane)
      inner = ap (λ ls. g (slice_get ls d.lane)) lanes ∙ ⊎_elim
          (λ e. ap (λ i. g (slice_get (slice_set node.lanes l with) i)) e ∙ ap g (slice_get-set_same node.lanes l lane with in_it) ∙ same ∙ ap g (sym in_it) ∙ ap (λ i. g (slice_get node.lanes i)) (sym e))
          (λ ne. ap g (slice_get-set_other node.lanes l d.lane with ne)) (cases_eq d.lane l)

      here : d.node ≡ n → g (lane_at (set_node n new m) d) ≡ g (lane_at m d)
      here e =
          ap (λ i. g (slice_get (slice_set m.nodes n new) i >>= λ node. slice_get node.lanes d.lane)) e
          ∙ ap (λ (o : Option Node). g (o >>= λ node. slice_get node.lanes d.lane)) (slice_get-set_same m.nodes n node new at)
          ∙ inner
          ∙ ap (λ (o : Option Node). g (o >>= λ node. slice_get node.lanes d.lane)) (sym at)
          ∙ ap (λ i. g (slice_get m.nodes i >>= λ node. slice_get node.lanes d.lane)) (sym e)

  pub lane_at-there : lane_at (set_node n new m) (record { node = n; lane = l }) ≡ Some with
  lane_at-there = ap (λ (o : Option Node). o >>= λ node. slice_get node.lanes l) (slice_get-set_same m.nodes n node new at) ∙ ap (λ ls. slice_get ls l) lanes ∙ slice_get-set_same node.lanes l lane with in_it

  -- the place itself, or a lane that is as it was
  pub lane_at-cases : (d : Down) → ((d ≡ record { node = n; lane = l }) × (lane_at (set_node n new m) d ≡ Some with) × (lane_at m d ≡ Some lane)) ⊎ (lane_at (set_node n new m) d ≡ lane_at m d)
  lane_at-cases d = ⊎_elim (λ e. ⊎_elim (λ f. inl (here e f)) (λ ne. inr (there e ne)) (cases_eq d.lane l)) (λ ne. inr (ap (λ o. o >>= λ node. slice_get node.lanes d.lane) (slice_get-set_other m.nodes n d.node new ne))) (cases_eq d.node n)
    where
      here : d.node ≡ n → d.lane ≡ l → (d ≡ record { node = n; lane = l }) × (lane_at (set_node n new m) d ≡ Some with) × (lane_at m d ≡ Some lane)
      here e f =
          let k : d ≡ record { node = n; lane = l } = λ i. record { node = e i; lane = f i } in
          (k, ap (lane_at (set_node n new m)) k ∙ lane_at-there, ap (lane_at m) k ∙ lane_at-is m (record { node = n; lane = l }) node lane at in_it)

      there : d.node ≡ n → d.lane ≢ l → lane_at (set_node n new m) d ≡ lane_at m d
      there e ne =
          ap (λ i. slice_get (slice_set m.nodes n new) i >>= λ node. slice_get node.lanes d.lane) e
          ∙ ap (λ (o : Option Node). o >>= λ node. slice_get node.lanes d.lane) (slice_get-set_same m.nodes n node new at)
          ∙ ap (λ ls. slice_get ls d.lane) lanes
          ∙ slice_get-set_other node.lanes l d.lane with ne
          ∙ ap (λ (o : Option Node). o >>= λ node. slice_get node.lanes d.lane) (sym at)
          ∙ ap (λ i. slice_get m.nodes i >>= λ node. slice_get node.lanes d.lane) (sym e)

  pub lane_at-other : (d : Down) → d ≢ record { node = n; lane = l } → lane_at (set_node n new m) d ≡ lane_at m d
  lane_at-other d ne = ⊎_elim (λ c. absurd (ne c.0)) (λ c. c) (lane_at-cases d)
