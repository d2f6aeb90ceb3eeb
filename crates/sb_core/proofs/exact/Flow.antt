-- Two flows give the same at the sink, where each node gives the same of the same.
use Rattle.std.proofs.Common.{◌≡◌, ℕ, suc, ◌+◌, ◌≤◌, ◌<◌, Bool, true, false, cond, eqb, ltb, List, [], ◌∷◌, ◌++◌, length, Some, sym, refl, ap, subst, ◌∙◌, arith, zero-add, ⊎_elim}
use Rattle.std.specs.List.{sum_by, slice_get}
use Rattle.std.proofs.lemmas.List.Sums.{sum_by-append}
use Rattle.std.proofs.lemmas.List.Concat.{flat_map-append}
use Rattle.std.proofs.lemmas.Option.{slice_get_within}
use Rattle.std.specs.Prelude.{◌≢◌}
use Rattle.std.proofs.lemmas.Bool.{eq-eqb, ne_eqb, lt-ltb, le-ltb, cases_eq, cases_lt}
use Rattle.sb_containers.specs.base.records.declared.item.Record.{Record}
use Rattle.sb_containers.specs.base.records.declared.element.KeptRec.{KeptRec}
use Rattle.sb_containers.specs.base.records.declared.item.Stream.{Stream}
use Rattle.sb_containers.specs.base.pipeline.declared.transform.Down.{Down}
use Rattle.sb_containers.specs.base.pipeline.declared.transform.Step.{Step}
use Rattle.sb_containers.specs.base.pipeline.Shapes.{Shape}
use Rattle.sb_containers.specs.base.pipeline.Flow.{Sent, arrivals_at, sent_from, from_streams, flow}
use Rattle.sb_containers.specs.base.records.Elements.{on_lane}
use Rattle.sb_containers.specs.base.SumLemmas.{IsReordered, sum_by-map}

-- what one list on its way brings to a node
abbrev pub brought : ℕ → Sent → List KeptRec
brought k s = cond (eqb s.down.node k) (on_lane s.down.lane s.records) []

pub sum_by-arriving_push : (f : KeptRec → ℕ) (k : ℕ) (sent : List Sent) (s : Sent) → sum_by f (arrivals_at k (sent ++ s ∷ [])) ≡ sum_by f (arrivals_at k sent) + sum_by f (brought k s)
sum_by-arriving_push f k sent s =
    ap (sum_by f) (flat_map-append (brought k) sent (s ∷ []))
    ∙ sum_by-append f (arrivals_at k sent) (brought k s ++ [])
    ∙ ap (λ n. sum_by f (arrivals_at k sent) + n) (sum_by-append f (brought k s) [] ∙ omega arith)

-- lists that add up alike bring what adds up alike
pub sum_by-brought : (f : KeptRec → ℕ) (k : ℕ) (d : Down) (l m o : List Record) → IsReordered l (m ++ o)
    → sum_by f (brought k (record { down = d; records = l })) ≡ sum_by f (brought k (record { down = d; records = m })) + sum_by f (brought k (record { down = d; records = o }))
sum_by-brought f k d l m o h = by_case (eqb d.node k)
  where
    by_case : (b : Bool) → sum_by f (cond b (on_lane d.lane l) []) ≡ sum_by f (cond b (on_lane d.lane m) []) + sum_by f (cond b (on_lane d.lane o) [])
    by_case true =
        sum_by-map f _ l ∙ h (λ r. f (record { lane = d.lane; rec = r })) ∙ sum_by-append (λ r. f (record { lane = d.lane; rec = r })) m o
        ∙ (λ i. sym (sum_by-map f (λ r. record { lane = d.lane; rec = r }) m) i + sym (sum_by-map f (λ r. record { lane = d.lane; rec = r }) o) i)
    by_case false = omega arith

-- what is on its way at step k, of node y's to the place: all of it from the step after y on
abbrev pub in_flight : ℕ → Down → List Record → ℕ → ℕ → List KeptRec
in_flight y place moved i n = cond (ltb y i) (brought n (record { down = place; records = moved })) []

abbrev pub extra : ℕ → List Record → ℕ → List Record
extra y moved k = cond (eqb k y) moved []

-- nothing is brought by an empty list
pub brought_none : (f : KeptRec → ℕ) (n : ℕ) (d : Down) → sum_by f (brought n (record { down = d; records = [] })) ≡ 0
brought_none f n d = by_case (eqb d.node n)
  where
    by_case : (b : Bool) → sum_by f (cond b (on_lane d.lane []) []) ≡ 0
    by_case true = refl
    by_case false = refl

abbrev at_step : Down → List Record → (KeptRec → ℕ) → ℕ → Bool → Bool → Down → ℕ
at_step place moved f n b c d = sum_by f (cond b (brought n (record { down = place; records = moved })) []) + sum_by f (brought n (record { down = d; records = cond c moved [] }))

-- one step more
pub in_flight_more : (y : ℕ) (place : Down) (moved : List Record) (f : KeptRec → ℕ) (i n : ℕ) (d : Down) → (i ≡ y → d ≡ place)
    → sum_by f (in_flight y place moved i n) + sum_by f (brought n (record { down = d; records = extra y moved i })) ≡ sum_by f (in_flight y place moved (i + 1) n)
in_flight_more y place moved f i n d leads = ⊎_elim here elsewhere (cases_eq i y)
  where
    add_nothing : at_step place moved f n false true place ≡ sum_by f (brought n (record { down = place; records = moved }))
    add_nothing = omega arith

    here : i ≡ y → sum_by f (in_flight y place moved i n) + sum_by f (brought n (record { down = d; records = extra y moved i })) ≡ sum_by f (in_flight y place moved (i + 1) n)
    here e =
        (λ j. at_step place moved f n (le-ltb y i (omega arith) j) (eq-eqb i y e j) (leads e j))
        ∙ add_nothing
        ∙ ap (λ b. sum_by f (cond b (brought n (record { down = place; records = moved })) [])) (sym (lt-ltb y (i + 1) (omega arith)))

    other : (b c : Bool) → b ≡ c → sum_by f (cond b (brought n (record { down = place; records = moved })) []) + sum_by f (brought n (record { down = d; records = [] })) ≡ sum_by f (cond c (brought n (record { down = place; records = moved })) [])
    other b c e = ap (λ z. sum_by f (cond b (brought n (record { down = place; records = moved })) []) + z) (brought_none f n d) ∙ omega arith ∙ ap (λ b. sum_by f (cond b (brought n (record { down = place; records = moved })) [])) e

    same_test : i ≢ y → ltb y i ≡ ltb y (i + 1)
    same_test ne = ⊎_elim (λ below. lt-ltb y i below ∙ sym (lt-ltb y (i + 1) (omega arith))) (λ above. le-ltb y i above ∙ sym (le-ltb y (i + 1) (omega arith))) (cases_lt y i)

    elsewhere : i ≢ y → sum_by f (in_flight y place moved i n) + sum_by f (brought n (record { down = d; records = extra y moved i })) ≡ sum_by f (in_flight y place moved (i + 1) n)
    elsewhere ne = ap (λ c. at_step place moved f n (ltb y i) c d) (ne_eqb i y ne) ∙ other (ltb y i) (ltb y (i + 1)) (same_test ne)

-- Node k gives more k more in one flow than in the other, where flight k n is what of this is on its way to node n
-- at step k. In the other flow it waits already at its place.
module _ (plan : Shape) (give also : ℕ → List KeptRec → List Record) (flight : ℕ → ℕ → List KeptRec) (more : ℕ → List Record) (late : ℕ → KeptRec → ℕ) where
  -- what is given more is on its way from then on
  abbrev pub IsOnItsWay : Type 0
  IsOnItsWay =
      (f : KeptRec → ℕ) (i n : ℕ) (s : Step) → slice_get plan.steps i ≡ Some s
      → sum_by f (flight i n) + sum_by f (brought n (record { down = s.down; records = more i })) ≡ sum_by f (flight (i + 1) n)

  abbrev pub Moves : Type 0
  Moves =
      (k : ℕ) (es fs : List KeptRec) → k ≤ length plan.steps → sum_by (late k) es ≡ 0
      → IsReordered es (flight k k ++ fs)
      → IsReordered (give k es) (more k ++ also k fs)

  -- nothing late comes out where nothing late goes in
  abbrev pub IsInTime : Type 0
  IsInTime =
      (k : ℕ) (es : List KeptRec) (s : Step) → slice_get plan.steps k ≡ Some s → sum_by (late k) es ≡ 0
      → sum_by (λ r. late s.down.node (record { lane = s.down.lane; rec = r })) (give k es) ≡ 0

  within : (i : ℕ) (s : Step) → slice_get plan.steps i ≡ Some s → i ≤ length plan.steps
  within i s it = let k : i < length plan.steps = slice_get_within plan.steps i s it in omega arith

  late_brought : (n : ℕ) (d : Down) (l : List Record) → sum_by (λ r. late d.node (record { lane = d.lane; rec = r })) l ≡ 0 → sum_by (late n) (brought n (record { down = d; records = l })) ≡ 0
  late_brought n d l h = ⊎_elim to_it past_it (cases_eq d.node n)
    where
      to_it : d.node ≡ n → sum_by (late n) (brought n (record { down = d; records = l })) ≡ 0
      to_it e =
          ap (λ b. sum_by (late n) (cond b (on_lane d.lane l) [])) (eq-eqb d.node n e)
          ∙ sum_by-map (late n) (λ r. record { lane = d.lane; rec = r }) l
          ∙ ap (λ m. sum_by (λ r. late m (record { lane = d.lane; rec = r })) l) (sym e) ∙ h

      past_it : d.node ≢ n → sum_by (late n) (brought n (record { down = d; records = l })) ≡ 0
      past_it ne = ap (λ b. sum_by (late n) (cond b (on_lane d.lane l) [])) (ne_eqb d.node n ne)

  pub flow_in_time : IsInTime → (i : ℕ) (ss : List Step) → ((j : ℕ) → slice_get plan.steps (i + j) ≡ slice_get ss j) → (p : List Sent) → ((n : ℕ) → sum_by (late n) (arrivals_at n p) ≡ 0)
      → (n : ℕ) → sum_by (late n) (arrivals_at n (sent_from give i ss p)) ≡ 0
  flow_in_time time i [] left p ok = ok
  flow_in_time time i (s ∷ ss) left p ok =
      flow_in_time time (i + 1) ss (λ j. ap (slice_get plan.steps) (omega arith) ∙ left (suc j)) _ (λ n.
      sum_by-arriving_push (late n) n p _
      ∙ (λ z. ok n z + late_brought n s.down (give i (arrivals_at i p)) (time i _ s (ap (slice_get plan.steps) (omega arith) ∙ left 0) (ok i)) z))

  pub flow_moves : Moves → IsInTime → IsOnItsWay
      → (i : ℕ) (ss : List Step) → ((j : ℕ) → slice_get plan.steps (i + j) ≡ slice_get ss j)
      → (p q : List Sent) → ((n : ℕ) → sum_by (late n) (arrivals_at n p) ≡ 0)
      → ((n : ℕ) → IsReordered (arrivals_at n p) (flight i n ++ arrivals_at n q))
      → (n : ℕ) → IsReordered (arrivals_at n (sent_from give i ss p)) (flight (i + length ss) n ++ arrivals_at n (sent_from also i ss q))
  flow_moves move time leads i [] left p q ok same n f = same n f ∙ ap (λ z. sum_by f (flight z n ++ arrivals_at n q)) (omega arith)
  flow_moves move time leads i (s ∷ ss) left p q ok same n f =
      flow_moves move time leads (i + 1) ss (λ j. ap (slice_get plan.steps) (omega arith) ∙ left (suc j)) _ _ later again n f
      ∙ ap (λ z. sum_by f (flight z n ++ arrivals_at n (sent_from also i (s ∷ ss) q))) (omega arith)
    where
      it : slice_get plan.steps i ≡ Some s
      it = ap (slice_get plan.steps) (omega arith) ∙ left 0

      later : (n : ℕ) → sum_by (late n) (arrivals_at n (p ++ record { down = s.down; records = give i (arrivals_at i p) } ∷ [])) ≡ 0
      later n = sum_by-arriving_push (late n) n p _ ∙ (λ z. ok n z + late_brought n s.down (give i (arrivals_at i p)) (time i _ s it (ok i)) z)

      again : (n : ℕ) → IsReordered (arrivals_at n (p ++ record { down = s.down; records = give i (arrivals_at i p) } ∷ [])) (flight (i + 1) n ++ arrivals_at n (q ++ record { down = s.down; records = also i (arrivals_at i q) } ∷ []))
      again n f =
          let gave : IsReordered (give i (arrivals_at i p)) (more i ++ also i (arrivals_at i q)) = move i _ _ (within i s it) (ok i) (same i) in
          let a : sum_by f (arrivals_at n (p ++ record { down = s.down; records = give i (arrivals_at i p) } ∷ [])) ≡ sum_by f (arrivals_at n p) + sum_by f (brought n (record { down = s.down; records = give i (arrivals_at i p) })) = sum_by-arriving_push f n p _ in
          let b : sum_by f (arrivals_at n (q ++ record { down = s.down; records = also i (arrivals_at i q) } ∷ [])) ≡ sum_by f (arrivals_at n q) + sum_by f (brought n (record { down = s.down; records = also i (arrivals_at i q) })) = sum_by-arriving_push f n q _ in
          let c : sum_by f (brought n (record { down = s.down; records = give i (arrivals_at i p) })) ≡ sum_by f (brought n (record { down = s.down; records = more i })) + sum_by f (brought n (record { down = s.down; records = also i (arrivals_at i q) })) = sum_by-brought f n s.down _ _ _ gave in
          let d : sum_by f (arrivals_at n p) ≡ sum_by f (flight i n) + sum_by f (arrivals_at n q) = same n f ∙ sum_by-append f (flight i n) (arrivals_at n q) in
          let e : sum_by f (flight i n) + sum_by f (brought n (record { down = s.down; records = more i })) ≡ sum_by f (flight (i + 1) n) = leads f i n s it in
          omega arith ∙ sym (sum_by-append f (flight (i + 1) n) (arrivals_at n (q ++ record { down = s.down; records = also i (arrivals_at i q) } ∷ [])))

  -- the two flows give the same
  pub flow_same : Moves → IsInTime → IsOnItsWay → more (length plan.steps) ≡ []
      → (streams others : Stream → List Record)
      → ((n : ℕ) → sum_by (late n) (arrivals_at n (from_streams plan streams)) ≡ 0)
      → ((n : ℕ) → IsReordered (arrivals_at n (from_streams plan streams)) (flight 0 n ++ arrivals_at n (from_streams plan others)))
      → IsReordered (flow plan give streams) (flow plan also others)
  flow_same move time leads none streams others ok same f =
      let n = length plan.steps in
      let left : (j : ℕ) → slice_get plan.steps (0 + j) ≡ slice_get plan.steps j = λ j. ap (slice_get plan.steps) (zero-add j) in
      let p = sent_from give 0 plan.steps (from_streams plan streams) in
      let q = sent_from also 0 plan.steps (from_streams plan others) in
      let at_end : IsReordered (arrivals_at n p) (flight n n ++ arrivals_at n q) =
      subst (λ z. IsReordered (arrivals_at n p) (flight z n ++ arrivals_at n q)) (zero-add n) (flow_moves move time leads 0 plan.steps left (from_streams plan streams) (from_streams plan others) ok same n) in
      let late_end : sum_by (late n) (arrivals_at n p) ≡ 0 = flow_in_time time 0 plan.steps left (from_streams plan streams) ok n in
      move n (arrivals_at n p) (arrivals_at n q) (omega arith) late_end at_end f
      ∙ ap (λ l. sum_by f (l ++ also n (arrivals_at n q))) none
