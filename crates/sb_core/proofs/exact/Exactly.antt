-- What an event does to what each node has yet to give, and so that it keeps a moment exact.
use Rattle.std.proofs.Common.{◌≡◌, ℕ, ◌+◌, ◌≤◌, ◌<◌, Bool, true, false, cond, ltb, List, [], ◌++◌, length, Some, subst, sym, refl, ap, ◌∙◌, arith, append_assoc, zero-add, ⊎_elim}
use Rattle.std.specs.List.{sum_by, slice_get}
use Rattle.std.proofs.lemmas.List.Sums.{sum_by-append}
use Rattle.std.proofs.lemmas.List.Concat.{flat_map-append}
use Rattle.std.proofs.lemmas.Bool.{ne_eqb, le-ltb, lt-ltb, cases_eq}
use Rattle.sb_containers.specs.base.records.declared.item.Record.{Record}
use Rattle.sb_containers.specs.base.records.declared.element.KeptRec.{KeptRec}
use Rattle.sb_containers.specs.base.records.declared.item.Stream.{Stream}
use Rattle.sb_containers.specs.base.records.declared.item.Stream.TheVariants.{A, B}
use Rattle.sb_containers.specs.base.pipeline.declared.transform.Down.{Down}
use Rattle.sb_containers.specs.base.pipeline.declared.transform.Step.{Step}
use Rattle.sb_containers.specs.base.pipeline.Shapes.{Shape, source}
use Rattle.sb_core.specs.declared.moment.Moment.{Moment}
use Rattle.sb_containers.specs.base.records.Elements.{on_lane}
use Rattle.sb_containers.specs.base.pipeline.Flow.{Sent, arrivals_at, from_stream, from_streams, sent_from}
use Rattle.sb_containers.specs.base.pipeline.Results.{output_of}
use Rattle.sb_core.specs.Exactness.{gives, final, IsAdmissible, IsExact}
use Rattle.sb_containers.specs.base.SumLemmas.{IsReordered}
use Rattle.sb_core.proofs.exact.Flow.{Moves, IsInTime, IsOnItsWay, flow_moves, flow_in_time, in_flight, in_flight_more, brought, brought_none, sum_by-brought, extra}
use Rattle.sb_core.proofs.times.Timely.{late, IsTimely, gives_in_time, streams_in_time}

-- records of a stream put before what comes
abbrev pub with_more : Stream → List Record → (Stream → List Record) → Stream → List Record
with_more A records coming A = records ++ coming A
with_more A records coming B = coming B
with_more B records coming A = coming A
with_more B records coming B = records ++ coming B

-- records of a stream put after what was fed
abbrev pub fed_more : Stream → List Record → (Stream → List Record) → Stream → List Record
fed_more A records fed A = fed A ++ records
fed_more A records fed B = fed B
fed_more B records fed A = fed A
fed_more B records fed B = fed B ++ records

-- what moves in an event: nothing of what nodes have yet to give; records of a stream that were still to come; records that node y had yet to give
pub data Moved : Type 0 where
  Nothing : Moved
  Fed : (stream : Stream) (place : Down) (records : List Record) → Moved
  Given : (node : ℕ) (place : Down) (records : List Record) → Moved

-- what of it is on its way to node n at step i
abbrev pub flight_of : Moved → ℕ → ℕ → List KeptRec
flight_of Nothing i n = []
flight_of (Fed s d records) i n = brought n (record { down = d; records = records })
flight_of (Given y d records) i n = in_flight y d records i n

-- what node k gives more before
abbrev pub more_of : Moved → ℕ → List Record
more_of Nothing k = []
more_of (Fed s d records) k = []
more_of (Given y d records) k = extra y records k

-- what comes before the event, where this comes after it
abbrev pub coming_before : Moved → (Stream → List Record) → Stream → List Record
coming_before Nothing coming = coming
coming_before (Fed s d records) coming = with_more s records coming
coming_before (Given y d records) coming = coming

abbrev pub fed_with : Moved → (Stream → List Record) → Stream → List Record
fed_with Nothing fed = fed
fed_with (Fed s d records) fed = fed_more s records fed
fed_with (Given y d records) fed = fed

-- it goes where the plan sends it
abbrev pub Leads : Shape → Moved → Type 0
Leads plan Nothing = Unit {0}
Leads plan (Fed s d records) = source plan s ≡ Some d
Leads plan (Given y d records) = (y < length plan.steps) × (y < d.node) × ((s : Step) → slice_get plan.steps y ≡ Some s → s.down ≡ d)

-- from m to m' this moves, and nothing else
pub record Carries (plan : Shape) (m m' : Moment) (c : Moved) : Type 0 where
  pub leads : Leads plan c
  pub moves : (k : ℕ) (es fs : List KeptRec) → k ≤ length plan.steps → sum_by (late m k) es ≡ 0 → IsReordered es (flight_of c k k ++ fs) → IsReordered (gives plan m k es) (more_of c k ++ gives plan m' k fs)
  pub less : (coming : Stream → List Record) → IsAdmissible plan m' coming → IsAdmissible plan m (coming_before c coming)

-- what node k has yet to give, where this comes of the streams
abbrev pub given_where : Shape → Moment → ℕ → (Stream → List Record) → List Record
given_where plan m k coming = gives plan m k (arrivals_at k (sent_from (gives plan m) 0 plan.steps (from_streams plan coming)))

-- ---- what moves is on its way from the step on that gives it, and has come to its node before that gives
on_its_way : (plan : Shape) (m m' : Moment) (c : Moved) → Leads plan c → IsOnItsWay plan (gives plan m) (gives plan m') (flight_of c) (more_of c) (late m)
on_its_way plan m m' Nothing leads f i n s is = zero-add (sum_by f (brought n (record { down = s.down; records = [] }))) ∙ brought_none f n s.down
on_its_way plan m m' (Fed t d records) leads f i n s is = ap (λ z. sum_by f (brought n (record { down = d; records = records })) + z) (brought_none f n s.down) ∙ omega arith
on_its_way plan m m' (Given y d records) leads f i n s is = in_flight_more y d records f i n s.down (λ e. leads.2 s (ap (slice_get plan.steps) (sym e) ∙ is))

landed : (plan : Shape) (c : Moved) → Leads plan c → (k : ℕ) → IsReordered (flight_of c (length plan.steps) k) (flight_of c k k)
landed plan Nothing leads k f = refl
landed plan (Fed s d records) leads k f = refl
landed plan (Given y d records) leads k f = ⊎_elim here elsewhere (cases_eq d.node k)
  where
    here : d.node ≡ k → sum_by f (in_flight y d records (length plan.steps) k) ≡ sum_by f (in_flight y d records k k)
    here e = ap (λ b. sum_by f (cond b (brought k (record { down = d; records = records })) [])) (lt-ltb y (length plan.steps) leads.0 ∙ sym (lt-ltb y k (omega (arith, leads.1, e))))

    either : (a b : Bool) → sum_by f (cond a [] []) ≡ sum_by f (cond b [] [])
    either true true = refl
    either true false = refl
    either false true = refl
    either false false = refl

    elsewhere : (d.node ≡ k → ⊥) → sum_by f (in_flight y d records (length plan.steps) k) ≡ sum_by f (in_flight y d records k k)
    elsewhere n =
        ap (λ l. sum_by f (cond (ltb y (length plan.steps)) l [])) (ap (λ b. cond b (on_lane d.lane records) []) (ne_eqb d.node k n))
        ∙ either (ltb y (length plan.steps)) (ltb y k)
        ∙ sym (ap (λ l. sum_by f (cond (ltb y k) l [])) (ap (λ b. cond b (on_lane d.lane records) []) (ne_eqb d.node k n)))

none_at_sink : (plan : Shape) (c : Moved) → Leads plan c → more_of c (length plan.steps) ≡ []
none_at_sink plan Nothing leads = refl
none_at_sink plan (Fed s d records) leads = refl
none_at_sink plan (Given y d records) leads = ap (λ b. cond b records []) (ne_eqb (length plan.steps) y (λ e. omega (arith, leads.0, e)))

-- what the streams bring before
streams_bring : (plan : Shape) (c : Moved) → Leads plan c → (coming : Stream → List Record) (n : ℕ) → IsReordered (arrivals_at n (from_streams plan (coming_before c coming))) (flight_of c 0 n ++ arrivals_at n (from_streams plan coming))
streams_bring plan Nothing leads coming n f = refl
streams_bring plan (Given y d records) leads coming n f = ap (λ b. sum_by f (cond b (brought n (record { down = d; records = records })) [] ++ arrivals_at n (from_streams plan coming))) (sym (le-ltb y 0 (omega arith)))
streams_bring plan (Fed s d records) leads coming n f = come s leads
  where
    cut : (l : List Record) → sum_by f (brought n (record { down = d; records = records ++ l })) ≡ sum_by f (brought n (record { down = d; records = records })) + sum_by f (brought n (record { down = d; records = l }))
    cut l = sum_by-brought f n d (records ++ l) records l (λ f. refl)

    two : (a b : List Sent) → sum_by f (arrivals_at n (a ++ b)) ≡ sum_by f (arrivals_at n a) + sum_by f (arrivals_at n b)
    two a b = ap (sum_by f) (flat_map-append (brought n) a b) ∙ sum_by-append f (arrivals_at n a) (arrivals_at n b)

    one : (l : List Record) → sum_by f (arrivals_at n (from_stream (Some d) l)) ≡ sum_by f (brought n (record { down = d; records = l }))
    one l = sum_by-append f (brought n (record { down = d; records = l })) [] ∙ omega arith

    come : (s : Stream) → source plan s ≡ Some d → sum_by f (arrivals_at n (from_streams plan (with_more s records coming))) ≡ sum_by f (brought n (record { down = d; records = records }) ++ arrivals_at n (from_streams plan coming))
    come A is =
        let a : sum_by f (arrivals_at n (from_streams plan (with_more A records coming))) ≡ sum_by f (arrivals_at n (from_stream plan.source_a (records ++ coming A))) + sum_by f (arrivals_at n (from_stream plan.source_b (coming B))) = two (from_stream plan.source_a (records ++ coming A)) (from_stream plan.source_b (coming B)) in
        let b : sum_by f (arrivals_at n (from_streams plan coming)) ≡ sum_by f (arrivals_at n (from_stream plan.source_a (coming A))) + sum_by f (arrivals_at n (from_stream plan.source_b (coming B))) = two (from_stream plan.source_a (coming A)) (from_stream plan.source_b (coming B)) in
        let c : sum_by f (arrivals_at n (from_stream plan.source_a (records ++ coming A))) ≡ sum_by f (brought n (record { down = d; records = records ++ coming A })) = ap (λ o. sum_by f (arrivals_at n (from_stream o (records ++ coming A)))) is ∙ one (records ++ coming A) in
        let e : sum_by f (arrivals_at n (from_stream plan.source_a (coming A))) ≡ sum_by f (brought n (record { down = d; records = coming A })) = ap (λ o. sum_by f (arrivals_at n (from_stream o (coming A)))) is ∙ one (coming A) in
        let g : sum_by f (brought n (record { down = d; records = records }) ++ arrivals_at n (from_streams plan coming)) ≡ sum_by f (brought n (record { down = d; records = records })) + sum_by f (arrivals_at n (from_streams plan coming)) = sum_by-append f (brought n (record { down = d; records = records })) (arrivals_at n (from_streams plan coming)) in
        omega (arith, cut (coming A))
    come B is =
        let a : sum_by f (arrivals_at n (from_streams plan (with_more B records coming))) ≡ sum_by f (arrivals_at n (from_stream plan.source_a (coming A))) + sum_by f (arrivals_at n (from_stream plan.source_b (records ++ coming B))) = two (from_stream plan.source_a (coming A)) (from_stream plan.source_b (records ++ coming B)) in
        let b : sum_by f (arrivals_at n (from_streams plan coming)) ≡ sum_by f (arrivals_at n (from_stream plan.source_a (coming A))) + sum_by f (arrivals_at n (from_stream plan.source_b (coming B))) = two (from_stream plan.source_a (coming A)) (from_stream plan.source_b (coming B)) in
        let c : sum_by f (arrivals_at n (from_stream plan.source_b (records ++ coming B))) ≡ sum_by f (brought n (record { down = d; records = records ++ coming B })) = ap (λ o. sum_by f (arrivals_at n (from_stream o (records ++ coming B)))) is ∙ one (records ++ coming B) in
        let e : sum_by f (arrivals_at n (from_stream plan.source_b (coming B))) ≡ sum_by f (brought n (record { down = d; records = coming B })) = ap (λ o. sum_by f (arrivals_at n (from_stream o (coming B)))) is ∙ one (coming B) in
        let g : sum_by f (brought n (record { down = d; records = records }) ++ arrivals_at n (from_streams plan coming)) ≡ sum_by f (brought n (record { down = d; records = records })) + sum_by f (arrivals_at n (from_streams plan coming)) = sum_by-append f (brought n (record { down = d; records = records })) (arrivals_at n (from_streams plan coming)) in
        omega (arith, cut (coming B))

-- ---- at each node: what it had yet to give is what moved of it, and what it has yet to give
pub carried-given : (plan : Shape) (m m' : Moment) (c : Moved) → IsTimely plan m → Carries plan m m' c → (k : ℕ) → k ≤ length plan.steps → (coming : Stream → List Record) → IsAdmissible plan m' coming
    → IsReordered (given_where plan m k (coming_before c coming)) (more_of c k ++ given_where plan m' k coming)
carried-given plan m m' c timely carries k within coming ok =
    let give = gives plan m in
    let also = gives plan m' in
    let move : Moves plan give also (flight_of c) (more_of c) (late m) = carries.moves in
    let time : IsInTime plan give also (flight_of c) (more_of c) (late m) = gives_in_time plan m timely in
    let left : (j : ℕ) → slice_get plan.steps (0 + j) ≡ slice_get plan.steps j = λ j. ap (slice_get plan.steps) (zero-add j) in
    let before = coming_before c coming in
    let p = sent_from give 0 plan.steps (from_streams plan before) in
    let q = sent_from also 0 plan.steps (from_streams plan coming) in
    let in_time : (n : ℕ) → sum_by (late m n) (arrivals_at n (from_streams plan before)) ≡ 0 = streams_in_time plan m timely before (carries.less coming ok) in
    let moved : IsReordered (arrivals_at k p) (flight_of c (length plan.steps) k ++ arrivals_at k q) =
    subst (λ z. IsReordered (arrivals_at k p) (flight_of c z k ++ arrivals_at k q)) (zero-add (length plan.steps))
    (flow_moves plan give also (flight_of c) (more_of c) (late m) move time (on_its_way plan m m' c carries.leads) 0 plan.steps left (from_streams plan before) (from_streams plan coming) in_time (streams_bring plan c carries.leads coming) k) in
    let late_end : sum_by (late m k) (arrivals_at k p) ≡ 0 = flow_in_time plan give also (flight_of c) (more_of c) (late m) time 0 plan.steps left (from_streams plan before) in_time k in
    carries.moves k (arrivals_at k p) (arrivals_at k q) within late_end
    (λ f. moved f ∙ sum_by-append f (flight_of c (length plan.steps) k) (arrivals_at k q) ∙ ap (λ n. n + sum_by f (arrivals_at k q)) (landed plan c carries.leads k f) ∙ sym (sum_by-append f (flight_of c k k) (arrivals_at k q)))

-- what was fed and what comes are together the same
pub fed_joined : (c : Moved) (fed coming : Stream → List Record) (t : Stream) → fed t ++ coming_before c coming t ≡ fed_with c fed t ++ coming t
fed_joined Nothing fed coming t = refl
fed_joined (Given y d records) fed coming t = refl
fed_joined (Fed s d records) fed coming t = joined s t
  where
    joined : (s t : Stream) → fed t ++ with_more s records coming t ≡ fed_more s records fed t ++ coming t
    joined A A = sym (append_assoc (fed A) records (coming A))
    joined A B = refl
    joined B A = refl
    joined B B = sym (append_assoc (fed B) records (coming B))

-- ---- at the sink: the moment stays exact
pub carried-exact : (plan : Shape) (m m' : Moment) (c : Moved) (fed : Stream → List Record) → IsTimely plan m → Carries plan m m' c → IsExact plan m fed → IsExact plan m' (fed_with c fed)
carried-exact plan m m' c fed timely carries exact coming ok f =
    let flows : IsReordered (final plan m (coming_before c coming)) (final plan m' coming) =
    λ f. carried-given plan m m' c timely carries (length plan.steps) (omega arith) coming ok f ∙ ap (λ l. sum_by f (l ++ final plan m' coming)) (none_at_sink plan c carries.leads) in
    sym (flows f) ∙ exact (coming_before c coming) (carries.less coming ok) f
    ∙ ap (λ streams. sum_by f (output_of plan streams)) (λ i s. fed_joined c fed coming s i)

-- ---- the three kinds
pub carries-same : (plan : Shape) (m m' : Moment)
    → ((k : ℕ) (es fs : List KeptRec) → k ≤ length plan.steps → sum_by (late m k) es ≡ 0 → IsReordered es fs → IsReordered (gives plan m k es) (gives plan m' k fs))
    → ((coming : Stream → List Record) → IsAdmissible plan m' coming → IsAdmissible plan m coming)
    → Carries plan m m' Nothing
carries-same plan m m' same less = record { leads = tt; moves = same; less = less }

pub carries-given : (plan : Shape) (m m' : Moment) (y : ℕ) (d : Down) (records : List Record)
    → y < length plan.steps → y < d.node → ((s : Step) → slice_get plan.steps y ≡ Some s → s.down ≡ d)
    → ((k : ℕ) (es fs : List KeptRec) → IsReordered es (in_flight y d records k k ++ fs) → IsReordered (gives plan m k es) (extra y records k ++ gives plan m' k fs))
    → ((coming : Stream → List Record) → IsAdmissible plan m' coming → IsAdmissible plan m coming)
    → Carries plan m m' (Given y d records)
carries-given plan m m' y d records within further leads same less = record { leads = (within, further, leads); moves = λ k es fs low time h. same k es fs h; less = less }

pub carries-fed : (plan : Shape) (m m' : Moment) (s : Stream) (d : Down) (records : List Record) → source plan s ≡ Some d
    → ((k : ℕ) (es fs : List KeptRec) → IsReordered es (brought k (record { down = d; records = records }) ++ fs) → IsReordered (gives plan m k es) (gives plan m' k fs))
    → ((coming : Stream → List Record) → IsAdmissible plan m' coming → IsAdmissible plan m (with_more s records coming))
    → Carries plan m m' (Fed s d records)
carries-fed plan m m' s d records is same less = record { leads = is; moves = λ k es fs low time h. same k es fs h; less = less }
