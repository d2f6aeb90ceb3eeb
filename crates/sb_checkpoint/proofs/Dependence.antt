-- On which times of its input depends what a plan gives at some times.
use Rattle.std.proofs.Common.{◌≡◌, ◌≤◌, ℕ, suc, ◌+◌, ◌-◌, Bool, true, false, cond, eqb, List, [], ◌∷◌, ◌++◌, length, Option, Some, None, refl, sym, ap, ◌∙◌, arith}
use Rattle.std.specs.Prelude.{nat_lt, not, sum_by, ◌==◌}
use Rattle.std.specs.List.{slice_get, filter, flat_map, AllByRecursion}
use Rattle.std.proofs.lemmas.Bool.Decides.{nat_tests}
use Rattle.std.proofs.lemmas.List.Elements.{filter-append, recursion_from_All}
use Rattle.std.proofs.lemmas.List.Sums.{sum_by-cons}
use Rattle.std.proofs.lemmas.Option.{slice_get_past}
use Rattle.sb_pipeline.specs.records.declared.item.Record.{Record}
use Rattle.sb_pipeline.specs.records.declared.item.Stream.{Stream}
use Rattle.sb_pipeline.specs.records.declared.item.Stream.TheVariants.{A, B}
use Rattle.sb_pipeline.proofs.records.Elements.{filter_of_filter}
use Rattle.sb_pipeline.specs.window.Spacing.{Spacing}
use Rattle.sb_pipeline.specs.window.Windows.{is_in}
use Rattle.sb_pipeline.proofs.window.Rows.{when, SameIn, end-of, rows_by-same}
use Rattle.sb_pipeline.specs.pardo.declared.operation.Op.{Op}
use Rattle.sb_pipeline.specs.pardo.Outputs.{outputs_of}
use Rattle.sb_pipeline.proofs.pardo.Keeping.{outputs_keep_time}
use Rattle.sb_pipeline.specs.windowed.Aggregates.{aggregate_values}
use Rattle.sb_pipeline.proofs.windowed.Pairs.{join_rows-same}
use Rattle.sb_pipeline.specs.declared.transform.Down.{Down}
use Rattle.sb_pipeline.specs.records.declared.element.KeptRec.{KeptRec}
use Rattle.sb_pipeline.specs.declared.transform.Kind.{Kind}
use Rattle.sb_pipeline.specs.declared.transform.Kind.TheVariants.{Do, Group, Session, Join}
use Rattle.sb_pipeline.specs.declared.transform.Step.{Step}
use Rattle.sb_pipeline.specs.records.Elements.{on_lane, all_records, of_lane}
use Rattle.sb_pipeline.specs.Operators.{operator_of, operator_at, output}
use Rattle.sb_pipeline.specs.Shapes.{Shape}
use Rattle.sb_pipeline.specs.Flow.{Sent, arrivals_at, from_stream, from_streams, from_step, sent_from}
use Rattle.sb_pipeline.specs.Results.{output_at, output_of}
use Rattle.sb_checkpoint.specs.Reach.{is_session, size_in, is_within}
use Rattle.sb_checkpoint.specs.Laws.{LaterRowsDependOnRecordsWithinReach, EarlierRowsDependOnEarlierRecords}

-- what is given at a time that passes after stems from times that pass before, where it is up to n later
abbrev pub Spans : ℕ → (ℕ → Bool) → (ℕ → Bool) → Type 0
Spans n a b = (t u : ℕ) → t ≤ u → u ≤ t + n → b u ≡ true → a t ≡ true

when-fewer : (a b : ℕ → Bool) → ((x : ℕ) → b x ≡ true → a x ≡ true) → (l m : List Record) → when a l ≡ when a m → when b l ≡ when b m
when-fewer a b w l m h =
    sym (filter_of_filter (λ r. b r.time) (λ r. a r.time) (λ r. w r.time) l) ∙ ap (when b) h ∙ filter_of_filter (λ r. b r.time) (λ r. a r.time) (λ r. w r.time) m

-- ---- transforms of single records
when-same_time : (b : ℕ → Bool) (t : ℕ) (os : List Record) → AllByRecursion (λ o. o.time ≡ t) os → when b os ≡ cond (b t) os []
when-same_time b t [] all = elim (b t) as (λ c. [] ≡ cond {A = List Record} c [] []) [ true ↦ refl | false ↦ refl ]
when-same_time b t (o ∷ os) all =
    ap (λ n. cond (b n) (o ∷ when b os) (when b os)) all.0
    ∙ (elim (b t) as (λ c. (when b os ≡ cond c os []) → cond c (o ∷ when b os) (when b os) ≡ cond c (o ∷ os) []) [
      | true ↦ λ h. ap (λ l. o ∷ l) h
      | false ↦ λ h. h
    ] (when-same_time b t os all.1))

when-outputs : (b : ℕ → Bool) (op : Op) (l : List Record) → when b (flat_map (outputs_of op) l) ≡ flat_map (outputs_of op) (when b l)
when-outputs b op [] = refl
when-outputs b op (r ∷ l) =
    filter-append (λ o. b o.time) (outputs_of op r) (flat_map (outputs_of op) l)
    ∙ (λ i. when-same_time b r.time (outputs_of op r) (outputs_keep_time op r) i ++ when-outputs b op l i)
    ∙ (elim (b r.time) as (λ c. cond c (outputs_of op r) [] ++ flat_map (outputs_of op) (when b l) ≡ flat_map (outputs_of op) (cond c (r ∷ when b l) (when b l))) [ true ↦ refl | false ↦ refl ])

-- ---- windows
in_same : (windows : Spacing) (a b : ℕ → Bool) → Spans windows.size a b → (l m : List Record) → when a l ≡ when a m → SameIn windows (λ q. b (q.end - 1)) l m
in_same windows a b spans l m h q passes =
    sym (filter_of_filter (is_in windows q) (λ r. a r.time) inside l) ∙ ap (filter (is_in windows q)) h ∙ filter_of_filter (is_in windows q) (λ r. a r.time) inside m
  where
    inside : (r : Record) → is_in windows q r ≡ true → a r.time ≡ true
    inside r is = let end = end-of windows q r is in spans r.time (q.end - 1) (omega (arith, end.0)) (omega (arith, end.0, end.1)) passes

-- ---- elements
abbrev elements_when : (ℕ → Bool) → List KeptRec → List KeptRec
elements_when a elements = filter (λ e. a e.rec.time) elements

when-all_records : (a : ℕ → Bool) (xs : List KeptRec) → when a (all_records xs) ≡ all_records (elements_when a xs)
when-all_records a [] = refl
when-all_records a (x ∷ xs) =
    elim (a x.rec.time) as (λ c. cond c (x.rec ∷ when a (all_records xs)) (when a (all_records xs)) ≡ all_records (cond c (x ∷ elements_when a xs) (elements_when a xs))) [
      | true ↦ ap (λ l. x.rec ∷ l) (when-all_records a xs)
      | false ↦ when-all_records a xs
    ]

pub filters-commute : {X : Type 0} (p o : X → Bool) (xs : List X) → filter p (filter o xs) ≡ filter o (filter p xs)
filters-commute p o [] = refl
filters-commute {X} p o (x ∷ xs) = by_case (o x) (p x) refl refl (filters-commute p o xs)
  where
    by_case : (a b : Bool) → o x ≡ a → p x ≡ b → filter p (filter o xs) ≡ filter o (filter p xs) → filter p (cond a (x ∷ filter o xs) (filter o xs)) ≡ filter o (cond b (x ∷ filter p xs) (filter p xs))
    by_case true true e f h = (λ i. cond (f i) (x ∷ filter p (filter o xs)) (filter p (filter o xs))) ∙ ap (λ l. x ∷ l) h ∙ sym (λ i. cond (e i) (x ∷ filter o (filter p xs)) (filter o (filter p xs)))
    by_case true false e f h = (λ i. cond (f i) (x ∷ filter p (filter o xs)) (filter p (filter o xs))) ∙ h
    by_case false true e f h = h ∙ sym (λ i. cond (e i) (x ∷ filter o (filter p xs)) (filter o (filter p xs)))
    by_case false false e f h = h

when-of_lane : (a : ℕ → Bool) (lane : ℕ) (xs : List KeptRec) → when a (of_lane lane xs) ≡ of_lane lane (elements_when a xs)
when-of_lane a lane xs = when-all_records a (filter (λ e. e.lane == lane) xs) ∙ ap all_records (filters-commute (λ e. a e.rec.time) (λ e. e.lane == lane) xs)

module _ (a : ℕ → Bool) (xs ys : List KeptRec) (same : elements_when a xs ≡ elements_when a ys) where
  all_records-same : when a (all_records xs) ≡ when a (all_records ys)
  all_records-same = when-all_records a xs ∙ ap all_records same ∙ sym (when-all_records a ys)

  of_lane-same : (lane : ℕ) → when a (of_lane lane xs) ≡ when a (of_lane lane ys)
  of_lane-same lane = when-of_lane a lane xs ∙ ap (of_lane lane) same ∙ sym (when-of_lane a lane ys)

-- ---- one node
pub output-same : (kind : Kind) (a b : ℕ → Bool) → is_session kind ≡ false → Spans (size_in kind) a b → (xs ys : List KeptRec) → elements_when a xs ≡ elements_when a ys → when b (output (operator_of kind) xs) ≡ when b (output (operator_of kind) ys)
output-same (Do op) a b free spans xs ys h =
    when-outputs b op (all_records xs)
    ∙ ap (flat_map (outputs_of op)) (when-fewer a b (λ x. spans x x (omega arith) (omega arith)) (all_records xs) (all_records ys) (all_records-same a xs ys h))
    ∙ sym (when-outputs b op (all_records ys))
output-same (Group agg windows) a b free spans xs ys h =
    rows_by-same (aggregate_values agg) windows b (all_records xs) (all_records ys) (in_same windows a b spans (all_records xs) (all_records ys) (all_records-same a xs ys h))
output-same (Session agg gap) a b free spans xs ys h = cc
output-same (Join combine windows) a b free spans xs ys h =
    join_rows-same combine windows b (of_lane 0 xs) (of_lane 0 ys) (of_lane 1 xs) (of_lane 1 ys)
    (in_same windows a b spans (of_lane 0 xs) (of_lane 0 ys) (of_lane-same a xs ys h 0)) (in_same windows a b spans (of_lane 1 xs) (of_lane 1 ys) (of_lane-same a xs ys h 1))

-- ---- what is sent
-- lists on the same ways with the same records at the times that pass
abbrev pub AreAlike : (ℕ → Bool) → List Sent → List Sent → Type 0
AreAlike a [] [] = Unit {0}
AreAlike a (x ∷ xs) (y ∷ ys) = (x.down ≡ y.down) × (when a x.records ≡ when a y.records) × AreAlike a xs ys
AreAlike a [] (y ∷ ys) = true ≡ false
AreAlike a (x ∷ xs) [] = true ≡ false

alike-fewer : (a b : ℕ → Bool) → ((x : ℕ) → b x ≡ true → a x ≡ true) → (xs ys : List Sent) → AreAlike a xs ys → AreAlike b xs ys
alike-fewer a b w [] [] h = tt
alike-fewer a b w (x ∷ xs) (y ∷ ys) h = (h.0, when-fewer a b w x.records y.records h.1, alike-fewer a b w xs ys h.2)
alike-fewer a b w [] (y ∷ ys) h = h
alike-fewer a b w (x ∷ xs) [] h = h

alike-join : (a : ℕ → Bool) (xs ys us vs : List Sent) → AreAlike a xs ys → AreAlike a us vs → AreAlike a (xs ++ us) (ys ++ vs)
alike-join a [] [] us vs h k = k
alike-join a (x ∷ xs) (y ∷ ys) us vs h k = (h.0, h.1, alike-join a xs ys us vs h.2 k)
alike-join a [] (y ∷ ys) us vs h k = cc
alike-join a (x ∷ xs) [] us vs h k = cc

when-on_lane : (a : ℕ → Bool) (lane : ℕ) (l : List Record) → elements_when a (on_lane lane l) ≡ on_lane lane (when a l)
when-on_lane a lane [] = refl
when-on_lane a lane (r ∷ l) =
    elim (a r.time) as (λ c. cond c (record { lane = lane; rec = r } ∷ elements_when a (on_lane lane l)) (elements_when a (on_lane lane l)) ≡ on_lane lane (cond c (r ∷ when a l) (when a l))) [
      | true ↦ ap (λ l. record { lane = lane; rec = r } ∷ l) (when-on_lane a lane l)
      | false ↦ when-on_lane a lane l
    ]

abbrev placed : ℕ → Down → List Record → List KeptRec
placed k down records = cond (eqb down.node k) (on_lane down.lane records) []

when-placed : (a : ℕ → Bool) (k : ℕ) (down : Down) (l : List Record) → elements_when a (placed k down l) ≡ placed k down (when a l)
when-placed a k down l =
    elim (eqb down.node k) as (λ c. elements_when a (cond c (on_lane down.lane l) []) ≡ cond c (on_lane down.lane (when a l)) []) [
      | true ↦ when-on_lane a down.lane l
      | false ↦ refl
    ]

arriving-same : (a : ℕ → Bool) (k : ℕ) (xs ys : List Sent) → AreAlike a xs ys → elements_when a (arrivals_at k xs) ≡ elements_when a (arrivals_at k ys)
arriving-same a k [] [] h = refl
arriving-same a k (x ∷ xs) (y ∷ ys) h =
    filter-append (λ e. a e.rec.time) (placed k x.down x.records) (arrivals_at k xs)
    ∙ (λ i. one i ++ arriving-same a k xs ys h.2 i)
    ∙ sym (filter-append (λ e. a e.rec.time) (placed k y.down y.records) (arrivals_at k ys))
  where
    one : elements_when a (placed k x.down x.records) ≡ elements_when a (placed k y.down y.records)
    one = when-placed a k x.down x.records ∙ (λ i. placed k (h.0 i) (h.1 i)) ∙ sym (when-placed a k y.down y.records)
arriving-same a k [] (y ∷ ys) h = cc
arriving-same a k (x ∷ xs) [] h = cc

-- ---- the flow
-- none of the transforms gathers records by session
abbrev HaveNoSession : List Step → Type 0
HaveNoSession steps = AllByRecursion (λ s. is_session s.kind ≡ false) steps

-- test steps says which times matter where these transforms are still to come
module _ (test : List Step → ℕ → Bool) (spans : (s : Step) (steps : List Step) → Spans (size_in s.kind) (test (s ∷ steps)) (test steps)) (plan : Shape) where
  sent_from-same : (k : ℕ) (steps : List Step) → ((i : ℕ) (s : Step) → slice_get steps i ≡ Some s → slice_get plan.steps (k + i) ≡ Some s)
      → HaveNoSession steps → (xs ys : List Sent) → AreAlike (test steps) xs ys → AreAlike (test []) (sent_from (output_at plan) k steps xs) (sent_from (output_at plan) k steps ys)
  sent_from-same k [] at free xs ys h = h
  sent_from-same k (s ∷ steps) at free xs ys h =
      sent_from-same (k + 1) steps later free.1 (xs ++ from_step s (output_at plan k (arrivals_at k xs)) ∷ []) (ys ++ from_step s (output_at plan k (arrivals_at k ys)) ∷ [])
      (alike-join (test steps) xs ys (from_step s (output_at plan k (arrivals_at k xs)) ∷ []) (from_step s (output_at plan k (arrivals_at k ys)) ∷ [])
      (alike-fewer (test (s ∷ steps)) (test steps) (λ x. spans s steps x x (omega arith) (omega arith)) xs ys h)
      (refl, given, tt))
    where
      here : slice_get plan.steps k ≡ Some s
      here = let z : k + 0 ≡ k = omega arith in ap (slice_get plan.steps) (sym z) ∙ at 0 s refl

      later : (i : ℕ) (t : Step) → slice_get steps i ≡ Some t → slice_get plan.steps (k + 1 + i) ≡ Some t
      later i t h = let e : k + 1 + i ≡ k + suc i = omega arith in ap (slice_get plan.steps) e ∙ at (suc i) t h

      as_kind : (es : List KeptRec) → output_at plan k es ≡ output (operator_of s.kind) es
      as_kind es = ap (λ o. output (operator_at o) es) here

      given : when (test steps) (output_at plan k (arrivals_at k xs)) ≡ when (test steps) (output_at plan k (arrivals_at k ys))
      given =
          ap (when (test steps)) (as_kind (arrivals_at k xs))
          ∙ output-same s.kind (test (s ∷ steps)) (test steps) free.0 (spans s steps) (arrivals_at k xs) (arrivals_at k ys) (arriving-same (test (s ∷ steps)) k xs ys h)
          ∙ sym (ap (when (test steps)) (as_kind (arrivals_at k ys)))

  from_stream-same : (a : ℕ → Bool) (source : Option Down) (l m : List Record) → when a l ≡ when a m → AreAlike a (from_stream source l) (from_stream source m)
  from_stream-same a None l m h = tt
  from_stream-same a (Some down) l m h = (refl, h, tt)

  pub output_of-same : HaveNoSession plan.steps → (f g : Stream → List Record) → ((s : Stream) → when (test plan.steps) (f s) ≡ when (test plan.steps) (g s)) → when (test []) (output_of plan f) ≡ when (test []) (output_of plan g)
  output_of-same free f g h =
      ap (when (test [])) (as_sink (arrivals_at n (all_sent f)))
      ∙ all_records-same (test []) (arrivals_at n (all_sent f)) (arrivals_at n (all_sent g)) (arriving-same (test []) n (all_sent f) (all_sent g) sent)
      ∙ sym (ap (when (test [])) (as_sink (arrivals_at n (all_sent g))))
    where
      n : ℕ
      n = length plan.steps

      all_sent : (Stream → List Record) → List Sent
      all_sent f = sent_from (output_at plan) 0 plan.steps (from_streams plan f)

      from_first : (i : ℕ) (s : Step) → slice_get plan.steps i ≡ Some s → slice_get plan.steps (0 + i) ≡ Some s
      from_first i s h = let e : 0 + i ≡ i = omega arith in ap (slice_get plan.steps) e ∙ h

      sent : AreAlike (test []) (all_sent f) (all_sent g)
      sent =
          sent_from-same 0 plan.steps from_first free (from_streams plan f) (from_streams plan g)
          (alike-join (test plan.steps) (from_stream plan.source_a (f A)) (from_stream plan.source_a (g A)) (from_stream plan.source_b (f B)) (from_stream plan.source_b (g B))
          (from_stream-same (test plan.steps) plan.source_a (f A) (g A) (h A)) (from_stream-same (test plan.steps) plan.source_b (f B) (g B) (h B)))

      as_sink : (es : List KeptRec) → output_at plan n es ≡ all_records es
      as_sink es = ap (λ o. output (operator_at o) es) (slice_get_past plan.steps n (omega arith))

-- ---- the laws
-- how far back the transforms that are still to come reach
abbrev reach_of : List Step → ℕ
reach_of steps = sum_by (λ s. size_in s.kind) steps

reach-spans : (w : ℕ) (s : Step) (steps : List Step) → Spans (size_in s.kind) (is_within (reach_of (s ∷ steps)) w) (is_within (reach_of steps) w)
reach-spans w s steps t u le most h = let e : reach_of (s ∷ steps) ≡ size_in s.kind + reach_of steps = sum_by-cons (λ s. size_in s.kind) s steps in grind (arith, nat_tests)

filter-agree : (p o : Record → Bool) → ((r : Record) → p r ≡ o r) → (l : List Record) → filter p l ≡ filter o l
filter-agree p o same [] = refl
filter-agree p o same (r ∷ l) = λ i. cond (same r i) (r ∷ filter-agree p o same l i) (filter-agree p o same l i)

from-none : (w t : ℕ) → is_within 0 w t ≡ not (nat_lt t w)
from-none w t = let e : t + 0 ≡ t = omega arith in ap (λ n. not (nat_lt n w)) e

pub later-rows : LaterRowsDependOnRecordsWithinReach
later-rows plan free w f g h =
    sym (filter-agree (λ r. is_within 0 w r.time) (λ r. not (nat_lt r.time w)) (λ r. from-none w r.time) (output_of plan f))
    ∙ output_of-same (λ steps. is_within (reach_of steps) w) (reach-spans w) plan (recursion_from_All _ plan.steps free) f g h
    ∙ filter-agree (λ r. is_within 0 w r.time) (λ r. not (nat_lt r.time w)) (λ r. from-none w r.time) (output_of plan g)

pub earlier-rows : EarlierRowsDependOnEarlierRecords
earlier-rows plan free w f g h =
    output_of-same (λ steps t. nat_lt t w) (λ s steps t u le most low. grind (arith, nat_tests)) plan (recursion_from_All _ plan.steps free) f g h
