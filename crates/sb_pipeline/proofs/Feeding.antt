-- No two of the transforms and streams send to the same place, and each place is sent to.
use Rattle.std.proofs.Common.{◌≡◌, ◌≤◌, ℕ, suc, zero, ◌+◌, Bool, true, false, cond, eqb, List, [], ◌∷◌, ◌++◌, map, Option, Some, None, IfSome, refl, sym, ap, subst, ◌∙◌, arith, inl, inr}
use Rattle.std.specs.Prelude.{◌≢◌, ◌⊎◌, ◌&&◌}
use Rattle.std.specs.List.{slice_get, count_by}
use Rattle.std.proofs.lemmas.Bool.{and_parts, eq-eqb, eqb-true}
use Rattle.std.proofs.lemmas.List.Sums.{sum_by-append, sum_by-cons}
use Rattle.sb_windowed.specs.records.declared.item.Stream.{Stream}
use Rattle.sb_windowed.specs.records.declared.item.Stream.TheVariants.{A, B}
use Rattle.sb_pipeline.specs.declared.transform.Down.{Down}
use Rattle.sb_pipeline.specs.declared.transform.Step.{Step}
use Rattle.sb_pipeline.specs.Plans.{IsPlace, IsPlan}
use Rattle.sb_pipeline.specs.Shapes.{Shape, source, if_any, is_same_place, feeds}
use Rattle.sb_pipeline.proofs.Steps.{place-at}

same-itself : (d : Down) → is_same_place d d ≡ true
same-itself d = λ i. eq-eqb d.node d.node refl i && eq-eqb d.lane d.lane refl i

same-true : (d e : Down) → is_same_place d e ≡ true → e ≡ d
same-true d e h =
    let both = and_parts (eqb d.node e.node) (eqb d.lane e.lane) h in
    λ i. record { node = sym (eqb-true d.node e.node both.0) i; lane = sym (eqb-true d.lane e.lane both.1) i }

-- how many transforms send to the place
abbrev sending : Down → List Step → ℕ
sending d steps = count_by (is_same_place d) (map (λ s. s.down) steps)

abbrev one : Down → Down → ℕ
one d e = cond (is_same_place d e) 1 0

sending-cons : (d : Down) (s : Step) (steps : List Step) → sending d (s ∷ steps) ≡ one d s.down + sending d steps
sending-cons d s steps = sum_by-cons (one d) s.down (map (λ s. s.down) steps)

one-same : (d e : Down) → e ≡ d → one d e ≡ 1
one-same d e h = ap (one d) h ∙ ap (λ b. cond {A = ℕ} b 1 0) (same-itself d)

is_sent : (d : Down) (steps : List Step) (k : ℕ) (s : Step) → slice_get steps k ≡ Some s → s.down ≡ d → 1 ≤ sending d steps
is_sent d [] k s at to = cc
is_sent d (x ∷ steps) zero s at to = let e : x ≡ s = cc in omega (arith, sending-cons d x steps, one-same d x.down (ap (λ s. s.down) e ∙ to))
is_sent d (x ∷ steps) (suc k) s at to = omega (arith, sending-cons d x steps, is_sent d steps k s at to)

is_one : (d : Down) (steps : List Step) → sending d steps ≤ 1 → (j k : ℕ) (s t : Step) → slice_get steps j ≡ Some s → slice_get steps k ≡ Some t → s.down ≡ d → t.down ≡ d → j ≡ k
is_one d [] most j k s t at_j at_k to_s to_t = cc
is_one d (x ∷ steps) most zero zero s t at_j at_k to_s to_t = refl
is_one d (x ∷ steps) most zero (suc k) s t at_j at_k to_s to_t =
    let e : x ≡ s = cc in
    absurd (omega (arith, sending-cons d x steps, one-same d x.down (ap (λ s. s.down) e ∙ to_s), is_sent d steps k t at_k to_t))
is_one d (x ∷ steps) most (suc j) zero s t at_j at_k to_s to_t =
    let e : x ≡ t = cc in
    absurd (omega (arith, sending-cons d x steps, one-same d x.down (ap (λ s. s.down) e ∙ to_t), is_sent d steps j s at_j to_s))
is_one d (x ∷ steps) most (suc j) (suc k) s t at_j at_k to_s to_t = ap suc (is_one d steps (omega (arith, sending-cons d x steps)) j k s t at_j at_k to_s to_t)

some_sends : (d : Down) (steps : List Step) → 1 ≤ sending d steps → (k : ℕ) × (s : Step) × (slice_get steps k ≡ Some s) × (s.down ≡ d)
some_sends d [] h = absurd (omega arith)
some_sends d (x ∷ steps) h = by_case (is_same_place d x.down) refl (omega (arith, sending-cons d x steps)) (λ k. some_sends d steps k)
  where
    by_case : (b : Bool) → is_same_place d x.down ≡ b → 1 ≤ cond {A = ℕ} (is_same_place d x.down) 1 0 + sending d steps
        → (1 ≤ sending d steps → (k : ℕ) × (s : Step) × (slice_get steps k ≡ Some s) × (s.down ≡ d))
        → (k : ℕ) × (s : Step) × (slice_get (x ∷ steps) k ≡ Some s) × (s.down ≡ d)
    by_case true e h rest = (zero, x, refl, same-true d x.down e)
    by_case false e h rest =
        let none : cond {A = ℕ} (is_same_place d x.down) 1 0 ≡ 0 = ap (λ b. cond {A = ℕ} b 1 0) e in
        let r : (k : ℕ) × (s : Step) × (slice_get steps k ≡ Some s) × (s.down ≡ d) = rest (omega (arith, none, h)) in
        (suc r.0, r.1, r.2, r.3)

-- how many streams of this source go to the place
abbrev going : Down → Option Down → ℕ
going d source = count_by (is_same_place d) (if_any source)

goes : (d : Down) (o : Option Down) → o ≡ Some d → going d o ≡ 1
goes d o h = ap (going d) h ∙ one-itself
  where
    one-itself : going d (Some d) ≡ 1
    one-itself = sum_by-cons (one d) d [] ∙ omega (arith, one-same d d refl)

is_going : (d : Down) (o : Option Down) → 1 ≤ going d o → o ≡ Some d
is_going d None h = absurd (omega arith)
is_going d (Some e) h = by_case (is_same_place d e) refl (omega (arith, sum_by-cons (one d) e []))
  where
    by_case : (b : Bool) → is_same_place d e ≡ b → 1 ≤ cond {A = ℕ} (is_same_place d e) 1 0 → Some e ≡ Some d
    by_case true s h = ap (λ x. Some x) (same-true d e s)
    by_case false s h = let none : cond {A = ℕ} (is_same_place d e) 1 0 ≡ 0 = ap (λ b. cond {A = ℕ} b 1 0) s in absurd (omega (arith, none, h))

feeds-parts : (plan : Shape) (d : Down) → feeds plan d ≡ sending d plan.steps + (going d plan.source_a + going d plan.source_b)
feeds-parts plan d =
    sum_by-append (one d) (map (λ s. s.down) plan.steps) (if_any plan.source_a ++ if_any plan.source_b)
    ∙ ap (λ n. sending d plan.steps + n) (sum_by-append (one d) (if_any plan.source_a) (if_any plan.source_b))

module _ (plan : Shape) (is : IsPlan plan) where
  -- each source is a place
  pub sources : (s : Stream) (d : Down) → source plan s ≡ Some d → IsPlace plan.steps d
  sources A d h = place plan.source_a d is.source_a h
    where
      place : (o : Option Down) (d : Down) → IfSome o (IsPlace plan.steps) → o ≡ Some d → IsPlace plan.steps d
      place None d k h = cc
      place (Some e) d k h = let same : e ≡ d = cc in subst (IsPlace plan.steps) same k
  sources B d h = place plan.source_b d is.source_b h
    where
      place : (o : Option Down) (d : Down) → IfSome o (IsPlace plan.steps) → o ≡ Some d → IsPlace plan.steps d
      place None d k h = cc
      place (Some e) d k h = let same : e ≡ d = cc in subst (IsPlace plan.steps) same k

  parts : (d : Down) → IsPlace plan.steps d → sending d plan.steps + (going d plan.source_a + going d plan.source_b) ≡ 1
  parts d place = sym (feeds-parts plan d) ∙ is.fed_once d place

  -- no two transforms send to the same place
  pub apart : (j k : ℕ) (s t : Step) → slice_get plan.steps j ≡ Some s → slice_get plan.steps k ≡ Some t → s.down ≡ t.down → j ≡ k
  apart j k s t at_j at_k same = is_one t.down plan.steps (omega (arith, parts t.down (place-at plan is k t at_k))) j k s t at_j at_k same refl

  -- no transform sends where a stream goes
  pub sources_apart : (s : Stream) (d : Down) (k : ℕ) (t : Step) → source plan s ≡ Some d → slice_get plan.steps k ≡ Some t → t.down ≢ d
  sources_apart A d k t h at to = omega (arith, parts d (sources A d h), goes d plan.source_a h, is_sent d plan.steps k t at to)
  sources_apart B d k t h at to = omega (arith, parts d (sources B d h), goes d plan.source_b h, is_sent d plan.steps k t at to)

  -- the streams do not go to the same place
  pub streams_apart : (d : Down) → plan.source_a ≡ Some d → plan.source_b ≢ Some d
  streams_apart d a b = omega (arith, parts d (sources A d a), goes d plan.source_a a, goes d plan.source_b b)

  -- each place is where a stream goes or a transform sends
  pub fed : (d : Down) → IsPlace plan.steps d → ((s : Stream) × (source plan s ≡ Some d)) ⊎ ((k : ℕ) × (s : Step) × (slice_get plan.steps k ≡ Some s) × (s.down ≡ d))
  fed d place = by_count (sending d plan.steps) (going d plan.source_a) refl refl
    where
      by_count : (n m : ℕ) → n ≡ sending d plan.steps → m ≡ going d plan.source_a → ((s : Stream) × (source plan s ≡ Some d)) ⊎ ((k : ℕ) × (s : Step) × (slice_get plan.steps k ≡ Some s) × (s.down ≡ d))
      by_count (suc n) m e f = inr (some_sends d plan.steps (omega (arith, e)))
      by_count zero (suc m) e f = inl (A, is_going d plan.source_a (omega (arith, f)))
      by_count zero zero e f = inl (B, is_going d plan.source_b (omega (arith, e, f, parts d place)))
