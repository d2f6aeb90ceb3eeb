-- A sound wiring in which each transform but the last goes somewhere, and one has windows, is a plan.
use Rattle.std.proofs.Common.{◌≡◌, ◌<◌, ◌≤◌, ◌+◌, ◌-◌, ◌*◌, ◌++◌, ◌∙◌, ℕ, Bool, true, cond, List, [], ◌∷◌, map, take, length, get_or, Option, Some, None, option_map, IfSome, All, refl, sym, ap, subst, arith, inl, inr}
use Rattle.std.specs.Prelude.{slice_get, is_none, unwrap_or}
use Rattle.std.specs.List.{count_by, sum_by, list_any}
use Rattle.std.proofs.lemmas.Bool.{cases_lt}
use Rattle.std.proofs.lemmas.Bool.Decides.{nat_tests}
use Rattle.std.proofs.lemmas.List.{length-map, take_all}
use Rattle.std.proofs.lemmas.List.Sums.{count_by_more_yes, sum_by-append, sum_by-cons}
use Rattle.std.proofs.lemmas.Option.{slice_get_past, slice_get_within, slice_get-get_or, slice_get-map, slice_get_cases}
use Rattle.std.proofs.NetLemmas.Options.{map_some}
use Rattle.sb_plan.proofs.Counting.{All-unfound, count_by-any, count_by-none}
use Rattle.sb_pipeline.proofs.records.Sums.{sum_by-map}
use Rattle.sb_pipeline.specs.declared.transform.Down.{Down}
use Rattle.sb_pipeline.specs.declared.transform.Step.{Step}
use Rattle.sb_pipeline.specs.declared.transform.TheConstants.{MAX_TRANSFORMS}
use Rattle.sb_pipeline.specs.Operators.{lanes_of, operator_at}
use Rattle.sb_pipeline.specs.Plans.{IsPlace, IsPlan, IsValidKind, has_windows, is_join}
use Rattle.sb_pipeline.specs.Shapes.{feeds, if_any, is_same_place}
use Rattle.sb_plan.specs.declared.wiring.Part.{Part}
use Rattle.sb_plan.specs.declared.wiring.Wiring.{Wiring}
use Rattle.sb_plan.specs.Soundness.{IsSound, IsLane, lanes_in, goes, feed_count}
use Rattle.sb_plan.specs.PlanFiles.{first_unused, shape_of, step_of}

abbrev goes_nowhere : Part → Bool
goes_nowhere p = is_none p.down

-- only the last transform goes nowhere
one_nowhere : (ps : List Part) → 1 ≤ length ps → first_unused ps ≡ None
    → ((p : Part) → slice_get ps (length ps - 1) ≡ Some p → p.down ≡ None) → count_by goes_nowhere ps ≡ 1
one_nowhere [] some used last = absurd (omega arith)
one_nowhere (p ∷ ps) some used last =
    let all = p ∷ ps in
    let n = length all - 1 in
    let whole : take (n + 1) all ≡ all = take_all (n + 1) all (omega arith) in
    let none : count_by goes_nowhere (take n all) ≡ 0 = count_by-none goes_nowhere (take n all) (All-unfound goes_nowhere (take n all) used) in
    let nowhere : goes_nowhere (get_or all n p) ≡ true = ap (λ o. is_none o) (last (get_or all n p) (slice_get-get_or all n p (omega arith))) in
    omega (arith, ap (count_by goes_nowhere) whole, count_by_more_yes goes_nowhere all n p (omega arith) nowhere, none)

-- how many go to a place, where what goes nowhere goes to the sink
filled : (sink d : Down) (ps : List Part)
    → sum_by (λ p. goes d (Some (step_of sink p).down)) ps ≡ sum_by (λ p. goes d p.down) ps + goes d (Some sink) * count_by goes_nowhere ps
filled sink d [] = omega arith
filled sink d (p ∷ ps) = by_case p.down refl (filled sink d ps)
  where
    by_case : (o : Option Down) → p.down ≡ o
        → sum_by (λ q. goes d (Some (step_of sink q).down)) ps ≡ sum_by (λ q. goes d q.down) ps + goes d (Some sink) * count_by goes_nowhere ps
        → sum_by (λ q. goes d (Some (step_of sink q).down)) (p ∷ ps) ≡ sum_by (λ q. goes d q.down) (p ∷ ps) + goes d (Some sink) * count_by goes_nowhere (p ∷ ps)
    by_case None e before =
        let all : goes d (Some (unwrap_or p.down sink)) ≡ goes d (Some sink) = ap (λ o. goes d (Some (unwrap_or o sink))) e in
        let own : goes d p.down ≡ 0 = ap (goes d) e in
        let one : cond {A = ℕ} (goes_nowhere p) 1 0 ≡ 1 = ap (λ o. cond {A = ℕ} (is_none o) 1 0) e in
        let more : count_by goes_nowhere (p ∷ ps) ≡ 1 + count_by goes_nowhere ps = sum_by-cons (λ q. cond (goes_nowhere q) 1 0) p ps ∙ ap (λ n. n + count_by goes_nowhere ps) one in
        let times : goes d (Some sink) * count_by goes_nowhere (p ∷ ps) ≡ goes d (Some sink) + goes d (Some sink) * count_by goes_nowhere ps =
        ap (λ n. goes d (Some sink) * n) more ∙ omega arith in
        omega (arith, sum_by-cons (λ q. goes d (Some (step_of sink q).down)) p ps, sum_by-cons (λ q. goes d q.down) p ps, all, own, times, before)
    by_case (Some x) e before =
        let all : goes d (Some (unwrap_or p.down sink)) ≡ goes d (Some x) = ap (λ o. goes d (Some (unwrap_or o sink))) e in
        let own : goes d p.down ≡ goes d (Some x) = ap (goes d) e in
        let one : cond {A = ℕ} (goes_nowhere p) 1 0 ≡ 0 = ap (λ o. cond {A = ℕ} (is_none o) 1 0) e in
        let more : count_by goes_nowhere (p ∷ ps) ≡ count_by goes_nowhere ps = sum_by-cons (λ q. cond (goes_nowhere q) 1 0) p ps ∙ ap (λ n. n + count_by goes_nowhere ps) one ∙ omega arith in
        let times : goes d (Some sink) * count_by goes_nowhere (p ∷ ps) ≡ goes d (Some sink) * count_by goes_nowhere ps = ap (λ n. goes d (Some sink) * n) more in
        omega (arith, sum_by-cons (λ q. goes d (Some (step_of sink q).down)) p ps, sum_by-cons (λ q. goes d q.down) p ps, all, own, times, before)

going : (d : Down) (o : Option Down) → count_by (is_same_place d) (if_any o) ≡ goes d o
going d None = refl
going d (Some x) = sum_by-cons (λ e. cond (is_same_place d e) 1 0) x [] ∙ omega arith

-- the lanes of a transform are those of its step
lanes_of_step : (sink : Down) (o : Option Part) (n : ℕ) → n < lanes_in o → lanes_of (operator_at (option_map (step_of sink) o)) ≡ lanes_in o
lanes_of_step sink None n low = absurd (omega arith)
lanes_of_step sink (Some p) n low = refl

module _ (w : Wiring) (some : 1 ≤ length w.parts) (most : length w.parts ≤ MAX_TRANSFORMS) (is : IsSound w) (used : first_unused w.parts ≡ None)
    (windows : list_any (λ p. has_windows p.kind) w.parts ≡ true) where
  abbrev n : ℕ
  n = length w.parts

  abbrev sink : Down
  sink = record { node = length w.parts; lane = 0 }

  abbrev steps : List Step
  steps = map (step_of sink) w.parts

  size : length steps ≡ length w.parts
  size = length-map w.parts (step_of sink)

  step_at : (k : ℕ) → slice_get steps k ≡ option_map (step_of sink) (slice_get w.parts k)
  step_at k = slice_get-map (step_of sink) w.parts k

  -- the transform that a step is of
  part_at : (k : ℕ) (s : Step) → slice_get steps k ≡ Some s → (p : Part) × (slice_get w.parts k ≡ Some p) × (step_of sink p ≡ s)
  part_at k s at = map_some (step_of sink) (slice_get w.parts k) s (sym (step_at k) ∙ at) (λ p there same. (p, there, same))

  every_step : (P : Step → Type 0) → ((k : ℕ) (p : Part) → slice_get w.parts k ≡ Some p → P (step_of sink p)) → All P steps
  every_step P each k d within =
      let at = part_at k (get_or steps k d) (slice_get-get_or steps k d within) in
      subst P at.2 (each k at.0 at.1)

  inside : (d : Down) → IsLane w.parts d → d.node < length w.parts
  inside d h = elim (cases_lt d.node (length w.parts)) [
    | inl low ↦ low
    | inr high ↦ let none : lanes_in (slice_get w.parts d.node) ≡ 0 = ap lanes_in (slice_get_past w.parts d.node high) in absurd (omega (arith, h, none))
  ]

  place_of : (d : Down) → IsLane w.parts d → IsPlace steps d
  place_of d h = (
    omega (arith, inside d h, size),
    subst (λ m. d.lane < m) (sym (ap (λ o. lanes_of (operator_at o)) (step_at d.node) ∙ lanes_of_step sink (slice_get w.parts d.node) d.lane h)) h,
  )

  sink_lanes : lanes_of (operator_at (slice_get steps (length w.parts))) ≡ 1
  sink_lanes = ap (λ o. lanes_of (operator_at o)) (slice_get_past steps (length w.parts) (omega (arith, size)))

  sink_place : IsPlace steps sink
  sink_place = (omega (arith, size), omega (arith, sink_lanes))

  -- where a step goes
  down_of : (k : ℕ) (p : Part) → slice_get w.parts k ≡ Some p → (k < (step_of sink p).down.node) × IsPlace steps (step_of sink p).down
  down_of k p at = by_down p.down refl
    where
      by_down : (o : Option Down) → p.down ≡ o → (k < (unwrap_or p.down sink).node) × IsPlace steps (unwrap_or p.down sink)
      by_down None e = subst (λ o. (k < (unwrap_or o sink).node) × IsPlace steps (unwrap_or o sink)) (sym e) (slice_get_within w.parts k p at, sink_place)
      by_down (Some d) e =
          let was = is.downs k p d at e in
          subst (λ o. (k < (unwrap_or o sink).node) × IsPlace steps (unwrap_or o sink)) (sym e) (was.0, place_of d was.1)

  source_of : (o : Option Down) → ((d : Down) → o ≡ Some d → IsLane w.parts d) → IfSome o (IsPlace steps)
  source_of None lane = tt
  source_of (Some d) lane = place_of d (lane d refl)

  last_nowhere : (p : Part) → slice_get w.parts (length w.parts - 1) ≡ Some p → p.down ≡ None
  last_nowhere p at = by_down p.down refl
    where
      by_down : (o : Option Down) → p.down ≡ o → p.down ≡ None
      by_down None e = e
      by_down (Some d) e = let was = is.downs (length w.parts - 1) p d at e in absurd (omega (arith, was.0, inside d was.1, some))

  fed_by_steps : (d : Down) → feeds (shape_of w) d ≡ feed_count w d + goes d (Some sink)
  fed_by_steps d =
      let one : count_by goes_nowhere w.parts ≡ 1 = one_nowhere w.parts some used last_nowhere in
      let times : goes d (Some sink) * count_by goes_nowhere w.parts ≡ goes d (Some sink) = ap (λ m. goes d (Some sink) * m) one ∙ omega arith in
      let same : Down → ℕ = λ e. cond (is_same_place d e) 1 0 in
      omega (
        arith,
        sum_by-append same (map (λ s. s.down) steps) (if_any w.source_a ++ if_any w.source_b),
        sum_by-append same (if_any w.source_a) (if_any w.source_b),
        going d w.source_a,
        going d w.source_b,
        sum_by-map same (λ s. s.down) steps,
        sum_by-map (λ s. same s.down) (step_of sink) w.parts,
        filled sink d w.parts,
        times,
      )

  fed_at : (d : Down) → IsPlace steps d → feeds (shape_of w) d ≡ 1
  fed_at d place = elim (slice_get_cases w.parts d.node).1 [
    | inl (p, low, there, same) ↦
        let none : goes d (Some sink) ≡ 0 = grind (arith, nat_tests) in
        let lanes : lanes_of (operator_at (slice_get steps d.node)) ≡ lanes_in (slice_get w.parts d.node) =
        ap (λ o. lanes_of (operator_at o)) (step_at d.node ∙ ap (option_map (step_of sink)) there) ∙ sym (ap lanes_in there) in
        omega (arith, fed_by_steps d, none, is.fed_once d (subst (λ m. d.lane < m) lanes place.1))
    | inr (high, past) ↦
        let at : d.node ≡ length w.parts = omega (arith, high, place.0, size) in
        let first : d.lane < 1 = subst (λ m. d.lane < m) (ap (λ i. lanes_of (operator_at (slice_get steps i))) at ∙ sink_lanes) place.1 in
        let one : goes d (Some sink) ≡ 1 = grind (arith, nat_tests) in
        omega (arith, fed_by_steps d, one, is.none_beyond d high)
  ]

  pub is_plan : IsPlan (shape_of w)
  is_plan = record {
    some = omega (arith, size, some);
    most = omega (arith, size, most);
    kinds = every_step (λ s. IsValidKind s.kind) (λ k p at. is.kinds k p at);
    joins = omega (arith, sum_by-map (λ s. cond (is_join s.kind) 1 0) (step_of sink) w.parts, is.joins);
    windows = omega (arith, sum_by-map (λ s. cond (has_windows s.kind) 1 0) (step_of sink) w.parts, count_by-any (λ p. has_windows p.kind) w.parts windows);
    further = λ k s at. let p = part_at k s at in subst (λ s. k < s.down.node) p.2 (down_of k p.0 p.1).0;
    places = every_step (λ s. IsPlace steps s.down) (λ k p at. (down_of k p at).1);
    source_a = source_of w.source_a is.source_a;
    source_b = source_of w.source_b is.source_b;
    fed_once = fed_at;
  }
