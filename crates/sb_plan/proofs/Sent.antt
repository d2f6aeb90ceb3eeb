-- What sending an input to a place changes.
use Rattle.std.proofs.Common.{◌≡◌, ◌<◌, ◌+◌, ◌++◌, ◌∙◌, ℕ, zero, suc, cond, List, [], ◌∷◌, length, length-append, Option, Some, None, option_map, Ok, refl, sym, ap, subst, arith, inl, inr}
use Rattle.std.specs.Prelude.{bytes_eq, codes, ◌⊎◌, slice_get, nat_lt, ◌==◌, ◌&&◌}
use Rattle.std.specs.List.{count_by, sum_by}
use Rattle.std.proofs.lemmas.Bool.{cases_Bool}
use Rattle.std.proofs.lemmas.Bool.Decides.{nat_tests}
use Rattle.std.proofs.lemmas.List.Sums.{sum_by-append, sum_by-cons}
use Rattle.sb_pipeline.specs.declared.transform.Down.{Down}
use Rattle.sb_pipeline.specs.declared.transform.Kind.{Kind}
use Rattle.sb_pipeline.specs.Plans.{is_join}
use Rattle.sb_plan.specs.declared.wiring.Wiring.{Wiring}
use Rattle.sb_plan.specs.declared.wiring.Part.{Part}
use Rattle.sb_plan.specs.declared.fault.PlanKey.{PlanKey}
use Rattle.sb_plan.specs.Wiring.{parts_with_down, place_if_unused, with_input}
use Rattle.sb_plan.specs.Soundness.{goes, feed_count}
use Rattle.sb_plan.proofs.Passed.{passed}

-- the part, sent to the place
abbrev pub sent : Down → Part → Part
sent place p = record p { down = Some place }

-- one part that went nowhere goes to the place, and the others are as they were
pub record OneSent (place : Down) (ps qs : List Part) : Type 0 where
  pub front : List Part
  pub part : Part
  pub back : List Part
  pub nowhere : part.down ≡ None
  pub before : ps ≡ front ++ part ∷ back
  pub after : qs ≡ front ++ sent place part ∷ back

-- what could be sent had gone nowhere
place_if_unused-passed : (k : PlanKey) (place : Down) (o d : Option Down) → place_if_unused k place o ≡ Ok d → (o ≡ None) × (d ≡ Some place)
place_if_unused-passed k place None d h = (refl, cc)
place_if_unused-passed k place (Some x) d h = cc

-- the same behind one part more
one_later : (place : Down) (p : Part) (ps qs : List Part) → OneSent place ps qs → OneSent place (p ∷ ps) (p ∷ qs)
one_later place p ps qs s = record { front = p ∷ s.front; part = s.part; back = s.back; nowhere = s.nowhere; before = ap (λ l. p ∷ l) s.before; after = ap (λ l. p ∷ l) s.after }

pub one_sent : (k : PlanKey) (input : List ℕ) (place : Down) (ps qs : List Part) → parts_with_down k input place ps ≡ Ok qs → OneSent place ps qs
one_sent k input place [] qs h = cc
one_sent k input place (p ∷ ps) qs h = elim (cases_Bool (bytes_eq p.name input)) [
  | inl named ↦
      let here = passed (place_if_unused k place p.down) (λ down. Ok (record p { down = down } ∷ ps)) qs (rw named at h) in
      let once = place_if_unused-passed k place p.down here.0 here.1 in
      let same : sent place p ∷ ps ≡ qs = let is_ok = here.2 in let to = once.1 in cc in
      record { front = []; part = p; back = ps; nowhere = once.0; before = refl; after = sym same }
  | inr other ↦
      let later = passed (parts_with_down k input place ps) (λ rest. Ok (p ∷ rest)) qs (rw other at h) in
      let same : p ∷ later.0 ≡ qs = let is_ok = later.2 in cc in
      subst (OneSent place (p ∷ ps)) same (one_later place p ps later.0 (one_sent k input place ps later.0 later.1))
]

-- what stands at a place of a list in which one element is another: the same, or the two of them
pub at_either : (front back : List Part) (x y : Part) (i : ℕ) → (slice_get (front ++ y ∷ back) i ≡ slice_get (front ++ x ∷ back) i)
    ⊎ ((slice_get (front ++ x ∷ back) i ≡ Some x) × (slice_get (front ++ y ∷ back) i ≡ Some y))
at_either [] back x y zero = inr (refl, refl)
at_either [] back x y (suc i) = inl refl
at_either (p ∷ front) back x y zero = inl refl
at_either (p ∷ front) back x y (suc i) = at_either front back x y i

abbrev pub kind_of : Part → Kind
kind_of p = p.kind

module _ (place : Down) (ps qs : List Part) (s : OneSent place ps qs) where
  same_length : length qs ≡ length ps
  same_length = ap length s.after ∙ omega (arith, length-append s.front (sent place s.part ∷ s.back), length-append s.front (s.part ∷ s.back)) ∙ sym (ap length s.before)

  same_kinds : (i : ℕ) → option_map kind_of (slice_get qs i) ≡ option_map kind_of (slice_get ps i)
  same_kinds i = ap (λ l. option_map kind_of (slice_get l i)) s.after ∙ here ∙ sym (ap (λ l. option_map kind_of (slice_get l i)) s.before)
    where
      here : option_map kind_of (slice_get (s.front ++ sent place s.part ∷ s.back) i) ≡ option_map kind_of (slice_get (s.front ++ s.part ∷ s.back) i)
      here = elim (at_either s.front s.back s.part (sent place s.part) i) [
        | inl same ↦ ap (option_map kind_of) same
        | inr both ↦ ap (option_map kind_of) both.1 ∙ sym (ap (option_map kind_of) both.0)
      ]

  sums : (f : Part → ℕ) → sum_by f qs + f s.part ≡ sum_by f ps + f (sent place s.part)
  sums f =
      let x = s.part in
      let y = sent place s.part in
      omega (arith, ap (sum_by f) s.after, ap (sum_by f) s.before, sum_by-append f s.front (y ∷ s.back), sum_by-cons f y s.back, sum_by-append f s.front (x ∷ s.back), sum_by-cons f x s.back)

  same_joins : count_by (λ p. is_join p.kind) qs ≡ count_by (λ p. is_join p.kind) ps
  same_joins = omega (arith, sums (λ p. cond (is_join p.kind) 1 0))

  one_more : (d : Down) → sum_by (λ p. goes d p.down) qs ≡ sum_by (λ p. goes d p.down) ps + goes d (Some place)
  one_more d =
      let none : goes d s.part.down ≡ 0 = ap (goes d) s.nowhere in
      omega (arith, sums (λ p. goes d p.down), none)

  down_at : (i : ℕ) (q : Part) (d : Down) → slice_get qs i ≡ Some q → q.down ≡ Some d → ((p : Part) × (slice_get ps i ≡ Some p) × (p.down ≡ Some d)) ⊎ (d ≡ place)
  down_at i q d at goes_to =
      let at_qs : slice_get (s.front ++ sent place s.part ∷ s.back) i ≡ Some q = sym (ap (λ l. slice_get l i) s.after) ∙ at in
      let in_ps : slice_get ps i ≡ slice_get (s.front ++ s.part ∷ s.back) i = ap (λ l. slice_get l i) s.before in
      elim (at_either s.front s.back s.part (sent place s.part) i) [
        | inl same ↦ inl (q, in_ps ∙ sym same ∙ at_qs, goes_to)
        | inr both ↦
            let is : sent place s.part ≡ q = cc in
            let e : Some place ≡ Some d = ap (λ p. p.down) is ∙ goes_to in
            inr cc
      ]

-- the lanes of node n below lane m: 1 where the place is one, and else 0
abbrev pub new_at : ℕ → ℕ → Down → ℕ
new_at n m d = cond (d.node == n && nat_lt d.lane m) 1 0

-- the first m inputs of node n have been sent to its lanes
pub record Sent (n m : ℕ) (w v : Wiring) : Type 0 where
  pub lengths : length v.parts ≡ length w.parts
  pub kinds : (i : ℕ) → option_map kind_of (slice_get v.parts i) ≡ option_map kind_of (slice_get w.parts i)
  pub joins : count_by (λ p. is_join p.kind) v.parts ≡ count_by (λ p. is_join p.kind) w.parts
  pub downs : (i : ℕ) (q : Part) (d : Down) → slice_get v.parts i ≡ Some q → q.down ≡ Some d → ((p : Part) × (slice_get w.parts i ≡ Some p) × (p.down ≡ Some d)) ⊎ ((d.node ≡ n) × (d.lane < m))
  pub source_a : (d : Down) → v.source_a ≡ Some d → (w.source_a ≡ Some d) ⊎ ((d.node ≡ n) × (d.lane < m))
  pub source_b : (d : Down) → v.source_b ≡ Some d → (w.source_b ≡ Some d) ⊎ ((d.node ≡ n) × (d.lane < m))
  pub fed : (d : Down) → feed_count v d ≡ feed_count w d + new_at n m d

-- none have
pub sent_none : (n : ℕ) (w : Wiring) → Sent n 0 w w
sent_none n w = record {
  lengths = refl;
  kinds = λ i. refl;
  joins = refl;
  downs = λ i q d at goes_to. inl (q, at, goes_to);
  source_a = λ d e. inl e;
  source_b = λ d e. inl e;
  fed = λ d. none_new d;
}
  where
    none_new : (d : Down) → feed_count w d ≡ feed_count w d + new_at n 0 d
    none_new d = let zero_new : new_at n 0 d ≡ 0 = grind (arith, nat_tests) in omega (arith, zero_new)

widened : {A : Type 0} (n m : ℕ) (d : Down) → A ⊎ ((d.node ≡ n) × (d.lane < m)) → A ⊎ ((d.node ≡ n) × (d.lane < m + 1))
widened n m d (inl a) = inl a
widened n m d (inr b) = inr (b.0, omega (arith, b.1))

module _ (n m : ℕ) (w v : Wiring) (s : Sent n m w v) where
  abbrev next : Down
  next = record { node = n; lane = m }

  more_at : (d : Down) → new_at n (m + 1) d ≡ new_at n m d + goes d (Some next)
  more_at d = grind (arith, nat_tests)

  is_next : {A : Type 0} (d : Down) → d ≡ next → A ⊎ ((d.node ≡ n) × (d.lane < m + 1))
  is_next d e =
      let lane : d.lane ≡ m = ap (λ x. x.lane) e in
      inr (ap (λ x. x.node) e, omega (arith, lane))

  with_a : v.source_a ≡ None → Sent n (m + 1) w (record v { source_a = Some next })
  with_a e = record {
    lengths = s.lengths;
    kinds = s.kinds;
    joins = s.joins;
    downs = λ i q d at goes_to. widened n m d (s.downs i q d at goes_to);
    source_a = λ d h. is_next d cc;
    source_b = λ d h. widened n m d (s.source_b d h);
    fed = λ d. let none : goes d v.source_a ≡ 0 = ap (goes d) e in omega (arith, s.fed d, more_at d, none);
  }

  with_b : v.source_b ≡ None → Sent n (m + 1) w (record v { source_b = Some next })
  with_b e = record {
    lengths = s.lengths;
    kinds = s.kinds;
    joins = s.joins;
    downs = λ i q d at goes_to. widened n m d (s.downs i q d at goes_to);
    source_a = λ d h. widened n m d (s.source_a d h);
    source_b = λ d h. is_next d cc;
    fed = λ d. let none : goes d v.source_b ≡ 0 = ap (goes d) e in omega (arith, s.fed d, more_at d, none);
  }

  with_parts : (qs : List Part) → OneSent next v.parts qs → Sent n (m + 1) w (record v { parts = qs })
  with_parts qs o = record {
    lengths = same_length next v.parts qs o ∙ s.lengths;
    kinds = λ i. same_kinds next v.parts qs o i ∙ s.kinds i;
    joins = same_joins next v.parts qs o ∙ s.joins;
    downs = λ i q d at goes_to. elim (down_at next v.parts qs o i q d at goes_to) [
      | inl p ↦ widened n m d (s.downs i p.0 d p.1 p.2)
      | inr e ↦ is_next d e
    ];
    source_a = λ d h. widened n m d (s.source_a d h);
    source_b = λ d h. widened n m d (s.source_b d h);
    fed = λ d. omega (arith, s.fed d, more_at d, one_more next v.parts qs o d);
  }

  -- one input more
  pub sent_more : (k : PlanKey) (input : List ℕ) (u : Wiring) → with_input k input (record { node = n; lane = m }) v ≡ Ok u → Sent n (m + 1) w u
  unfolding with_input
  sent_more k input u h = elim (cases_Bool (bytes_eq input (codes "a"))) [
    | inl a ↦
        let sent = passed (place_if_unused k next v.source_a) (λ source. Ok (record v { source_a = source })) u (rw a at h) in
        let once = place_if_unused-passed k next v.source_a sent.0 sent.1 in
        let same : record v { source_a = sent.0 } ≡ u = let is_ok = sent.2 in cc in
        subst (Sent n (m + 1) w) (ap (λ source. record v { source_a = source }) (sym once.1) ∙ same) (with_a once.0)
    | inr not_a ↦ elim (cases_Bool (bytes_eq input (codes "b"))) [
      | inl b ↦
          let sent = passed (place_if_unused k next v.source_b) (λ source. Ok (record v { source_b = source })) u (rw (not_a, b) at h) in
          let once = place_if_unused-passed k next v.source_b sent.0 sent.1 in
          let same : record v { source_b = sent.0 } ≡ u = let is_ok = sent.2 in cc in
          subst (Sent n (m + 1) w) (ap (λ source. record v { source_b = source }) (sym once.1) ∙ same) (with_b once.0)
      | inr not_b ↦
          let sent = passed (parts_with_down k input next v.parts) (λ parts. Ok (record v { parts = parts })) u (rw (not_a, not_b) at h) in
          let same : record v { parts = sent.0 } ≡ u = let is_ok = sent.2 in cc in
          subst (Sent n (m + 1) w) same (with_parts sent.0 (one_sent k input next v.parts sent.0 sent.1))
    ]
  ]
