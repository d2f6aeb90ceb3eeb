-- One transform more keeps the wiring sound.
use Rattle.std.proofs.Common.{◌≡◌, ◌<◌, ◌≤◌, ◌+◌, ◌++◌, ◌∙◌, ℕ, zero, suc, Bool, true, false, cond, List, [], ◌∷◌, length, length-append, Option, Some, None, option_map, OnOk, Result, Ok, Err, refl, sym, ap, subst, arith, inl, inr}
use Rattle.std.specs.Prelude.{◌⊎◌, slice_get, is_some}
use Rattle.std.specs.List.{count_by}
use Rattle.std.proofs.lemmas.Bool.{cases_lt}
use Rattle.std.proofs.lemmas.Option.{slice_get_past}
use Rattle.std.proofs.NetLemmas.Options.{map_some}
use Rattle.std.proofs.lemmas.Bool.Decides.{nat_tests}
use Rattle.std.proofs.lemmas.List.Sums.{sum_by-append, sum_by-cons}
use Rattle.sb_pipeline.specs.declared.transform.Down.{Down}
use Rattle.sb_pipeline.specs.declared.transform.Kind.{Kind}
use Rattle.sb_pipeline.specs.declared.transform.Kind.TheVariants.{Do, Group, Session, Join}
use Rattle.sb_pipeline.specs.Operators.{lanes_of, operator_of}
use Rattle.sb_pipeline.specs.Plans.{IsValidKind, is_join}
use Rattle.sb_plan.specs.declared.entry.Entry.{Entry}
use Rattle.sb_plan.specs.declared.wiring.Wiring.{Wiring}
use Rattle.sb_plan.specs.declared.wiring.Part.{Part}
use Rattle.sb_plan.specs.declared.fault.PlanKey.TheVariants as key
use Rattle.sb_plan.specs.declared.fault.PlanCause.TheVariants as cause
use Rattle.sb_plan.specs.declared.stop.Stop.{Stop}
use Rattle.sb_plan.proofs.Counting.{count_by-not_any}
use Rattle.sb_plan.proofs.Passed.{of_text, passed, passed_unless}
use Rattle.sb_plan.specs.Answers.{ChangesTo}
use Rattle.sb_plan.specs.Failures.{by_text}
use Rattle.sb_plan.specs.Wiring.{with_input, with_right_input, with_inputs, is_second_join, with_part, with_transform}
use Rattle.sb_plan.specs.Soundness.{IsSound, IsValidEntry, IsLane, lanes_in, goes, feed_count}
use Rattle.sb_plan.proofs.Sent.{Sent, sent_none, sent_more, new_at, kind_of}

-- the element at a place of a list with one more at its end: an old one, the new one, or none
pub at_pushed : (ps : List Part) (x : Part) (i : ℕ)
    → ((i < length ps) × (slice_get (ps ++ x ∷ []) i ≡ slice_get ps i)) ⊎ (((i ≡ length ps) × (slice_get (ps ++ x ∷ []) i ≡ Some x)) ⊎ ((length ps < i) × (slice_get (ps ++ x ∷ []) i ≡ None)))
at_pushed [] x zero = inr (inl (refl, refl))
at_pushed [] x (suc i) = inr (inr (omega arith, refl))
at_pushed (p ∷ ps) x zero = inl (omega arith, refl)
at_pushed (p ∷ ps) x (suc i) = elim (at_pushed ps x i) [
  | inl old ↦ inl (omega (arith, old.0), old.1)
  | inr (inl new) ↦ inr (inl (ap suc new.0, new.1))
  | inr (inr past) ↦ inr (inr (omega (arith, past.0), past.1))
]

-- the lanes of a transform, by its kind alone
abbrev lanes_by : Option Kind → ℕ
lanes_by None = 0
lanes_by (Some kind) = lanes_of (operator_of kind)

lanes_in-by : (o : Option Part) → lanes_in o ≡ lanes_by (option_map kind_of o)
lanes_in-by None = refl
lanes_in-by (Some p) = refl

module _ (entry : Entry) (n m : ℕ) (w v : Wiring) (at_end : n ≡ length w.parts) (lanes : m ≡ lanes_of (operator_of entry.kind)) (s : Sent n m w v) (is : IsSound w)
    (valid : IsValidKind entry.kind) (single : is_second_join entry.kind w.parts ≡ false) where
  abbrev new : Part
  new = record { name = entry.name; kind = entry.kind; down = None }

  abbrev u : Wiring
  u = with_part entry v

  size : length v.parts ≡ n
  size = s.lengths ∙ sym at_end

  -- the lanes of the transforms
  lanes_below : (i : ℕ) → i < n → lanes_in (slice_get u.parts i) ≡ lanes_in (slice_get w.parts i)
  lanes_below i low = elim (at_pushed v.parts new i) [
    | inl old ↦ ap lanes_in old.1 ∙ lanes_in-by (slice_get v.parts i) ∙ ap lanes_by (s.kinds i) ∙ sym (lanes_in-by (slice_get w.parts i))
    | inr (inl here) ↦ absurd (omega (arith, here.0, size))
    | inr (inr past) ↦ absurd (omega (arith, past.0, size))
  ]

  lanes_here : lanes_in (slice_get u.parts n) ≡ m
  lanes_here = elim (at_pushed v.parts new n) [
    | inl old ↦ absurd (omega (arith, old.0, size))
    | inr (inl here) ↦ ap lanes_in here.1 ∙ sym lanes
    | inr (inr past) ↦ absurd (omega (arith, past.0, size))
  ]

  lanes_past : (i : ℕ) → n < i → lanes_in (slice_get u.parts i) ≡ 0
  lanes_past i high = elim (at_pushed v.parts new i) [
    | inl old ↦ absurd (omega (arith, old.0, size))
    | inr (inl here) ↦ absurd (omega (arith, here.0, size))
    | inr (inr past) ↦ ap lanes_in past.1
  ]

  -- a lane of an earlier transform, or one of the new one
  is_old : (d : Down) → IsLane w.parts d → d.node < n
  is_old d h = elim (cases_lt d.node n) [
    | inl low ↦ low
    | inr high ↦
        let none : lanes_in (slice_get w.parts d.node) ≡ 0 = ap lanes_in (slice_get_past w.parts d.node (omega (arith, high, at_end))) in
        absurd (omega (arith, h, none))
  ]

  still : (d : Down) → IsLane w.parts d → IsLane u.parts d
  still d h = let low : d.node < n = is_old d h in omega (arith, h, lanes_below d.node low)

  fresh : (d : Down) → d.node ≡ n → d.lane < m → IsLane u.parts d
  fresh d e low = omega (arith, low, ap (λ i. lanes_in (slice_get u.parts i)) e, lanes_here)

  -- what goes to a place
  counts_after : (d : Down) → feed_count u d ≡ feed_count w d + new_at n m d
  counts_after d =
      let pushed = sum_by-append (λ p. goes d p.down) v.parts (new ∷ []) in
      let one = sum_by-cons (λ p. goes d p.down) new [] in
      omega (arith, pushed, one, s.fed d)

  none_new : (d : Down) → (d.node ≡ n → ⊥) → new_at n m d ≡ 0
  none_new d other = grind (arith, nat_tests)

  one_new : (d : Down) → d.node ≡ n → d.lane < m → new_at n m d ≡ 1
  one_new d e low = grind (arith, nat_tests)

  kinds_after : (k : ℕ) (part : Part) → slice_get u.parts k ≡ Some part → IsValidKind part.kind
  kinds_after k part at = elim (at_pushed v.parts new k) [
    | inl old ↦
        let of_w : option_map kind_of (slice_get w.parts k) ≡ Some part.kind = sym (s.kinds k) ∙ ap (option_map kind_of) (sym old.1 ∙ at) in
        map_some kind_of (slice_get w.parts k) part.kind of_w (λ p there same. subst IsValidKind same (is.kinds k p there))
    | inr (inl here) ↦ let same : new ≡ part = cc in subst (λ p. IsValidKind p.kind) same valid
    | inr (inr past) ↦ cc
  ]

  joins_after : count_by (λ p. is_join p.kind) u.parts ≤ 1
  joins_after = by_case (is_join entry.kind) refl
    where
      count : ℕ
      count = count_by (λ p. is_join p.kind) w.parts

      more : count_by (λ p. is_join p.kind) u.parts ≡ count_by (λ p. is_join p.kind) w.parts + cond (is_join entry.kind) 1 0
      more = omega (arith, sum_by-append (λ p. cond (is_join p.kind) 1 0) v.parts (new ∷ []), sum_by-cons (λ p. cond (is_join p.kind) 1 0) new [], s.joins)

      by_case : (b : Bool) → is_join entry.kind ≡ b → count_by (λ p. is_join p.kind) u.parts ≤ 1
      by_case true e = omega (arith, more, ap (λ b. cond {A = ℕ} b 1 0) e, count_by-not_any (λ p. is_join p.kind) w.parts (rw e at single))
      by_case false e = omega (arith, more, ap (λ b. cond {A = ℕ} b 1 0) e, is.joins)

  downs_after : (k : ℕ) (part : Part) (d : Down) → slice_get u.parts k ≡ Some part → part.down ≡ Some d → (k < d.node) × IsLane u.parts d
  downs_after k part d at goes_to = elim (at_pushed v.parts new k) [
    | inl old ↦ elim (s.downs k part d (sym old.1 ∙ at) goes_to) [
      | inl before ↦ let was = is.downs k before.0 d before.1 before.2 in (was.0, still d was.1)
      | inr now ↦ (omega (arith, old.0, size, now.0), fresh d now.0 now.1)
    ]
    | inr (inl here) ↦ let same : new ≡ part = cc in let never : None ≡ Some d = ap (λ p. p.down) same ∙ goes_to in cc
    | inr (inr past) ↦ cc
  ]

  pub added : IsSound (with_part entry v)
  added = record {
    kinds = kinds_after;
    joins = joins_after;
    downs = downs_after;
    source_a = λ d e. elim (s.source_a d e) [ inl before ↦ still d (is.source_a d before) | inr now ↦ fresh d now.0 now.1 ];
    source_b = λ d e. elim (s.source_b d e) [ inl before ↦ still d (is.source_b d before) | inr now ↦ fresh d now.0 now.1 ];
    fed_once = λ d lane. fed_at d lane;
    none_beyond = λ d past.
        let long : length u.parts ≡ n + 1 = omega (arith, length-append v.parts (new ∷ []), size) in
        let none : new_at n m d ≡ 0 = none_new d (λ e. omega (arith, e, past, long)) in
        omega (arith, counts_after d, none, is.none_beyond d (omega (arith, past, long, at_end)));
  }
    where
      fed_at : (d : Down) → IsLane u.parts d → feed_count u d ≡ 1
      fed_at d lane = elim (cases_lt d.node n) [
        | inl low ↦
            let none : new_at n m d ≡ 0 = none_new d (λ e. omega (arith, e, low)) in
            omega (arith, counts_after d, none, is.fed_once d (omega (arith, lane, lanes_below d.node low)))
        | inr high ↦ elim (cases_lt n d.node) [
          | inl past ↦ absurd (omega (arith, lane, lanes_past d.node past))
          | inr most ↦
              let e : d.node ≡ n = omega arith in
              let one : new_at n m d ≡ 1 = one_new d e (omega (arith, lane, ap (λ i. lanes_in (slice_get u.parts i)) e, lanes_here)) in
              omega (arith, counts_after d, one, is.none_beyond d (omega (arith, high, at_end)))
        ]
      ]

-- all inputs of an entry are sent
all_sent : (entry : Entry) (n : ℕ) (w v : Wiring) → is_some entry.right ≡ is_join entry.kind → with_inputs n entry w ≡ Ok v → Sent n (lanes_of (operator_of entry.kind)) w v
unfolding with_inputs
all_sent entry n w v two h =
    let left = passed (with_input key.From entry.left (record { node = n; lane = 0 }) w) _ v h in
    by_right left.0 (sent_more n 0 w w (sent_none n w) key.From entry.left left.0 left.1) entry.right refl left.2
  where
    one_lane : (kind : Kind) → is_join kind ≡ false → lanes_of (operator_of kind) ≡ 1
    one_lane (Do op) e = refl
    one_lane (Group agg windows) e = refl
    one_lane (Session agg gap) e = refl
    one_lane (Join combine windows) e = cc

    two_lanes : (kind : Kind) → is_join kind ≡ true → lanes_of (operator_of kind) ≡ 2
    two_lanes (Do op) e = cc
    two_lanes (Group agg windows) e = cc
    two_lanes (Session agg gap) e = cc
    two_lanes (Join combine windows) e = refl

    by_right : (x : Wiring) → Sent n 1 w x → (right : Option (List ℕ)) → entry.right ≡ right → with_right_input right (record { node = n; lane = 1 }) x ≡ Ok v → Sent n (lanes_of (operator_of entry.kind)) w v
    by_right x s None e g =
        let same : x ≡ v = cc in
        let one : lanes_of (operator_of entry.kind) ≡ 1 = one_lane entry.kind (sym two ∙ ap is_some e) in
        subst (λ m. Sent n m w v) (sym one) (subst (Sent n 1 w) same s)
    by_right x s (Some input) e g =
        let many : lanes_of (operator_of entry.kind) ≡ 2 = two_lanes entry.kind (sym two ∙ ap is_some e) in
        subst (λ m. Sent n m w v) (sym many) (sent_more n 1 w x s key.With input v g)

-- a transform that is connected keeps the wiring sound
pub connected_sound : (entry : Entry) (w u : Wiring) → with_transform entry w ≡ Ok u → IsValidEntry entry → IsSound w → IsSound u × (length u.parts ≡ length w.parts + 1)
unfolding with_transform
connected_sound entry w u h valid is =
    let single = passed_unless (is_second_join entry.kind w.parts) cause.TwoJoins _ u h in
    let sent = passed (with_inputs (length w.parts) entry w) _ u single.1 in
    let lanes = lanes_of (operator_of entry.kind) in
    let s : Sent (length w.parts) lanes w sent.0 = all_sent entry (length w.parts) w sent.0 valid.1 sent.1 in
    let same : with_part entry sent.0 ≡ u = let is_ok = sent.2 in cc in
    subst (λ x. IsSound x × (length x.parts ≡ length w.parts + 1)) same (
      added entry (length w.parts) lanes w sent.0 refl refl s is valid.0 single.0,
      omega (arith, length-append sent.0.parts (record { name = entry.name; kind = entry.kind; down = None } ∷ []), s.lengths),
    )

-- the same of an answer that may want memory
pub connects_sound : {A : Type 0} (entry : Entry) (w u : Wiring) (r : Result A Stop) → ChangesTo r (by_text (with_transform entry w)) u → IsValidEntry entry → IsSound w
    → OnOk r (IsSound u × (length u.parts ≡ length w.parts + 1))
connects_sound entry w u (Ok x) h valid is = connected_sound entry w u (of_text (with_transform entry w) u h) valid is
connects_sound entry w u (Err s) h valid is = tt
