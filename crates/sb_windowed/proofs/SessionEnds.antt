-- Where sessions end: told by the times of their key alone.
use Rattle.std.proofs.Common.{◌≡◌, ℕ, ◌+◌, ◌-◌, ◌≤◌, ◌<◌, Bool, true, false, cond, eqb, ltb, not, List, [], ◌∷◌, map, get_or, subst, sym, refl, ap, ◌∙◌, arith, ⊎_elim}
use Rattle.std.specs.Prelude.{◌||◌, ◌&&◌}
use Rattle.std.specs.List.{filter, list_any, AllByRecursion}
use Rattle.std.specs.Ordering.{nat_cmp, is_lt}
use Rattle.std.specs.Cmp.{nat_cmp_total, eq_by_cmp_equiv}
use Rattle.std.proofs.lemmas.Bool.{eqb-true, and_parts, false_from_ne_true, ltb-true, ltb-false, eq-eqb, ne_eqb, cases_lt}
use Rattle.std.proofs.lemmas.Bool.Decides.{nat_tests}
use Rattle.std.proofs.lemmas.Map.Views.{tells_apart}
use Rattle.sb_window.specs.records.declared.item.Record.{Record}
use Rattle.sb_window.specs.records.declared.key.Key.{Key}
use Rattle.sb_window.specs.records.Keys.{same_key}
use Rattle.sb_window.specs.records.KeyOrder.{key_cmp_total}
use Rattle.sb_window.specs.records.Orders.{IsAscending}
use Rattle.sb_window.specs.KeyOrderLemmas.{exact_keys}
use Rattle.sb_window.specs.ElementLemmas.{every, All-any}
use Rattle.sb_window.specs.SumLemmas.{any_reordered}
use Rattle.sb_window.specs.SortingLemmas.{IsReordered-in_order, in_order-ascending, All-in_order}
use Rattle.sb_windowed.specs.Laws.{SessionsAreCutAtGaps, LastRecordsEndSessions}
use Rattle.std.proofs.lemmas.List.Elements.{recursion_from_All}
use Rattle.std.proofs.lemmas.List.Folds.{list_any_at}
use Rattle.sb_windowed.specs.Sessions.{end_from, times_from, session_end}

-- e is where the session of t ends, where these are the times of its key: from the last of its times up to e there is none, and from each time before that there is one within the gap
pub record IsEndOf (has : ℕ → Bool) (gap t e : ℕ) : Type 0 where
  pub later : t + gap ≤ e
  pub silent : (u : ℕ) → u < e → e < u + gap → has u ≡ false
  pub goes_on : (x : ℕ) → t ≤ x → x + gap < e → (u : ℕ) × (x < u) × (u < x + gap) × (has u ≡ true)

-- one end is at most another, where no time of the one session lies in the silence before the other
pub end-low : (has more : ℕ → Bool) (gap t t' e e' : ℕ) → IsEndOf has gap t e → IsEndOf more gap t' e' → t' + gap ≤ e → ((u : ℕ) → u < e → e < u + gap → more u ≡ true → has u ≡ true) → e' ≤ e
end-low has more gap t t' e e' is is' low within = ⊎_elim
    (λ less. let (u, after, before, has_u) = is'.goes_on (e - gap) (omega arith) (omega arith) in
    let k : true ≡ false = sym (within u (omega arith) (omega arith) has_u) ∙ is.silent u (omega arith) (omega arith) in cc)
    (λ h. h) (cases_lt e e')

-- ---- the end that is worked out is the end
among : List ℕ → ℕ → Bool
among us u = list_any (λ v. eqb v u) us

not_among : (u : ℕ) (us : List ℕ) → AllByRecursion (λ v. u < v) us → list_any (λ v. eqb v u) us ≡ false
not_among u [] all = refl
not_among u (v ∷ us) all = (λ i. ne_eqb v u (λ same. omega (arith, all.0, same)) i || not_among u us all.1 i)

pub not_less : (x y : ℕ) → is_lt (nat_cmp y x) ≡ false → x ≤ y
not_less x y h = grind (arith, nat_tests)

end_from-is : (gap t : ℕ) (us : List ℕ) → AllByRecursion (λ u. t ≤ u) us → IsAscending nat_cmp us → IsEndOf (λ u. list_any (λ v. eqb v u) us) gap t (end_from gap t us)
end_from-is gap t [] from up = record { later = omega arith; silent = λ u a b. refl; goes_on = λ x a b. absurd (omega arith) }
end_from-is gap t (v ∷ us) from up = by_case (ltb v (t + gap)) refl (end_from-is gap v us above up.1)
  where
    above : AllByRecursion (λ u. v ≤ u) us
    above = every (λ u h. not_less v u h) us up.0

    or_true : (b : Bool) → (b || true) ≡ true
    or_true true = refl
    or_true false = refl

    by_case : (b : Bool) → ltb v (t + gap) ≡ b → IsEndOf (λ u. list_any (λ v. eqb v u) us) gap v (end_from gap v us) → IsEndOf (λ u. list_any (λ v. eqb v u) (v ∷ us)) gap t (cond b (end_from gap v us) (t + gap))
    by_case true e on =
        let near : v < t + gap = ltb-true v (t + gap) e in
        record {
          later = let k : v + gap ≤ end_from gap v us = on.later in omega (arith, from.0, k);
          silent = λ u a b. let k : v + gap ≤ end_from gap v us = on.later in (λ i. ne_eqb v u (λ same. omega (arith, same, k, b)) i || on.silent u a b i);
          goes_on = λ x a b. ⊎_elim
              (λ before. (v, before, omega (arith, near, a), ap (λ c. c || list_any (λ w. eqb w v) us) (eq-eqb v v refl)))
              (λ after. let (u, more, less, is) = on.goes_on x after b in (u, more, less, ap (λ c. eqb v u || c) is ∙ or_true (eqb v u)))
              (cases_lt x v);
        }
    by_case false e on =
        let far : t + gap ≤ v = ltb-false v (t + gap) e in
        record {
          later = omega arith;
          silent = λ u a b. (λ i. ne_eqb v u (λ same. omega (arith, same, far, a)) i || not_among u us (every (λ w h. omega (arith, h, far, a)) us above) i);
          goes_on = λ x a b. absurd (omega (arith, a, b));
        }

pub is_same_key : (a b : Key) → a ≡ b → same_key a b ≡ true
is_same_key a b e = ap (same_key a) (sym e) ∙ (eq_by_cmp_equiv key_cmp_total).refl a

-- whether the key has a record of the time
abbrev pub has_time : Key → List Record → ℕ → Bool
has_time key l u = list_any (λ r. same_key r.key key && eqb r.time u) l

-- the times of the key from t on, as they come
abbrev late : Key → ℕ → List Record → List ℕ
late key t l = map (λ r. r.time) (filter (λ r. same_key r.key key && not (ltb r.time t)) l)

-- the times from t on are those of the key
has-times_from : (key : Key) (t : ℕ) (l : List Record) (u : ℕ) → t ≤ u → list_any (λ v. eqb v u) (times_from key t l) ≡ has_time key l u
has-times_from key t l u from =
    any_reordered (λ v. eqb v u) (times_from key t l) (late key t l) (IsReordered-in_order nat_cmp (late key t l)) ∙ of_list l
  where
    of_list : (l : List Record) → list_any (λ v. eqb v u) (map (λ r. r.time) (filter (λ r. same_key r.key key && not (ltb r.time t)) l)) ≡ has_time key l u
    of_list [] = refl
    of_list (r ∷ l) = by_case (same_key r.key key) (ltb r.time t) refl (of_list l)
      where
        by_case : (a b : Bool) → ltb r.time t ≡ b → list_any (λ v. eqb v u) (map (λ r. r.time) (filter (λ r. same_key r.key key && not (ltb r.time t)) l)) ≡ has_time key l u
            → list_any (λ v. eqb v u) (map (λ r. r.time) (cond (a && not b) (r ∷ filter (λ r. same_key r.key key && not (ltb r.time t)) l) (filter (λ r. same_key r.key key && not (ltb r.time t)) l))) ≡ (a && eqb r.time u || has_time key l u)
        by_case true true e h = h ∙ ap (λ c. c || has_time key l u) (sym (ne_eqb r.time u (λ same. omega (arith, ltb-true r.time t e, same, from))))
        by_case true false e h = ap (λ c. eqb r.time u || c) h
        by_case false b e h = h

times_from-from : (key : Key) (t : ℕ) (l : List Record) → AllByRecursion (λ u. t ≤ u) (times_from key t l)
times_from-from key t l = All-in_order (λ u. t ≤ u) nat_cmp (late key t l) (of_list l)
  where
    of_list : (l : List Record) → AllByRecursion (λ u. t ≤ u) (map (λ r. r.time) (filter (λ r. same_key r.key key && not (ltb r.time t)) l))
    of_list [] = tt
    of_list (r ∷ l) = by_case (same_key r.key key) (ltb r.time t) refl (of_list l)
      where
        by_case : (a b : Bool) → ltb r.time t ≡ b → AllByRecursion (λ u. t ≤ u) (map (λ r. r.time) (filter (λ r. same_key r.key key && not (ltb r.time t)) l))
            → AllByRecursion (λ u. t ≤ u) (map (λ r. r.time) (cond (a && not b) (r ∷ filter (λ r. same_key r.key key && not (ltb r.time t)) l) (filter (λ r. same_key r.key key && not (ltb r.time t)) l)))
        by_case true false e h = (ltb-false r.time t e, h)
        by_case true true e h = h
        by_case false b e h = h

-- where the session of a time of a key ends is told by the key's times
pub end-is : (gap : ℕ) (key : Key) (t : ℕ) (l : List Record) → IsEndOf (has_time key l) gap t (end_from gap t (times_from key t l))
end-is gap key t l = record {
  later = worked.later;
  silent = λ u a b. sym (has-times_from key t l u (omega (arith, worked.later, b))) ∙ worked.silent u a b;
  goes_on = λ x a b. let (u, more, less, is) = worked.goes_on x a b in (u, more, less, sym (has-times_from key t l u (omega (arith, a, more))) ∙ is);
}
  where
    worked : IsEndOf (λ u. list_any (λ v. eqb v u) (times_from key t l)) gap t (end_from gap t (times_from key t l))
    worked = end_from-is gap t (times_from key t l) (times_from-from key t l) (in_order-ascending nat_cmp_total (late key t l))

-- ---- an end, by that of a later time
pub end-unique : (has : ℕ → Bool) (gap t e e' : ℕ) → IsEndOf has gap t e → IsEndOf has gap t e' → e ≡ e'
end-unique has gap t e e' is is' =
    let low : e' ≤ e = end-low has has gap t t e e' is is' is.later (λ _ _ _ h. h) in
    let high : e ≤ e' = end-low has has gap t t e' e is' is is'.later (λ _ _ _ h. h) in
    omega (arith, low, high)

pub end-on : (has : ℕ → Bool) (gap t u e : ℕ) → t ≤ u → u < t + gap → has u ≡ true → IsEndOf has gap u e → IsEndOf has gap t e
end-on has gap t u e from near is next = record {
  later = let k : u + gap ≤ e = next.later in omega (arith, k, from);
  silent = next.silent;
  goes_on = λ x a b. ⊎_elim (λ before. (u, before, omega (arith, near, a), is)) (λ after. next.goes_on x after b) (cases_lt x u);
}

pub end-cut : (has : ℕ → Bool) (gap t : ℕ) → ((u : ℕ) → t < u → u < t + gap → has u ≡ false) → IsEndOf has gap t (t + gap)
end-cut has gap t none = record {
  later = omega arith;
  silent = λ u a b. none u (omega (arith, b)) a;
  goes_on = λ x a b. absurd (omega (arith, a, b));
}

-- ---- sessions are cut at gaps
pub sessions-cut : SessionsAreCutAtGaps
sessions-cut gap l r s among same from next = (
  λ near. end-unique (has_time r.key l) gap r.time (session_end gap l r) (session_end gap l s) (end-is gap r.key r.time l)
      (end-on (has_time r.key l) gap r.time s.time (session_end gap l s) from near (has_it r.key same)
      (subst (λ key. IsEndOf (has_time key l) gap s.time (session_end gap l s)) (sym same) (end-is gap s.key s.time l))),
  λ far. end-unique (has_time r.key l) gap r.time (session_end gap l r) (r.time + gap) (end-is gap r.key r.time l)
      (end-cut (has_time r.key l) gap r.time (λ u a b. false_from_ne_true (has_time r.key l u) (λ has. omega (arith, far, b, later u a has)))),
)
  where
    has_it : (key : Key) → key ≡ s.key → has_time key l s.time ≡ true
    has_it key same = let (k, within, at) = among in list_any_at (λ x. same_key x.key key && eqb x.time s.time) l k s within (λ i. is_same_key (get_or l k s).key key (ap (λ (x : Record). x.key) at ∙ sym same) i && eq-eqb (get_or l k s).time s.time (ap (λ (x : Record). x.time) at) i)

    later : (u : ℕ) → r.time < u → has_time r.key l u ≡ true → s.time ≤ u
    later u a has =
        All-any (λ x. x.key ≡ r.key → r.time < x.time → s.time ≤ x.time) (s.time ≤ u) (λ x. same_key x.key r.key && eqb x.time u)
        (λ x h e. let t : x.time ≡ u = eqb-true x.time u (and_parts (same_key x.key r.key) _ e).1 in
        let k : s.time ≤ x.time = h (tells_apart exact_keys x.key r.key (and_parts (same_key x.key r.key) _ e).0) (omega (arith, t, a)) in omega (arith, k, t))
        l (recursion_from_All (λ (x : Record). x.key ≡ r.key → r.time < x.time → s.time ≤ x.time) l next) has

pub last-ends : LastRecordsEndSessions
last-ends gap l r last =
    end-unique (has_time r.key l) gap r.time (session_end gap l r) (r.time + gap) (end-is gap r.key r.time l)
    (end-cut (has_time r.key l) gap r.time (λ u a b. false_from_ne_true (has_time r.key l u) (λ has. omega (arith, a, earlier u has))))
  where
    earlier : (u : ℕ) → has_time r.key l u ≡ true → u ≤ r.time
    earlier u has =
        All-any (λ x. x.key ≡ r.key → x.time ≤ r.time) (u ≤ r.time) (λ x. same_key x.key r.key && eqb x.time u)
        (λ x h e. let t : x.time ≡ u = eqb-true x.time u (and_parts (same_key x.key r.key) _ e).1 in
        let k : x.time ≤ r.time = h (tells_apart exact_keys x.key r.key (and_parts (same_key x.key r.key) _ e).0) in omega (arith, k, t))
        l (recursion_from_All (λ (x : Record). x.key ≡ r.key → x.time ≤ r.time) l last) has
