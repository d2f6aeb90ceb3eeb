-- The ends of sessions, from the last time of each key on.
use Rattle.std.proofs.Common.{◌≡◌, ℕ, ◌+◌, ◌≤◌, ◌<◌, Bool, true, false, cond, eqb, ltb, List, [], ◌∷◌, map, length, get_or, Option, Some, None, sym, refl, ap, subst, ◌∙◌, arith}
use Rattle.std.specs.Prelude.{◌||◌, ◌&&◌}
use Rattle.std.specs.List.{list_any, AllByRecursion}
use Rattle.std.specs.BTreeMap.{BTreeMap, get, is_at}
use Rattle.std.specs.Ordering.{eq_by_cmp, is_lt, nat_cmp, flip_args, ordering_then}
use Rattle.std.specs.declared.cmp.Ordering.{Ordering}
use Rattle.std.specs.declared.cmp.Ordering.TheVariants.{Less, Equal, Greater}
use Rattle.std.specs.Cmp.{IsTotalOrder, nat_cmp_total, eq_by_cmp_equiv, tied_itself, tied_then}
use Rattle.std.specs.Set.{is_member}
use Rattle.std.proofs.lemmas.Map.Made.{All-is_member}
use Rattle.std.proofs.lemmas.List.Elements.{recursion_from_All}
use Rattle.std.proofs.lemmas.List.Folds.{list_any_at}
use Rattle.sb_base.proofs.records.Sums.{any_reordered}
use Rattle.std.proofs.lemmas.Cmp.{then_total, on_total}
use Rattle.std.proofs.lemmas.Bool.{ltb-true, ltb-false, eqb-true, eq-eqb, and_parts, false_from_ne_true}
use Rattle.std.proofs.lemmas.Bool.Decides.{nat_tests}
use Rattle.std.proofs.lemmas.Map.Lookups.{CmpEqualImpliesEq, exact_pairs, exact_unsigned}
use Rattle.std.proofs.lemmas.Map.Views.{tells_apart}
use Rattle.std.proofs.lemmas.List.Sorted.{ranks_by}
use Rattle.sb_base.specs.records.declared.item.Record.{Record}
use Rattle.sb_base.specs.records.declared.key.Key.{Key}
use Rattle.sb_base.specs.records.Keys.{key_cmp, same_key}
use Rattle.sb_base.specs.records.KeyOrder.{key_cmp_total}
use Rattle.sb_base.proofs.records.KeyOrder.{exact_keys}
use Rattle.sb_base.proofs.records.Sorting.{equal_by}
use Rattle.sb_base.specs.records.Orders.{IsAscending}
use Rattle.sb_base.proofs.records.Elements.{every, All-any}
use Rattle.sb_base.specs.windowed.Sessions.{end_from, times_from, session_end}
use Rattle.sb_base.proofs.windowed.SessionEnds.{not_less, is_same_key, IsEndOf, has_time, end-is, end-unique, end-on, end-cut}
use Rattle.sb_slow.specs.declared.sessions.KeyedTime.{KeyedTime}
use Rattle.sb_slow.specs.declared.sessions.Ended.{Ended}
use Rattle.sb_slow.specs.SessionEnds.{keyed_time_cmp, time_of, end_before, AreLatestFirst}

pub keyed_times_total : IsTotalOrder keyed_time_cmp
keyed_times_total = then_total (on_total (λ (q : KeyedTime). q.key) key_cmp_total) (on_total (λ (q : KeyedTime). q.time) nat_cmp_total)

pub exact_keyed_times : CmpEqualImpliesEq keyed_time_cmp
exact_keyed_times a b h = ap (λ (p : Key × ℕ). record { key = p.0; time = p.1 }) (exact_pairs key_cmp nat_cmp exact_keys exact_unsigned (a.key, a.time) (b.key, b.time) h)

-- ---- the walk from the last times on
-- q is not before the time that was last walked over
abbrev pub IsFrom : Option Ended → KeyedTime → Type 0
IsFrom None q = ⊥
IsFrom (Some next) q = is_lt (keyed_time_cmp q next.at) ≡ false

-- the time that was last walked over is one of the records', with the end of its session, and what is left is not after it
abbrev pub IsLater : ℕ → List Record → List KeyedTime → Option Ended → Type 0
IsLater gap l rest None = Unit {0}
IsLater gap l rest (Some next) =
    (has_time next.at.key l next.at.time ≡ true) × (next.end ≡ end_from gap next.at.time (times_from next.at.key next.at.time l)) × AllByRecursion (λ at. is_lt (keyed_time_cmp next.at at) ≡ false) rest

pub record IsWalked (gap : ℕ) (l : List Record) (rest : List KeyedTime) (later : Option Ended) (ends : BTreeMap KeyedTime ℕ) : Type 0 where
  pub down : IsAscending (flip_args keyed_time_cmp) rest
  pub there : AllByRecursion (λ at. has_time at.key l at.time ≡ true) rest
  pub next : IsLater gap l rest later
  pub done : (q : KeyedTime) → has_time q.key l q.time ≡ true → list_any (eq_by_cmp keyed_time_cmp q) rest ≡ false
      → (get keyed_time_cmp ends q ≡ Some (end_from gap q.time (times_from q.key q.time l))) × IsFrom later q

-- what is not before and not after
not_before : (a b : KeyedTime) → is_lt (keyed_time_cmp a b) ≡ false → a.key ≡ b.key → b.time ≤ a.time
not_before a b h k = not_less b.time a.time (ap (λ o. is_lt (ordering_then o (nat_cmp a.time b.time))) (sym tied) ∙ h)
  where
    tied : key_cmp a.key b.key ≡ Equal
    tied = ap (key_cmp a.key) (sym k) ∙ tied_itself key_cmp_total a.key

keys-fall : (a b : KeyedTime) → is_lt (keyed_time_cmp a b) ≡ false → is_lt (key_cmp a.key b.key) ≡ false
keys-fall a b h = by_case (key_cmp a.key b.key) h
  where
    by_case : (o : Ordering) → is_lt (ordering_then o (nat_cmp a.time b.time)) ≡ false → is_lt o ≡ false
    by_case Less h = h
    by_case Equal h = refl
    by_case Greater h = refl

own : (at : KeyedTime) → is_lt (keyed_time_cmp at at) ≡ false
own at = ap is_lt (tied_itself keyed_times_total at)

-- no later time of the key is left
none_left : (at : KeyedTime) (rest : List KeyedTime) (u : ℕ) → IsAscending (flip_args keyed_time_cmp) (at ∷ rest) → at.time < u → list_any (eq_by_cmp keyed_time_cmp (record { key = at.key; time = u })) (at ∷ rest) ≡ false
none_left at rest u down after = false_from_ne_true _ (λ some.
    let low : u ≤ at.time = All-any (λ x. is_lt (keyed_time_cmp at x) ≡ false) (u ≤ at.time) (eq_by_cmp keyed_time_cmp (record { key = at.key; time = u }))
    (λ x h same. let is : record { key = at.key; time = u } ≡ x = tells_apart exact_keyed_times (record { key = at.key; time = u }) x same in
    not_before at (record { key = at.key; time = u }) (ap (λ y. is_lt (keyed_time_cmp at y)) is ∙ h) refl) (at ∷ rest) (own at, down.0) some in
    omega (arith, low, after))

-- so the end is that of the step
pub step-end : (gap : ℕ) (l : List Record) (at : KeyedTime) (rest : List KeyedTime) (later : Option Ended) (ends : BTreeMap KeyedTime ℕ) → IsWalked gap l (at ∷ rest) later ends
    → end_before gap at later ≡ end_from gap at.time (times_from at.key at.time l)
step-end gap l at rest later ends walked = end-unique (has_time at.key l) gap at.time (end_before gap at later) (end_from gap at.time (times_from at.key at.time l)) (by_later later walked.next (λ u after has. (walked.done (record { key = at.key; time = u }) has (none_left at rest u walked.down after)).1)) (end-is gap at.key at.time l)
  where
    by_later : (later : Option Ended) → IsLater gap l (at ∷ rest) later → ((u : ℕ) → at.time < u → has_time at.key l u ≡ true → IsFrom later (record { key = at.key; time = u })) → IsEndOf (has_time at.key l) gap at.time (end_before gap at later)
    by_later None next from = end-cut (has_time at.key l) gap at.time (λ u a b. false_from_ne_true _ (λ has. absurd (from u a has)))
    by_later (Some next) (has, end, low) from = by_case (same_key next.at.key at.key) (ltb next.at.time (at.time + gap)) refl refl
      where
        by_case : (a b : Bool) → same_key next.at.key at.key ≡ a → ltb next.at.time (at.time + gap) ≡ b → IsEndOf (has_time at.key l) gap at.time (cond (a && b) next.end (at.time + gap))
        by_case true true p q =
            let same : next.at.key ≡ at.key = tells_apart exact_keys next.at.key at.key p in
            end-on (has_time at.key l) gap at.time next.at.time next.end (not_before next.at at low.0 same) (ltb-true next.at.time (at.time + gap) q) (ap (λ k. has_time k l next.at.time) (sym same) ∙ has)
            (subst (λ e. IsEndOf (has_time at.key l) gap next.at.time e) (sym end) (subst (λ k. IsEndOf (has_time k l) gap next.at.time (end_from gap next.at.time (times_from next.at.key next.at.time l))) same (end-is gap next.at.key next.at.time l)))
        by_case true false p q = end-cut (has_time at.key l) gap at.time (λ u a b. false_from_ne_true _ (λ h.
            let same : next.at.key ≡ at.key = tells_apart exact_keys next.at.key at.key p in
            let k : next.at.time ≤ u = not_before (record { key = at.key; time = u }) next.at (from u a h) (sym same) in
            omega (arith, k, ltb-false next.at.time (at.time + gap) q, b)))
        by_case false b p q = end-cut (has_time at.key l) gap at.time (λ u a c. false_from_ne_true _ (λ h.
            let k : is_lt (key_cmp at.key next.at.key) ≡ false = keys-fall (record { key = at.key; time = u }) next.at (from u a h) in
            let same : next.at.key ≡ at.key = equal_by key_cmp_total exact_keys next.at.key at.key (keys-fall next.at at low.0) k in
            let no : true ≡ false = sym (is_same_key next.at.key at.key same) ∙ p in cc))

-- and a step goes on
pub step-walked : (gap : ℕ) (l : List Record) (at : KeyedTime) (rest : List KeyedTime) (later : Option Ended) (ends more : BTreeMap KeyedTime ℕ) → IsWalked gap l (at ∷ rest) later ends
    → ((q : KeyedTime) → get keyed_time_cmp more q ≡ cond (is_at (keyed_time_cmp at) q) (Some (end_before gap at later)) (get keyed_time_cmp ends q))
    → IsWalked gap l rest (Some (record { at = at; end = end_before gap at later })) more
step-walked gap l at rest later ends more walked inserted = record {
  down = walked.down.1;
  there = walked.there.1;
  next = (walked.there.0, step-end gap l at rest later ends walked, walked.down.0);
  done = λ q has none. by_case q has none (eq_by_cmp keyed_time_cmp q at) refl;
}
  where
    is_own : is_at (keyed_time_cmp at) at ≡ true
    is_own = (eq_by_cmp_equiv keyed_times_total).refl at

    other : (q : KeyedTime) → eq_by_cmp keyed_time_cmp q at ≡ false → is_at (keyed_time_cmp at) q ≡ false
    other q h = (eq_by_cmp_equiv keyed_times_total).symm at q ∙ h

    from_at : (later : Option Ended) → IsLater gap l (at ∷ rest) later → (q : KeyedTime) → IsFrom later q → is_lt (keyed_time_cmp q at) ≡ false
    from_at None next q from = absurd from
    from_at (Some next) (has, end, low) q from = (ranks_by keyed_times_total (λ (x : KeyedTime). x)).chain q next.at at from low.0

    by_case : (q : KeyedTime) → has_time q.key l q.time ≡ true → list_any (eq_by_cmp keyed_time_cmp q) rest ≡ false → (b : Bool) → eq_by_cmp keyed_time_cmp q at ≡ b
        → (get keyed_time_cmp more q ≡ Some (end_from gap q.time (times_from q.key q.time l))) × (is_lt (keyed_time_cmp q at) ≡ false)
    by_case q has none true e =
        let same : q ≡ at = tells_apart exact_keyed_times q at e in (
          ap (get keyed_time_cmp more) same ∙ inserted at ∙ ap (λ b. cond b (Some (end_before gap at later)) (get keyed_time_cmp ends at)) is_own ∙ ap (λ n. Some n) (step-end gap l at rest later ends walked)
              ∙ ap (λ (p : KeyedTime). Some (end_from gap p.time (times_from p.key p.time l))) (sym same),
          ap (λ p. is_lt (keyed_time_cmp p at)) same ∙ own at,
        )
    by_case q has none false e =
        let before = walked.done q has ((λ i. e i || none i)) in
        (inserted q ∙ ap (λ b. cond b (Some (end_before gap at later)) (get keyed_time_cmp ends q)) (other q e) ∙ before.0, from_at later walked.next q before.1)

-- ---- the walk's beginning and end
pub any_times : (q : KeyedTime) (l : List Record) → list_any (eq_by_cmp keyed_time_cmp q) (map time_of l) ≡ has_time q.key l q.time
any_times q [] = refl
any_times q (r ∷ l) = λ i. one i || any_times q l i
  where
    one : eq_by_cmp keyed_time_cmp q (time_of r) ≡ (same_key r.key q.key && eqb r.time q.time)
    one = sym (tied_then (key_cmp q.key r.key) (nat_cmp q.time r.time)) ∙ (λ i. (eq_by_cmp_equiv key_cmp_total).symm q.key r.key i && same_time i)
      where
        same_time : eq_by_cmp nat_cmp q.time r.time ≡ eqb r.time q.time
        same_time = grind (arith, nat_tests)

pub first-walked : (gap : ℕ) (l : List Record) (ts : List KeyedTime) (ends : BTreeMap KeyedTime ℕ) → AreLatestFirst ts (map time_of l) → IsWalked gap l ts None ends
first-walked gap l ts ends are = record {
  down = are.down;
  there =
      every (λ at h. sym (in_list at) ∙ h) ts
      (recursion_from_All (λ at. is_member (eq_by_cmp keyed_time_cmp) ts at ≡ true) ts (All-is_member (eq_by_cmp_equiv keyed_times_total) ts));
  next = tt;
  done = λ q has none. let k : true ≡ false = sym has ∙ sym (in_list q) ∙ none in cc;
}
  where
    in_list : (q : KeyedTime) → list_any (eq_by_cmp keyed_time_cmp q) ts ≡ has_time q.key l q.time
    in_list q = any_reordered (eq_by_cmp keyed_time_cmp q) ts (map time_of l) are.same ∙ any_times q l

pub walked-all : (gap : ℕ) (l : List Record) (later : Option Ended) (ends : BTreeMap KeyedTime ℕ) → IsWalked gap l [] later ends
    → (k : ℕ) (d : Record) → k < length l → get keyed_time_cmp ends (time_of (get_or l k d)) ≡ Some (session_end gap l (get_or l k d))
walked-all gap l later ends walked k d within =
    (walked.done (time_of (get_or l k d))
    (list_any_at (λ r. same_key r.key (get_or l k d).key && eqb r.time (get_or l k d).time) l k d within (λ i. is_same_key (get_or l k d).key (get_or l k d).key refl i && eq-eqb (get_or l k d).time (get_or l k d).time refl i)) refl).0

-- a time of the records is before what all of them are before
pub has-before : (key : Key) (u w : ℕ) (l : List Record) → AllByRecursion (λ r. r.time < w) l → has_time key l u ≡ true → u < w
has-before key u w l low has = All-any (λ r. r.time < w) (u < w) (λ r. same_key r.key key && eqb r.time u) (λ r h e. let same : r.time ≡ u = eqb-true r.time u (and_parts (same_key r.key key) _ e).1 in omega (arith, same, h)) l low has
