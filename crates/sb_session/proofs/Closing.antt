-- A closing, candidate by candidate.
use Rattle.std.proofs.Common.{◌≡◌, ℕ, ℤ, ◌+◌, ◌-◌, ◌<◌, ◌≤◌, Bool, true, false, cond, not, eqb, ltb, List, [], ◌∷◌, map, get_or, sym, refl, ap, subst, ◌∙◌, arith, ⊎_elim, inl, inr}
use Rattle.std.specs.Prelude.{◌||◌, ◌&&◌, ◌⊎◌, sum_by}
use Rattle.std.specs.List.{filter, list_any, AllByRecursion}
use Rattle.std.specs.Ordering.{eq_by_cmp, nat_cmp, ordering_then}
use Rattle.std.specs.Cmp.{tied_itself}
use Rattle.std.specs.declared.cmp.Ordering.{Ordering}
use Rattle.sb_windowed.specs.records.KeyOrder.{key_cmp_total}
use Rattle.std.specs.declared.cmp.Ordering.TheVariants.{Less, Equal, Greater}
use Rattle.std.proofs.lemmas.Bool.{lt-ltb, ltb-true, eqb-true, eq-eqb, cases_lt, and_parts, false_from_ne_true}
use Rattle.std.proofs.lemmas.Bool.Decides.{nat_tests}
use Rattle.std.proofs.lemmas.List.Elements.{recursion_from_All}
use Rattle.std.proofs.lemmas.List.Folds.{list_any_at}
use Rattle.std.proofs.lemmas.Map.Views.{tells_apart}
use Rattle.sb_windowed.specs.records.declared.item.Record.{Record}
use Rattle.sb_windowed.specs.records.Keys.{key_cmp, same_key}
use Rattle.sb_windowed.proofs.records.KeyOrder.{exact_keys}
use Rattle.sb_windowed.proofs.records.Elements.{every, All-any, filter_of_filter}
use Rattle.sb_windowed.proofs.records.Sums.{IsReordered-map, IsReordered-filter, any_filtered}
use Rattle.sb_windowed.specs.records.Reorderings.{IsReordered}
use Rattle.std.proofs.Math.Bool.{and_comm}
use Rattle.sb_windowed.specs.window.declared.keyed_window.KeyedWindow.{KeyedWindow}
use Rattle.sb_windowed.specs.window.Windows.{keyed_window_cmp}
use Rattle.sb_windowed.proofs.window.Rows.{exact_keyed_windows, same_keyed_window}
use Rattle.sb_windowed.specs.Sessions.{end_from, times_from, session_end, session_of, is_in_session, is_session_open, values_in_session}
use Rattle.sb_windowed.proofs.SessionEnds.{has_time, is_same_key, end-is, end-unique, end-cut}
use Rattle.sb_windowed.proofs.SessionLaws.{end-after, end-rises, or_cases, or_left, or_right, any-filter}
use Rattle.sb_session.specs.Closings.{is_below, Takes}

-- whether a record is still there, where these candidates are left: its session is open at the mark, or among them
abbrev pub keeps : ℕ → ℕ → List Record → List KeyedWindow → Record → Bool
keeps gap mark l rest r = is_session_open gap mark l r || list_any (eq_by_cmp keyed_window_cmp (session_of gap l r)) rest

-- truths that follow from one another
pub same_bool : (a b : Bool) → (a ≡ true → b ≡ true) → (b ≡ true → a ≡ true) → a ≡ b
same_bool true true f g = refl
same_bool true false f g = let k : false ≡ true = f refl in cc
same_bool false true f g = let k : false ≡ true = g refl in cc
same_bool false false f g = refl

filter_twice : (p q : Record → Bool) (l : List Record) → filter p (filter q l) ≡ filter (λ x. p x && q x) l
filter_twice p q [] = refl
filter_twice p q (x ∷ l) = by_case (q x) (p x) refl (filter_twice p q l)
  where
    by_case : (a b : Bool) → p x ≡ b → filter p (filter q l) ≡ filter (λ x. p x && q x) l → filter p (cond a (x ∷ filter q l) (filter q l)) ≡ cond (b && a) (x ∷ filter (λ x. p x && q x) l) (filter (λ x. p x && q x) l)
    by_case true true e h = λ i. cond (e i) (x ∷ h i) (h i)
    by_case true false e h = λ i. cond (e i) (x ∷ h i) (h i)
    by_case false true e h = h
    by_case false false e h = h

filter-agree_on : (p q : Record → Bool) (l : List Record) → AllByRecursion (λ r. p r ≡ q r) l → filter p l ≡ filter q l
filter-agree_on p q [] all = refl
filter-agree_on p q (r ∷ l) all = λ i. cond (all.0 i) (r ∷ filter-agree_on p q l all.1 i) (filter-agree_on p q l all.1 i)

-- each record of a list has its time there
pub all-have : (l : List Record) → AllByRecursion (λ r. has_time r.key l r.time ≡ true) l
all-have l = recursion_from_All (λ r. has_time r.key l r.time ≡ true) l (λ k d h. list_any_at (λ x. same_key x.key (get_or l k d).key && eqb x.time (get_or l k d).time) l k d h (λ i. is_same_key (get_or l k d).key (get_or l k d).key refl i && eq-eqb (get_or l k d).time (get_or l k d).time refl i))

module _ (gap mark : ℕ) (l : List Record) (some : 1 ≤ gap) (q : KeyedWindow) (rest : List KeyedWindow) (by_mark : q.end ≤ mark) (later : AllByRecursion (λ p. keyed_window_cmp q p ≡ Less) rest) where
  of_q : (r : Record) → eq_by_cmp keyed_window_cmp (session_of gap l r) q ≡ is_in_session gap l q r
  of_q r = same_keyed_window (session_of gap l r) q ∙ and_comm (eqb (session_end gap l r) q.end) (same_key r.key q.key)

  -- a session among the later candidates ends no earlier
  among_later : (s : KeyedWindow) → list_any (eq_by_cmp keyed_window_cmp s) rest ≡ true → keyed_window_cmp q s ≡ Less
  among_later s h = All-any (λ p. keyed_window_cmp q p ≡ Less) (keyed_window_cmp q s ≡ Less) (eq_by_cmp keyed_window_cmp s) (λ p less same. ap (keyed_window_cmp q) (tells_apart exact_keyed_windows s p same) ∙ less) rest later h

  not_later : (s : KeyedWindow) → s.key ≡ q.key → s.end ≤ q.end → list_any (eq_by_cmp keyed_window_cmp s) rest ≡ false
  not_later s key low = false_from_ne_true _ (λ h. let less : keyed_window_cmp q s ≡ Less = among_later s h in not_less q s less key low)
    where
      less_is : (a b : ℕ) → nat_cmp a b ≡ Less → a < b
      less_is a b h = grind (arith, nat_tests)

      earlier : (o p : Ordering) → p ≡ Equal → ordering_then o p ≡ Less → o ≡ Less
      earlier Less p e h = refl
      earlier Equal p e h = cc
      earlier Greater p e h = h

      not_less : (q s : KeyedWindow) → keyed_window_cmp q s ≡ Less → s.key ≡ q.key → s.end ≤ q.end → ⊥
      not_less q s less key low = let e : (nat_cmp q.end s.end ≡ Less) = earlier (nat_cmp q.end s.end) (key_cmp q.key s.key) (ap (key_cmp q.key) key ∙ tied_itself key_cmp_total q.key) less in omega (arith, low, less_is q.end s.end e)

  -- where a time of the key lies in the silence before the candidate's end, no record has this session
  pub none-goes_on : (u : ℕ) → q.end < u + gap → u < q.end → has_time q.key l u ≡ true → (r : Record) → is_in_session gap l q r ≡ false
  none-goes_on u a b has r = false_from_ne_true (is_in_session gap l q r) (λ is.
      let parts = and_parts (same_key r.key q.key) (eqb (session_end gap l r) q.end) is in
      let key : r.key ≡ q.key = tells_apart exact_keys r.key q.key parts.0 in
      let end : session_end gap l r ≡ q.end = eqb-true (session_end gap l r) q.end parts.1 in
      let k : true ≡ false = sym has ∙ ap (λ k. has_time k l u) (sym key) ∙ (end-is gap r.key r.time l).silent u (omega (arith, b, end)) (omega (arith, a, end)) in cc)

  pub goes_on-same : (u : ℕ) → q.end < u + gap → u < q.end → has_time q.key l u ≡ true → (r : Record) → keeps gap mark l (q ∷ rest) r ≡ keeps gap mark l rest r
  goes_on-same u a b has r = ap (λ c. is_session_open gap mark l r || (c || list_any (eq_by_cmp keyed_window_cmp (session_of gap l r)) rest)) (of_q r ∙ none-goes_on u a b has r)

  -- where none does, the candidate is the session of those that are below its end and still there
  module _ (silent : (u : ℕ) → q.end < u + gap → u < q.end → has_time q.key l u ≡ false) (gap_fits : gap ≤ q.end) where
    ends_here : end_from gap (q.end - gap) (times_from q.key (q.end - gap) l) ≡ q.end
    ends_here =
        end-unique (has_time q.key l) gap (q.end - gap) (end_from gap (q.end - gap) (times_from q.key (q.end - gap) l)) ((q.end - gap) + gap) (end-is gap q.key (q.end - gap) l)
        (end-cut (has_time q.key l) gap (q.end - gap) (λ u a b. silent u (omega (arith, a, gap_fits)) (omega (arith, b, gap_fits))))
        ∙ omega (arith, gap_fits)

    low-end : (r : Record) → has_time r.key l r.time ≡ true → r.key ≡ q.key → r.time < q.end → session_end gap l r ≤ q.end
    low-end r has key low = ⊎_elim
        (λ quiet. let k : true ≡ false = sym has ∙ ap (λ k. has_time k l r.time) key ∙ silent r.time quiet low in cc)
        (λ early. let up : end_from gap r.time (times_from q.key r.time l) ≤ end_from gap (q.end - gap) (times_from q.key (q.end - gap) l) = end-rises gap q.key l r.time (q.end - gap) (omega (arith, early)) in
        subst (λ k. end_from gap r.time (times_from k r.time l) ≤ q.end) (sym key) (omega (arith, up, ends_here)))
        (cases_lt q.end (r.time + gap))

    in-it : (r : Record) → has_time r.key l r.time ≡ true → (keeps gap mark l (q ∷ rest) r && is_below q.key q.end r) ≡ is_in_session gap l q r
    in-it r has = same_bool _ _
        (λ h. let parts = and_parts (keeps gap mark l (q ∷ rest) r) (is_below q.key q.end r) h in
        let below = and_parts (same_key r.key q.key) (ltb r.time q.end) parts.1 in
        let key : r.key ≡ q.key = tells_apart exact_keys r.key q.key below.0 in
        let low : session_end gap l r ≤ q.end = low-end r has key (ltb-true r.time q.end below.1) in
        or_cases (is_session_open gap mark l r) _ (is_in_session gap l q r ≡ true)
        (λ open_. absurd (omega (arith, ltb-true mark (session_end gap l r) open_, low, by_mark)))
        (λ among. or_cases (eq_by_cmp keyed_window_cmp (session_of gap l r) q) (list_any (eq_by_cmp keyed_window_cmp (session_of gap l r)) rest) (is_in_session gap l q r ≡ true) (λ it. sym (of_q r) ∙ it)
        (λ other. let k : true ≡ false = sym other ∙ not_later (session_of gap l r) key low in cc) among)
        parts.0)
        (λ is. let parts = and_parts (same_key r.key q.key) (eqb (session_end gap l r) q.end) is in
        let end : session_end gap l r ≡ q.end = eqb-true (session_end gap l r) q.end parts.1 in
        let up : r.time + gap ≤ session_end gap l r = end-after gap r.key l r.time in
        (λ i. or_right (is_session_open gap mark l r) (eq_by_cmp keyed_window_cmp (session_of gap l r) q || list_any (eq_by_cmp keyed_window_cmp (session_of gap l r)) rest) (or_left _ (list_any (eq_by_cmp keyed_window_cmp (session_of gap l r)) rest) (of_q r ∙ is)) i
        && (parts.0 i && lt-ltb r.time q.end (omega (arith, up, end, some)) i)))

    out-of_it : (r : Record) → has_time r.key l r.time ≡ true → (keeps gap mark l (q ∷ rest) r && not (is_below q.key q.end r)) ≡ keeps gap mark l rest r
    out-of_it r has = by_case (is_in_session gap l q r) (is_below q.key q.end r) (keeps gap mark l rest r) refl refl refl
      where
        keeps-is : keeps gap mark l (q ∷ rest) r ≡ (is_session_open gap mark l r || (is_in_session gap l q r || list_any (eq_by_cmp keyed_window_cmp (session_of gap l r)) rest))
        keeps-is = ap (λ c. is_session_open gap mark l r || (c || list_any (eq_by_cmp keyed_window_cmp (session_of gap l r)) rest)) (of_q r)

        by_case : (a b k : Bool) → is_in_session gap l q r ≡ a → is_below q.key q.end r ≡ b → keeps gap mark l rest r ≡ k → (keeps gap mark l (q ∷ rest) r && not b) ≡ k
        by_case true b true e f g =
            let parts = and_parts (same_key r.key q.key) (eqb (session_end gap l r) q.end) e in
            let key : r.key ≡ q.key = tells_apart exact_keys r.key q.key parts.0 in
            let end : session_end gap l r ≡ q.end = eqb-true (session_end gap l r) q.end parts.1 in
            absurd (or_cases (is_session_open gap mark l r) (list_any (eq_by_cmp keyed_window_cmp (session_of gap l r)) rest) ⊥
            (λ open_. omega (arith, ltb-true mark (session_end gap l r) open_, end, by_mark))
            (λ other. let k : true ≡ false = sym other ∙ not_later (session_of gap l r) key (omega (arith, end)) in cc) g)
        by_case true true false e f g = and_not (keeps gap mark l (q ∷ rest) r)
          where
            and_not : (c : Bool) → (c && false) ≡ false
            and_not true = refl
            and_not false = refl
        by_case true false false e f g =
            let k : true ≡ false = sym ((in-it r has ∙ e)) ∙ ap (λ b. keeps gap mark l (q ∷ rest) r && b) f ∙ and_not (keeps gap mark l (q ∷ rest) r) in cc
          where
            and_not : (c : Bool) → (c && false) ≡ false
            and_not true = refl
            and_not false = refl
        by_case false true k e f g =
            let gone : keeps gap mark l (q ∷ rest) r ≡ false = no_left (keeps gap mark l (q ∷ rest) r) (sym (ap (λ b. keeps gap mark l (q ∷ rest) r && b) f) ∙ in-it r has ∙ e) in
            (λ i. gone i && false) ∙ sym (sym g ∙ sym (keeps-is ∙ ap (λ a. is_session_open gap mark l r || (a || list_any (eq_by_cmp keyed_window_cmp (session_of gap l r)) rest)) e) ∙ gone)
          where
            no_left : (c : Bool) → (c && true) ≡ false → c ≡ false
            no_left true h = h
            no_left false h = refl
        by_case false false k e f g = and_true (keeps gap mark l (q ∷ rest) r) ∙ keeps-is ∙ ap (λ a. is_session_open gap mark l r || (a || list_any (eq_by_cmp keyed_window_cmp (session_of gap l r)) rest)) e ∙ g
          where
            and_true : (c : Bool) → (c && true) ≡ c
            and_true true = refl
            and_true false = refl

-- what has not gone with an earlier candidate is among those that are left
abbrev pub IsPending : ℕ → ℕ → List Record → List KeyedWindow → Type 0
IsPending gap mark l due =
    (r : Record) → has_time r.key l r.time ≡ true → session_end gap l r ≤ mark → (list_any (eq_by_cmp keyed_window_cmp (session_of gap l r)) due ≡ true) ⊎ AllByRecursion (λ p. keyed_window_cmp (session_of gap l r) p ≡ Less) due

-- so in the silence before a candidate's end all times of the list are still there
pub silence-whole : (gap mark : ℕ) (l : List Record) (q : KeyedWindow) (rest : List KeyedWindow) → IsPending gap mark l (q ∷ rest) → (u : ℕ) → q.end < u + gap
    → has_time q.key (filter (keeps gap mark l (q ∷ rest)) l) u ≡ has_time q.key l u
silence-whole gap mark l q rest pending u after = same_bool _ _
    (any-filter (λ r. same_key r.key q.key && eqb r.time u) (keeps gap mark l (q ∷ rest)) l)
    (λ has. any_filtered (λ r. same_key r.key q.key && eqb r.time u) (filter (keeps gap mark l (q ∷ rest)) l) l
    (filter_of_filter (λ r. same_key r.key q.key && eqb r.time u) (keeps gap mark l (q ∷ rest)) (λ r e. still has r e) l) ∙ has)
  where
    not_less : (s q : KeyedWindow) → keyed_window_cmp s q ≡ Less → q.end < s.end → ⊥
    not_less s q less above = grind (arith, nat_tests)

    still : has_time q.key l u ≡ true → (r : Record) → (same_key r.key q.key && eqb r.time u) ≡ true → keeps gap mark l (q ∷ rest) r ≡ true
    still has r e =
        let parts = and_parts (same_key r.key q.key) (eqb r.time u) e in
        let key : r.key ≡ q.key = tells_apart exact_keys r.key q.key parts.0 in
        let time : r.time ≡ u = eqb-true r.time u parts.1 in
        let up : r.time + gap ≤ session_end gap l r = end-after gap r.key l r.time in
        ⊎_elim (λ open_. or_left (is_session_open gap mark l r) _ (lt-ltb mark (session_end gap l r) open_))
        (λ closed. ⊎_elim (λ among. or_right (is_session_open gap mark l r) _ among)
        (λ gone. absurd (not_less (session_of gap l r) q gone.0 (omega (arith, up, time, after))))
        (pending r ((λ i. has_time (key i) l (time i)) ∙ has) closed))
        (cases_lt mark (session_end gap l r))

-- once a candidate is done
pub pending-less : (gap mark : ℕ) (l : List Record) (q : KeyedWindow) (rest : List KeyedWindow) → AllByRecursion (λ p. keyed_window_cmp q p ≡ Less) rest → IsPending gap mark l (q ∷ rest) → IsPending gap mark l rest
pending-less gap mark l q rest later pending r has closed = ⊎_elim
    (λ among. or_cases (eq_by_cmp keyed_window_cmp (session_of gap l r) q) (list_any (eq_by_cmp keyed_window_cmp (session_of gap l r)) rest) _
    (λ it. inr (subst (λ s. AllByRecursion (λ p. keyed_window_cmp s p ≡ Less) rest) (sym (tells_apart exact_keyed_windows (session_of gap l r) q it)) later))
    (λ other. inl other) among)
    (λ gone. inr gone.1) (pending r has closed)

-- ---- a step that closes: what is taken are the values of the session, and what stays is what the later candidates keep
module _ (gap mark : ℕ) (l kept new : List Record) (values : List ℤ) (q : KeyedWindow) (rest : List KeyedWindow) (some : 1 ≤ gap) (by_mark : q.end ≤ mark) (fits : gap ≤ q.end)
    (later : AllByRecursion (λ p. keyed_window_cmp q p ≡ Less) rest) (silent : (u : ℕ) → q.end < u + gap → u < q.end → has_time q.key l u ≡ false)
    (is : IsReordered kept (filter (keeps gap mark l (q ∷ rest)) l)) (takes : Takes q.key q.end kept new values) where
  pub step-values : IsReordered values (values_in_session gap l q)
  step-values f =
      takes.taken f
      ∙ IsReordered-map (λ (r : Record). r.value) (filter (is_below q.key q.end) kept) (filter (is_below q.key q.end) (filter (keeps gap mark l (q ∷ rest)) l)) (IsReordered-filter (is_below q.key q.end) kept (filter (keeps gap mark l (q ∷ rest)) l) is) f
      ∙ ap (λ rs. sum_by f (map (λ (r : Record). r.value) rs)) (filter_twice (is_below q.key q.end) (keeps gap mark l (q ∷ rest)) l
      ∙ filter-agree_on _ (is_in_session gap l q) l (every (λ r has. and_comm (is_below q.key q.end r) (keeps gap mark l (q ∷ rest) r) ∙ in-it gap mark l some q rest by_mark later silent fits r has) l (all-have l)))

  pub step-left : IsReordered new (filter (keeps gap mark l rest) l)
  step-left f =
      takes.left f
      ∙ IsReordered-filter (λ r. not (is_below q.key q.end r)) kept (filter (keeps gap mark l (q ∷ rest)) l) is f
      ∙ ap (sum_by f) (filter_twice (λ r. not (is_below q.key q.end r)) (keeps gap mark l (q ∷ rest)) l
      ∙ filter-agree_on _ (keeps gap mark l rest) l (every (λ r has. and_comm (not (is_below q.key q.end r)) (keeps gap mark l (q ∷ rest) r) ∙ out-of_it gap mark l some q rest by_mark later silent fits r has) l (all-have l)))
