-- Ordered sets of candidates.
use Rattle.std.proofs.Common.{◌≡◌, ℕ, ◌≤◌, ◌<◌, arith, ⊎_elim, Bool, true, false, cond, List, [], ◌∷◌, ◌++◌, Option, Some, None, sym, refl, ap, subst, ◌∙◌}
use Rattle.std.specs.Prelude.{IfSome, All, ◌⊎◌}
use Rattle.std.specs.List.{AllByRecursion}
use Rattle.std.specs.List.Sorted.{IsStrictlySortedBy}
use Rattle.std.specs.BTreeSet.{BTreeSet, Updates}
use Rattle.std.specs.BTreeMap.{is_at}
use Rattle.std.specs.Ordering.{eq_by_cmp}
use Rattle.std.proofs.lemmas.List.Folds.{list_any-append}
use Rattle.std.proofs.lemmas.Map.Views.{tells_apart}
use Rattle.sb_windowed.specs.records.declared.key.Key.{Key}
use Rattle.sb_windowed.proofs.records.Elements.{All-any}
use Rattle.sb_windowed.proofs.window.Rows.{exact_keyed_windows}
use Rattle.sb_windowed.proofs.SessionLaws.{or_cases}
use Rattle.sb_session.specs.Candidates.{is_candidate}
use Rattle.std.specs.declared.cmp.Ordering.TheVariants.{Less}
use Rattle.std.proofs.lemmas.List.Elements.{recursion_from_All}
use Rattle.sb_windowed.specs.window.declared.keyed_window.KeyedWindow.{KeyedWindow}
use Rattle.sb_windowed.specs.window.Windows.{keyed_window_cmp}

-- a set whose first candidate was taken out was in order
pub popped : (o : Option KeyedWindow) (keys left : List KeyedWindow) → IfSome o (λ q. keys ≡ q ∷ left) → IfSome o (λ q. All (λ p. keyed_window_cmp q p ≡ Less) left)
    → IsStrictlySortedBy keyed_window_cmp left → IfSome o (λ _. IsStrictlySortedBy keyed_window_cmp keys)
unfolding IsStrictlySortedBy
popped (Some q) keys left is above sorted = subst (IsStrictlySortedBy keyed_window_cmp) (sym is) (recursion_from_All (λ p. keyed_window_cmp q p ≡ Less) left above, sorted)
popped None keys left is above sorted = is

-- what begins a list in order is in order
pub sorted-front : (front rest : List KeyedWindow) → IsStrictlySortedBy keyed_window_cmp (front ++ rest) → IsStrictlySortedBy keyed_window_cmp front
unfolding IsStrictlySortedBy
sorted-front [] rest sorted = tt
sorted-front (q ∷ front) rest sorted = (first front sorted.0, sorted-front front rest sorted.1)
  where
    first : (ps : List KeyedWindow) → AllByRecursion (λ p. keyed_window_cmp q p ≡ Less) (ps ++ rest) → AllByRecursion (λ p. keyed_window_cmp q p ≡ Less) ps
    first [] all = tt
    first (p ∷ ps) all = (all.0, first ps all.1)

pub front-in_order : (keys front rest : List KeyedWindow) → keys ≡ front ++ rest → (front ≡ []) ⊎ IsStrictlySortedBy keyed_window_cmp keys → IsStrictlySortedBy keyed_window_cmp front
unfolding IsStrictlySortedBy
front-in_order keys front rest split sorted =
    ⊎_elim (λ none. subst (IsStrictlySortedBy keyed_window_cmp) (sym none) tt) (λ all. sorted-front front rest (subst (IsStrictlySortedBy keyed_window_cmp) split all)) sorted

-- what comes into a set of candidates, and what was there, is there
pub inserted-there : (end : ℕ) (key : Key) (due more : BTreeSet KeyedWindow) → Updates keyed_window_cmp due more (record { end = end; key = key }) true → is_candidate end key more.keys ≡ true
inserted-there end key due more updates = updates.1

pub inserted-stays : (q : KeyedWindow) (due more : BTreeSet KeyedWindow) → Updates keyed_window_cmp due more q true → (end : ℕ) (key : Key) → is_candidate end key due.keys ≡ true → is_candidate end key more.keys ≡ true
inserted-stays q due more updates end key h = updates.0 (record { end = end; key = key }) ∙ by_case (is_at (keyed_window_cmp q) (record { end = end; key = key }))
  where
    by_case : (b : Bool) → cond b true (is_candidate end key due.keys) ≡ true
    by_case true = refl
    by_case false = h

-- a candidate of a list that was split is in the part of its end
pub after-stays : (mark : ℕ) (keys front rest : List KeyedWindow) → keys ≡ front ++ rest → AllByRecursion (λ q. q.end ≤ mark) front → (end : ℕ) (key : Key) → mark < end → is_candidate end key keys ≡ true → is_candidate end key rest ≡ true
after-stays mark keys front rest split low end key after h =
    or_cases (is_candidate end key front) (is_candidate end key rest) (is_candidate end key rest ≡ true)
    (λ early. absurd (All-any (λ q. q.end ≤ mark) ⊥ (eq_by_cmp keyed_window_cmp (record { end = end; key = key }))
    (λ q by_mark same. let is : record { end = end; key = key } ≡ q = tells_apart exact_keyed_windows (record { end = end; key = key }) q same in
    let e : end ≡ q.end = ap (λ (p : KeyedWindow). p.end) is in omega (arith, e, by_mark, after)) front low early))
    (λ h. h) (sym (ap (is_candidate end key) split ∙ list_any-append (eq_by_cmp keyed_window_cmp (record { end = end; key = key })) front rest) ∙ h)

pub early-goes : (mark : ℕ) (keys front rest : List KeyedWindow) → keys ≡ front ++ rest → AllByRecursion (λ q. mark < q.end) rest → (end : ℕ) (key : Key) → end ≤ mark → is_candidate end key keys ≡ true → is_candidate end key front ≡ true
early-goes mark keys front rest split high end key early h =
    or_cases (is_candidate end key front) (is_candidate end key rest) (is_candidate end key front ≡ true) (λ h. h)
    (λ late. absurd (All-any (λ q. mark < q.end) ⊥ (eq_by_cmp keyed_window_cmp (record { end = end; key = key }))
    (λ q after same. let is : record { end = end; key = key } ≡ q = tells_apart exact_keyed_windows (record { end = end; key = key }) q same in
    let e : end ≡ q.end = ap (λ (p : KeyedWindow). p.end) is in omega (arith, e, early, after)) rest high late))
    (sym (ap (is_candidate end key) split ∙ list_any-append (eq_by_cmp keyed_window_cmp (record { end = end; key = key })) front rest) ∙ h)

-- what holds of each candidate of a list holds of those of both parts
pub both-parts : (P : KeyedWindow → Type 0) (keys front rest : List KeyedWindow) → keys ≡ front ++ rest → All P keys → AllByRecursion P front × AllByRecursion P rest
both-parts P keys front rest split all = parts front (subst (AllByRecursion P) split (recursion_from_All P keys all))
  where
    parts : (front : List KeyedWindow) → AllByRecursion P (front ++ rest) → AllByRecursion P front × AllByRecursion P rest
    parts [] all = (tt, all)
    parts (q ∷ front) all = let more = parts front all.1 in ((all.0, more.0), more.1)
