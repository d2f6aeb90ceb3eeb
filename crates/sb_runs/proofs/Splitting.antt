-- A run that is cut at a mark.
use Rattle.std.proofs.Common.{◌≡◌, ℕ, ◌+◌, ◌-◌, ◌≤◌, ◌<◌, Bool, true, false, not, cond, List, [], ◌∷◌, ◌++◌, length, take, drop, get_or, Some, None, append_assoc, sym, subst, refl, ap, ◌∙◌, arith}
use Rattle.std.specs.Prelude.{nat_lt}
use Rattle.std.specs.List.{AllByRecursion}
use Rattle.std.specs.Map.{keys_of}
use Rattle.std.specs.Ordering.{is_eq, nat_cmp, ordering_then}
use Rattle.std.specs.declared.cmp.Ordering.{Ordering}
use Rattle.std.specs.declared.cmp.Ordering.TheVariants.{Less, Equal, Greater}
use Rattle.std.proofs.lemmas.Bool.{ltb-true, ltb-false, le-ltb}
use Rattle.std.proofs.lemmas.Cmp.{ranked}
use Rattle.sb_window.specs.records.Keys.{key_cmp}
use Rattle.sb_window.proofs.records.Elements.{every, All-join}
use Rattle.sb_window.specs.declared.keyed_window.KeyedWindow.{KeyedWindow}
use Rattle.sb_window.specs.Windows.{keyed_window_cmp}
use Rattle.sb_window.proofs.Rows.{exact_keyed_windows}
use Rattle.sb_runs.specs.Merges.{begins_by}
use Rattle.sb_runs.specs.Runs.{IsRun, found}
use Rattle.sb_runs.proofs.Found.{all-right, run-first, run-left, run-rest, run-right, whole-by-last}

-- what is taken off ends by the mark, and stood before the rest
pub record Splitting {V : Type 0} (mark : ℕ) (whole closed others : List (KeyedWindow × V)) : Type 0 where
  pub parts : closed ++ others ≡ whole
  pub low : AllByRecursion (λ e. e.0.end ≤ mark) closed

-- windows in order end in order
ends-rise : (a b : KeyedWindow) → keyed_window_cmp a b ≡ Less → a.end ≤ b.end
ends-rise a b h = by_case (nat_cmp a.end b.end) refl h
  where
    by_case : (o : Ordering) → nat_cmp a.end b.end ≡ o → ordering_then o (key_cmp a.key b.key) ≡ Less → a.end ≤ b.end
    by_case Less e h = let k : a.end < b.end = ranked a.end b.end Less (sym e) in omega (arith, k)
    by_case Equal e h = let k : a.end ≡ b.end = ranked a.end b.end Equal (sym e) in omega (arith, k)
    by_case Greater e h = cc

-- where the last window of a run ends by the mark, all do
pub all-low : {V : Type 0} (mark : ℕ) (xs : List (KeyedWindow × V)) (e : KeyedWindow × V) → e.0.end ≤ mark → IsRun (xs ++ e ∷ []) → AllByRecursion (λ f. f.0.end ≤ mark) (xs ++ e ∷ [])
all-low mark [] e low run = (low, tt)
all-low mark (x ∷ xs) e low run =
    let before : keyed_window_cmp x.0 e.0 ≡ Less = (all-right (λ k. keyed_window_cmp x.0 k ≡ Less) xs (e ∷ []) (run-first x (xs ++ e ∷ []) run)).0 in
    let rises : x.0.end ≤ e.0.end = ends-rise x.0 e.0 before in
    (omega (arith, low, rises), all-low mark xs e low (run-rest x (xs ++ e ∷ []) run))

pub all-low-by-last : {V : Type 0} (mark : ℕ) (xs : List (KeyedWindow × V)) (count : ℕ) (last : KeyedWindow × V) → count ≡ length xs → 0 < count → last ≡ get_or xs (count - 1) last → last.0.end ≤ mark
    → IsRun xs → AllByRecursion (λ f. f.0.end ≤ mark) xs
all-low-by-last {V} mark xs count last long some last_is low run =
    let whole : xs ≡ take (count - 1) xs ++ last ∷ [] = whole-by-last xs count last long some last_is in
    subst (λ (l : List (KeyedWindow × V)). AllByRecursion (λ f. f.0.end ≤ mark) l) (sym whole) (all-low mark (take (count - 1) xs) last low (subst (λ (l : List (KeyedWindow × V)). IsRun l) whole run))

-- a window that is one that ends by the mark
is_low : (mark : ℕ) (k : KeyedWindow) → k.end ≤ mark → (q : KeyedWindow) → keyed_window_cmp q k ≡ Equal → nat_lt mark q.end ≡ false
is_low mark k low q c = let same : q.end ≡ k.end = ap (λ (w : KeyedWindow). w.end) (exact_keyed_windows q k c) in le-ltb mark q.end (omega (arith, same, low))

is_not : (b : Bool) → not b ≡ true → b ≡ false
is_not true h = cc
is_not false h = refl

is_so : (b : Bool) → not b ≡ false → b ≡ true
is_so true h = refl
is_so false h = cc

module _ {V : Type 0} (mark : ℕ) where
  pub splitting-more : (whole closed others : List (KeyedWindow × V)) → begins_by mark others ≡ true → Splitting mark whole closed others → Splitting mark whole (closed ++ take 1 others) (drop 1 others)
  splitting-more whole closed [] h s = cc
  splitting-more whole closed (e ∷ es) h s = record {
    parts = append_assoc closed (e ∷ []) es ∙ s.parts;
    low = All-join (λ e. e.0.end ≤ mark) closed (e ∷ []) s.low (ltb-false mark e.0.end (is_not (nat_lt mark e.0.end) h), tt);
  }

  pub takes-first : (others : List (KeyedWindow × V)) → begins_by mark others ≡ true → length (drop 1 others) + 1 ≡ length others
  takes-first [] h = cc
  takes-first (e ∷ es) h = omega arith

  -- where the first window of what is left ends after the mark, all do
  all-late : (others : List (KeyedWindow × V)) → begins_by mark others ≡ false → IsRun others → AllByRecursion (λ k. mark < k.end) (keys_of others)
  all-late [] h run = tt
  all-late (e ∷ es) h run =
      let late : mark < e.0.end = ltb-true mark e.0.end (is_so (nat_lt mark e.0.end) h) in
      (late, every (λ k before. let k' : e.0.end ≤ k.end = ends-rise e.0 k before in omega (arith, late, k')) (keys_of es) (run-first e es run))

  none-late : (q : KeyedWindow) → q.end ≤ mark → (others : List (KeyedWindow × V)) → AllByRecursion (λ k. mark < k.end) (keys_of others) → found others q ≡ None
  none-late q low [] late = refl
  none-late q low (e ∷ es) late = by_case (keyed_window_cmp q e.0) refl (none-late q low es late.1)
    where
      by_case : (o : Ordering) → keyed_window_cmp q e.0 ≡ o → found es q ≡ None → cond (is_eq o) (Some e.1) (found es q) ≡ None
      by_case Less c rest = rest
      by_case Equal c rest = let same : q.end ≡ e.0.end = ap (λ (k : KeyedWindow). k.end) (exact_keyed_windows q e.0 c) in absurd (omega (arith, same, low, late.0))
      by_case Greater c rest = rest

  -- what each part has
  cut-closed : (closed others : List (KeyedWindow × V)) → AllByRecursion (λ e. e.0.end ≤ mark) closed → AllByRecursion (λ k. mark < k.end) (keys_of others)
      → (q : KeyedWindow) → found closed q ≡ cond (nat_lt mark q.end) None (found (closed ++ others) q)
  cut-closed [] others low late q = by_case (nat_lt mark q.end) refl
    where
      by_case : (b : Bool) → nat_lt mark q.end ≡ b → None ≡ cond b None (found others q)
      by_case true h = refl
      by_case false h = sym (none-late q (ltb-false mark q.end h) others late)
  cut-closed (e ∷ es) others low late q = by_case (keyed_window_cmp q e.0) refl (cut-closed es others low.1 late q)
    where
      by_case : (o : Ordering) → keyed_window_cmp q e.0 ≡ o → found es q ≡ cond (nat_lt mark q.end) None (found (es ++ others) q)
          → cond (is_eq o) (Some e.1) (found es q) ≡ cond (nat_lt mark q.end) None (cond (is_eq o) (Some e.1) (found (es ++ others) q))
      by_case Less c rest = rest
      by_case Equal c rest = sym (ap (λ b. cond b None (Some e.1)) (is_low mark e.0 low.0 q c))
      by_case Greater c rest = rest

  cut-opened : (closed others : List (KeyedWindow × V)) → AllByRecursion (λ e. e.0.end ≤ mark) closed → AllByRecursion (λ k. mark < k.end) (keys_of others)
      → (q : KeyedWindow) → found others q ≡ cond (nat_lt mark q.end) (found (closed ++ others) q) None
  cut-opened [] others low late q = by_case (nat_lt mark q.end) refl
    where
      by_case : (b : Bool) → nat_lt mark q.end ≡ b → found others q ≡ cond b (found others q) None
      by_case true h = refl
      by_case false h = none-late q (ltb-false mark q.end h) others late
  cut-opened (e ∷ es) others low late q = by_case (keyed_window_cmp q e.0) refl (cut-opened es others low.1 late q)
    where
      by_case : (o : Ordering) → keyed_window_cmp q e.0 ≡ o → found others q ≡ cond (nat_lt mark q.end) (found (es ++ others) q) None
          → found others q ≡ cond (nat_lt mark q.end) (cond (is_eq o) (Some e.1) (found (es ++ others) q)) None
      by_case Less c rest = rest
      by_case Equal c rest = rest ∙ (λ i. cond (is_low mark e.0 low.0 q c i) (found (es ++ others) q) None) ∙ sym (λ i. cond (is_low mark e.0 low.0 q c i) (Some e.1) None)
      by_case Greater c rest = rest

  module _ (whole closed others : List (KeyedWindow × V)) (h : begins_by mark others ≡ false) (run : IsRun whole) (s : Splitting mark whole closed others) where
    parts-run : IsRun (closed ++ others)
    parts-run = subst (λ (l : List (KeyedWindow × V)). IsRun l) (sym s.parts) run

    pub split-closed-run : IsRun closed
    split-closed-run = run-left closed others parts-run

    pub split-opened-run : IsRun others
    split-opened-run = run-right closed others parts-run

    pub split-closed : (q : KeyedWindow) → found closed q ≡ cond (nat_lt mark q.end) None (found whole q)
    split-closed q = cut-closed closed others s.low (all-late others h split-opened-run) q ∙ ap (λ (l : List (KeyedWindow × V)). cond (nat_lt mark q.end) None (found l q)) s.parts

    pub split-opened : (q : KeyedWindow) → found others q ≡ cond (nat_lt mark q.end) (found whole q) None
    split-opened q = cut-opened closed others s.low (all-late others h split-opened-run) q ∙ ap (λ (l : List (KeyedWindow × V)). cond (nat_lt mark q.end) (found l q) None) s.parts
