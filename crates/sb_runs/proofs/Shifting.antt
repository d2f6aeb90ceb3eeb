-- A run whose windows end later.
use Rattle.std.proofs.Common.{◌≡◌, ℕ, ◌+◌, ◌-◌, ◌≤◌, ◌<◌, Bool, true, false, cond, List, [], ◌∷◌, ◌++◌, length, Some, None, sym, refl, ap, ◌∙◌, arith, add-zero, append-nil, subst}
use Rattle.std.specs.Prelude.{nat_lt}
use Rattle.std.specs.List.{AllByRecursion}
use Rattle.std.specs.Map.{keys_of}
use Rattle.std.specs.Ordering.{is_eq, nat_cmp, ordering_then}
use Rattle.std.specs.Cmp.{nat_cmp_is}
use Rattle.std.specs.declared.cmp.Ordering.TheVariants.{Less}
use Rattle.std.proofs.lemmas.Bool.{ltb-true, ltb-false}
use Rattle.std.proofs.lemmas.Bool.Decides.{nat_tests}
use Rattle.sb_window.specs.records.Keys.{key_cmp}
use Rattle.sb_window.specs.declared.keyed_window.KeyedWindow.{KeyedWindow}
use Rattle.sb_window.specs.Windows.{keyed_window_cmp}
use Rattle.sb_runs.specs.Runs.{IsRun, found, later_entry, shifted_by}
use Rattle.sb_runs.proofs.Found.{run-none, run-cons, run-first, run-rest}

-- the keyed window that ends so much later, and the one that ends so much earlier
abbrev later : ℕ → KeyedWindow → KeyedWindow
later by q = record { end = q.end + by; key = q.key }

abbrev pub earlier : ℕ → KeyedWindow → KeyedWindow
earlier by q = record { end = q.end - by; key = q.key }

-- ---- windows that end later are in the same order
later-numbers : (x y by : ℕ) → nat_cmp (x + by) (y + by) ≡ nat_cmp x y
later-numbers x y by = grind (arith, nat_tests)

later-windows : (a b : KeyedWindow) (by : ℕ) → keyed_window_cmp (later by a) (later by b) ≡ keyed_window_cmp a b
later-windows a b by = ap (λ o. ordering_then o (key_cmp a.key b.key)) (later-numbers a.end b.end by)

shifted-first : {V : Type 0} (by : ℕ) (a : KeyedWindow) (es : List (KeyedWindow × V)) → AllByRecursion (λ k. keyed_window_cmp a k ≡ Less) (keys_of es) → AllByRecursion (λ k. keyed_window_cmp (later by a) k ≡ Less) (keys_of (shifted_by by es))
shifted-first by a [] all = tt
shifted-first by a (e ∷ es) all = (later-windows a e.0 by ∙ all.0, shifted-first by a es all.1)

pub shifted-run : {V : Type 0} (by : ℕ) (es : List (KeyedWindow × V)) → IsRun es → IsRun (shifted_by by es)
shifted-run by [] run = run-none
shifted-run by (e ∷ es) run = run-cons (later_entry by e) (shifted_by by es) (shifted-first by e.0 es (run-first e es run)) (shifted-run by es (run-rest e es run))

-- ---- what is found of it
too_early : (x y by : ℕ) → x < by → nat_cmp x (y + by) ≡ Less
too_early x y by low = sym (nat_cmp_is x (y + by) Less (omega arith))

pub found-too_early : {V : Type 0} (by : ℕ) (es : List (KeyedWindow × V)) (q : KeyedWindow) → q.end < by → found (shifted_by by es) q ≡ None
found-too_early by [] q low = refl
found-too_early by (e ∷ es) q low =
    ap (λ o. cond (is_eq (ordering_then o (key_cmp q.key e.0.key))) (Some e.1) (found (shifted_by by es) q)) (too_early q.end e.0.end by low)
    ∙ found-too_early by es q low

pub found-later : {V : Type 0} (by : ℕ) (es : List (KeyedWindow × V)) (q : KeyedWindow) → by ≤ q.end → found (shifted_by by es) q ≡ found es (earlier by q)
found-later by [] q high = refl
found-later by (e ∷ es) q high =
    (λ i. cond (is_eq (same i)) (Some e.1) (found-later by es q high i))
  where
    back : q.end ≡ q.end - by + by
    back = omega arith

    same : keyed_window_cmp q (later by e.0) ≡ keyed_window_cmp (earlier by q) e.0
    same = ap (λ n. ordering_then (nat_cmp n (e.0.end + by)) (key_cmp q.key e.0.key)) back ∙ later-windows (earlier by q) e.0 by

-- where nothing ends at 0, it is what there is for the window that ends so much earlier
pub found-shifted : {V : Type 0} (by : ℕ) (es : List (KeyedWindow × V)) → ((q : KeyedWindow) → q.end ≡ 0 → found es q ≡ None) → (q : KeyedWindow) → found (shifted_by by es) q ≡ found es (earlier by q)
found-shifted {V} by es none q = by_case (nat_lt q.end by) refl
  where
    by_case : (b : Bool) → nat_lt q.end by ≡ b → found (shifted_by by es) q ≡ found es (earlier by q)
    by_case true h = let low : q.end < by = ltb-true q.end by h in found-too_early by es q low ∙ sym (none (earlier by q) (omega arith))
    by_case false h = found-later by es q (ltb-false q.end by h)

-- ---- by how much
pub shifted-zero : {V : Type 0} (es : List (KeyedWindow × V)) → shifted_by 0 es ≡ es
shifted-zero [] = refl
shifted-zero (e ∷ es) = λ i. (record { end = add-zero e.0.end i; key = e.0.key }, e.1) ∷ shifted-zero es i

-- ---- a run that was shifted entry by entry
pub shifted-whole : {V : Type 0} (by : ℕ) (made left whole entries : List (KeyedWindow × V)) → length left ≡ 0 → made ++ shifted_by by left ≡ shifted_by by whole → entries ≡ whole → IsRun entries → IsRun made
shifted-whole {V} by made [] whole entries none is view run =
    subst (λ (es : List (KeyedWindow × V)). IsRun es) (ap (shifted_by by) view ∙ sym is ∙ append-nil made) (shifted-run by entries run)
shifted-whole by made (e ∷ es) whole entries none is view run = absurd (omega (arith, none))
