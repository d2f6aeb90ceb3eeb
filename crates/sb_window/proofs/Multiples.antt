-- The ends of the windows of a time are multiples an equal step apart.
use Rattle.std.proofs.Common.{◌≡◌, ℕ, suc, zero, ◌+◌, ◌-◌, ◌*◌, ◌/◌, ◌%◌, ◌≤◌, ◌<◌, Bool, true, false, cond, eqb, List, [], ◌∷◌, length, get_or, sym, refl, ap, ◌∙◌, arith, subst, zero-add, add-zero}
use Rattle.std.specs.List.{filter, range_with_len, AllByRecursion}
use Rattle.std.specs.List.Sorted.{IsStrictlyIncreasing}
use Rattle.std.proofs.Math.Nat.{mod-add-mod, mod-eq_of_lt, suc-mul, add-mod_right, mul-mod_left}
use Rattle.std.proofs.lemmas.Bool.{eqb-true, eq-eqb, false_from_ne_true}
use Rattle.std.proofs.lemmas.List.Elements.{All-from_recursion}
use Rattle.sb_record.proofs.Elements.{every}
use Rattle.sb_window.specs.Spacing.{Spacing, AreWindows}
use Rattle.sb_window.specs.Progressions.{progression}
use Rattle.sb_window.specs.Windows.{window_ends}
use Rattle.sb_window.specs.Laws.{WindowEndsAreSpaced}

abbrev is_multiple : ℕ → ℕ → Bool
is_multiple every x = eqb (x % every) 0

-- between two multiples there is none
no_multiple : (every m x : ℕ) → m % every ≡ 0 → m < x → x < m + every → x % every ≡ 0 → ⊥
no_multiple every m x h low high is =
    let e : (m + (x - m)) ≡ x = omega arith in
    let a : (m % every + (x - m)) % every ≡ (m + (x - m)) % every = mod-add-mod m every (x - m) in
    let b : (0 + (x - m)) % every ≡ x % every = ap (λ k. (k + (x - m)) % every) (sym h) ∙ a ∙ ap (λ k. k % every) e in
    let z : 0 + (x - m) ≡ x - m = omega arith in
    let d : (x - m) % every ≡ x - m = mod-eq_of_lt (below every m x low high) in
    let f : x - m ≡ 0 = sym d ∙ ap (λ k. k % every) (sym z) ∙ b ∙ is in
    omega (arith, low, f)
  where
    below : (every m x : ℕ) → m < x → x < m + every → x - m < every
    below every m x low high = omega arith

-- a number below a multiple, and less than a step below it, is none
none_before : (every first x : ℕ) → first % every ≡ 0 → x < first → first < x + every → is_multiple every x ≡ false
none_before every first x h low high = false_from_ne_true (is_multiple every x) (λ e. no_multiple every x first (eqb-true (x % every) 0 e) low high h)

-- numbers that do not pass are passed over
skipped : (p : ℕ → Bool) (a m n : ℕ) → ((x : ℕ) → a ≤ x → x < a + m → p x ≡ false) → filter p (range_with_len a (m + n)) ≡ filter p (range_with_len (a + m) n)
skipped p a zero n none = λ i. filter p (range_with_len (sym (add-zero a) i) (zero-add n i))
skipped p a (suc m) n none =
    let e : suc m + n ≡ suc (m + n) = omega arith in
    let f : (a + 1) + m ≡ a + suc m = omega arith in
    ap (λ k. filter p (range_with_len a k)) e
    ∙ ap (λ b. cond b (a ∷ filter p (range_with_len (a + 1) (m + n))) (filter p (range_with_len (a + 1) (m + n)))) (none a (omega arith) (omega arith))
    ∙ skipped p (a + 1) m n (λ x low high. none x (omega arith) (omega arith))
    ∙ ap (λ k. filter p (range_with_len k n)) f

-- the multiples in a range: so many, from the first on
pub multiples-range : (every : ℕ) → 0 < every → (count first a len : ℕ) → first % every ≡ 0 → a ≤ first → first < a + every → a + len ≤ first + count * every → first + count * every < a + len + every
    → filter (λ e. eqb (e % every) 0) (range_with_len a len) ≡ progression first every count
multiples-range every some zero first a len h low near all few =
    let e : len ≡ len + 0 = omega arith in
    let z : zero * every ≡ 0 = omega arith in
    ap (λ k. filter (is_multiple every) (range_with_len a k)) e
    ∙ skipped (is_multiple every) a len 0 (λ x from to. none_before every first x h (omega arith) (omega arith))
multiples-range every some (suc count) first a len h low near all few =
    let m : suc count * every ≡ count * every + every = suc-mul count every in
    let e : len ≡ (first - a) + suc (a + len - (first + 1)) = omega arith in
    let f : a + (first - a) ≡ first = omega arith in
    ap (λ k. filter (is_multiple every) (range_with_len a k)) e
    ∙ skipped (is_multiple every) a (first - a) (suc (a + len - (first + 1))) (λ x from to. none_before every first x h (omega arith) (omega arith))
    ∙ ap (λ k. filter (is_multiple every) (range_with_len k (suc (a + len - (first + 1))))) f
    ∙ ap (λ b. cond b (first ∷ rest) rest) (eq-eqb (first % every) 0 h)
    ∙ ap (λ l. first ∷ l) (multiples-range every some count (first + every) (first + 1) (a + len - (first + 1)) (add-mod_right first every ∙ h) (omega arith) (omega arith) (omega arith) (omega arith))
  where
    rest : List ℕ
    rest = filter (is_multiple every) (range_with_len (first + 1) (a + len - (first + 1)))

-- the first multiple above a time
abbrev pub first_end : Spacing → ℕ → ℕ
first_end windows t = t - t % windows.every + windows.every

pub first_end-multiple : (windows : Spacing) → AreWindows windows → (t : ℕ) → first_end windows t % windows.every ≡ 0
first_end-multiple windows are t = add-mod_right (t - t % windows.every) windows.every ∙ sub-mod
  where
    sub-mod : (t - t % windows.every) % windows.every ≡ 0
    sub-mod =
        let e : t - t % windows.every ≡ (t / windows.every) * windows.every = omega (arith, are.some_every) in
        ap (λ k. k % windows.every) e ∙ mul-mod_left (t / windows.every) windows.every

pub window_ends-progression : (windows : Spacing) → AreWindows windows → (t : ℕ) → window_ends windows t ≡ progression (first_end windows t) windows.every (windows.size / windows.every)
window_ends-progression windows are t =
    let r : t % windows.every < windows.every = omega (arith, are.some_every) in
    let whole : windows.size / windows.every * windows.every ≡ windows.size = omega (arith, are.some_every, are.divides) in
    multiples-range windows.every (omega (arith, are.some_every)) (windows.size / windows.every) (first_end windows t) (t + 1) windows.size (first_end-multiple windows are t)
    (omega arith) (omega arith) (omega arith) (omega arith)

-- ---- the law
length-progression : (first step count : ℕ) → length (progression first step count) ≡ count
length-progression first step zero = refl
length-progression first step (suc count) = ap suc (length-progression (first + step) step count)

progression-rises : (first step count : ℕ) → 0 < step → (k : ℕ) → k + 1 < length (progression first step count) → get_or (progression first step count) k 0 < get_or (progression first step count) (k + 1) 0
progression-rises first step zero some k h = absurd (omega arith)
progression-rises first step (suc zero) some k h = absurd (omega arith)
progression-rises first step (suc (suc count)) some zero h = omega arith
progression-rises first step (suc (suc count)) some (suc k) h =
    let e : suc k + 1 ≡ suc (k + 1) = omega arith in
    let rise : get_or (progression (first + step) step (suc count)) k 0 < get_or (progression (first + step) step (suc count)) (k + 1) 0 = progression-rises (first + step) step (suc count) some k (omega arith) in
    let at : get_or (progression first step (suc (suc count))) (suc k + 1) 0 ≡ get_or (progression (first + step) step (suc count)) (k + 1) 0 = ap (λ j. get_or (progression first step (suc (suc count))) j 0) e in
    omega (arith, rise, at)

-- what passes of a range is in the range
pub All-range : (p : ℕ → Bool) (a n : ℕ) → AllByRecursion (λ e. (a ≤ e) × (e < a + n) × (p e ≡ true)) (filter p (range_with_len a n))
All-range p a zero = tt
All-range p a (suc n) = by_case (p a) refl (every (λ e h. (omega (arith, h.0), omega (arith, h.1), h.2)) (filter p (range_with_len (a + 1) n)) (All-range p (a + 1) n))
  where
    by_case : (b : Bool) → p a ≡ b → AllByRecursion (λ e. (a ≤ e) × (e < a + suc n) × (p e ≡ true)) (filter p (range_with_len (a + 1) n)) → AllByRecursion (λ e. (a ≤ e) × (e < a + suc n) × (p e ≡ true)) (cond b (a ∷ filter p (range_with_len (a + 1) n)) (filter p (range_with_len (a + 1) n)))
    by_case true e all = ((omega arith, omega arith, e), all)
    by_case false e all = all

-- the ends of the windows of a time are above it, at most a size above it, and multiples
pub All-window_ends : (windows : Spacing) (t : ℕ) → AllByRecursion (λ e. (t < e) × (e ≤ t + windows.size) × (e % windows.every ≡ 0)) (window_ends windows t)
All-window_ends windows t =
    every (λ e h. (omega (arith, h.0), omega (arith, h.1), eqb-true (e % windows.every) 0 h.2)) (window_ends windows t) (All-range (is_multiple windows.every) (t + 1) windows.size)

-- each number is below those after it
abbrev pub Rising : List ℕ → Type 0
Rising [] = Unit {0}
Rising (x ∷ xs) = AllByRecursion (λ y. x < y) xs × Rising xs

pub window_ends-rising : (windows : Spacing) (t : ℕ) → Rising (window_ends windows t)
window_ends-rising windows t = rising (t + 1) windows.size
  where
    above : (a n : ℕ) → AllByRecursion (λ y. a < y) (filter (is_multiple windows.every) (range_with_len (a + 1) n))
    above a n = every (λ y h. omega (arith, h.0)) (filter (is_multiple windows.every) (range_with_len (a + 1) n)) (All-range (is_multiple windows.every) (a + 1) n)

    rising : (a n : ℕ) → Rising (filter (is_multiple windows.every) (range_with_len a n))
    rising a zero = tt
    rising a (suc n) = by_case (is_multiple windows.every a) (rising (a + 1) n)
      where
        by_case : (b : Bool) → Rising (filter (is_multiple windows.every) (range_with_len (a + 1) n)) → Rising (cond b (a ∷ filter (is_multiple windows.every) (range_with_len (a + 1) n)) (filter (is_multiple windows.every) (range_with_len (a + 1) n)))
        by_case true h = (above a n, h)
        by_case false h = h

pub window_ends-spaced : WindowEndsAreSpaced
window_ends-spaced windows are t =
    let is : window_ends windows t ≡ progression (first_end windows t) windows.every (windows.size / windows.every) = window_ends-progression windows are t in
    record {
      count = ap length is ∙ length-progression (first_end windows t) windows.every (windows.size / windows.every);
      rising = subst (λ l. IsStrictlyIncreasing l) (sym is) (progression-rises (first_end windows t) windows.every (windows.size / windows.every) (omega (arith, are.some_every)));
      above = All-from_recursion (λ e. t < e) (window_ends windows t) (every (λ x h. h.0) (window_ends windows t) (All-window_ends windows t));
      within_size = All-from_recursion (λ e. e ≤ t + windows.size) (window_ends windows t) (every (λ x h. h.1) (window_ends windows t) (All-window_ends windows t));
      multiples = All-from_recursion (λ e. e % windows.every ≡ 0) (window_ends windows t) (every (λ x h. h.2) (window_ends windows t) (All-window_ends windows t));
    }
