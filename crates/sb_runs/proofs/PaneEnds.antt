-- Which windows a pane lies in: the stretch of time from one end of windows to the next.
use Rattle.std.proofs.Common.{◌≡◌, ℕ, suc, zero, ◌+◌, ◌-◌, ◌*◌, ◌/◌, ◌%◌, ◌≤◌, ◌<◌, Bool, true, false, not, eqb, List, [], ◌∷◌, take, sym, refl, ap, ◌∙◌, arith}
use Rattle.std.specs.Prelude.{◌||◌, ◌&&◌, nat_lt}
use Rattle.std.specs.List.{filter, list_any, range_with_len}
use Rattle.std.proofs.Math.Nat.{add-mul-mod_self_right, suc-mul, zero-mul, mod_self, div_self, mul-le-mul_right}
use Rattle.std.proofs.lemmas.Bool.{eqb-true, lt-ltb, ltb-true, ltb-false}
use Rattle.std.proofs.lemmas.Bool.Decides.{nat_tests}
use Rattle.std.proofs.lemmas.Map.Views.{any-filter_same}
use Rattle.sb_window.specs.records.declared.item.Record.{Record}
use Rattle.sb_window.specs.records.Keys.{same_key}
use Rattle.sb_window.specs.declared.keyed_window.KeyedWindow.{KeyedWindow}
use Rattle.sb_window.specs.Spacing.{Spacing, AreWindows, fixed_windows}
use Rattle.sb_window.specs.Windows.{window_ends, is_in}
use Rattle.sb_window.specs.Progressions.{progression}
use Rattle.sb_window.proofs.Multiples.{first_end, window_ends-progression}
use Rattle.sb_runs.proofs.Shifting.{earlier}

-- ---- the ends of the windows of a time
any_in_range : (x first count : ℕ) → list_any (λ e. eqb e x) (range_with_len first count) ≡ (not (nat_lt x first) && nat_lt x (first + count))
any_in_range x first zero = grind (arith, nat_tests)
any_in_range x first (suc count) = ap (λ b. eqb first x || b) (any_in_range x (first + 1) count) ∙ first_or x first count
  where
    first_or : (x first count : ℕ) → (eqb first x || (not (nat_lt x (first + 1)) && nat_lt x (first + 1 + count))) ≡ (not (nat_lt x first) && nat_lt x (first + suc count))
    first_or x first count = grind (arith, nat_tests)

-- a window is one of a time's just where its end is a multiple that lies behind the time, by no more than the size
any_end : (size every t x : ℕ) → list_any (λ e. eqb e x) (window_ends (record { size = size; every = every }) t) ≡ (eqb (x % every) 0 && (not (nat_lt x (t + 1)) && nat_lt x (t + 1 + size)))
any_end size every t x =
    any-filter_same (λ e. eqb e x) (λ e. eqb (e % every) 0) (eqb (x % every) 0) (λ k same. ap (λ n. eqb (n % every) 0) (eqb-true k x same)) (range_with_len (t + 1) size)
    ∙ ap (λ b. eqb (x % every) 0 && b) (any_in_range x (t + 1) size)

-- ---- one pane more
-- a number that is so many steps earlier is a multiple just where the number is
same_multiple : (every count x t : ℕ) (b : Bool) → (eqb ((x - count * every) % every) 0 && (not (nat_lt (x - count * every) (t + 1)) && b)) ≡ (eqb (x % every) 0 && (not (nat_lt (x - count * every) (t + 1)) && b))
same_multiple every count x t b = by_case (nat_lt x (count * every)) refl
  where
    none : (a c d : Bool) → d ≡ true → (a && (not d && b)) ≡ (c && (not d && b))
    none true true true h = refl
    none true false true h = refl
    none false true true h = refl
    none false false true h = refl
    none a c false h = cc

    by_case : (d : Bool) → nat_lt x (count * every) ≡ d → (eqb ((x - count * every) % every) 0 && (not (nat_lt (x - count * every) (t + 1)) && b)) ≡ (eqb (x % every) 0 && (not (nat_lt (x - count * every) (t + 1)) && b))
    by_case true h =
        let low : x < count * every = ltb-true x (count * every) h in
        none (eqb ((x - count * every) % every) 0) (eqb (x % every) 0) (nat_lt (x - count * every) (t + 1)) (lt-ltb (x - count * every) (t + 1) (omega arith))
    by_case false h =
        let high : count * every ≤ x = ltb-false x (count * every) h in
        let whole : x - count * every + count * every ≡ x = omega arith in
        ap (λ n. eqb n 0 && (not (nat_lt (x - count * every) (t + 1)) && b)) (sym (add-mul-mod_self_right (x - count * every) count every) ∙ ap (λ n. n % every) whole)

either_end : (m : Bool) (x by every t : ℕ) → (m && (not (nat_lt x (t + 1)) && nat_lt x (t + 1 + (by + every)))) ≡ ((m && (not (nat_lt x (t + 1)) && nat_lt x (t + 1 + by))) || (m && (not (nat_lt (x - by) (t + 1)) && nat_lt (x - by) (t + 1 + every))))
either_end m x by every t = grind (arith, nat_tests)

not_both : (m : Bool) (x by every t : ℕ) → ((m && (not (nat_lt x (t + 1)) && nat_lt x (t + 1 + by))) && (m && (not (nat_lt (x - by) (t + 1)) && nat_lt (x - by) (t + 1 + every)))) ≡ false
not_both m x by every t = grind (arith, nat_tests)

-- ---- windows of one pane more
-- the panes of a window are as long as it
pub whole-panes : (windows : Spacing) → AreWindows windows → windows.size / windows.every * windows.every ≡ windows.size
whole-panes windows are = omega (arith, are.some_every, are.divides)

abbrev pub panes_of : ℕ → ℕ → Spacing
panes_of every count = record { size = count * every; every = every }

module _ (every count : ℕ) (q : KeyedWindow) (r : Record) where
  -- the end of the window among those of the record's time
  abbrev is_end : Spacing → KeyedWindow → Bool
  is_end windows q = list_any (λ e. eqb e q.end) (window_ends windows r.time)

  last_pane : is_end (fixed_windows every) (earlier (count * every) q)
      ≡ (eqb (q.end % every) 0 && (not (nat_lt (q.end - count * every) (r.time + 1)) && nat_lt (q.end - count * every) (r.time + 1 + every)))
  last_pane = any_end every every r.time (q.end - count * every) ∙ same_multiple every count q.end r.time (nat_lt (q.end - count * every) (r.time + 1 + every))

  either-pane : is_end (panes_of every (suc count)) q ≡ (is_end (panes_of every count) q || is_end (fixed_windows every) (earlier (count * every) q))
  either-pane =
      any_end (suc count * every) every r.time q.end
      ∙ ap (λ n. eqb (q.end % every) 0 && (not (nat_lt q.end (r.time + 1)) && nat_lt q.end (r.time + 1 + n))) (suc-mul count every)
      ∙ either_end (eqb (q.end % every) 0) q.end (count * every) every r.time
      ∙ sym (λ i. any_end (count * every) every r.time q.end i || last_pane i)

  not_both_panes : (is_end (panes_of every count) q && is_end (fixed_windows every) (earlier (count * every) q)) ≡ false
  not_both_panes =
      (λ i. any_end (count * every) every r.time q.end i && last_pane i)
      ∙ not_both (eqb (q.end % every) 0) q.end (count * every) every r.time

  pub either-in : is_in (panes_of every (suc count)) q r ≡ (is_in (panes_of every count) q r || is_in (fixed_windows every) (earlier (count * every) q) r)
  either-in = ap (λ b. same_key r.key q.key && b) either-pane ∙ by_case (same_key r.key q.key) (is_end (panes_of every count) q) (is_end (fixed_windows every) (earlier (count * every) q))
    where
      by_case : (k a b : Bool) → (k && (a || b)) ≡ ((k && a) || (k && b))
      by_case true a b = refl
      by_case false a b = refl

  pub not_both_in : (is_in (panes_of every count) q r && is_in (fixed_windows every) (earlier (count * every) q) r) ≡ false
  not_both_in = by_case (same_key r.key q.key)
    where
      by_case : (k : Bool) → ((k && is_end (panes_of every count) q) && (k && is_end (fixed_windows every) (earlier (count * every) q))) ≡ false
      by_case true = not_both_panes
      by_case false = refl

pub none_in : (every : ℕ) (q : KeyedWindow) (l : List Record) → list_any (is_in (panes_of every 0) q) l ≡ false
none_in every q [] = refl
none_in every q (r ∷ l) =
    (λ i. (same_key r.key q.key && list_any (λ e. eqb e q.end) (filter (λ e. eqb (e % every) 0) (range_with_len (r.time + 1) (zero-mul every i)))) || none_in every q l i)
    ∙ by_case (same_key r.key q.key)
  where
    by_case : (k : Bool) → ((k && false) || false) ≡ false
    by_case true = refl
    by_case false = refl

-- ---- the pane of a time
-- each window has one
pub some-panes : (windows : Spacing) → AreWindows windows → 1 ≤ windows.size / windows.every
some-panes windows are = by_case (windows.size / windows.every) refl
  where
    by_case : (count : ℕ) → windows.size / windows.every ≡ count → 1 ≤ count
    by_case zero none =
        let empty : windows.size ≡ 0 = sym (whole-panes windows are) ∙ ap (λ n. n * windows.every) none ∙ zero-mul windows.every in
        absurd (omega (arith, are.some_size, empty))
    by_case (suc count) some = omega arith

-- and is no longer than the window
pub every-small : (windows : Spacing) → AreWindows windows → windows.every ≤ windows.size
every-small windows are =
    let times : 1 * windows.every ≤ windows.size / windows.every * windows.every = mul-le-mul_right windows.every (some-panes windows are) in
    omega (arith, whole-panes windows are, times)

-- it ends at the first end of the time's windows
pub first_end-pane : (windows : Spacing) → AreWindows windows → (t : ℕ) → take 1 (window_ends windows t) ≡ window_ends (fixed_windows windows.every) t
first_end-pane windows are t =
    ap (take 1) (window_ends-progression windows are t)
    ∙ first (windows.size / windows.every) (some-panes windows are)
    ∙ ap (progression (first_end windows t) windows.every) (sym one)
    ∙ sym (window_ends-progression (fixed_windows windows.every) fixed t)
  where
    one : windows.every / windows.every ≡ 1
    one = div_self (omega (arith, are.some_every))

    small : windows.every ≤ windows.size
    small = every-small windows are

    fixed : AreWindows (fixed_windows windows.every)
    fixed = record {
      some_size = are.some_every;
      most_size = omega (arith, small, are.most_size);
      some_every = are.some_every;
      divides = mod_self windows.every;
      most_windows = omega (arith, one);
    }

    first : (count : ℕ) → 1 ≤ count → take 1 (progression (first_end windows t) windows.every count) ≡ progression (first_end windows t) windows.every 1
    first zero h = absurd (omega (arith, h))
    first (suc count) h = refl
