-- Windows at a mark: which records those that are still open hold, and that a time from the mark on is in one.
use Rattle.std.proofs.Common.{◌≡◌, ℕ, suc, zero, ◌+◌, ◌-◌, ◌*◌, ◌%◌, ◌/◌, ◌≤◌, ◌<◌, Bool, true, false, not, cond, eqb, ltb, List, ◌∷◌, ◌++◌, sym, ap, ◌∙◌, arith, ⊎_elim}
use Rattle.std.specs.Prelude.{◌||◌, nat_lt}
use Rattle.std.specs.List.{filter, list_any, range_with_len}
use Rattle.std.proofs.lemmas.Bool.{eq-eqb, cases_eq, cases_lt, lt-ltb, ltb-false, not-true}
use Rattle.std.proofs.Math.Nat.{mul-mod_right, mod-add-div, mod-lt}
use Rattle.std.proofs.Math.Bool.{or-true}
use Rattle.std.proofs.lemmas.List.Elements.{filter-append}
use Rattle.sb_containers.specs.base.records.declared.item.Record.{Record}
use Rattle.sb_containers.specs.base.window.Spacing.{Spacing, AreWindows}
use Rattle.sb_containers.specs.base.window.Windows.{window_ends, is_in}
use Rattle.sb_containers.specs.base.RowLemmas.{SameIn, is_open_at, in_open, none_in_zero}

-- what no open window holds can be given up
pub same-open : (windows : Spacing) (mark : ℕ) (l later : List Record) → SameIn windows (λ q. not (nat_lt (q.end - 1) mark)) (l ++ later) (filter (is_open_at windows mark) l ++ later)
same-open windows mark l later q e =
    filter-append (is_in windows q) l later ∙ ap (λ m. m ++ filter (is_in windows q) later) (by_end (ltb-false (q.end - 1) mark (not-true (ltb (q.end - 1) mark) e))) ∙ sym (filter-append (is_in windows q) (filter (is_open_at windows mark) l) later)
  where
    by_end : mark ≤ q.end - 1 → filter (is_in windows q) l ≡ filter (is_in windows q) (filter (is_open_at windows mark) l)
    by_end k = ⊎_elim
        (λ after. sym (in_open windows mark q after l))
        (λ not_after. let z : q.end ≡ 0 = omega arith in none_in_zero windows q z l ∙ sym (none_in_zero windows q z (filter (is_open_at windows mark) l))) (cases_lt mark q.end)

-- ---- a time has a window that ends after it
any_in : (p o : ℕ → Bool) (a n x : ℕ) → a ≤ x → x < a + n → o x ≡ true → p x ≡ true → list_any p (filter o (range_with_len a n)) ≡ true
any_in p o a zero x low high is passes = absurd (omega arith)
any_in p o a (suc n) x low high is passes = ⊎_elim here (λ ne. later (any_in p o (a + 1) n x (omega arith) (omega arith) is passes)) (cases_eq a x)
  where
    here : a ≡ x → list_any p (cond (o a) (a ∷ filter o (range_with_len (a + 1) n)) (filter o (range_with_len (a + 1) n))) ≡ true
    here e = ap (λ b. list_any p (cond b (a ∷ filter o (range_with_len (a + 1) n)) (filter o (range_with_len (a + 1) n)))) (ap o e ∙ is) ∙ ap (λ b. b || list_any p (filter o (range_with_len (a + 1) n))) (ap p e ∙ passes)

    later : list_any p (filter o (range_with_len (a + 1) n)) ≡ true → list_any p (cond (o a) (a ∷ filter o (range_with_len (a + 1) n)) (filter o (range_with_len (a + 1) n))) ≡ true
    later h = by_case (o a) h
      where
        by_case : (b : Bool) → list_any p (filter o (range_with_len (a + 1) n)) ≡ true → list_any p (cond b (a ∷ filter o (range_with_len (a + 1) n)) (filter o (range_with_len (a + 1) n))) ≡ true
        by_case true h = ap (λ b. p a || b) h ∙ or-true (p a)
        by_case false h = h

-- a step that divides the size is within it
step-within : (every size : ℕ) → 1 ≤ size → size % every ≡ 0 → every ≤ size
step-within every size some divides = by_quotient (size / every) (mod-add-div size every)
  where
    by_quotient : (q : ℕ) → size % every + every * q ≡ size → every ≤ size
    by_quotient zero h = let none : every * 0 ≡ 0 = omega arith in absurd (omega (arith, some, divides, h, none))
    by_quotient (suc q) h = let more : every * suc q ≡ every * q + every = omega arith in omega (arith, divides, h, more)

pub ends-later : (windows : Spacing) (mark t : ℕ) → AreWindows windows → mark ≤ t → list_any (λ e. nat_lt mark e) (window_ends windows t) ≡ true
ends-later windows mark t are h =
    let q : ℕ = t / windows.every in
    let a : t % windows.every + windows.every * (t / windows.every) ≡ t = mod-add-div t windows.every in
    let b : t % windows.every < windows.every = mod-lt t are.some_every in
    let e : windows.every * (t / windows.every + 1) ≡ windows.every * (t / windows.every) + windows.every = more windows.every (t / windows.every) in
    any_in (λ e. nat_lt mark e) (λ e. eqb (e % windows.every) 0) (t + 1) windows.size (windows.every * (t / windows.every + 1)) (omega arith) (omega (arith, step-within windows.every windows.size are.some_size are.divides)) (eq-eqb (windows.every * (t / windows.every + 1) % windows.every) 0 (mul-mod_right windows.every (t / windows.every + 1)))
    (lt-ltb mark (windows.every * (t / windows.every + 1)) (omega arith))
  where
    more : (m q : ℕ) → m * (q + 1) ≡ m * q + m
    more m q = omega arith
