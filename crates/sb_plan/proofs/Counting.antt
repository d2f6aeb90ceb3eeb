-- How many elements pass a test that none passes, or that any does.
use Rattle.std.proofs.Common.{◌≡◌, ◌≤◌, ℕ, Bool, true, false, cond, List, length, get_or, Some, None, All, ap, arith, inl, inr}
use Rattle.std.specs.List.{count_by, list_any, position, position_or_len}
use Rattle.std.proofs.lemmas.Bool.{both_ways, cases_lt, false_from_ne_true, lt-ltb}
use Rattle.std.proofs.lemmas.List.Folds.{Any-from_list_any, list_any_at}
use Rattle.std.proofs.lemmas.List.Sums.{fails_before_first, get_or-le-sum_by, sum_by-le}

module _ {A : Type 0} (t : A → Bool) (xs : List A) where
  -- no element passes where none is found
  pub All-unfound : position t xs ≡ None → All (λ x. t x ≡ false) xs
  All-unfound none k d within = elim (cases_lt (position_or_len t xs) (length xs)) [
    | inl early ↦ let some : Some (position_or_len t xs) ≡ None = rw (lt-ltb (position_or_len t xs) (length xs) early) at none in cc
    | inr past ↦ fails_before_first t xs k d (omega (arith, within, past))
  ]

  -- none is counted where none passes
  pub count_by-none : All (λ x. t x ≡ false) xs → count_by t xs ≡ 0
  count_by-none fails = omega (arith, sum_by-le (λ x. cond (t x) 1 0) 0 xs (λ k d within. omega (arith, ap (λ b. cond {A = ℕ} b 1 0) (fails k d within))))

  pub count_by-not_any : list_any t xs ≡ false → count_by t xs ≡ 0
  count_by-not_any none = count_by-none (λ k d within. false_from_ne_true (t (get_or xs k d)) (λ e. both_ways (list_any t xs) none (list_any_at t xs k d within e)))

  -- at least one is where any passes
  pub count_by-any : list_any t xs ≡ true → 1 ≤ count_by t xs
  count_by-any any =
      let (k, x, within, at, passes) = Any-from_list_any t xs any in
      omega (arith, get_or-le-sum_by (λ y. cond (t y) 1 0) xs k x within, ap (λ y. cond {A = ℕ} (t y) 1 0) at, ap (λ b. cond {A = ℕ} b 1 0) passes)
