-- The place of the first element that passes, and the list without it.
use Rattle.std.proofs.Common.{◌≡◌, ℕ, suc, ◌+◌, Bool, true, false, not, cond, ltb, List, [], ◌∷◌, length, Some, None, Option, refl, sym, ap, subst, ◌∙◌, inl, inr, arith}
use Rattle.std.specs.List.{position_or_len}
use Rattle.std.proofs.lemmas.Bool.{lt-ltb, le-ltb, cases_lt}
use Rattle.sb_slow.specs.base.records.Reading.{◌>>=◌}
use Rattle.sb_core.specs.containers.Choices.{first_and_rest}
use Rattle.sb_core.specs.Finding.{IsFirst}

first-here : {X : Type 0} (p : X → Bool) (x : X) (xs : List X) → p x ≡ true → IsFirst p (x ∷ xs) (Some 0)
first-here {X} p x xs e = (x, omega arith, refl, ap (λ b. cond {A = Option (X × List X)} b (Some (x, xs)) (first_and_rest p xs >>= λ q. Some (q.0, x ∷ q.1))) e)

first-later : {X : Type 0} (p : X → Bool) (x : X) (xs : List X) (i : ℕ) → p x ≡ false → IsFirst p xs (Some i) → IsFirst p (x ∷ xs) (Some (suc i))
first-later {X} p x xs i e h = (
  h.0,
  omega (arith, h.1),
  h.2,
  ap (λ b. cond {A = Option (X × List X)} b (Some (x, xs)) (first_and_rest p xs >>= λ q. Some (q.0, x ∷ q.1))) e
      ∙ ap (λ (o : Option (X × List X)). o >>= λ q. Some (q.0, x ∷ q.1)) h.3,
)

first-none : {X : Type 0} (p : X → Bool) (x : X) (xs : List X) → p x ≡ false → IsFirst p xs None → IsFirst p (x ∷ xs) None
first-none {X} p x xs e h =
    ap (λ b. cond {A = Option (X × List X)} b (Some (x, xs)) (first_and_rest p xs >>= λ q. Some (q.0, x ∷ q.1))) e
    ∙ ap (λ (o : Option (X × List X)). o >>= λ q. Some (q.0, x ∷ q.1)) h

-- the first place that passes, where it is in the list
pub place-first : {X : Type 0} (p : X → Bool) (xs : List X) → IsFirst p xs (cond (ltb (position_or_len p xs) (length xs)) (Some (position_or_len p xs)) None)
place-first p [] = refl
place-first {X} p (x ∷ xs) = by_case (p x) refl (place-first p xs)
  where
    later : (n m : ℕ) (c : Bool) → m ≡ suc n → p x ≡ false → IsFirst p xs (cond c (Some n) None) → IsFirst p (x ∷ xs) (cond c (Some m) None)
    later n m true e px h = subst (λ k. IsFirst p (x ∷ xs) (Some k)) (sym e) (first-later p x xs n px h)
    later n m false e px h = first-none p x xs px h

    shift : (n : ℕ) → ltb (1 + n) (length (x ∷ xs)) ≡ ltb n (length xs)
    shift n = elim (cases_lt n (length xs)) [
      | inl lt ↦ lt-ltb (1 + n) (length (x ∷ xs)) (omega arith) ∙ sym (lt-ltb n (length xs) lt)
      | inr le ↦ le-ltb (1 + n) (length (x ∷ xs)) (omega arith) ∙ sym (le-ltb n (length xs) le)
    ]

    by_case : (b : Bool) → p x ≡ b → IsFirst p xs (cond (ltb (position_or_len p xs) (length xs)) (Some (position_or_len p xs)) None)
        → IsFirst p (x ∷ xs) (cond (ltb (cond (not b) (1 + position_or_len p xs) 0) (length (x ∷ xs))) (Some (cond (not b) (1 + position_or_len p xs) 0)) None)
    by_case true e h = subst (λ c. IsFirst p (x ∷ xs) (cond c (Some 0) None)) (sym (lt-ltb 0 (length (x ∷ xs)) (omega arith))) (first-here p x xs e)
    by_case false e h =
        subst (λ c. IsFirst p (x ∷ xs) (cond c (Some (1 + position_or_len p xs)) None)) (sym (shift (position_or_len p xs)))
        (later (position_or_len p xs) (1 + position_or_len p xs) (ltb (position_or_len p xs) (length xs)) (omega arith) e h)
