-- Counts over what is held, where one of it changes or goes.
use Rattle.std.proofs.Common.{◌≡◌, ℕ, ◌+◌, ◌≤◌, Bool, true, false, cond, ltb, List, [], ◌∷◌, ◌++◌, sym, refl, ap, ◌∙◌, arith}
use Rattle.std.specs.Prelude.{count_by}
use Rattle.std.specs.List.{list_any, AllByRecursion}
use Rattle.std.proofs.lemmas.List.Sums.{sum_by-append, sum_by-cons}
use Rattle.sb_containers.specs.base.SumLemmas.{IsReordered, any_by_count}
use Rattle.sb_containers.specs.base.ElementLemmas.{All-join}

-- as many, so as well any
pub any_same : {X : Type 0} (p : X → Bool) (xs ys : List X) → count_by p xs ≡ count_by p ys → list_any p xs ≡ list_any p ys
any_same p xs ys e = any_by_count p xs ∙ ap (ltb 0) e ∙ sym (any_by_count p ys)

pub count_gone : {X : Type 0} (p : X → Bool) (xs ys : List X) (x : X) → IsReordered xs (x ∷ ys) → count_by p xs ≡ cond (p x) 1 0 + count_by p ys
count_gone p xs ys x h = h (λ x. cond (p x) 1 0) ∙ sum_by-cons (λ x. cond (p x) 1 0) x ys

pub count_snoc : {X : Type 0} (p : X → Bool) (xs : List X) (x : X) → count_by p (xs ++ x ∷ []) ≡ count_by p xs + cond (p x) 1 0
count_snoc p xs x = sum_by-append (λ x. cond (p x) 1 0) xs (x ∷ []) ∙ ap (λ n. count_by p xs + n) (sum_by-cons (λ x. cond (p x) 1 0) x [] ∙ omega arith)

-- another in its place, at the end
pub count_swap : {X : Type 0} (p : X → Bool) (xs ys : List X) (x y : X) → IsReordered xs (x ∷ ys) → p y ≡ p x → count_by p (ys ++ y ∷ []) ≡ count_by p xs
count_swap p xs ys x y h e =
    let a : count_by p (ys ++ y ∷ []) ≡ count_by p ys + cond (p y) 1 0 = count_snoc p ys y in
    let b : count_by p xs ≡ cond (p x) 1 0 + count_by p ys = count_gone p xs ys x h in
    let c : cond {A = ℕ} (p y) 1 0 ≡ cond (p x) 1 0 = ap (λ b. cond {A = ℕ} b 1 0) e in
    omega arith

pub any_swap : {X : Type 0} (p : X → Bool) (xs ys : List X) (x y : X) → IsReordered xs (x ∷ ys) → p y ≡ p x → list_any p (ys ++ y ∷ []) ≡ list_any p xs
any_swap p xs ys x y h e = any_same p (ys ++ y ∷ []) xs (count_swap p xs ys x y h e)

-- one that does not pass goes
pub any_gone : {X : Type 0} (p : X → Bool) (xs ys : List X) (x : X) → IsReordered xs (x ∷ ys) → p x ≡ false → list_any p ys ≡ list_any p xs
any_gone p xs ys x h e = any_same p ys xs (let b : count_by p xs ≡ cond (p x) 1 0 + count_by p ys = count_gone p xs ys x h in let c : cond {A = ℕ} (p x) 1 0 ≡ 0 = ap (λ b. cond {A = ℕ} b 1 0) e in omega arith)

pub none_counted : {X : Type 0} (p : X → Bool) (xs : List X) → count_by p xs ≡ 0 → AllByRecursion (λ x. p x ≡ false) xs
none_counted p [] h = tt
none_counted {X} p (x ∷ xs) h =
    let k : cond (p x) 1 0 + count_by p xs ≡ 0 = sym (sum_by-cons (λ x. cond (p x) 1 0) x xs) ∙ h in
    (no (p x) k, none_counted p xs (omega arith))
  where
    no : (b : Bool) → cond b 1 0 + count_by p xs ≡ 0 → b ≡ false
    no true k = absurd (omega arith)
    no false k = refl

-- where one at most passes and this one does, none of the others does
pub none_left : {X : Type 0} (p : X → Bool) (xs ys : List X) (x : X) → IsReordered xs (x ∷ ys) → count_by p xs ≤ 1 → p x ≡ true → AllByRecursion (λ x. p x ≡ false) ys
none_left p xs ys x h one e =
    none_counted p ys (let b : count_by p xs ≡ cond (p x) 1 0 + count_by p ys = count_gone p xs ys x h in let c : cond {A = ℕ} (p x) 1 0 ≡ 1 = ap (λ b. cond {A = ℕ} b 1 0) e in omega arith)

pub every_both : {X : Type 0} {P Q R : X → Type 0} → ((x : X) → P x → Q x → R x) → (xs : List X) → AllByRecursion P xs → AllByRecursion Q xs → AllByRecursion R xs
every_both f [] a b = tt
every_both f (x ∷ xs) a b = (f x a.0 b.0, every_both f xs a.1 b.1)

pub All-last : {X : Type 0} (P : X → Type 0) (xs : List X) (x : X) → AllByRecursion P xs → P x → AllByRecursion P (xs ++ x ∷ [])
All-last P xs x all h = All-join P xs (x ∷ []) all (h, tt)
