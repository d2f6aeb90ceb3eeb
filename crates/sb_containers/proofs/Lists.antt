-- What the words on lists and lanes do to the records that wait.
use Rattle.sb_base.specs.NumberLemmas.{bind_some}
use Rattle.std.proofs.Common.{◌≡◌, ℕ, ◌+◌, Bool, true, false, cond, eqb, ltb, List, [], ◌∷◌, ◌++◌, Some, None, Option, sym, refl, ap, ◌∙◌, arith, add_assoc}
use Rattle.std.specs.List.{filter, sum_by, flat_map, list_any}
use Rattle.std.proofs.Math.Nat.{add_left_comm}
use Rattle.std.proofs.lemmas.List.Sums.{sum_by-append, sum_by-cons}
use Rattle.std.proofs.lemmas.List.Concat.{flat_map-append}
use Rattle.std.proofs.lemmas.Option.{same_Some}
use Rattle.std.specs.Prelude.{is_some, ◌||◌}
use Rattle.sb_base.specs.records.declared.item.Record.{Record}
use Rattle.sb_base.specs.bundle.declared.bundle.Bundle.{Bundle}
use Rattle.sb_containers.specs.declared.container.Cont.{Cont}
use Rattle.sb_base.specs.records.Reading.{◌>>=◌}
use Rattle.sb_containers.specs.Choices.{first_and_rest, is_empty}
use Rattle.sb_containers.specs.Lanes.{fresh, in_epoch, with_bundle, take_from}
use Rattle.sb_base.specs.SumLemmas.{IsReordered, sum_by-flat_map}

pub cond_is_some : {X : Type 0} (b : Bool) (o : Option X) (x : X) → cond b o None ≡ Some x → (b ≡ true) × (o ≡ Some x)
cond_is_some true o x h = (refl, h)
cond_is_some false o x h = cc

-- what the test for an empty list says
pub empty_is : {X : Type 0} (l : List X) → is_empty l ≡ true → l ≡ []
empty_is [] h = refl
empty_is (x ∷ l) h = cc

-- two filters in the other order
pub filter_swap : {X : Type 0} (p q : X → Bool) (xs : List X) → filter p (filter q xs) ≡ filter q (filter p xs)
filter_swap p q [] = refl
filter_swap {X} p q (x ∷ xs) = by_case (p x) (q x) refl refl (filter_swap p q xs)
  where
    by_case : (a b : Bool) → p x ≡ a → q x ≡ b → filter p (filter q xs) ≡ filter q (filter p xs) → filter p (cond b (x ∷ filter q xs) (filter q xs)) ≡ filter q (cond a (x ∷ filter p xs) (filter p xs))
    by_case true true e f h = (λ i. cond (e i) (x ∷ h i) (h i)) ∙ sym (λ i. cond (f i) (x ∷ filter q (filter p xs)) (filter q (filter p xs)))
    by_case true false e f h = h ∙ sym (λ i. cond (f i) (x ∷ filter q (filter p xs)) (filter q (filter p xs)))
    by_case false true e f h = (λ i. cond (e i) (x ∷ filter p (filter q xs)) (filter p (filter q xs))) ∙ h
    by_case false false e f h = h

-- what was pulled out, and the rest
pub IsReordered-pulled : {X : Type 0} (p : X → Bool) (xs : List X) (q : X × List X) → first_and_rest p xs ≡ Some q → IsReordered xs (q.0 ∷ q.1)
IsReordered-pulled p [] q h f = cc
IsReordered-pulled {X} p (y ∷ xs) q h f = by_case (p y) h (λ r e. IsReordered-pulled p xs r e f)
  where
    by_case : (b : Bool) → cond {A = Option (X × List X)} b (Some (y, xs)) (first_and_rest p xs >>= λ q. Some (q.0, y ∷ q.1)) ≡ Some q
        → ((r : X × List X) → first_and_rest p xs ≡ Some r → sum_by f xs ≡ sum_by f (r.0 ∷ r.1)) → sum_by f (y ∷ xs) ≡ sum_by f (q.0 ∷ q.1)
    by_case true h ih = ap (λ (r : X × List X). sum_by f (r.0 ∷ r.1)) (same_Some _ _ h)
    by_case false h ih =
        let b = bind_some (first_and_rest p xs) (λ (q : X × List X). Some (q.0, y ∷ q.1)) q h in
        let same : ◌≡◌ {A = X × List X} (b.0.0, y ∷ b.0.1) q = same_Some _ _ b.2 in
        sum_by-cons f y xs ∙ ap (λ n. f y + n) (ih b.0 b.1 ∙ sum_by-cons f b.0.0 b.0.1)
        ∙ add_left_comm (f y) (f b.0.0) (sum_by f b.0.1) ∙ sym (ap (λ n. f b.0.0 + n) (sum_by-cons f y b.0.1)) ∙ sym (sum_by-cons f b.0.0 (y ∷ b.0.1))
        ∙ ap (λ (r : X × List X). sum_by f (r.0 ∷ r.1)) same

-- an element passes just where one is pulled out
is_some-then : {A B : Type 0} (o : Option A) (f : A → B) → is_some (o >>= λ x. Some (f x)) ≡ is_some o
is_some-then None f = refl
is_some-then (Some x) f = refl

pub any-pulled : {X : Type 0} (p : X → Bool) (xs : List X) → list_any p xs ≡ is_some (first_and_rest p xs)
any-pulled p [] = refl
any-pulled {X} p (x ∷ xs) = by_case (p x) (any-pulled p xs)
  where
    by_case : (b : Bool) → list_any p xs ≡ is_some (first_and_rest p xs) → (b || list_any p xs) ≡ is_some (cond {A = Option (X × List X)} b (Some (x, xs)) (first_and_rest p xs >>= λ q. Some (q.0, x ∷ q.1)))
    by_case true h = refl
    by_case false h = h ∙ sym (is_some-then (first_and_rest p xs) (λ q. (q.0, x ∷ q.1)))

-- the records that wait in containers
abbrev pub waiting_of : List Cont → List Record
waiting_of conts = flat_map (λ c. flat_map (λ b. b.records) c.waiting) conts

abbrev pub of_cont : Cont → List Record
of_cont c = flat_map (λ b. b.records) c.waiting

-- a change in an epoch that adds these records adds them to what waits
pub waiting-in_epoch : (epoch floor : ℕ) (change : Cont → Cont) (more : List Record)
    → ((c : Cont) → IsReordered (of_cont (change c)) (more ++ of_cont c))
    → (cs : List Cont) → IsReordered (waiting_of (in_epoch epoch floor change cs)) (more ++ waiting_of cs)
waiting-in_epoch epoch floor change more adds [] f =
    sum_by-append f (of_cont (change (fresh epoch floor))) [] ∙ (λ i. adds (fresh epoch floor) f i + 0) ∙ omega arith
waiting-in_epoch epoch floor change more adds (c ∷ cs) f = by_case (eqb c.epoch epoch) (ltb epoch c.epoch) (waiting-in_epoch epoch floor change more adds cs f)
  where
    added : (c : Cont) → sum_by f (of_cont (change c)) ≡ sum_by f more + sum_by f (of_cont c)
    added c = adds c f ∙ sum_by-append f more (of_cont c)

    exact : sum_by f (more ++ waiting_of (c ∷ cs)) ≡ sum_by f more + (sum_by f (of_cont c) + sum_by f (waiting_of cs))
    exact = sum_by-append f more (waiting_of (c ∷ cs)) ∙ ap (λ n. sum_by f more + n) (sum_by-append f (of_cont c) (waiting_of cs))

    here : sum_by f (waiting_of (change c ∷ cs)) ≡ sum_by f (more ++ waiting_of (c ∷ cs))
    here = sum_by-append f (of_cont (change c)) (waiting_of cs) ∙ ap (λ n. n + sum_by f (waiting_of cs)) (added c) ∙ omega arith ∙ sym exact

    new : sum_by f (waiting_of (change (fresh epoch floor) ∷ c ∷ cs)) ≡ sum_by f (more ++ waiting_of (c ∷ cs))
    new =
        sum_by-append f (of_cont (change (fresh epoch floor))) (waiting_of (c ∷ cs))
        ∙ ap (λ n. n + sum_by f (waiting_of (c ∷ cs))) (added (fresh epoch floor)) ∙ omega arith ∙ sym (sum_by-append f more (waiting_of (c ∷ cs)))

    on : sum_by f (waiting_of (in_epoch epoch floor change cs)) ≡ sum_by f (more ++ waiting_of cs) → sum_by f (waiting_of (c ∷ in_epoch epoch floor change cs)) ≡ sum_by f (more ++ waiting_of (c ∷ cs))
    on h =
        sum_by-append f (of_cont c) (waiting_of (in_epoch epoch floor change cs)) ∙ ap (λ n. sum_by f (of_cont c) + n) (h ∙ sum_by-append f more (waiting_of cs))
        ∙ add_left_comm (sum_by f (of_cont c)) (sum_by f more) (sum_by f (waiting_of cs)) ∙ sym exact

    by_case : (a b : Bool) → sum_by f (waiting_of (in_epoch epoch floor change cs)) ≡ sum_by f (more ++ waiting_of cs)
        → sum_by f (waiting_of (cond a (change c ∷ cs) (cond b (change (fresh epoch floor) ∷ c ∷ cs) (c ∷ in_epoch epoch floor change cs)))) ≡ sum_by f (more ++ waiting_of (c ∷ cs))
    by_case true b h = here
    by_case false true h = new
    by_case false false h = on h

-- a bundle more
pub waiting-with_bundle : (b : Bundle) (c : Cont) → IsReordered (of_cont (with_bundle b c)) (b.records ++ of_cont c)
waiting-with_bundle b c f =
    ap (sum_by f) (flat_map-append (λ b. b.records) c.waiting (b ∷ []))
    ∙ sum_by-append f (of_cont c) (b.records ++ []) ∙ ap (λ n. sum_by f (of_cont c) + n) (sum_by-append f b.records [])
    ∙ omega arith ∙ sym (sum_by-append f b.records (of_cont c))

-- a bundle is taken
pub waiting-take_from : (number : ℕ) (cs : List Cont) (q : Bundle × List Cont) → take_from number cs ≡ Some q → IsReordered (waiting_of cs) (q.0.records ++ waiting_of q.1)
waiting-take_from number [] q h f = cc
waiting-take_from number (c ∷ cs) q h f = by_case (list_any (λ b. eqb b.number number) c.waiting) h (λ r e. waiting-take_from number cs r e f)
  where
    by_case : (a : Bool)
        → cond {A = Option (Bundle × List Cont)} a (first_and_rest (λ b. eqb b.number number) c.waiting >>= λ q. Some (q.0, record c { waiting = q.1; out = c.out ++ number ∷ [] } ∷ cs)) (take_from number cs >>= λ q. Some (q.0, c ∷ q.1)) ≡ Some q
        → ((r : Bundle × List Cont) → take_from number cs ≡ Some r → sum_by f (waiting_of cs) ≡ sum_by f (r.0.records ++ waiting_of r.1))
        → sum_by f (waiting_of (c ∷ cs)) ≡ sum_by f (q.0.records ++ waiting_of q.1)
    by_case true h ih =
        let b = bind_some (first_and_rest (λ b. eqb b.number number) c.waiting) _ q h in
        let same : ◌≡◌ {A = Bundle × List Cont} (b.0.0, record c { waiting = b.0.1; out = c.out ++ number ∷ [] } ∷ cs) q = same_Some _ _ b.2 in
        let got = IsReordered-pulled (λ b. eqb b.number number) c.waiting b.0 b.1 (λ b. sum_by f b.records) in
        let one : sum_by f (of_cont c) ≡ sum_by f b.0.0.records + sum_by f (flat_map (λ b. b.records) b.0.1) =
        sum_by-flat_map f (λ b. b.records) c.waiting ∙ got ∙ sum_by-cons (λ b. sum_by f b.records) b.0.0 b.0.1 ∙ ap (λ n. sum_by f b.0.0.records + n) (sym (sum_by-flat_map f (λ b. b.records) b.0.1)) in
        sum_by-append f (of_cont c) (waiting_of cs) ∙ ap (λ n. n + sum_by f (waiting_of cs)) one
        ∙ add_assoc (sum_by f b.0.0.records) _ _ ∙ ap (λ n. sum_by f b.0.0.records + n) (sym (sum_by-append f (flat_map (λ b. b.records) b.0.1) (waiting_of cs)))
        ∙ sym (sum_by-append f b.0.0.records _)
        ∙ ap (λ (r : Bundle × List Cont). sum_by f (r.0.records ++ waiting_of r.1)) same
    by_case false h ih =
        let b = bind_some (take_from number cs) _ q h in
        let same : ◌≡◌ {A = Bundle × List Cont} (b.0.0, c ∷ b.0.1) q = same_Some _ _ b.2 in
        sum_by-append f (of_cont c) (waiting_of cs) ∙ ap (λ n. sum_by f (of_cont c) + n) (ih b.0 b.1 ∙ sum_by-append f b.0.0.records (waiting_of b.0.1))
        ∙ add_left_comm (sum_by f (of_cont c)) (sum_by f b.0.0.records) (sum_by f (waiting_of b.0.1))
        ∙ ap (λ n. sum_by f b.0.0.records + n) (sym (sum_by-append f (of_cont c) (waiting_of b.0.1))) ∙ sym (sum_by-append f b.0.0.records (waiting_of (c ∷ b.0.1)))
        ∙ ap (λ (r : Bundle × List Cont). sum_by f (r.0.records ++ waiting_of r.1)) same
