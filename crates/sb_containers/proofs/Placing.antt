-- Where the container of an epoch is, and where a bundle waits: from what the code sees.
use Rattle.std.proofs.Common.{◌≡◌, ℕ, suc, zero, ◌<◌, Bool, cond, eqb, ltb, List, [], ◌∷◌, ◌++◌, length, get_or, Some, None, Option, refl, ap, ◌∙◌, arith}
use Rattle.std.specs.Prelude.{◌≢◌, insert, slice_get, slice_set, is_some}
use Rattle.std.proofs.lemmas.Bool.{eq-eqb, ne_eqb, lt-ltb, le-ltb}
use Rattle.std.proofs.lemmas.Option.{same_Some}
use Rattle.sb_base.specs.bundle.declared.bundle.Bundle.{Bundle}
use Rattle.sb_base.specs.records.Reading.{◌>>=◌}
use Rattle.sb_containers.specs.declared.container.Cont.{Cont}
use Rattle.sb_containers.specs.Choices.{first_and_rest}
use Rattle.sb_containers.specs.Lanes.{fresh, in_epoch, take_from}
use Rattle.sb_containers.proofs.Lists.{any-pulled}

less_is_other : (a b : ℕ) → a < b → a ≢ b
less_is_other a b h e = absurd (omega arith)

more_is_other : (a b : ℕ) → b < a → a ≢ b
more_is_other a b h e = absurd (omega arith)

-- ---- the container of an epoch
module _ (epoch floor : ℕ) (change : Cont → Cont) where
  -- past a container of an earlier epoch
  in_epoch-past : (x : Cont) (cs : List Cont) → x.epoch < epoch → in_epoch epoch floor change (x ∷ cs) ≡ x ∷ in_epoch epoch floor change cs
  in_epoch-past x cs before =
      ap (λ b. cond b (change x ∷ cs) (cond (ltb epoch x.epoch) (change (fresh epoch floor) ∷ x ∷ cs) (x ∷ in_epoch epoch floor change cs))) (ne_eqb x.epoch epoch (less_is_other x.epoch epoch before))
      ∙ ap (λ b. cond b (change (fresh epoch floor) ∷ x ∷ cs) (x ∷ in_epoch epoch floor change cs)) (le-ltb epoch x.epoch (omega arith))

  pub in_epoch-there : (cs : List Cont) (i : ℕ) (c : Cont) → ((k : ℕ) (d : Cont) → k < i → (get_or cs k d).epoch < epoch) → slice_get cs i ≡ Some c → c.epoch ≡ epoch
      → in_epoch epoch floor change cs ≡ slice_set cs i (change c)
  in_epoch-there [] i c before there is = cc
  in_epoch-there (x ∷ cs) zero c before there is =
      let same : x ≡ c = same_Some x c there in
      ap (λ b. cond b (change x ∷ cs) (cond (ltb epoch x.epoch) (change (fresh epoch floor) ∷ x ∷ cs) (x ∷ in_epoch epoch floor change cs))) (eq-eqb x.epoch epoch (ap (λ (c : Cont). c.epoch) same ∙ is))
      ∙ ap (λ c. change c ∷ cs) same
  in_epoch-there (x ∷ cs) (suc i) c before there is =
      in_epoch-past x cs (before 0 x (omega arith)) ∙ ap (λ l. x ∷ l) (in_epoch-there cs i c (λ k d h. before (suc k) d (omega arith)) there is)

  pub in_epoch-new : (cs : List Cont) (i : ℕ) (c : Cont) → ((k : ℕ) (d : Cont) → k < i → (get_or cs k d).epoch < epoch) → slice_get cs i ≡ Some c → epoch < c.epoch
      → in_epoch epoch floor change cs ≡ insert cs i (change (fresh epoch floor))
  in_epoch-new [] i c before there later = cc
  in_epoch-new (x ∷ cs) zero c before there later =
      let same : x ≡ c = same_Some x c there in
      let e : x.epoch ≡ c.epoch = ap (λ (c : Cont). c.epoch) same in
      ap (λ b. cond b (change x ∷ cs) (cond (ltb epoch x.epoch) (change (fresh epoch floor) ∷ x ∷ cs) (x ∷ in_epoch epoch floor change cs))) (ne_eqb x.epoch epoch (more_is_other x.epoch epoch (omega arith)))
      ∙ ap (λ b. cond b (change (fresh epoch floor) ∷ x ∷ cs) (x ∷ in_epoch epoch floor change cs)) (lt-ltb epoch x.epoch (omega arith))
  in_epoch-new (x ∷ cs) (suc i) c before there later =
      in_epoch-past x cs (before 0 x (omega arith)) ∙ ap (λ l. x ∷ l) (in_epoch-new cs i c (λ k d h. before (suc k) d (omega arith)) there later)

  pub in_epoch-last : (cs : List Cont) → ((k : ℕ) (d : Cont) → k < length cs → (get_or cs k d).epoch < epoch) → in_epoch epoch floor change cs ≡ insert cs (length cs) (change (fresh epoch floor))
  in_epoch-last [] before = refl
  in_epoch-last (x ∷ cs) before = in_epoch-past x cs (before 0 x (omega arith)) ∙ ap (λ l. x ∷ l) (in_epoch-last cs (λ k d h. before (suc k) d (omega arith)))

-- ---- a waiting bundle
abbrev pub of_number : ℕ → Bundle → Bool
of_number number b = eqb b.number number

module _ (number : ℕ) where
  -- what taking does, where it is known whether the number is in the first container
  abbrev taking : Bool → Cont → List Cont → Option (Bundle × List Cont)
  taking here c cs =
      cond here (first_and_rest (of_number number) c.waiting >>= λ q. Some (q.0, record c { waiting = q.1; out = c.out ++ number ∷ [] } ∷ cs))
      (take_from number cs >>= λ q. Some (q.0, c ∷ q.1))

  take_from-past : (x : Cont) (cs : List Cont) → first_and_rest (of_number number) x.waiting ≡ None → take_from number (x ∷ cs) ≡ (take_from number cs >>= λ q. Some (q.0, x ∷ q.1))
  take_from-past x cs none = ap (λ b. taking b x cs) (any-pulled (of_number number) x.waiting ∙ ap is_some none)

  pub take_from-at : (cs : List Cont) (i : ℕ) (c : Cont) (q : Bundle × List Bundle) → ((k : ℕ) (d : Cont) → k < i → first_and_rest (of_number number) (get_or cs k d).waiting ≡ None)
      → slice_get cs i ≡ Some c → first_and_rest (of_number number) c.waiting ≡ Some q
      → take_from number cs ≡ Some (q.0, slice_set cs i (record c { waiting = q.1; out = c.out ++ number ∷ [] }))
  take_from-at [] i c q none there took = cc
  take_from-at (x ∷ cs) zero c q none there took =
      let same : x ≡ c = same_Some x c there in
      ap (λ x. take_from number (x ∷ cs)) same
      ∙ ap (λ b. taking b c cs) (any-pulled (of_number number) c.waiting ∙ ap is_some took)
      ∙ ap (λ (o : Option (Bundle × List Bundle)). o >>= λ q. Some (q.0, record c { waiting = q.1; out = c.out ++ number ∷ [] } ∷ cs)) took
  take_from-at (x ∷ cs) (suc i) c q none there took =
      take_from-past x cs (none 0 x (omega arith))
      ∙ ap (λ (o : Option (Bundle × List Cont)). o >>= λ q. Some (q.0, x ∷ q.1)) (take_from-at cs i c q (λ k d h. none (suc k) d (omega arith)) there took)

  pub take_from-none : (cs : List Cont) → ((k : ℕ) (d : Cont) → k < length cs → first_and_rest (of_number number) (get_or cs k d).waiting ≡ None) → take_from number cs ≡ None
  take_from-none [] none = refl
  take_from-none (x ∷ cs) none =
      take_from-past x cs (none 0 x (omega arith))
      ∙ ap (λ (o : Option (Bundle × List Cont)). o >>= λ q. Some (q.0, x ∷ q.1)) (take_from-none cs (λ k d h. none (suc k) d (omega arith)))
