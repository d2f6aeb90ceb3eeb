-- What the changes of a lane do to numbers, epochs and floors.
use Rattle.sb_containers.specs.base.NumberLemmas.{bind_some}
use Rattle.std.proofs.Common.{◌≡◌, ℕ, suc, zero, ◌+◌, ◌≤◌, Bool, true, false, not, cond, eqb, ltb, List, [], ◌∷◌, ◌++◌, Some, Option, sym, refl, ap, subst, ◌∙◌, arith, ⊎_elim, zero-add}
use Rattle.std.specs.Prelude.{◌&&◌, ◌||◌, ◌≢◌, count_by, sum_by}
use Rattle.std.specs.List.{filter, list_any, AllByRecursion}
use Rattle.std.proofs.lemmas.Bool.{eqb-true, eqb-false, eq-eqb, ne_eqb, cases_eq, ltb-true}
use Rattle.std.proofs.lemmas.List.Sums.{sum_by-cons}
use Rattle.std.proofs.Math.Bool.{or-true}
use Rattle.std.proofs.lemmas.Option.{same_Some}
use Rattle.sb_containers.specs.base.records.declared.item.Record.{Record}
use Rattle.sb_containers.specs.base.bundle.declared.bundle.Bundle.{Bundle}
use Rattle.sb_containers.specs.declared.container.Cont.{Cont}
use Rattle.sb_containers.specs.declared.container.CoreLane.{CoreLane}
use Rattle.sb_containers.specs.base.records.Reading.{◌>>=◌}
use Rattle.sb_containers.specs.base.SumLemmas.{any_by_count}
use Rattle.sb_containers.specs.Lanes.{fresh, in_epoch, take_from, finish_in, with_first_closing, with_bundle, with_arrival, with_seal}
use Rattle.sb_containers.specs.Choices.{first_and_rest}
use Rattle.sb_containers.specs.LaneOrder.{cont_at}
use Rattle.sb_core.specs.Soundness.{out_of, numbers_of, AreNumbered}
use Rattle.sb_containers.proofs.Lists.{IsReordered-pulled}
use Rattle.sb_containers.proofs.LaneLaws.{DifferInBundles}
use Rattle.sb_core.proofs.sound.HeldLists.{count_snoc}

-- ---- a change in an epoch
pub sum-in_epoch : (g : Cont → ℕ) (more epoch floor : ℕ) (change : Cont → Cont) → ((c : Cont) → g (change c) ≡ more + g c) → g (fresh epoch floor) ≡ 0 → (cs : List Cont) → sum_by g (in_epoch epoch floor change cs) ≡ more + sum_by g cs
sum-in_epoch g more epoch floor change adds none [] = sum_by-cons g (change (fresh epoch floor)) [] ∙ omega (arith, adds (fresh epoch floor))
sum-in_epoch g more epoch floor change adds none (c ∷ cs) = by_case (eqb c.epoch epoch) (ltb epoch c.epoch) (sum-in_epoch g more epoch floor change adds none cs)
  where
    by_case : (a b : Bool) → sum_by g (in_epoch epoch floor change cs) ≡ more + sum_by g cs
        → sum_by g (cond a (change c ∷ cs) (cond b (change (fresh epoch floor) ∷ c ∷ cs) (c ∷ in_epoch epoch floor change cs))) ≡ more + sum_by g (c ∷ cs)
    by_case true b ih = omega (arith, sum_by-cons g (change c) cs, sum_by-cons g c cs, adds c)
    by_case false true ih = omega (arith, sum_by-cons g (change (fresh epoch floor)) (c ∷ cs), adds (fresh epoch floor))
    by_case false false ih = omega (arith, sum_by-cons g c (in_epoch epoch floor change cs), sum_by-cons g c cs)

module _ (epoch floor : ℕ) (change : Cont → Cont) (epochs : (c : Cont) → (change c).epoch ≡ c.epoch) (floors : (c : Cont) → (change c).floor ≡ c.floor) where
  pub All-in_epoch : (P : ℕ → ℕ → Type 0) → P epoch floor → (cs : List Cont) → AllByRecursion (λ c. P c.epoch c.floor) cs → AllByRecursion (λ c. P c.epoch c.floor) (in_epoch epoch floor change cs)
  All-in_epoch P new [] all = (subst (λ z. P (change (fresh epoch floor)).epoch z) (sym (floors (fresh epoch floor))) (subst (λ z. P z floor) (sym (epochs (fresh epoch floor))) new), tt)
  All-in_epoch P new (c ∷ cs) all = by_case (eqb c.epoch epoch) (ltb epoch c.epoch) (All-in_epoch P new cs all.1)
    where
      moved : (c : Cont) → P c.epoch c.floor → P (change c).epoch (change c).floor
      moved c h = subst (λ z. P (change c).epoch z) (sym (floors c)) (subst (λ z. P z c.floor) (sym (epochs c)) h)

      by_case : (a b : Bool) → AllByRecursion (λ c. P c.epoch c.floor) (in_epoch epoch floor change cs)
          → AllByRecursion (λ c. P c.epoch c.floor) (cond a (change c ∷ cs) (cond b (change (fresh epoch floor) ∷ c ∷ cs) (c ∷ in_epoch epoch floor change cs)))
      by_case true b ih = (moved c all.0, all.1)
      by_case false true ih = (moved (fresh epoch floor) new, all)
      by_case false false ih = (all.0, ih)

  pub has-in_epoch : (e f : ℕ) (cs : List Cont) → list_any (λ c. (eqb c.epoch e) && (eqb c.floor f)) cs ≡ true → list_any (λ c. (eqb c.epoch e) && (eqb c.floor f)) (in_epoch epoch floor change cs) ≡ true
  has-in_epoch e f [] h = cc
  has-in_epoch e f (c ∷ cs) h = by_case (eqb c.epoch epoch) (ltb epoch c.epoch) (λ k. has-in_epoch e f cs k)
    where
      test : Cont → Bool
      test c = (eqb c.epoch e) && (eqb c.floor f)

      or_later : (a b d : Bool) → (a || b) ≡ true → (b ≡ true → d ≡ true) → (a || d) ≡ true
      or_later true b d h k = refl
      or_later false b d h k = k h

      by_case : (a b : Bool) → (list_any (λ c. (eqb c.epoch e) && (eqb c.floor f)) cs ≡ true → list_any (λ c. (eqb c.epoch e) && (eqb c.floor f)) (in_epoch epoch floor change cs) ≡ true)
          → list_any (λ c. (eqb c.epoch e) && (eqb c.floor f)) (cond a (change c ∷ cs) (cond b (change (fresh epoch floor) ∷ c ∷ cs) (c ∷ in_epoch epoch floor change cs))) ≡ true
      by_case true b ih = (λ i. ((eqb (epochs c i) e) && (eqb (floors c i) f)) || list_any (λ c. (eqb c.epoch e) && (eqb c.floor f)) cs) ∙ h
      by_case false true ih = ap (λ b. ((eqb (change (fresh epoch floor)).epoch e) && (eqb (change (fresh epoch floor)).floor f)) || b) h ∙ or-true _
      by_case false false ih = or_later ((eqb c.epoch e) && (eqb c.floor f)) (list_any (λ c. (eqb c.epoch e) && (eqb c.floor f)) cs) _ h ih

-- ---- a bundle comes
pub numbered-arrival : (epoch floor : ℕ) (records : List Record) (lane : CoreLane) → AreNumbered lane → AreNumbered (with_arrival epoch floor records lane)
numbered-arrival epoch floor records lane ok = record { once = once; given = given }
  where
    more : ℕ → ℕ
    more n = cond (eqb (lane.arrived + 1) n) 1 0

    sums : (n : ℕ) → sum_by (numbers_of n) (with_arrival epoch floor records lane).conts ≡ cond (eqb (lane.arrived + 1) n) 1 0 + sum_by (numbers_of n) lane.conts
    sums n = sum-in_epoch (numbers_of n) (cond (eqb (lane.arrived + 1) n) 1 0) epoch floor (with_bundle (record { number = lane.arrived + 1; epoch = epoch; floor = floor; records = records }))
        (λ c. ap (λ x. x + count_by (λ x. eqb x n) c.out) (count_snoc (λ (b : Bundle). eqb b.number n) c.waiting (record { number = lane.arrived + 1; epoch = epoch; floor = floor; records = records })) ∙ swap _ _ _) refl lane.conts
      where
        swap : (a b c : ℕ) → (a + b) + c ≡ b + (a + c)
        swap a b c = omega arith

    once : (n : ℕ) → sum_by (numbers_of n) (with_arrival epoch floor records lane).conts ≤ 1
    once n = ⊎_elim
        (λ e. let a : cond {A = ℕ} (eqb (lane.arrived + 1) n) 1 0 ≡ 1 = ap (λ b. cond {A = ℕ} b 1 0) (eq-eqb (lane.arrived + 1) n e) in
        let b : sum_by (numbers_of n) lane.conts ≡ 0 = zero_or (sum_by (numbers_of n) lane.conts) (λ h. let k : n ≤ lane.arrived = (ok.given n h).1 in absurd (omega arith)) in
        omega (arith, sums n))
        (λ ne. let a : cond {A = ℕ} (eqb (lane.arrived + 1) n) 1 0 ≡ 0 = ap (λ b. cond {A = ℕ} b 1 0) (ne_eqb (lane.arrived + 1) n ne) in omega (arith, sums n, ok.once n))
        (cases_eq (lane.arrived + 1) n)
      where
        zero_or : (x : ℕ) → (1 ≤ x → ⊥) → x ≡ 0
        zero_or zero h = refl
        zero_or (suc x) h = absurd (h (omega arith))

    given : (n : ℕ) → 1 ≤ sum_by (numbers_of n) (with_arrival epoch floor records lane).conts → (1 ≤ n) × (n ≤ lane.arrived + 1)
    given n h = ⊎_elim
        (λ e. (omega arith, omega arith))
        (λ ne. let a : cond {A = ℕ} (eqb (lane.arrived + 1) n) 1 0 ≡ 0 = ap (λ b. cond {A = ℕ} b 1 0) (ne_eqb (lane.arrived + 1) n ne) in let k = ok.given n (omega (arith, sums n)) in (k.0, omega (arith, k.1)))
        (cases_eq (lane.arrived + 1) n)

pub outs-arrival : (epoch floor : ℕ) (records : List Record) (lane : CoreLane) (n : ℕ) → sum_by (out_of n) (with_arrival epoch floor records lane).conts ≡ sum_by (out_of n) lane.conts
outs-arrival epoch floor records lane n = sum-in_epoch (out_of n) 0 epoch floor (with_bundle (record { number = lane.arrived + 1; epoch = epoch; floor = floor; records = records })) (λ c. sym (zero-add _)) refl lane.conts ∙ zero-add _

-- ---- sums as before keep the numbers
pub numbered-less : (lane with : CoreLane) → with.arrived ≡ lane.arrived → ((n : ℕ) → sum_by (numbers_of n) with.conts ≤ sum_by (numbers_of n) lane.conts) → AreNumbered lane → AreNumbered with
numbered-less lane with same less ok = record { once = λ n. omega (arith, less n, ok.once n); given = λ n h. let k = ok.given n (omega (arith, less n)) in (k.0, omega (arith, k.1)) }

pub numbered-seal : (mark n : ℕ) (lane : CoreLane) → sum_by (numbers_of n) (with_seal mark lane).conts ≡ sum_by (numbers_of n) lane.conts
numbered-seal mark n lane = sum-in_epoch (numbers_of n) 0 _ _ (λ c. record c { mark = Some mark }) (λ c. sym (zero-add _)) refl lane.conts ∙ zero-add _

pub outs-seal : (mark n : ℕ) (lane : CoreLane) → sum_by (out_of n) (with_seal mark lane).conts ≡ sum_by (out_of n) lane.conts
outs-seal mark n lane = sum-in_epoch (out_of n) 0 _ _ (λ c. record c { mark = Some mark }) (λ c. sym (zero-add _)) refl lane.conts ∙ zero-add _

-- ---- a bundle is taken
-- the number pulled is the one that was asked for
pub pulled-passes : {X : Type 0} (p : X → Bool) (xs : List X) (q : X × List X) → first_and_rest p xs ≡ Some q → p q.0 ≡ true
pulled-passes p [] q h = cc
pulled-passes {X} p (x ∷ xs) q h = by_case (p x) refl h (λ r e. pulled-passes p xs r e)
  where
    by_case : (b : Bool) → p x ≡ b → cond {A = Option (X × List X)} b (Some (x, xs)) (first_and_rest p xs >>= λ q. Some (q.0, x ∷ q.1)) ≡ Some q → ((r : X × List X) → first_and_rest p xs ≡ Some r → p r.0 ≡ true) → p q.0 ≡ true
    by_case true e h ih = subst (λ (r : X × List X). p r.0 ≡ true) (same_Some _ _ h) e
    by_case false e h ih =
        let b = bind_some (first_and_rest p xs) (λ (q : X × List X). Some (q.0, x ∷ q.1)) q h in
        subst (λ (r : X × List X). p r.0 ≡ true) (same_Some _ _ b.2) (ih b.0 b.1)

pub taken-sums : (number n : ℕ) (cs : List Cont) (q : Bundle × List Cont) → take_from number cs ≡ Some q
    → (sum_by (numbers_of n) q.1 ≡ sum_by (numbers_of n) cs) × (sum_by (out_of n) q.1 ≡ sum_by (out_of n) cs + cond (eqb number n) 1 0)
taken-sums number n [] q h = cc
taken-sums number n (c ∷ cs) q h = by_case (list_any (λ b. eqb b.number number) c.waiting) h (λ r e. taken-sums number n cs r e)
  where
    by_case : (a : Bool)
        → cond {A = Option (Bundle × List Cont)} a (first_and_rest (λ b. eqb b.number number) c.waiting >>= λ q. Some (q.0, record c { waiting = q.1; out = c.out ++ number ∷ [] } ∷ cs)) (take_from number cs >>= λ q. Some (q.0, c ∷ q.1)) ≡ Some q
        → ((r : Bundle × List Cont) → take_from number cs ≡ Some r → (sum_by (numbers_of n) r.1 ≡ sum_by (numbers_of n) cs) × (sum_by (out_of n) r.1 ≡ sum_by (out_of n) cs + cond (eqb number n) 1 0))
        → (sum_by (numbers_of n) q.1 ≡ sum_by (numbers_of n) (c ∷ cs)) × (sum_by (out_of n) q.1 ≡ sum_by (out_of n) (c ∷ cs) + cond (eqb number n) 1 0)
    by_case true h ih =
        let b = bind_some (first_and_rest (λ b. eqb b.number number) c.waiting) _ q h in
        let same : ◌≡◌ {A = Bundle × List Cont} (b.0.0, record c { waiting = b.0.1; out = c.out ++ number ∷ [] } ∷ cs) q = same_Some _ _ b.2 in
        let is : b.0.0.number ≡ number = eqb-true b.0.0.number number (pulled-passes (λ b. eqb b.number number) c.waiting b.0 b.1) in
        let w : count_by (λ (b : Bundle). eqb b.number n) c.waiting ≡ cond (eqb number n) 1 0 + count_by (λ (b : Bundle). eqb b.number n) b.0.1 =
        IsReordered-pulled (λ b. eqb b.number number) c.waiting b.0 b.1 (λ b. cond (eqb b.number n) 1 0) ∙ sum_by-cons (λ b. cond (eqb b.number n) 1 0) b.0.0 b.0.1 ∙ ap (λ z. cond (eqb z n) 1 0 + count_by (λ (b : Bundle). eqb b.number n) b.0.1) is in
        let o : count_by (λ x. eqb x n) (c.out ++ number ∷ []) ≡ count_by (λ x. eqb x n) c.out + cond (eqb number n) 1 0 = count_snoc (λ x. eqb x n) c.out number in
        let taken : Cont = record c { waiting = b.0.1; out = c.out ++ number ∷ [] } in
        let s1 : sum_by (numbers_of n) (taken ∷ cs) ≡ (count_by (λ (b : Bundle). eqb b.number n) b.0.1 + count_by (λ x. eqb x n) (c.out ++ number ∷ [])) + sum_by (numbers_of n) cs = sum_by-cons (numbers_of n) taken cs in
        let s2 : sum_by (numbers_of n) (c ∷ cs) ≡ (count_by (λ (b : Bundle). eqb b.number n) c.waiting + count_by (λ x. eqb x n) c.out) + sum_by (numbers_of n) cs = sum_by-cons (numbers_of n) c cs in
        let s3 : sum_by (out_of n) (taken ∷ cs) ≡ count_by (λ x. eqb x n) (c.out ++ number ∷ []) + sum_by (out_of n) cs = sum_by-cons (out_of n) taken cs in
        let s4 : sum_by (out_of n) (c ∷ cs) ≡ count_by (λ x. eqb x n) c.out + sum_by (out_of n) cs = sum_by-cons (out_of n) c cs in
        subst (λ (r : Bundle × List Cont). (sum_by (numbers_of n) r.1 ≡ sum_by (numbers_of n) (c ∷ cs)) × (sum_by (out_of n) r.1 ≡ sum_by (out_of n) (c ∷ cs) + cond (eqb number n) 1 0)) same
        (omega arith, omega arith)
    by_case false h ih =
        let b = bind_some (take_from number cs) _ q h in
        let same : ◌≡◌ {A = Bundle × List Cont} (b.0.0, c ∷ b.0.1) q = same_Some _ _ b.2 in
        let k = ih b.0 b.1 in
        subst (λ (r : Bundle × List Cont). (sum_by (numbers_of n) r.1 ≡ sum_by (numbers_of n) (c ∷ cs)) × (sum_by (out_of n) r.1 ≡ sum_by (out_of n) (c ∷ cs) + cond (eqb number n) 1 0)) same (
          sum_by-cons (numbers_of n) c b.0.1 ∙ ap (λ z. numbers_of n c + z) k.0 ∙ sym (sum_by-cons (numbers_of n) c cs),
          sum_by-cons (out_of n) c b.0.1 ∙ ap (λ z. out_of n c + z) k.1 ∙ assoc _ _ _ ∙ ap (λ z. z + cond (eqb number n) 1 0) (sym (sum_by-cons (out_of n) c cs)),
        )
      where
        assoc : (a b d : ℕ) → a + (b + d) ≡ (a + b) + d
        assoc a b d = omega arith

-- ---- containers with the same epochs and floors
abbrev pub SameEpochs : List Cont → List Cont → Type 0
SameEpochs [] [] = Unit {0}
SameEpochs [] (d ∷ ds) = ⊥
SameEpochs (c ∷ cs) [] = ⊥
SameEpochs (c ∷ cs) (d ∷ ds) = ((c.epoch ≡ d.epoch) × (c.floor ≡ d.floor)) × SameEpochs cs ds

pub same-differ : (bound : ℕ) (cs ds : List Cont) → DifferInBundles bound cs ds → SameEpochs cs ds
same-differ bound [] [] s = tt
same-differ bound [] (d ∷ ds) s = absurd s
same-differ bound (c ∷ cs) [] s = absurd s
same-differ bound (c ∷ cs) (d ∷ ds) s = ((ap (λ (c : Cont). c.epoch) s.0, ap (λ (c : Cont). c.floor) s.0), same-differ bound cs ds s.2)

pub same_epochs : (cs : List Cont) → SameEpochs cs cs
same_epochs [] = tt
same_epochs (c ∷ cs) = ((refl, refl), same_epochs cs)

pub same-first_closing : (cs : List Cont) → SameEpochs cs (with_first_closing cs)
same-first_closing [] = tt
same-first_closing (c ∷ cs) = ((refl, refl), same_epochs cs)

pub All-same : (P : ℕ → ℕ → Type 0) (cs ds : List Cont) → SameEpochs cs ds → AllByRecursion (λ c. P c.epoch c.floor) cs → AllByRecursion (λ c. P c.epoch c.floor) ds
All-same P [] [] s all = tt
All-same P [] (d ∷ ds) s all = absurd s
All-same P (c ∷ cs) [] s all = absurd s
All-same P (c ∷ cs) (d ∷ ds) s all = (subst (λ z. P z d.floor) s.0.0 (subst (λ z. P c.epoch z) s.0.1 all.0), All-same P cs ds s.1 all.1)

pub has-same : (e f : ℕ) (cs ds : List Cont) → SameEpochs cs ds → list_any (λ c. (eqb c.epoch e) && (eqb c.floor f)) cs ≡ list_any (λ c. (eqb c.epoch e) && (eqb c.floor f)) ds
has-same e f [] [] s = refl
has-same e f [] (d ∷ ds) s = absurd s
has-same e f (c ∷ cs) [] s = absurd s
has-same e f (c ∷ cs) (d ∷ ds) s = λ i. ((eqb (s.0.0 i) e) && (eqb (s.0.1 i) f)) || has-same e f cs ds s.1 i

-- ---- a container that is there
pub has-at : (e f : ℕ) (cs : List Cont) (c : Cont) → cont_at e cs ≡ Some c → c.floor ≡ f → list_any (λ c. (eqb c.epoch e) && (eqb c.floor f)) cs ≡ true
has-at e f [] c h k = cc
has-at e f (x ∷ cs) c h k = by_case (eqb x.epoch e) refl h (λ z. has-at e f cs c z k)
  where
    by_case : (b : Bool) → eqb x.epoch e ≡ b → cond b (Some x) (cont_at e cs) ≡ Some c → (cont_at e cs ≡ Some c → list_any (λ c. (eqb c.epoch e) && (eqb c.floor f)) cs ≡ true) → (((eqb x.epoch e) && (eqb x.floor f)) || list_any (λ c. (eqb c.epoch e) && (eqb c.floor f)) cs) ≡ true
    by_case true q h ih = let z : x.floor ≡ f = ap (λ (c : Cont). c.floor) (same_Some x c h) ∙ k in (λ i. (q i && eq-eqb x.floor f z i) || list_any (λ c. (eqb c.epoch e) && (eqb c.floor f)) cs)
    by_case false q h ih = ap (λ b. ((eqb x.epoch e) && (eqb x.floor f)) || b) (ih h) ∙ or-true _

-- ---- a Work is finished
filtered : (number n : ℕ) (l : List ℕ) → count_by (λ x. eqb x n) (filter (λ x. not (eqb x number)) l) ≡ cond (eqb n number) 0 (count_by (λ x. eqb x n) l)
filtered number n [] = elim (eqb n number) as (λ b. 0 ≡ cond {A = ℕ} b 0 0) [ true ↦ refl | false ↦ refl ]
filtered number n (x ∷ l) = by_case (eqb n number) (eqb x number) (eqb x n) refl refl refl (filtered number n l)
  where
    by_case : (a b d : Bool) → eqb n number ≡ a → eqb x number ≡ b → eqb x n ≡ d → count_by (λ x. eqb x n) (filter (λ x. not (eqb x number)) l) ≡ cond a 0 (count_by (λ x. eqb x n) l)
        → count_by (λ x. eqb x n) (cond (not b) (x ∷ filter (λ x. not (eqb x number)) l) (filter (λ x. not (eqb x number)) l)) ≡ cond a 0 (count_by (λ x. eqb x n) (x ∷ l))
    by_case true true d p q r ih = ih
    by_case true false true p q r ih = absurd (eqb-false x number q (eqb-true x n r ∙ eqb-true n number p))
    by_case true false false p q r ih = sum_by-cons (λ x. cond (eqb x n) 1 0) x (filter (λ x. not (eqb x number)) l) ∙ (λ i. cond (r i) 1 0 + ih i)
    by_case false true true p q r ih = absurd (eqb-false n number p (sym (eqb-true x n r) ∙ eqb-true x number q))
    by_case false true false p q r ih = ih ∙ sym (sum_by-cons (λ x. cond (eqb x n) 1 0) x l ∙ ap (λ b. cond b 1 0 + count_by (λ x. eqb x n) l) r ∙ omega arith)
    by_case false false d p q r ih = sum_by-cons (λ x. cond (eqb x n) 1 0) x (filter (λ x. not (eqb x number)) l) ∙ ap (λ z. cond (eqb x n) 1 0 + z) ih ∙ sym (sum_by-cons (λ x. cond (eqb x n) 1 0) x l)

-- no number is more often there; another is as often out
pub finished-sums : (epoch number n : ℕ) (cs : List Cont) → (sum_by (numbers_of n) (finish_in epoch number cs) ≤ sum_by (numbers_of n) cs) × (n ≢ number → sum_by (out_of n) (finish_in epoch number cs) ≡ sum_by (out_of n) cs)
finished-sums epoch number n [] = (omega arith, λ _. refl)
finished-sums epoch number n (c ∷ cs) = by_case (eqb c.epoch epoch) (finished-sums epoch number n cs)
  where
    change : Cont → Cont
    change c = record c { out = filter (λ x. not (eqb x number)) c.out }

    less : count_by (λ x. eqb x n) (filter (λ x. not (eqb x number)) c.out) ≤ count_by (λ x. eqb x n) c.out
    less = subst (λ z. z ≤ count_by (λ x. eqb x n) c.out) (sym (filtered number n c.out)) (pick (eqb n number))
      where
        pick : (b : Bool) → cond b 0 (count_by (λ x. eqb x n) c.out) ≤ count_by (λ x. eqb x n) c.out
        pick true = omega arith
        pick false = omega arith

    by_case : (b : Bool) → (sum_by (numbers_of n) (finish_in epoch number cs) ≤ sum_by (numbers_of n) cs) × (n ≢ number → sum_by (out_of n) (finish_in epoch number cs) ≡ sum_by (out_of n) cs)
        → (sum_by (numbers_of n) (cond b (record c { out = filter (λ x. not (eqb x number)) c.out }) c ∷ finish_in epoch number cs) ≤ sum_by (numbers_of n) (c ∷ cs))
        × (n ≢ number → sum_by (out_of n) (cond b (record c { out = filter (λ x. not (eqb x number)) c.out }) c ∷ finish_in epoch number cs) ≡ sum_by (out_of n) (c ∷ cs))
    by_case true ih =
        let done : Cont = record c { out = filter (λ x. not (eqb x number)) c.out } in
        let s1 : sum_by (numbers_of n) (done ∷ finish_in epoch number cs) ≡ (count_by (λ (b : Bundle). eqb b.number n) c.waiting + count_by (λ x. eqb x n) (filter (λ x. not (eqb x number)) c.out)) + sum_by (numbers_of n) (finish_in epoch number cs) = sum_by-cons (numbers_of n) done (finish_in epoch number cs) in
        let s2 : sum_by (numbers_of n) (c ∷ cs) ≡ (count_by (λ (b : Bundle). eqb b.number n) c.waiting + count_by (λ x. eqb x n) c.out) + sum_by (numbers_of n) cs = sum_by-cons (numbers_of n) c cs in (
          omega (arith, less, ih.0),
          λ ne. sum_by-cons (out_of n) done (finish_in epoch number cs) ∙ (λ i. (filtered number n c.out ∙ ap (λ b. cond b 0 (count_by (λ x. eqb x n) c.out)) (ne_eqb n number ne)) i + ih.1 ne i) ∙ sym (sum_by-cons (out_of n) c cs),
        )
    by_case false ih = (
      omega (arith, ih.0, sum_by-cons (numbers_of n) c (finish_in epoch number cs), sum_by-cons (numbers_of n) c cs),
      λ ne. sum_by-cons (out_of n) c (finish_in epoch number cs) ∙ ap (λ z. out_of n c + z) (ih.1 ne) ∙ sym (sum_by-cons (out_of n) c cs),
    )

-- where the number is out of the container of the epoch, and out once at most, it is out of none any more
pub finished-none : (epoch number : ℕ) (cs : List Cont) (c : Cont) → cont_at epoch cs ≡ Some c → list_any (λ x. eqb x number) c.out ≡ true → sum_by (out_of number) cs ≤ 1 → sum_by (out_of number) (finish_in epoch number cs) ≡ 0
finished-none epoch number [] c h out once = cc
finished-none epoch number (x ∷ cs) c h out once = by_case (eqb x.epoch epoch) h (λ z k. finished-none epoch number cs c z out k)
  where
    s : sum_by (out_of number) (x ∷ cs) ≡ out_of number x + sum_by (out_of number) cs
    s = sum_by-cons (out_of number) x cs

    least : (cs : List Cont) → sum_by (out_of number) cs ≡ 0 → sum_by (out_of number) (finish_in epoch number cs) ≡ 0
    least [] h = refl
    least (y ∷ cs) h = two (eqb y.epoch epoch) (least cs (omega (arith, sum_by-cons (out_of number) y cs)))
      where
        two : (b : Bool) → sum_by (out_of number) (finish_in epoch number cs) ≡ 0 → sum_by (out_of number) (cond b (record y { out = filter (λ x. not (eqb x number)) y.out }) y ∷ finish_in epoch number cs) ≡ 0
        two true ih = sum_by-cons (out_of number) (record y { out = filter (λ x. not (eqb x number)) y.out }) (finish_in epoch number cs) ∙ (λ i. (filtered number number y.out ∙ ap (λ b. cond b 0 (count_by (λ x. eqb x number) y.out)) (eq-eqb number number refl)) i + ih i)
        two false ih = sum_by-cons (out_of number) y (finish_in epoch number cs) ∙ omega (arith, sum_by-cons (out_of number) y cs)

    one_is : (l : List ℕ) → list_any (λ x. eqb x number) l ≡ true → 1 ≤ count_by (λ x. eqb x number) l
    one_is l h = omega (arith, ltb-true 0 (count_by (λ x. eqb x number) l) (sym (any_by_count (λ x. eqb x number) l) ∙ h))

    by_case : (b : Bool) → cond b (Some x) (cont_at epoch cs) ≡ Some c → (cont_at epoch cs ≡ Some c → sum_by (out_of number) cs ≤ 1 → sum_by (out_of number) (finish_in epoch number cs) ≡ 0)
        → sum_by (out_of number) (cond b (record x { out = filter (λ x. not (eqb x number)) x.out }) x ∷ finish_in epoch number cs) ≡ 0
    by_case true h ih =
        let k : x ≡ c = same_Some x c h in
        let o : 1 ≤ out_of number x = one_is x.out (ap (λ (c : Cont). list_any (λ x. eqb x number) c.out) k ∙ out) in
        sum_by-cons (out_of number) (record x { out = filter (λ x. not (eqb x number)) x.out }) (finish_in epoch number cs)
        ∙ (λ i. (filtered number number x.out ∙ ap (λ b. cond b 0 (count_by (λ x. eqb x number) x.out)) (eq-eqb number number refl)) i + least cs (omega (arith, s)) i)
    by_case false h ih =
        -- the container is a later one, so the number is out there, and not here
        let later : 1 ≤ sum_by (out_of number) cs = somewhere cs h in
        sum_by-cons (out_of number) x (finish_in epoch number cs) ∙ omega (arith, s, ih h (omega (arith, s)))
      where
        somewhere : (l : List Cont) → cont_at epoch l ≡ Some c → 1 ≤ sum_by (out_of number) l
        somewhere [] h = cc
        somewhere (y ∷ l) h = pick (eqb y.epoch epoch) h (λ k. somewhere l k)
          where
            pick : (b : Bool) → cond b (Some y) (cont_at epoch l) ≡ Some c → (cont_at epoch l ≡ Some c → 1 ≤ sum_by (out_of number) l) → 1 ≤ sum_by (out_of number) (y ∷ l)
            pick true h ih = let o : 1 ≤ out_of number y = one_is y.out (ap (λ (c : Cont). list_any (λ x. eqb x number) c.out) (same_Some y c h) ∙ out) in omega (arith, sum_by-cons (out_of number) y l)
            pick false h ih = omega (arith, sum_by-cons (out_of number) y l, ih h)
