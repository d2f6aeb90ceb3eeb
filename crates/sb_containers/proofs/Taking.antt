-- A bundle is taken out of a lane, and finished: the lane stays in order.
use Rattle.sb_base.specs.NumberLemmas.{bind_some}
use Rattle.std.proofs.Common.{◌≡◌, ℕ, ◌+◌, ◌≤◌, ◌<◌, Bool, true, false, cond, eqb, List, [], ◌∷◌, ◌++◌, drop, Some, Option, sym, refl, ap, subst, ◌∙◌, arith, not}
use Rattle.std.specs.Prelude.{◌||◌, ◌≢◌}
use Rattle.std.specs.List.{list_any, AllByRecursion, filter}
use Rattle.std.proofs.lemmas.Bool.{eq-eqb, ne_eqb, eqb-true}
use Rattle.std.proofs.lemmas.List.Folds.{list_any-append}
use Rattle.std.proofs.Math.Bool.{or-true}
use Rattle.std.proofs.lemmas.Option.{same_Some}
use Rattle.sb_base.specs.bundle.declared.bundle.Bundle.{Bundle}
use Rattle.sb_containers.specs.declared.container.Cont.{Cont}
use Rattle.sb_base.specs.records.Reading.{◌>>=◌}
use Rattle.sb_containers.specs.Marks.{first_is_closing}
use Rattle.sb_containers.specs.Choices.{first_and_rest}
use Rattle.sb_containers.specs.Lanes.{take_from, finish_in}
use Rattle.sb_containers.specs.LaneOrder.{IsWithin, IsBundleOf, AreOpen, AreContainers, IsReady, cont_at}
use Rattle.sb_containers.proofs.LaneLaws.{DifferInBundles, take_from-differ, All-pulled}

-- ---- what was taken is out of the container of its epoch
pub record IsTaken (bound number : ℕ) (b : Bundle) (cs : List Cont) : Type 0 where
  pub cont : Cont
  pub of_epoch : cont_at b.epoch cs ≡ Some cont
  pub floor_is : cont.floor ≡ b.floor
  pub is_out : list_any (λ n. eqb n number) cont.out ≡ true
  pub times : IsWithin b.floor bound b.records

-- a container of an earlier epoch is passed over
taken_later : (bound number : ℕ) (b : Bundle) (c : Cont) (cs : List Cont) → c.epoch < b.epoch → IsTaken bound number b cs → IsTaken bound number b (c ∷ cs)
taken_later bound number b c cs h t = record { cont = t.cont; of_epoch = ap (λ a. cond a (Some c) (cont_at b.epoch cs)) (ne_eqb c.epoch b.epoch (λ e. omega arith)) ∙ t.of_epoch; floor_is = t.floor_is; is_out = t.is_out; times = t.times }

-- from the container in hand
taken_here : (bound number : ℕ) (b : Bundle) (c : Cont) (waiting : List Bundle) (cs : List Cont) → IsBundleOf bound c b → IsTaken bound number b (record c { waiting = waiting; out = c.out ++ number ∷ [] } ∷ cs)
taken_here bound number b c waiting cs h =
    record {
      cont = record c { waiting = waiting; out = c.out ++ number ∷ [] };
      of_epoch = ap (λ a. cond a (Some (record c { waiting = waiting; out = c.out ++ number ∷ [] })) (cont_at b.epoch cs)) (eq-eqb c.epoch b.epoch (sym h.epoch));
      floor_is = sym h.floor;
      is_out = list_any-append (λ n. eqb n number) c.out (number ∷ []) ∙ ap (λ a. list_any (λ n. eqb n number) c.out || (a || false)) (eq-eqb number number refl) ∙ or-true (list_any (λ n. eqb n number) c.out);
      times = subst (λ n. IsWithin n bound b.records) (sym h.floor) h.times;
    }

-- the bundle has an epoch from e on
pub record IsTakenFrom (bound number e : ℕ) (b : Bundle) (cs : List Cont) : Type 0 where
  pub taken : IsTaken bound number b cs
  pub epoch_from : e ≤ b.epoch

take_step : (bound number : ℕ) (c : Cont) (cs : List Cont) (q : Bundle × List Cont) → take_from number (c ∷ cs) ≡ Some q → AllByRecursion (IsBundleOf bound c) c.waiting
    → ((r : Bundle × List Cont) → take_from number cs ≡ Some r → IsTakenFrom bound number (c.epoch + 1) r.0 r.1) → IsTakenFrom bound number c.epoch q.0 q.1
take_step bound number c cs q h all ih = by_case (list_any (λ b. eqb b.number number) c.waiting) h
  where
    by_case : (a : Bool)
        → cond {A = Option (Bundle × List Cont)} a (first_and_rest (λ b. eqb b.number number) c.waiting >>= λ q. Some (q.0, record c { waiting = q.1; out = c.out ++ number ∷ [] } ∷ cs)) (take_from number cs >>= λ q. Some (q.0, c ∷ q.1)) ≡ Some q
        → IsTakenFrom bound number c.epoch q.0 q.1
    by_case true h =
        let b = bind_some (first_and_rest (λ b. eqb b.number number) c.waiting) _ q h in
        let same : ◌≡◌ {A = Bundle × List Cont} (b.0.0, record c { waiting = b.0.1; out = c.out ++ number ∷ [] } ∷ cs) q = same_Some _ _ b.2 in
        let is = (All-pulled (IsBundleOf bound c) (λ b. eqb b.number number) c.waiting b.0 b.1 all).0 in
        subst (λ (r : Bundle × List Cont). IsTakenFrom bound number c.epoch r.0 r.1) same (record { taken = taken_here bound number b.0.0 c b.0.1 cs is; epoch_from = omega (arith, is.epoch) })
    by_case false h =
        let b = bind_some (take_from number cs) _ q h in
        let same : ◌≡◌ {A = Bundle × List Cont} (b.0.0, c ∷ b.0.1) q = same_Some _ _ b.2 in
        let k = ih b.0 b.1 in
        subst (λ (r : Bundle × List Cont). IsTakenFrom bound number c.epoch r.0 r.1) same (record { taken = taken_later bound number b.0.0 c b.0.1 (omega (arith, k.epoch_from)) k.taken; epoch_from = omega (arith, k.epoch_from) })

weaker_from : (bound number e f : ℕ) (b : Bundle) (cs : List Cont) → e ≤ f → IsTakenFrom bound number f b cs → IsTakenFrom bound number e b cs
weaker_from bound number e f b cs h t = record { taken = t.taken; epoch_from = omega (arith, t.epoch_from) }

open-taken : (bound n g e f number : ℕ) (cs : List Cont) (q : Bundle × List Cont) → take_from number cs ≡ Some q → AreOpen bound n g e f cs → IsTakenFrom bound number e q.0 q.1
open-taken bound n g e f number [] q h are = cc
open-taken bound n g e f number (c ∷ cs) q h are =
    weaker_from bound number e c.epoch q.0 q.1 are.0.epoch_from (take_step bound number c cs q h are.0.bundles (λ r k. open-taken bound n g (c.epoch + 1) c.floor number cs r k are.1))

pub containers-taken : (bound e f number : ℕ) (ms : List ℕ) (cs : List Cont) (q : Bundle × List Cont) → take_from number cs ≡ Some q → AreContainers bound e f ms cs → IsTakenFrom bound number e q.0 q.1
containers-taken bound e f number [] cs q h are = open-taken bound e f e f number cs q h are
containers-taken bound e f number (m ∷ ms) [] q h are = absurd are
containers-taken bound e f number (m ∷ ms) (c ∷ cs) q h are =
    weaker_from bound number e c.epoch q.0 q.1 (omega (arith, are.0.epoch_is)) (take_step bound number c cs q h are.0.bundles (λ r k. weaker_from bound number (c.epoch + 1) (e + 1) r.0 r.1 (omega (arith, are.0.epoch_is)) (containers-taken bound (e + 1) m number ms cs r k are.1)))

-- ---- what was out stays out
abbrev pub OutGrows : List Cont → List Cont → Type 0
OutGrows [] ds = Unit {0}
OutGrows (c ∷ cs) [] = Unit {0}
OutGrows (c ∷ cs) (d ∷ ds) = ((number : ℕ) → list_any (λ n. eqb n number) c.out ≡ true → list_any (λ n. eqb n number) d.out ≡ true) × OutGrows cs ds

grows-refl : (cs : List Cont) → OutGrows cs cs
grows-refl [] = tt
grows-refl (c ∷ cs) = (λ n h. h, grows-refl cs)

pub take_from-grows : (number : ℕ) (cs : List Cont) (q : Bundle × List Cont) → take_from number cs ≡ Some q → OutGrows cs q.1
take_from-grows number [] q h = cc
take_from-grows number (c ∷ cs) q h = by_case (list_any (λ b. eqb b.number number) c.waiting) h (λ r e. take_from-grows number cs r e)
  where
    by_case : (a : Bool)
        → cond {A = Option (Bundle × List Cont)} a (first_and_rest (λ b. eqb b.number number) c.waiting >>= λ q. Some (q.0, record c { waiting = q.1; out = c.out ++ number ∷ [] } ∷ cs)) (take_from number cs >>= λ q. Some (q.0, c ∷ q.1)) ≡ Some q
        → ((r : Bundle × List Cont) → take_from number cs ≡ Some r → OutGrows cs r.1) → OutGrows (c ∷ cs) q.1
    by_case true h ih =
        let b = bind_some (first_and_rest (λ b. eqb b.number number) c.waiting) _ q h in
        let same : ◌≡◌ {A = Bundle × List Cont} (b.0.0, record c { waiting = b.0.1; out = c.out ++ number ∷ [] } ∷ cs) q = same_Some _ _ b.2 in
        subst (λ (r : Bundle × List Cont). OutGrows (c ∷ cs) r.1) same (λ n k. list_any-append (λ x. eqb x n) c.out (number ∷ []) ∙ ap (λ a. a || list_any (λ x. eqb x n) (number ∷ [])) k, grows-refl cs)
    by_case false h ih =
        let b = bind_some (take_from number cs) _ q h in
        let same : ◌≡◌ {A = Bundle × List Cont} (b.0.0, c ∷ b.0.1) q = same_Some _ _ b.2 in
        subst (λ (r : Bundle × List Cont). OutGrows (c ∷ cs) r.1) same (λ n k. k, ih b.0 b.1)

pub still_at : (bound epoch number : ℕ) (cs ds : List Cont) (c : Cont) → DifferInBundles bound cs ds → OutGrows cs ds → cont_at epoch cs ≡ Some c → list_any (λ n. eqb n number) c.out ≡ true
    → (d : Cont) × (cont_at epoch ds ≡ Some d) × (d.floor ≡ c.floor) × (list_any (λ n. eqb n number) d.out ≡ true)
still_at bound epoch number [] ds c s g h out = cc
still_at bound epoch number (x ∷ cs) [] c s g h out = absurd s
still_at bound epoch number (x ∷ cs) (y ∷ ds) c s g h out =
    let same : y.epoch ≡ x.epoch = ap (λ (c : Cont). c.epoch) (sym s.0) in
    by_case (eqb x.epoch epoch) refl h same (λ k. still_at bound epoch number cs ds c s.2 g.1 k out)
  where
    by_case : (b : Bool) → eqb x.epoch epoch ≡ b → cond b (Some x) (cont_at epoch cs) ≡ Some c → y.epoch ≡ x.epoch
        → (cont_at epoch cs ≡ Some c → (d : Cont) × (cont_at epoch ds ≡ Some d) × (d.floor ≡ c.floor) × (list_any (λ n. eqb n number) d.out ≡ true))
        → (d : Cont) × (cont_at epoch (y ∷ ds) ≡ Some d) × (d.floor ≡ c.floor) × (list_any (λ n. eqb n number) d.out ≡ true)
    by_case true e h same ih =
        let k : x ≡ c = same_Some x c h in
        (y, ap (λ b. cond b (Some y) (cont_at epoch ds)) (ap (λ n. eqb n epoch) same ∙ e), ap (λ (c : Cont). c.floor) (sym s.0) ∙ ap (λ (c : Cont). c.floor) k, g.0 number (subst (λ (c : Cont). list_any (λ n. eqb n number) c.out ≡ true) (sym k) out))
    by_case false e h same ih =
        let k = ih h in
        (k.0, ap (λ b. cond b (Some y) (cont_at epoch ds)) (ap (λ n. eqb n epoch) same ∙ e) ∙ k.1, k.2, k.3)

-- ---- the event
pub differ-closing : (bound : ℕ) (cs ds : List Cont) → DifferInBundles bound cs ds → first_is_closing ds ≡ first_is_closing cs
differ-closing bound [] [] s = refl
differ-closing bound [] (d ∷ ds) s = absurd s
differ-closing bound (c ∷ cs) [] s = absurd s
differ-closing bound (c ∷ cs) (d ∷ ds) s = ap (λ (c : Cont). c.closing) (sym s.0)

pub differ-others : (bound : ℕ) (cs ds : List Cont) → DifferInBundles bound cs ds → AllByRecursion (λ c. c.closing ≡ false) cs → AllByRecursion (λ c. c.closing ≡ false) ds
differ-others bound [] [] s all = tt
differ-others bound [] (d ∷ ds) s all = absurd s
differ-others bound (c ∷ cs) [] s all = absurd s
differ-others bound (c ∷ cs) (d ∷ ds) s all = (ap (λ (c : Cont). c.closing) (sym s.0) ∙ all.0, differ-others bound cs ds s.2 all.1)

pub differ-tail : (bound : ℕ) (cs ds : List Cont) → DifferInBundles bound cs ds → AllByRecursion (λ c. c.closing ≡ false) (drop 1 cs) → AllByRecursion (λ c. c.closing ≡ false) (drop 1 ds)
differ-tail bound [] [] s all = tt
differ-tail bound [] (d ∷ ds) s all = absurd s
differ-tail bound (c ∷ cs) [] s all = absurd s
differ-tail bound (c ∷ cs) (d ∷ ds) s all = differ-others bound cs ds s.2 all

-- from a container that is closing nothing is taken
pub take-ready : (number : ℕ) (cs : List Cont) (q : Bundle × List Cont) → take_from number cs ≡ Some q → IsReady cs → IsReady q.1
take-ready number [] q h ready = cc
take-ready number (c ∷ cs) q h ready = by_case c.closing refl
  where
    as_it_is : c.waiting ≡ [] → take_from number (c ∷ cs) ≡ (take_from number cs >>= λ q. Some (q.0, c ∷ q.1))
    as_it_is e = ap (λ w. cond {A = Option (Bundle × List Cont)} (list_any (λ b. eqb b.number number) w) (first_and_rest (λ b. eqb b.number number) c.waiting >>= λ q. Some (q.0, record c { waiting = q.1; out = c.out ++ number ∷ [] } ∷ cs)) (take_from number cs >>= λ q. Some (q.0, c ∷ q.1))) e

    by_case : (b : Bool) → c.closing ≡ b → IsReady q.1
    by_case true e =
        let b = bind_some (take_from number cs) _ q (sym (as_it_is (ready e).0) ∙ h) in
        let same : ◌≡◌ {A = Bundle × List Cont} (b.0.0, c ∷ b.0.1) q = same_Some _ _ b.2 in
        subst (λ (r : Bundle × List Cont). IsReady r.1) same ready
    by_case false e = not_closing q.1 (differ-closing 0 (c ∷ cs) q.1 (take_from-differ 0 number (c ∷ cs) q h) ∙ e)
      where
        not_closing : (cs : List Cont) → first_is_closing cs ≡ false → IsReady cs
        not_closing [] e = tt
        not_closing (c ∷ cs) e = λ f. let x : false ≡ true = sym e ∙ f in cc

-- ---- a Work is finished
pub finish-ready : (epoch number : ℕ) (cs : List Cont) → IsReady cs → IsReady (finish_in epoch number cs)
finish-ready epoch number [] ready = tt
finish-ready epoch number (c ∷ cs) ready = one (eqb c.epoch epoch)
  where
    one : (b : Bool) → IsReady (cond b (record c { out = filter (λ n. not (eqb n number)) c.out }) c ∷ finish_in epoch number cs)
    one true = λ h. ((ready h).0, ap (filter (λ n. not (eqb n number))) (ready h).1)
    one false = ready

-- another number stays out
pub finish-out : (epoch number at floor other : ℕ) (cs : List Cont) (c : Cont) → other ≢ number → cont_at at cs ≡ Some c → c.floor ≡ floor → list_any (λ n. eqb n other) c.out ≡ true
    → (d : Cont) × (cont_at at (finish_in epoch number cs) ≡ Some d) × (d.floor ≡ floor) × (list_any (λ n. eqb n other) d.out ≡ true)
finish-out epoch number at floor other [] c ne h f out = cc
finish-out epoch number at floor other (x ∷ cs) c ne h f out = one (eqb x.epoch epoch) h (λ k. finish-out epoch number at floor other cs c ne k f out)
  where
    still : (l : List ℕ) → list_any (λ n. eqb n other) l ≡ true → list_any (λ n. eqb n other) (filter (λ n. not (eqb n number)) l) ≡ true
    still [] h = cc
    still (n ∷ l) h = two (eqb n other) (eqb n number) refl refl h (λ k. still l k)
      where
        two : (a b : Bool) → eqb n other ≡ a → eqb n number ≡ b → (a || list_any (λ n. eqb n other) l) ≡ true → (list_any (λ n. eqb n other) l ≡ true → list_any (λ n. eqb n other) (filter (λ n. not (eqb n number)) l) ≡ true)
            → list_any (λ n. eqb n other) (cond (not b) (n ∷ filter (λ n. not (eqb n number)) l) (filter (λ n. not (eqb n number)) l)) ≡ true
        two true true p q h ih = absurd (ne (sym (eqb-true n other p) ∙ eqb-true n number q))
        two true false p q h ih = ap (λ b. b || list_any (λ n. eqb n other) (filter (λ n. not (eqb n number)) l)) p
        two false true p q h ih = ih h
        two false false p q h ih = ap (λ b. b || list_any (λ n. eqb n other) (filter (λ n. not (eqb n number)) l)) p ∙ ih h

    one : (a : Bool) → cond (eqb x.epoch at) (Some x) (cont_at at cs) ≡ Some c
        → (cont_at at cs ≡ Some c → (d : Cont) × (cont_at at (finish_in epoch number cs) ≡ Some d) × (d.floor ≡ floor) × (list_any (λ n. eqb n other) d.out ≡ true))
        → (d : Cont) × (cont_at at (cond a (record x { out = filter (λ n. not (eqb n number)) x.out }) x ∷ finish_in epoch number cs) ≡ Some d) × (d.floor ≡ floor) × (list_any (λ n. eqb n other) d.out ≡ true)
    one a h ih = both a
      where
        pick_true : (b : Bool) → cond b (Some x) (cont_at at cs) ≡ Some c
            → (d : Cont) × (cond b (Some (record x { out = filter (λ n. not (eqb n number)) x.out })) (cont_at at (finish_in epoch number cs)) ≡ Some d) × (d.floor ≡ floor) × (list_any (λ n. eqb n other) d.out ≡ true)
        pick_true true h = let k : x ≡ c = same_Some x c h in (record x { out = filter (λ n. not (eqb n number)) x.out }, refl, ap (λ (c : Cont). c.floor) k ∙ f, still x.out (subst (λ (c : Cont). list_any (λ n. eqb n other) c.out ≡ true) (sym k) out))
        pick_true false h = ih h

        pick_false : (b : Bool) → cond b (Some x) (cont_at at cs) ≡ Some c
            → (d : Cont) × (cond b (Some x) (cont_at at (finish_in epoch number cs)) ≡ Some d) × (d.floor ≡ floor) × (list_any (λ n. eqb n other) d.out ≡ true)
        pick_false true h = let k : x ≡ c = same_Some x c h in (x, refl, ap (λ (c : Cont). c.floor) k ∙ f, subst (λ (c : Cont). list_any (λ n. eqb n other) c.out ≡ true) (sym k) out)
        pick_false false h = ih h

        both : (a : Bool) → (d : Cont) × (cont_at at (cond a (record x { out = filter (λ n. not (eqb n number)) x.out }) x ∷ finish_in epoch number cs) ≡ Some d) × (d.floor ≡ floor) × (list_any (λ n. eqb n other) d.out ≡ true)
        both true = pick_true (eqb x.epoch at) h
        both false = pick_false (eqb x.epoch at) h
