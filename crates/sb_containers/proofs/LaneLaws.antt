-- The changes of a lane keep its containers in order.
use Rattle.sb_base.specs.NumberLemmas.{bind_some}
use Rattle.std.proofs.Common.{◌≡◌, ℕ, ◌+◌, ◌≤◌, ◌<◌, Bool, true, false, not, cond, eqb, ltb, List, [], ◌∷◌, ◌++◌, length, Some, Option, sym, ◌∙◌, refl, subst, arith, ⊎_elim}
use Rattle.std.specs.Prelude.{◌≢◌}
use Rattle.std.specs.List.{filter, list_any, AllByRecursion}
use Rattle.std.proofs.lemmas.Bool.{eq-eqb, ne_eqb, cases_eq, lt-ltb, le-ltb, cases_lt}
use Rattle.std.proofs.lemmas.Option.{same_Some}
use Rattle.sb_base.specs.records.declared.item.Record.{Record}
use Rattle.sb_base.specs.bundle.declared.bundle.Bundle.{Bundle}
use Rattle.sb_containers.specs.declared.container.Cont.{Cont}
use Rattle.sb_base.specs.records.Reading.{◌>>=◌}
use Rattle.sb_base.specs.ElementLemmas.{every, All-join}
use Rattle.sb_containers.specs.Lanes.{fresh, in_epoch, with_bundle, take_from, finish_in, next_floor}
use Rattle.sb_containers.specs.Choices.{first_and_rest}
use Rattle.sb_containers.specs.LaneOrder.{NeverFalls, IsWithin, IsBundleOf, IsSealed, IsOpen, AreOpen, AreContainers}
use Rattle.sb_containers.proofs.Fitting.{Fits}

-- the last of the marks, or what was before them
abbrev pub last_from : ℕ → List ℕ → ℕ
last_from f [] = f
last_from f (m ∷ ms) = last_from m ms

-- past a container of an earlier epoch
pub passes_by : (epoch floor : ℕ) (c : Cont) (cs : List Cont) (change : Cont → Cont) → c.epoch < epoch → in_epoch epoch floor change (c ∷ cs) ≡ c ∷ in_epoch epoch floor change cs
passes_by epoch floor c cs change b =
    (λ i. cond (ne_eqb c.epoch epoch (λ e. omega arith) i) (change c ∷ cs) (cond (le-ltb epoch c.epoch (omega arith) i) (change (fresh epoch floor) ∷ c ∷ cs) (c ∷ in_epoch epoch floor change cs)))

-- the bundles of a container are those of any with its epoch and floor
pub same-bundles : (bound : ℕ) (c d : Cont) → d.epoch ≡ c.epoch → d.floor ≡ c.floor → (l : List Bundle) → AllByRecursion (IsBundleOf bound c) l → AllByRecursion (IsBundleOf bound d) l
same-bundles bound c d e f = every (λ b h. record { epoch = h.epoch ∙ sym e; floor = h.floor ∙ sym f; times = subst (λ n. IsWithin n bound b.records) (sym f) h.times })

-- ---- a bundle comes
module _ (bound epoch floor number : ℕ) (records : List Record) (times : IsWithin floor bound records) where
  in_its_epoch : (c : Cont) → c.epoch ≡ epoch → c.floor ≡ floor → AllByRecursion (IsBundleOf bound c) c.waiting → AllByRecursion (IsBundleOf bound (with_bundle (record { number = number; epoch = epoch; floor = floor; records = records }) c)) (c.waiting ++ record { number = number; epoch = epoch; floor = floor; records = records } ∷ [])
  in_its_epoch c e f all =
      All-join (IsBundleOf bound (with_bundle (record { number = number; epoch = epoch; floor = floor; records = records }) c)) c.waiting (record { number = number; epoch = epoch; floor = floor; records = records } ∷ [])
      (same-bundles bound c _ refl refl c.waiting all)
      (record { epoch = sym e; floor = sym f; times = subst (λ n. IsWithin n bound records) (sym f) times }, tt)

  open-arrival : (next next_floor e f : ℕ) (cs : List Cont) → AreOpen bound next next_floor e f cs → e ≤ epoch → f ≤ floor → (epoch ≡ next → floor ≡ next_floor) → Fits epoch floor cs
      → AreOpen bound next next_floor e f (in_epoch epoch floor (with_bundle (record { number = number; epoch = epoch; floor = floor; records = records })) cs)
  open-arrival next next_floor e f [] are from above is fits =
      (record { epoch_from = from; floor_from = above; next_is = is; no_mark = refl; not_closing = refl; bundles = in_its_epoch (fresh epoch floor) refl refl tt }, tt)
  open-arrival next next_floor e f (c ∷ cs) are from above is fits = ⊎_elim here (λ ne. ⊎_elim (new ne) (past ne) (cases_lt epoch c.epoch)) (cases_eq c.epoch epoch)
      (λ lower. open-arrival next next_floor (c.epoch + 1) c.floor cs are.1 (omega arith) (fits.0.0 lower) is fits.1)
    where
      change : Cont → Cont
      change = with_bundle (record { number = number; epoch = epoch; floor = floor; records = records })

      goal : List Cont → Type 0
      goal l = AreOpen bound next next_floor e f l

      rest : Type 0
      rest = c.epoch < epoch → AreOpen bound next next_floor (c.epoch + 1) c.floor (in_epoch epoch floor change cs)

      here : c.epoch ≡ epoch → rest → goal (in_epoch epoch floor change (c ∷ cs))
      here e r =
          subst (λ b. goal (cond b (change c ∷ cs) (cond (ltb epoch c.epoch) (change (fresh epoch floor) ∷ c ∷ cs) (c ∷ in_epoch epoch floor change cs)))) (sym (eq-eqb c.epoch epoch e))
          (record { epoch_from = are.0.epoch_from; floor_from = are.0.floor_from; next_is = are.0.next_is; no_mark = are.0.no_mark; not_closing = are.0.not_closing; bundles = in_its_epoch c e (fits.0.2 e) are.0.bundles }, are.1)

      new : c.epoch ≢ epoch → epoch < c.epoch → rest → goal (in_epoch epoch floor change (c ∷ cs))
      new ne b r =
          subst (λ a. goal (cond a (change c ∷ cs) (cond (ltb epoch c.epoch) (change (fresh epoch floor) ∷ c ∷ cs) (c ∷ in_epoch epoch floor change cs)))) (sym (ne_eqb c.epoch epoch ne))
          (subst (λ a. goal (cond a (change (fresh epoch floor) ∷ c ∷ cs) (c ∷ in_epoch epoch floor change cs))) (sym (lt-ltb epoch c.epoch b)) (
            record { epoch_from = from; floor_from = above; next_is = is; no_mark = refl; not_closing = refl; bundles = in_its_epoch (fresh epoch floor) refl refl tt },
            (record { epoch_from = omega arith; floor_from = fits.0.1 b; next_is = are.0.next_is; no_mark = are.0.no_mark; not_closing = are.0.not_closing; bundles = are.0.bundles }, are.1),
          ))

      past : c.epoch ≢ epoch → c.epoch ≤ epoch → rest → goal (in_epoch epoch floor change (c ∷ cs))
      past ne b r =
          subst (λ a. goal (cond a (change c ∷ cs) (cond (ltb epoch c.epoch) (change (fresh epoch floor) ∷ c ∷ cs) (c ∷ in_epoch epoch floor change cs)))) (sym (ne_eqb c.epoch epoch ne))
          (subst (λ a. goal (cond a (change (fresh epoch floor) ∷ c ∷ cs) (c ∷ in_epoch epoch floor change cs))) (sym (le-ltb epoch c.epoch b))
          (are.0, r (lower ne b)))
        where
          lower : c.epoch ≢ epoch → c.epoch ≤ epoch → c.epoch < epoch
          lower ne b = omega arith

  -- past a container of an earlier epoch
  passes : (c : Cont) (cs : List Cont) (change : Cont → Cont) → c.epoch < epoch → in_epoch epoch floor change (c ∷ cs) ≡ c ∷ in_epoch epoch floor change cs
  passes c cs change b =
      (λ i. cond (ne_eqb c.epoch epoch (λ e. omega arith) i) (change c ∷ cs) (cond (le-ltb epoch c.epoch (omega arith) i) (change (fresh epoch floor) ∷ c ∷ cs) (c ∷ in_epoch epoch floor change cs)))

  pub containers-arrival : (e f : ℕ) (ms : List ℕ) (cs : List Cont) → AreContainers bound e f ms cs → NeverFalls f ms → e + length ms ≤ epoch → last_from f ms ≤ floor → (epoch ≡ e + length ms → floor ≡ last_from f ms) → Fits epoch floor cs
      → AreContainers bound e f ms (in_epoch epoch floor (with_bundle (record { number = number; epoch = epoch; floor = floor; records = records })) cs)
  containers-arrival e f [] cs are up from above is fits = open-arrival e f e f cs are (omega arith) above (λ h. is (omega arith)) fits
  containers-arrival e f (m ∷ ms) [] are up from above is fits = absurd are
  containers-arrival e f (m ∷ ms) (c ∷ cs) are up from above is fits =
      subst (λ l. AreContainers bound e f (m ∷ ms) l) (sym (passes c cs (with_bundle (record { number = number; epoch = epoch; floor = floor; records = records })) (omega (arith, are.0.epoch_is))))
      (are.0, containers-arrival (e + 1) m ms cs are.1 up.1 (omega arith) above (λ h. is (omega arith)) fits.1)

-- ---- the next epoch is sealed
-- the mark fits the containers of later epochs
abbrev pub MarkFits : ℕ → ℕ → List Cont → Type 0
MarkFits mark next cs = AllByRecursion (λ c. next < c.epoch → (mark ≤ c.floor) × (c.epoch ≡ next + 1 → c.floor ≡ mark)) cs

module _ (bound mark : ℕ) where
  reopened : (next g e f : ℕ) (cs : List Cont) → AreOpen bound next g e f cs → next + 1 ≤ e → (low : ℕ) → low ≤ f → MarkFits mark next cs → (low ≡ mark → Unit {0}) → AreOpen bound (next + 1) mark e f cs
  reopened next g e f [] are from low h fits z = tt
  reopened next g e f (c ∷ cs) are from low h fits z = (
    record { epoch_from = are.0.epoch_from; floor_from = are.0.floor_from; next_is = λ x. (fits.0 (omega (arith, are.0.epoch_from))).1 x; no_mark = are.0.no_mark; not_closing = are.0.not_closing; bundles = are.0.bundles },
    reopened next g (c.epoch + 1) c.floor cs are.1 (omega (arith, are.0.epoch_from)) 0 (omega arith) fits.1 (λ _. tt),
  )

  -- all that is after the sealed epoch
  after_seal : (next g e f : ℕ) (cs : List Cont) → AreOpen bound next g e f cs → next + 1 ≤ e → MarkFits mark next cs → AreOpen bound (next + 1) mark (next + 1) mark cs
  after_seal next g e f [] are from fits = tt
  after_seal next g e f (c ∷ cs) are from fits =
      let k : next < c.epoch = omega (arith, are.0.epoch_from) in (
        record { epoch_from = omega (arith, are.0.epoch_from); floor_from = (fits.0 k).0; next_is = (fits.0 k).1; no_mark = are.0.no_mark; not_closing = are.0.not_closing; bundles = are.0.bundles },
        reopened next g (c.epoch + 1) c.floor cs are.1 (omega (arith, are.0.epoch_from)) 0 (omega arith) fits.1 (λ _. tt),
      )

  open-seal : (next g : ℕ) (cs : List Cont) → AreOpen bound next g next g cs → MarkFits mark next cs → AreContainers bound next g (mark ∷ []) (in_epoch next g (λ c. record c { mark = Some mark }) cs)
  open-seal next g [] are fits = (record { epoch_is = refl; floor_is = refl; mark_is = refl; bundles = tt }, tt)
  open-seal next g (c ∷ cs) are fits = ⊎_elim here new (cases_eq c.epoch next)
    where
      change : Cont → Cont
      change c = record c { mark = Some mark }

      goal : List Cont → Type 0
      goal l = AreContainers bound next g (mark ∷ []) l

      here : c.epoch ≡ next → goal (cond (eqb c.epoch next) (record c { mark = Some mark } ∷ cs) (cond (ltb next c.epoch) (record (fresh next g) { mark = Some mark } ∷ c ∷ cs) (c ∷ in_epoch next g (λ c. record c { mark = Some mark }) cs)))
      here e =
          subst (λ b. AreContainers bound next g (mark ∷ []) (cond b (record c { mark = Some mark } ∷ cs) (cond (ltb next c.epoch) (record (fresh next g) { mark = Some mark } ∷ c ∷ cs) (c ∷ in_epoch next g (λ c. record c { mark = Some mark }) cs)))) (sym (eq-eqb c.epoch next e))
          (record { epoch_is = e; floor_is = are.0.next_is e; mark_is = refl; bundles = same-bundles bound c _ refl refl c.waiting are.0.bundles }, after_seal next g (c.epoch + 1) c.floor cs are.1 (omega arith) fits.1)

      new : c.epoch ≢ next → goal (cond (eqb c.epoch next) (record c { mark = Some mark } ∷ cs) (cond (ltb next c.epoch) (record (fresh next g) { mark = Some mark } ∷ c ∷ cs) (c ∷ in_epoch next g (λ c. record c { mark = Some mark }) cs)))
      new ne =
          let k : next < c.epoch = omega (arith, are.0.epoch_from) in
          subst (λ b. AreContainers bound next g (mark ∷ []) (cond b (record c { mark = Some mark } ∷ cs) (cond (ltb next c.epoch) (record (fresh next g) { mark = Some mark } ∷ c ∷ cs) (c ∷ in_epoch next g (λ c. record c { mark = Some mark }) cs)))) (sym (ne_eqb c.epoch next ne))
          (subst (λ b. AreContainers bound next g (mark ∷ []) (cond b (record (fresh next g) { mark = Some mark } ∷ c ∷ cs) (c ∷ in_epoch next g (λ c. record c { mark = Some mark }) cs))) (sym (lt-ltb next c.epoch k)) (
            record { epoch_is = refl; floor_is = refl; mark_is = refl; bundles = tt },
            (
              record { epoch_from = omega arith; floor_from = (fits.0 k).0; next_is = (fits.0 k).1; no_mark = are.0.no_mark; not_closing = are.0.not_closing; bundles = are.0.bundles },
              reopened next g (c.epoch + 1) c.floor cs are.1 (omega arith) 0 (omega arith) fits.1 (λ _. tt),
            ),
          ))

  pub containers-seal : (e f next g : ℕ) (ms : List ℕ) (cs : List Cont) → AreContainers bound e f ms cs → next ≡ e + length ms → g ≡ last_from f ms → MarkFits mark next cs
      → AreContainers bound e f (ms ++ mark ∷ []) (in_epoch next g (λ c. record c { mark = Some mark }) cs)
  containers-seal e f next g [] cs are n k fits =
      let en : next ≡ e = omega arith in
      subst (λ z. AreContainers bound z f (mark ∷ []) (in_epoch next g (λ c. record c { mark = Some mark }) cs)) en
      (subst (λ z. AreContainers bound next z (mark ∷ []) (in_epoch next g (λ c. record c { mark = Some mark }) cs)) k
      (open-seal next g cs (subst (λ z. AreOpen bound z g z g cs) (sym en) (subst (λ z. AreOpen bound e z e z cs) (sym k) are)) fits))
  containers-seal e f next g (m ∷ ms) [] are n k fits = absurd are
  containers-seal e f next g (m ∷ ms) (c ∷ cs) are n k fits =
      subst (λ l. AreContainers bound e f (m ∷ (ms ++ mark ∷ [])) l) (sym (passes_by next g c cs (λ c. record c { mark = Some mark }) (omega (arith, are.0.epoch_is))))
      (are.0, containers-seal (e + 1) m next g ms cs are.1 (omega arith) k fits.1)

-- ---- a bundle is taken, finished
pub All-pulled : {X : Type 0} (P : X → Type 0) (p : X → Bool) (xs : List X) (q : X × List X) → first_and_rest p xs ≡ Some q → AllByRecursion P xs → P q.0 × AllByRecursion P q.1
All-pulled P p [] q h all = cc
All-pulled {X} P p (y ∷ xs) q h all = by_case (p y) h (λ r e. All-pulled P p xs r e all.1)
  where
    by_case : (b : Bool) → cond {A = Option (X × List X)} b (Some (y, xs)) (first_and_rest p xs >>= λ q. Some (q.0, y ∷ q.1)) ≡ Some q → ((r : X × List X) → first_and_rest p xs ≡ Some r → P r.0 × AllByRecursion P r.1) → P q.0 × AllByRecursion P q.1
    by_case true h ih = subst (λ (r : X × List X). P r.0 × AllByRecursion P r.1) (same_Some _ _ h) all
    by_case false h ih =
        let b = bind_some (first_and_rest p xs) (λ (q : X × List X). Some (q.0, y ∷ q.1)) q h in
        let same : ◌≡◌ {A = X × List X} (b.0.0, y ∷ b.0.1) q = same_Some _ _ b.2 in
        let k = ih b.0 b.1 in
        subst (λ (r : X × List X). P r.0 × AllByRecursion P r.1) same (k.0, (all.0, k.1))

-- a container with fewer waiting, and others out
sealed-other : (bound e f m : ℕ) (c : Cont) (out : List ℕ) (waiting : List Bundle) → IsSealed bound e f m c → AllByRecursion (IsBundleOf bound c) waiting → IsSealed bound e f m (record c { waiting = waiting; out = out })
sealed-other bound e f m c out waiting s all = record { epoch_is = s.epoch_is; floor_is = s.floor_is; mark_is = s.mark_is; bundles = same-bundles bound c _ refl refl waiting all }

open-other : (bound n g e f : ℕ) (c : Cont) (out : List ℕ) (waiting : List Bundle) → IsOpen bound n g e f c → AllByRecursion (IsBundleOf bound c) waiting → IsOpen bound n g e f (record c { waiting = waiting; out = out })
open-other bound n g e f c out waiting s all =
    record { epoch_from = s.epoch_from; floor_from = s.floor_from; next_is = s.next_is; no_mark = s.no_mark; not_closing = s.not_closing; bundles = same-bundles bound c _ refl refl waiting all }

-- containers that differ in what waits and is out alone
abbrev pub DifferInBundles : ℕ → List Cont → List Cont → Type 0
DifferInBundles bound [] [] = Unit {0}
DifferInBundles bound [] (d ∷ ds) = ⊥
DifferInBundles bound (c ∷ cs) [] = ⊥
DifferInBundles bound (c ∷ cs) (d ∷ ds) =
    (record c { waiting = d.waiting; out = d.out } ≡ d) × (AllByRecursion (IsBundleOf bound c) c.waiting → AllByRecursion (IsBundleOf bound c) d.waiting) × DifferInBundles bound cs ds

differ-refl : (bound : ℕ) (cs : List Cont) → DifferInBundles bound cs cs
differ-refl bound [] = tt
differ-refl bound (c ∷ cs) = (refl, λ h. h, differ-refl bound cs)

open-differ : (bound n g e f : ℕ) (cs ds : List Cont) → DifferInBundles bound cs ds → AreOpen bound n g e f cs → AreOpen bound n g e f ds
open-differ bound n g e f [] [] s are = tt
open-differ bound n g e f [] (d ∷ ds) s are = absurd s
open-differ bound n g e f (c ∷ cs) [] s are = absurd s
open-differ bound n g e f (c ∷ cs) (d ∷ ds) s are =
    subst (λ x. IsOpen bound n g e f x × AreOpen bound n g (x.epoch + 1) x.floor ds) s.0 (open-other bound n g e f c d.out d.waiting are.0 (s.1 are.0.bundles), open-differ bound n g (c.epoch + 1) c.floor cs ds s.2 are.1)

pub containers-differ : (bound e f : ℕ) (ms : List ℕ) (cs ds : List Cont) → DifferInBundles bound cs ds → AreContainers bound e f ms cs → AreContainers bound e f ms ds
containers-differ bound e f [] cs ds s are = open-differ bound e f e f cs ds s are
containers-differ bound e f (m ∷ ms) [] ds s are = absurd are
containers-differ bound e f (m ∷ ms) (c ∷ cs) [] s are = absurd s
containers-differ bound e f (m ∷ ms) (c ∷ cs) (d ∷ ds) s are =
    subst (λ x. IsSealed bound e f m x × AreContainers bound (e + 1) m ms ds) s.0 (sealed-other bound e f m c d.out d.waiting are.0 (s.1 are.0.bundles), containers-differ bound (e + 1) m ms cs ds s.2 are.1)

pub take_from-differ : (bound number : ℕ) (cs : List Cont) (q : Bundle × List Cont) → take_from number cs ≡ Some q → DifferInBundles bound cs q.1
take_from-differ bound number [] q h = cc
take_from-differ bound number (c ∷ cs) q h = by_case (list_any (λ b. eqb b.number number) c.waiting) h (λ r e. take_from-differ bound number cs r e)
  where
    by_case : (a : Bool)
        → cond {A = Option (Bundle × List Cont)} a (first_and_rest (λ b. eqb b.number number) c.waiting >>= λ q. Some (q.0, record c { waiting = q.1; out = c.out ++ number ∷ [] } ∷ cs)) (take_from number cs >>= λ q. Some (q.0, c ∷ q.1)) ≡ Some q
        → ((r : Bundle × List Cont) → take_from number cs ≡ Some r → DifferInBundles bound cs r.1) → DifferInBundles bound (c ∷ cs) q.1
    by_case true h ih =
        let b = bind_some (first_and_rest (λ b. eqb b.number number) c.waiting) _ q h in
        let same : ◌≡◌ {A = Bundle × List Cont} (b.0.0, record c { waiting = b.0.1; out = c.out ++ number ∷ [] } ∷ cs) q = same_Some _ _ b.2 in
        subst (λ (r : Bundle × List Cont). DifferInBundles bound (c ∷ cs) r.1) same (refl, λ all. (All-pulled (IsBundleOf bound c) (λ b. eqb b.number number) c.waiting b.0 b.1 all).1, differ-refl bound cs)
    by_case false h ih =
        let b = bind_some (take_from number cs) _ q h in
        let same : ◌≡◌ {A = Bundle × List Cont} (b.0.0, c ∷ b.0.1) q = same_Some _ _ b.2 in
        subst (λ (r : Bundle × List Cont). DifferInBundles bound (c ∷ cs) r.1) same (refl, λ all. all, ih b.0 b.1)

pub finish_in-differ : (bound epoch number : ℕ) (cs : List Cont) → DifferInBundles bound cs (finish_in epoch number cs)
finish_in-differ bound epoch number [] = tt
finish_in-differ bound epoch number (c ∷ cs) = one (eqb c.epoch epoch) (finish_in-differ bound epoch number cs)
  where
    one : (b : Bool) → DifferInBundles bound cs (finish_in epoch number cs) → DifferInBundles bound (c ∷ cs) (cond b (record c { out = filter (λ n. not (eqb n number)) c.out }) c ∷ finish_in epoch number cs)
    one true rest = (refl, λ all. all, rest)
    one false rest = (refl, λ all. all, rest)
