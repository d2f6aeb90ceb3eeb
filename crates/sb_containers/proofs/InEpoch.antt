-- What a change in an epoch leaves as it was in the containers of a lane.
use Rattle.std.proofs.Common.{◌≡◌, ℕ, ◌+◌, ◌≤◌, ◌<◌, Bool, true, false, cond, eqb, ltb, List, [], ◌∷◌, length, drop, Some, sym, refl, ap, subst, ◌∙◌, arith, ⊎_elim}
use Rattle.std.specs.Prelude.{◌≢◌}
use Rattle.std.specs.List.{list_any, AllByRecursion}
use Rattle.std.proofs.lemmas.Bool.{eq-eqb, ne_eqb, cases_eq, cases_lt, eqb-true, lt-ltb}
use Rattle.std.proofs.lemmas.Option.{same_Some}
use Rattle.sb_containers.specs.declared.container.Cont.{Cont}
use Rattle.sb_containers.specs.Lanes.{fresh, in_epoch}
use Rattle.sb_containers.specs.LaneOrder.{AreOpen, AreContainers, IsReady, cont_at}
use Rattle.sb_containers.proofs.LaneLaws.{passes_by}

-- ---- containers of which none is closing
pub tail_calm : (cs : List Cont) → AllByRecursion (λ c. c.closing ≡ false) cs → AllByRecursion (λ c. c.closing ≡ false) (drop 1 cs)
tail_calm [] all = tt
tail_calm (c ∷ cs) all = all.1

pub ready_calm : (cs : List Cont) → AllByRecursion (λ c. c.closing ≡ false) cs → IsReady cs
ready_calm [] all = tt
ready_calm (c ∷ cs) all = λ h. let k : false ≡ true = sym all.0 ∙ h in cc

-- ---- a container that is not sealed is of an epoch from the next one on
pub open-from : (bound n g e f at : ℕ) (c : Cont) (cs : List Cont) → AreOpen bound n g e f cs → cont_at at cs ≡ Some c → e ≤ at
open-from bound n g e f at c [] are h = cc
open-from bound n g e f at c (x ∷ cs) are h = by_case (eqb x.epoch at) refl h (λ k. open-from bound n g (x.epoch + 1) x.floor at c cs are.1 k)
  where
    by_case : (b : Bool) → eqb x.epoch at ≡ b → cond b (Some x) (cont_at at cs) ≡ Some c → (cont_at at cs ≡ Some c → x.epoch + 1 ≤ at) → e ≤ at
    by_case true e h ih = omega (arith, are.0.epoch_from, eqb-true x.epoch at e)
    by_case false e h ih = omega (arith, are.0.epoch_from, ih h)

-- ---- what is out stays out
module _ (bound epoch floor : ℕ) (change : Cont → Cont) (epochs : (c : Cont) → (change c).epoch ≡ c.epoch) (floors : (c : Cont) → (change c).floor ≡ c.floor) (outs : (c : Cont) → (change c).out ≡ c.out) (closes : (c : Cont) → (change c).closing ≡ c.closing) where
  abbrev StillOut : ℕ → ℕ → Cont → List Cont → Type 0
  StillOut at number c cs = (d : Cont) × (cont_at at cs ≡ Some d) × (d.floor ≡ c.floor) × (list_any (λ n. eqb n number) d.out ≡ true)

  -- past a first container
  behind : (at number : ℕ) (c x : Cont) (cs ds : List Cont) → list_any (λ n. eqb n number) c.out ≡ true → cont_at at (x ∷ cs) ≡ Some c → (cont_at at cs ≡ Some c → StillOut at number c ds) → StillOut at number c (x ∷ ds)
  behind at number c x cs ds out h ih = by_case (eqb x.epoch at) h
    where
      by_case : (a : Bool) → cond a (Some x) (cont_at at cs) ≡ Some c → (d : Cont) × (cond a (Some x) (cont_at at ds) ≡ Some d) × (d.floor ≡ c.floor) × (list_any (λ n. eqb n number) d.out ≡ true)
      by_case true h = (c, h, refl, out)
      by_case false h = ih h

  open_out : (n g e f at number : ℕ) (c : Cont) (cs : List Cont) → AreOpen bound n g e f cs → list_any (λ n. eqb n number) c.out ≡ true → cont_at at cs ≡ Some c → StillOut at number c (in_epoch epoch floor change cs)
  open_out n g e f at number c [] are out h = cc
  open_out n g e f at number c (x ∷ cs) are out h = ⊎_elim here (λ ne. ⊎_elim (new ne) (past ne) (cases_lt epoch x.epoch)) (cases_eq x.epoch epoch) (open_out n g (x.epoch + 1) x.floor at number c cs are.1 out)
    where
      here : x.epoch ≡ epoch → (cont_at at cs ≡ Some c → (d : Cont) × (cont_at at (in_epoch epoch floor change cs) ≡ Some d) × (d.floor ≡ c.floor) × (list_any (λ n. eqb n number) d.out ≡ true))
          → (d : Cont) × (cont_at at (in_epoch epoch floor change (x ∷ cs)) ≡ Some d) × (d.floor ≡ c.floor) × (list_any (λ n. eqb n number) d.out ≡ true)
      here e ih = subst (λ a. (d : Cont) × (cont_at at (cond a (change x ∷ cs) (cond (ltb epoch x.epoch) (change (fresh epoch floor) ∷ x ∷ cs) (x ∷ in_epoch epoch floor change cs))) ≡ Some d) × (d.floor ≡ c.floor) × (list_any (λ n. eqb n number) d.out ≡ true)) (sym (eq-eqb x.epoch epoch e))
          (subst (λ z. (d : Cont) × (cond (eqb z at) (Some (change x)) (cont_at at cs) ≡ Some d) × (d.floor ≡ c.floor) × (list_any (λ n. eqb n number) d.out ≡ true)) (sym (epochs x)) (by_case (eqb x.epoch at) h))
        where
          by_case : (a : Bool) → cond a (Some x) (cont_at at cs) ≡ Some c → (d : Cont) × (cond a (Some (change x)) (cont_at at cs) ≡ Some d) × (d.floor ≡ c.floor) × (list_any (λ n. eqb n number) d.out ≡ true)
          by_case true h = let k : x ≡ c = same_Some x c h in (change x, refl, floors x ∙ ap (λ (c : Cont). c.floor) k, ap (list_any (λ n. eqb n number)) (outs x) ∙ ap (λ (c : Cont). list_any (λ n. eqb n number) c.out) k ∙ out)
          by_case false h = (c, h, refl, out)

      new : x.epoch ≢ epoch → epoch < x.epoch → (cont_at at cs ≡ Some c → (d : Cont) × (cont_at at (in_epoch epoch floor change cs) ≡ Some d) × (d.floor ≡ c.floor) × (list_any (λ n. eqb n number) d.out ≡ true))
          → (d : Cont) × (cont_at at (in_epoch epoch floor change (x ∷ cs)) ≡ Some d) × (d.floor ≡ c.floor) × (list_any (λ n. eqb n number) d.out ≡ true)
      new ne lt ih =
          subst (λ a. (d : Cont) × (cont_at at (cond a (change x ∷ cs) (cond (ltb epoch x.epoch) (change (fresh epoch floor) ∷ x ∷ cs) (x ∷ in_epoch epoch floor change cs))) ≡ Some d) × (d.floor ≡ c.floor) × (list_any (λ n. eqb n number) d.out ≡ true)) (sym (ne_eqb x.epoch epoch ne))
          (subst (λ a. (d : Cont) × (cont_at at (cond a (change (fresh epoch floor) ∷ x ∷ cs) (x ∷ in_epoch epoch floor change cs)) ≡ Some d) × (d.floor ≡ c.floor) × (list_any (λ n. eqb n number) d.out ≡ true)) (sym (lt-ltb epoch x.epoch lt))
          (c, ap (λ a. cond a (Some (change (fresh epoch floor))) (cont_at at (x ∷ cs))) (ne_eqb (change (fresh epoch floor)).epoch at (λ e. not_there (sym (epochs (fresh epoch floor)) ∙ e))) ∙ h, refl, out))
        where
          not_there : epoch ≡ at → ⊥
          not_there e = by_case (eqb x.epoch at) refl h
            where
              by_case : (a : Bool) → eqb x.epoch at ≡ a → cond a (Some x) (cont_at at cs) ≡ Some c → ⊥
              by_case true f h = let k : x.epoch ≡ at = eqb-true x.epoch at f in omega arith
              by_case false f h = let k : x.epoch + 1 ≤ at = open-from bound n g (x.epoch + 1) x.floor at c cs are.1 h in omega arith

      past : x.epoch ≢ epoch → x.epoch ≤ epoch → (cont_at at cs ≡ Some c → (d : Cont) × (cont_at at (in_epoch epoch floor change cs) ≡ Some d) × (d.floor ≡ c.floor) × (list_any (λ n. eqb n number) d.out ≡ true))
          → (d : Cont) × (cont_at at (in_epoch epoch floor change (x ∷ cs)) ≡ Some d) × (d.floor ≡ c.floor) × (list_any (λ n. eqb n number) d.out ≡ true)
      past ne le ih = subst (λ l. (d : Cont) × (cont_at at l ≡ Some d) × (d.floor ≡ c.floor) × (list_any (λ n. eqb n number) d.out ≡ true)) (sym (passes_by epoch floor x cs change (lower ne le))) (behind at number c x cs (in_epoch epoch floor change cs) out h ih)
        where
          lower : x.epoch ≢ epoch → x.epoch ≤ epoch → x.epoch < epoch
          lower ne le = omega arith

  pub containers_out : (e f at number : ℕ) (ms : List ℕ) (c : Cont) (cs : List Cont) → AreContainers bound e f ms cs → e + length ms ≤ epoch → list_any (λ n. eqb n number) c.out ≡ true → cont_at at cs ≡ Some c → StillOut at number c (in_epoch epoch floor change cs)
  containers_out e f at number [] c cs are h out is = open_out e f e f at number c cs are out is
  containers_out e f at number (m ∷ ms) c [] are h out is = absurd are
  containers_out e f at number (m ∷ ms) c (x ∷ cs) are h out is =
      subst (λ l. StillOut at number c l) (sym (passes_by epoch floor x cs change (omega (arith, are.0.epoch_is))))
      (behind at number c x cs (in_epoch epoch floor change cs) out is (λ z. containers_out (e + 1) m at number ms c cs are.1 (omega arith) out z))

  -- ---- what is closing
  pub all_calm : (cs : List Cont) → AllByRecursion (λ c. c.closing ≡ false) cs → AllByRecursion (λ c. c.closing ≡ false) (in_epoch epoch floor change cs)
  all_calm [] all = (closes (fresh epoch floor), tt)
  all_calm (x ∷ cs) all = by_case (eqb x.epoch epoch) (ltb epoch x.epoch) (all_calm cs all.1)
    where
      by_case : (a c : Bool) → AllByRecursion (λ c. c.closing ≡ false) (in_epoch epoch floor change cs)
          → AllByRecursion (λ c. c.closing ≡ false) (cond a (change x ∷ cs) (cond c (change (fresh epoch floor) ∷ x ∷ cs) (x ∷ in_epoch epoch floor change cs)))
      by_case true c ih = (closes x ∙ all.0, all.1)
      by_case false true ih = (closes (fresh epoch floor), all)
      by_case false false ih = (all.0, ih)

  pub open_calm : (n g e f : ℕ) (cs : List Cont) → AreOpen bound n g e f cs → AllByRecursion (λ c. c.closing ≡ false) cs
  open_calm n g e f [] are = tt
  open_calm n g e f (c ∷ cs) are = (are.0.not_closing, open_calm n g (c.epoch + 1) c.floor cs are.1)

  pub others_calm : (e f : ℕ) (ms : List ℕ) (cs : List Cont) → AreContainers bound e f ms cs → e + length ms ≤ epoch → AllByRecursion (λ c. c.closing ≡ false) (drop 1 cs) → AllByRecursion (λ c. c.closing ≡ false) (drop 1 (in_epoch epoch floor change cs))
  others_calm e f [] cs are h all = tail_calm (in_epoch epoch floor change cs) (all_calm cs (open_calm e f e f cs are))
  others_calm e f (m ∷ ms) [] are h all = absurd are
  others_calm e f (m ∷ ms) (x ∷ cs) are h all = subst (λ l. AllByRecursion (λ c. c.closing ≡ false) (drop 1 l)) (sym (passes_by epoch floor x cs change (omega (arith, are.0.epoch_is)))) (all_calm cs all)

  pub still_ready : (e f : ℕ) (ms : List ℕ) (cs : List Cont) → AreContainers bound e f ms cs → e + length ms ≤ epoch → IsReady cs → IsReady (in_epoch epoch floor change cs)
  still_ready e f [] cs are h ready = ready_calm (in_epoch epoch floor change cs) (all_calm cs (open_calm e f e f cs are))
  still_ready e f (m ∷ ms) [] are h ready = absurd are
  still_ready e f (m ∷ ms) (x ∷ cs) are h ready = subst IsReady (sym (passes_by epoch floor x cs change (omega (arith, are.0.epoch_is)))) ready
