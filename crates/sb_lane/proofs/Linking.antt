-- The container of an epoch by its link; and what the order of a lane says of it.
use Rattle.std.proofs.Common.{◌≡◌, ℕ, suc, zero, ◌+◌, ◌<◌, ◌≤◌, Bool, false, true, cond, eqb, ltb, List, [], ◌∷◌, length, get_or, set, drop, Some, None, sym, refl, ap, subst, ◌∙◌, arith}
use Rattle.std.proofs.lemmas.Bool.{eq-eqb, ne_eqb, eqb-true, le-ltb}
use Rattle.std.proofs.lemmas.List.{length-map}
use Rattle.std.proofs.lemmas.Option.{same_Some}
use Rattle.sb_containers.specs.base.bundle.declared.bundle.Bundle.{Bundle}
use Rattle.sb_containers.specs.declared.container.Cont.{Cont}
use Rattle.sb_containers.specs.declared.container.CoreLane.{CoreLane}
use Rattle.sb_containers.specs.LaneOrder.{IsLane, AreOpen, AreContainers}
use Rattle.sb_containers.specs.Lanes.{fresh, in_epoch, with_bundle}
use Rattle.sb_containers.specs.Marks.{last_of_first}
use Rattle.sb_lane.specs.Unfinished.{unfinished_of}
use Rattle.sb_lane.specs.Finding.{OthersBefore}
use Rattle.sb_lane.specs.Changes.{Changes}
use Rattle.sb_lane.specs.Links.{Link, link_of, links_of, link_in, with_link, down_of}
use Rattle.sb_lane.specs.Placed.{Placed, conts_of}
use Rattle.sb_lane.specs.Taking.{at_epoch}
use Rattle.sb_lane.proofs.Counts.{unfinished-set, unfinished-bundle}
use Rattle.sb_lane.proofs.Firsts.{self-get}

-- where the container of a link is
pub record Found (epoch : ℕ) (xs : List Placed) (k : Link) : Type 0 where
  pub at : ℕ
  pub within : at < length xs
  pub others : OthersBefore epoch at (conts_of xs)
  pub here : (d : Cont) → (get_or (conts_of xs) at d).epoch ≡ epoch
  pub link : (d : Link) → get_or (links_of xs) at d ≡ k

pub found-link : (epoch : ℕ) (xs : List Placed) (k : Link) → link_in epoch (links_of xs) ≡ Some k → Found epoch xs k
found-link epoch [] k h = cc
found-link epoch (x ∷ xs) k h = by_case (eqb x.cont.epoch epoch) refl h (λ z. found-link epoch xs k z)
  where
    by_case : (b : Bool) → eqb x.cont.epoch epoch ≡ b → cond b (Some (link_of x)) (link_in epoch (links_of xs)) ≡ Some k → (link_in epoch (links_of xs) ≡ Some k → Found epoch xs k) → Found epoch (x ∷ xs) k
    by_case true e h ih = record { at = 0; within = omega arith; others = λ j d z. absurd (omega arith); here = λ d. eqb-true x.cont.epoch epoch e; link = λ d. same_Some (link_of x) k h }
    by_case false e h ih =
        let f = ih h in
        record {
          at = suc f.at;
          within = omega (arith, f.within);
          others = others f.at f.others;
          here = f.here;
          link = f.link;
        }
      where
        others : (i : ℕ) → OthersBefore epoch i (conts_of xs) → OthersBefore epoch (suc i) (conts_of (x ∷ xs))
        others i f zero d z = λ s. let t : false ≡ true = sym e ∙ eq-eqb x.cont.epoch epoch s in cc
        others i f (suc j) d z = f j d (omega arith)

pub at_epoch-at : (epoch : ℕ) (change : Cont → Cont) (cs : List Cont) (i : ℕ) (d : Cont) → i < length cs → OthersBefore epoch i cs → (get_or cs i d).epoch ≡ epoch → at_epoch epoch change cs ≡ set cs i (change (get_or cs i d))
at_epoch-at epoch change [] i d h others here = absurd (omega arith)
at_epoch-at epoch change (c ∷ cs) zero d h others here = ap (λ b. cond b (change c ∷ cs) (c ∷ at_epoch epoch change cs)) (eq-eqb c.epoch epoch here)
at_epoch-at epoch change (c ∷ cs) (suc i) d h others here =
    ap (λ b. cond b (change c ∷ cs) (c ∷ at_epoch epoch change cs)) (ne_eqb c.epoch epoch (others 0 c (omega arith)))
    ∙ ap (λ l. c ∷ l) (at_epoch-at epoch change cs i d (omega arith) (λ k e z. others (suc k) e (omega arith)) here)

pub linked-at : (epoch down : ℕ) (xs : List Placed) (i : ℕ) (d : Link) → i < length xs → OthersBefore epoch i (conts_of xs) → ((c : Cont) → (get_or (conts_of xs) i c).epoch ≡ epoch) → with_link epoch down (links_of xs) ≡ set (links_of xs) i (record (get_or (links_of xs) i d) { down = Some down })
linked-at epoch down [] i d h others here = absurd (omega arith)
linked-at epoch down (x ∷ xs) zero d h others here = ap (λ b. cond b (record (link_of x) { down = Some down } ∷ links_of xs) (link_of x ∷ with_link epoch down (links_of xs))) (eq-eqb x.cont.epoch epoch (here x.cont))
linked-at epoch down (x ∷ xs) (suc i) d h others here =
    ap (λ b. cond b (record (link_of x) { down = Some down } ∷ links_of xs) (link_of x ∷ with_link epoch down (links_of xs))) (ne_eqb x.cont.epoch epoch (others 0 x.cont (omega arith)))
    ∙ ap (λ l. link_of x ∷ l) (linked-at epoch down xs i d (omega arith) (λ k e z. others (suc k) e (omega arith)) here)

pub linked-none : (epoch down : ℕ) (xs : List Placed) → OthersBefore epoch (length xs) (conts_of xs) → with_link epoch down (links_of xs) ≡ links_of xs
linked-none epoch down [] others = refl
linked-none epoch down (x ∷ xs) others =
    ap (λ b. cond b (record (link_of x) { down = Some down } ∷ links_of xs) (link_of x ∷ with_link epoch down (links_of xs))) (ne_eqb x.cont.epoch epoch (others 0 x.cont (omega arith)))
    ∙ ap (λ l. link_of x ∷ l) (linked-none epoch down xs (λ k e z. others (suc k) e (omega arith)))

pub down-at : (epoch : ℕ) (xs : List Placed) (i : ℕ) (d : Link) → i < length xs → OthersBefore epoch i (conts_of xs) → ((c : Cont) → (get_or (conts_of xs) i c).epoch ≡ epoch) → down_of epoch (links_of xs) ≡ (get_or (links_of xs) i d).down
down-at epoch [] i d h others here = absurd (omega arith)
down-at epoch (x ∷ xs) zero d h others here = ap (λ b. cond b x.down (down_of epoch (links_of xs))) (eq-eqb x.cont.epoch epoch (here x.cont))
down-at epoch (x ∷ xs) (suc i) d h others here =
    ap (λ b. cond b x.down (down_of epoch (links_of xs))) (ne_eqb x.cont.epoch epoch (others 0 x.cont (omega arith)))
    ∙ down-at epoch xs i d (omega arith) (λ k e z. others (suc k) e (omega arith)) here

pub down-none : (epoch : ℕ) (xs : List Placed) → OthersBefore epoch (length xs) (conts_of xs) → down_of epoch (links_of xs) ≡ None
down-none epoch [] others = refl
down-none epoch (x ∷ xs) others =
    ap (λ b. cond b x.down (down_of epoch (links_of xs))) (ne_eqb x.cont.epoch epoch (others 0 x.cont (omega arith)))
    ∙ down-none epoch xs (λ k e z. others (suc k) e (omega arith))

pub put-linked : (bundle : Bundle) (old new : List Placed) (k : Link) → (f : Found bundle.epoch old k) → Changes (with_bundle bundle) f.at old new → (conts_of new ≡ at_epoch bundle.epoch (with_bundle bundle) (conts_of old)) × (unfinished_of (conts_of new) ≡ unfinished_of (conts_of old) + 1)
put-linked bundle old new k f c =
    let x = get_or (conts_of old) f.at (fresh 0 0) in
    let n : f.at < length (conts_of old) = omega (arith, f.within, length-map old (λ (x : Placed). x.cont)) in
    let e = ap unfinished_of (c.conts (fresh 0 0)) in (
      c.conts (fresh 0 0) ∙ sym (at_epoch-at bundle.epoch (with_bundle bundle) (conts_of old) f.at (fresh 0 0) n f.others (f.here (fresh 0 0))),
      omega (arith, e, unfinished-bundle bundle x, unfinished-set (conts_of old) f.at x (with_bundle bundle x) n (self-get (conts_of old) f.at (fresh 0 0) n)),
    )

-- ---- the order of a lane
module _ (bound epoch floor : ℕ) (change : Cont → Cont) where
  low-open : (n g e f : ℕ) (xs : List Placed) (k : Link) → AreOpen bound n g e f (conts_of xs) → link_in epoch (links_of xs) ≡ Some k → e ≤ epoch
  low-open n g e f [] k are h = cc
  low-open n g e f (x ∷ xs) k are h = by_case (eqb x.cont.epoch epoch) refl h (λ z. low-open n g (x.cont.epoch + 1) x.cont.floor xs k are.1 z)
    where
      by_case : (b : Bool) → eqb x.cont.epoch epoch ≡ b → cond b (Some (link_of x)) (link_in epoch (links_of xs)) ≡ Some k → (link_in epoch (links_of xs) ≡ Some k → x.cont.epoch + 1 ≤ epoch) → e ≤ epoch
      by_case true s h ih = omega (arith, are.0.epoch_from, eqb-true x.cont.epoch epoch s)
      by_case false s h ih = omega (arith, are.0.epoch_from, ih h)

  low-all : (e f : ℕ) (ms : List ℕ) (xs : List Placed) (k : Link) → AreContainers bound e f ms (conts_of xs) → link_in epoch (links_of xs) ≡ Some k → e ≤ epoch
  low-all e f [] xs k are h = low-open e f e f xs k are h
  low-all e f (m ∷ ms) [] k are h = absurd are
  low-all e f (m ∷ ms) (x ∷ xs) k are h = by_case (eqb x.cont.epoch epoch) refl h (λ z. low-all (e + 1) m ms xs k are.1 z)
    where
      by_case : (b : Bool) → eqb x.cont.epoch epoch ≡ b → cond b (Some (link_of x)) (link_in epoch (links_of xs)) ≡ Some k → (link_in epoch (links_of xs) ≡ Some k → e + 1 ≤ epoch) → e ≤ epoch
      by_case true s h ih = omega (arith, are.0.epoch_is, eqb-true x.cont.epoch epoch s)
      by_case false s h ih = omega (arith, ih h)

  step : (x : Placed) (xs : List Placed) (k : Link) → link_in epoch (links_of (x ∷ xs)) ≡ Some k → (link_in epoch (links_of xs) ≡ Some k → x.cont.epoch + 1 ≤ epoch) → (link_in epoch (links_of xs) ≡ Some k → in_epoch epoch floor change (conts_of xs) ≡ at_epoch epoch change (conts_of xs)) → in_epoch epoch floor change (conts_of (x ∷ xs)) ≡ at_epoch epoch change (conts_of (x ∷ xs))
  step x xs k h low ih = by_case (eqb x.cont.epoch epoch) refl h
    where
      by_case : (b : Bool) → eqb x.cont.epoch epoch ≡ b → cond b (Some (link_of x)) (link_in epoch (links_of xs)) ≡ Some k
          → cond b (change x.cont ∷ conts_of xs) (cond (ltb epoch x.cont.epoch) (change (fresh epoch floor) ∷ x.cont ∷ conts_of xs) (x.cont ∷ in_epoch epoch floor change (conts_of xs))) ≡ cond b (change x.cont ∷ conts_of xs) (x.cont ∷ at_epoch epoch change (conts_of xs))
      by_case true e h = refl
      by_case false e h =
          ap (λ b. cond b (change (fresh epoch floor) ∷ x.cont ∷ conts_of xs) (x.cont ∷ in_epoch epoch floor change (conts_of xs))) (le-ltb epoch x.cont.epoch (let n = low h in omega arith))
          ∙ ap (λ l. x.cont ∷ l) (ih h)

  put-open : (n g e f : ℕ) (xs : List Placed) (k : Link) → AreOpen bound n g e f (conts_of xs) → link_in epoch (links_of xs) ≡ Some k → in_epoch epoch floor change (conts_of xs) ≡ at_epoch epoch change (conts_of xs)
  put-open n g e f [] k are h = cc
  put-open n g e f (x ∷ xs) k are h = step x xs k h (λ z. low-open n g (x.cont.epoch + 1) x.cont.floor xs k are.1 z) (λ z. put-open n g (x.cont.epoch + 1) x.cont.floor xs k are.1 z)

  put-all : (e f : ℕ) (ms : List ℕ) (xs : List Placed) (k : Link) → AreContainers bound e f ms (conts_of xs) → link_in epoch (links_of xs) ≡ Some k → in_epoch epoch floor change (conts_of xs) ≡ at_epoch epoch change (conts_of xs)
  put-all e f [] xs k are h = put-open e f e f xs k are h
  put-all e f (m ∷ ms) [] k are h = absurd are
  put-all e f (m ∷ ms) (x ∷ xs) k are h = step x xs k h (λ z. let n = low-all (e + 1) m ms xs k are.1 z in let o = are.0.epoch_is in omega arith) (λ z. put-all (e + 1) m ms xs k are.1 z)

  -- where the container of the epoch is there, a change in the epoch is one of it
  pub in_epoch-linked : (xs : List Placed) (lane : CoreLane) (k : Link) → lane.conts ≡ conts_of xs → IsLane bound lane → link_in epoch (links_of xs) ≡ Some k → in_epoch epoch floor change (conts_of xs) ≡ at_epoch epoch change (conts_of xs)
  in_epoch-linked xs lane k is ok h = put-all lane.ended (last_of_first lane.ended lane.marks) (drop lane.ended lane.marks) xs k (subst (λ cs. AreContainers bound lane.ended (last_of_first lane.ended lane.marks) (drop lane.ended lane.marks) cs) is ok.containers) h
