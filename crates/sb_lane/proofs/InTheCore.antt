-- What a lane does to its first container, and to the first of an epoch, is what the core does.
use Rattle.std.proofs.Common.{◌≡◌, ℕ, suc, ◌+◌, ◌<◌, Bool, true, false, cond, eqb, List, [], ◌∷◌, ◌++◌, length, drop, Some, None, Option, sym, refl, ap, subst, ◌∙◌, arith}
use Rattle.std.specs.Prelude.{◌&&◌, ◌||◌, Ok, is_some}
use Rattle.std.specs.List.{list_any}
use Rattle.std.proofs.lemmas.Bool.{eq-eqb, ne_eqb, eqb-true}
use Rattle.std.proofs.lemmas.List.{length-drop}
use Rattle.std.proofs.lemmas.Option.{same_Some}
use Rattle.sb_containers.specs.base.records.Reading.{◌>>=◌}
use Rattle.sb_containers.specs.base.bundle.declared.bundle.Bundle.{Bundle}
use Rattle.sb_containers.specs.declared.container.Cont.{Cont}
use Rattle.sb_containers.specs.declared.container.CoreLane.{CoreLane}
use Rattle.sb_containers.specs.Choices.{first_and_rest, only_if, is_empty}
use Rattle.sb_containers.specs.LaneOrder.{IsLane, AreOpen, AreContainers}
use Rattle.sb_containers.specs.Lanes.{take_from, finish_in, closable}
use Rattle.sb_containers.specs.Marks.{last_of_first}
use Rattle.sb_containers.proofs.Begun.{next_mark}
use Rattle.sb_lane.specs.declared.answers.LaneClose.{LaneClose}
use Rattle.sb_lane.specs.Laws.{IsNextClosing}
use Rattle.sb_lane.specs.Looks.{look_of, look_closing, look_marked}
use Rattle.sb_lane.specs.Taking.{first_taken, take_first, with_finished, finish_first}

-- ---- the first waiting bundle is the one that its number takes
-- take_from at a container whose waiting bundles are these
abbrev take_in : ℕ → Cont → List Bundle → List Cont → Option (Bundle × List Cont)
take_in number c waiting cs =
    cond {A = Option (Bundle × List Cont)} (list_any (λ b. eqb b.number number) waiting)
    (first_and_rest (λ b. eqb b.number number) waiting >>= λ q. Some (q.0, record c { waiting = q.1; out = c.out ++ number ∷ [] } ∷ cs))
    (take_from number cs >>= λ q. Some (q.0, c ∷ q.1))

pub take_first-is : (cs : List Cont) (q : Bundle × List Cont) → take_first cs ≡ Some q → take_from q.0.number cs ≡ Some q
take_first-is [] q h = cc
take_first-is (c ∷ cs) q h = by_case c.waiting refl h (take_first-is cs)
  where
    later : (o : Option (Bundle × List Cont)) → (o >>= λ r. Some (r.0, c ∷ r.1)) ≡ Some q → ((r : Bundle × List Cont) → o ≡ Some r → take_from r.0.number cs ≡ Some r) → (take_from q.0.number cs >>= λ r. Some (r.0, c ∷ r.1)) ≡ Some q
    later None h ih = cc
    later (Some r) h ih =
        let e : (r.0, c ∷ r.1) ≡ q = same_Some (r.0, c ∷ r.1) q h in
        subst (λ (z : Bundle × List Cont). (take_from z.0.number cs >>= λ r. Some (r.0, c ∷ r.1)) ≡ Some z) e (ap (λ (o : Option (Bundle × List Cont)). o >>= λ r. Some (r.0, c ∷ r.1)) (ih r refl))

    first : (b : Bundle) (bs : List Bundle) → take_in b.number c (b ∷ bs) cs ≡ Some (b, record c { waiting = bs; out = c.out ++ b.number ∷ [] } ∷ cs)
    first b bs = λ i. cond {A = Option (Bundle × List Cont)} (eq-eqb b.number b.number refl i || list_any (λ x. eqb x.number b.number) bs)
        (cond {A = Option (Bundle × List Bundle)} (eq-eqb b.number b.number refl i) (Some (b, bs)) (first_and_rest (λ x. eqb x.number b.number) bs >>= λ q. Some (q.0, b ∷ q.1)) >>= λ q. Some (q.0, record c { waiting = q.1; out = c.out ++ b.number ∷ [] } ∷ cs))
        (take_from b.number cs >>= λ q. Some (q.0, c ∷ q.1))

    by_case : (w : List Bundle) → c.waiting ≡ w → first_taken c.waiting c cs (take_first cs) ≡ Some q → ((r : Bundle × List Cont) → take_first cs ≡ Some r → take_from r.0.number cs ≡ Some r) → take_from q.0.number (c ∷ cs) ≡ Some q
    by_case [] e h ih = ap (λ l. take_in q.0.number c l cs) e ∙ later (take_first cs) (sym (ap (λ l. first_taken l c cs (take_first cs)) e) ∙ h) ih
    by_case (b ∷ bs) e h ih =
        let same : (b, record c { waiting = bs; out = c.out ++ b.number ∷ [] } ∷ cs) ≡ q = same_Some (b, record c { waiting = bs; out = c.out ++ b.number ∷ [] } ∷ cs) q (sym (ap (λ l. first_taken l c cs (take_first cs)) e) ∙ h) in
        ap (λ l. take_in q.0.number c l cs) e ∙ subst (λ (z : Bundle × List Cont). take_in z.0.number c (b ∷ bs) cs ≡ Some z) same (first b bs)

-- ---- finishing in the first container of an epoch is finishing in all of it
module _ (bound epoch number : ℕ) where
  later-open : (n g e f : ℕ) (cs : List Cont) → AreOpen bound n g e f cs → epoch < e → finish_in epoch number cs ≡ cs
  later-open n g e f [] are h = refl
  later-open n g e f (c ∷ cs) are h =
      (λ i. cond (ne_eqb c.epoch epoch (λ z. let k = are.0.epoch_from in absurd (omega arith)) i) (with_finished number c) c ∷ later-open n g (c.epoch + 1) c.floor cs are.1 (let k = are.0.epoch_from in omega arith) i)

  later-all : (e f : ℕ) (ms : List ℕ) (cs : List Cont) → AreContainers bound e f ms cs → epoch < e → finish_in epoch number cs ≡ cs
  later-all e f [] cs are h = later-open e f e f cs are h
  later-all e f (m ∷ ms) [] are h = absurd are
  later-all e f (m ∷ ms) (c ∷ cs) are h =
      (λ i. cond (ne_eqb c.epoch epoch (λ z. let k = are.0.epoch_is in absurd (omega arith)) i) (with_finished number c) c ∷ later-all (e + 1) m ms cs are.1 (omega arith) i)

  step : (c : Cont) (cs : List Cont) → (c.epoch ≡ epoch → finish_in epoch number cs ≡ cs) → finish_first epoch number cs ≡ finish_in epoch number cs → finish_first epoch number (c ∷ cs) ≡ finish_in epoch number (c ∷ cs)
  step c cs stays ih = by_case (eqb c.epoch epoch) refl
    where
      by_case : (b : Bool) → eqb c.epoch epoch ≡ b → cond b (with_finished number c ∷ cs) (c ∷ finish_first epoch number cs) ≡ cond b (with_finished number c) c ∷ finish_in epoch number cs
      by_case true e = ap (λ l. with_finished number c ∷ l) (sym (stays (eqb-true c.epoch epoch e)))
      by_case false e = ap (λ l. c ∷ l) ih

  first-open : (n g e f : ℕ) (cs : List Cont) → AreOpen bound n g e f cs → finish_first epoch number cs ≡ finish_in epoch number cs
  first-open n g e f [] are = refl
  first-open n g e f (c ∷ cs) are = step c cs (λ z. later-open n g (c.epoch + 1) c.floor cs are.1 (omega arith)) (first-open n g (c.epoch + 1) c.floor cs are.1)

  first-all : (e f : ℕ) (ms : List ℕ) (cs : List Cont) → AreContainers bound e f ms cs → finish_first epoch number cs ≡ finish_in epoch number cs
  first-all e f [] cs are = first-open e f e f cs are
  first-all e f (m ∷ ms) [] are = absurd are
  first-all e f (m ∷ ms) (c ∷ cs) are = step c cs (λ z. later-all (e + 1) m ms cs are.1 (let k = are.0.epoch_is in omega arith)) (first-all (e + 1) m ms cs are.1)

  pub finish_first-is : (lane : CoreLane) → IsLane bound lane → finish_first epoch number lane.conts ≡ finish_in epoch number lane.conts
  finish_first-is lane ok = first-all lane.ended (last_of_first lane.ended lane.marks) (drop lane.ended lane.marks) lane.conts ok.containers

-- ---- what an Ok of look says of the first container
pub record Closes (cs : List Cont) (close : LaneClose) : Type 0 where
  pub first : Cont
  pub rest : List Cont
  pub conts : cs ≡ first ∷ rest
  pub epoch_is : first.epoch ≡ close.epoch
  pub marked : first.mark ≡ Some close.mark
  pub none_waits : first.waiting ≡ []
  pub none_out : first.out ≡ []

pub look-closes : (cs : List Cont) (close : LaneClose) → look_of cs ≡ Ok close → Closes cs close
look-closes [] close h = cc
look-closes (c ∷ cs) close h = by_closing c.closing h
  where
    by_out : (mark : ℕ) (o : List ℕ) → c.mark ≡ Some mark → c.waiting ≡ [] → c.out ≡ o → look_marked c (Some mark) [] o ≡ Ok close → Closes (c ∷ cs) close
    by_out mark [] m w o h =
        let k : record { epoch = c.epoch; mark = mark } ≡ close = cc in
        record { first = c; rest = cs; conts = refl; epoch_is = ap (λ (x : LaneClose). x.epoch) k; marked = m ∙ ap (λ (x : LaneClose). Some x.mark) k; none_waits = w; none_out = o }
    by_out mark (n ∷ ns) m w o h = cc

    by_waiting : (mark : ℕ) (w : List Bundle) → c.mark ≡ Some mark → c.waiting ≡ w → look_marked c (Some mark) w c.out ≡ Ok close → Closes (c ∷ cs) close
    by_waiting mark [] m w h = by_out mark c.out m w refl h
    by_waiting mark (b ∷ bs) m w h = cc

    by_mark : (mark : Option ℕ) → c.mark ≡ mark → look_marked c mark c.waiting c.out ≡ Ok close → Closes (c ∷ cs) close
    by_mark None m h = cc
    by_mark (Some mark) m h = by_waiting mark c.waiting m refl h

    by_closing : (b : Bool) → look_closing c b ≡ Ok close → Closes (c ∷ cs) close
    by_closing true h = cc
    by_closing false h = by_mark c.mark refl h

-- the first container, which may close, is that of the first epoch that has not ended
pub record MayClose (lane : CoreLane) (close : LaneClose) : Type 0 where
  pub first : Cont
  pub rest : List Cont
  pub conts : lane.conts ≡ first ∷ rest
  pub may : closable lane.ended lane.conts ≡ Some first
  pub epoch_is : first.epoch ≡ close.epoch
  pub oldest : first.epoch ≡ lane.ended
  pub mark_is : close.mark ≡ last_of_first (lane.ended + 1) lane.marks
  pub sealed : lane.ended < length lane.marks

-- the first container, once it is known which it is, by the marks ahead
pub may-close : (bound : ℕ) (lane : CoreLane) (close : LaneClose) → IsLane bound lane → look_of lane.conts ≡ Ok close → MayClose lane close
may-close bound lane close ok h = go (drop lane.ended lane.marks) refl (subst (λ cs. AreContainers bound lane.ended (last_of_first lane.ended lane.marks) (drop lane.ended lane.marks) cs) closes.conts ok.containers)
  where
    closes : Closes lane.conts close
    closes = look-closes lane.conts close h

    go : (ms : List ℕ) → drop lane.ended lane.marks ≡ ms → AreContainers bound lane.ended (last_of_first lane.ended lane.marks) ms (closes.first ∷ closes.rest) → MayClose lane close
    go [] e are = let n : None ≡ Some close.mark = sym are.0.no_mark ∙ closes.marked in cc
    go (m ∷ ms) e are =
        let n : length (drop lane.ended lane.marks) ≡ suc (length ms) = ap length e in
        record {
          first = closes.first;
          rest = closes.rest;
          conts = closes.conts;
          may = ap (closable lane.ended) closes.conts
              ∙ (λ i. only_if (eq-eqb closes.first.epoch lane.ended are.0.epoch_is i && (is_some (closes.marked i) && (is_empty (closes.none_waits i) && is_empty (closes.none_out i)))) (Some closes.first));
          epoch_is = closes.epoch_is;
          oldest = are.0.epoch_is;
          mark_is = same_Some close.mark m (sym closes.marked ∙ are.0.mark_is) ∙ sym (next_mark bound lane ok m ms e);
          sealed = omega (arith, n, length-drop lane.ended lane.marks);
        }

pub next_closing : (bound : ℕ) (lane : CoreLane) (close : LaneClose) → IsLane bound lane → look_of lane.conts ≡ Ok close → IsNextClosing lane close
next_closing bound lane close ok h =
    let c = may-close bound lane close ok h in
    record { first = c.first; may_close = c.may; epoch_is = sym c.epoch_is ∙ c.oldest; mark_is = c.mark_is; sealed = c.sealed }
