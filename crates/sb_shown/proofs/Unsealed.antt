-- How many containers of a lane are not sealed, after each change.
use Rattle.std.proofs.Common.{◌≡◌, ℕ, ◌+◌, ◌≤◌, ◌<◌, Bool, true, false, cond, eqb, ltb, List, [], ◌∷◌, ◌++◌, length, drop, Some, None, Option, sym, refl, ap, ◌∙◌, arith}
use Rattle.std.specs.Prelude.{sum_by}
use Rattle.std.proofs.lemmas.List.Sums.{sum_by-cons}
use Rattle.std.proofs.lemmas.List.{length-drop}
use Rattle.std.proofs.lemmas.Option.{same_Some}
use Rattle.sb_node.specs.base.bundle.declared.bundle.Bundle.{Bundle}
use Rattle.sb_node.specs.base.records.Reading.{◌>>=◌}
use Rattle.sb_tally.specs.core.containers.declared.container.Cont.{Cont}
use Rattle.sb_tally.specs.core.containers.declared.container.CoreLane.{CoreLane}
use Rattle.sb_tally.specs.core.containers.LaneOrder.{IsLane, AreContainers}
use Rattle.sb_tally.specs.core.containers.Lanes.{fresh, in_epoch, with_first_closing}
use Rattle.sb_tally.specs.core.containers.Marks.{last_of_first}
use Rattle.sb_node.specs.lane.Links.{link_of, link_in, links_of}
use Rattle.sb_node.specs.lane.Placed.{Placed, conts_of}
use Rattle.sb_node.specs.lane.Taking.{first_taken, take_first, finish_first, with_finished}
use Rattle.sb_shown.specs.Searching.{unsealed_in}

abbrev pub unsealed_of : List Cont → ℕ
unsealed_of cs = sum_by unsealed_in cs

cons : (c : Cont) (cs : List Cont) → unsealed_of (c ∷ cs) ≡ unsealed_in c + unsealed_of cs
cons c cs = sum_by-cons unsealed_in c cs

same-head : (c d : Cont) (cs : List Cont) → d.mark ≡ c.mark → unsealed_of (d ∷ cs) ≡ unsealed_of (c ∷ cs)
same-head c d cs e = cons d cs ∙ ap (λ (m : Option ℕ). unsealed_in (record c { mark = m }) + unsealed_of cs) e ∙ sym (cons c cs)

same-tail : (c : Cont) (cs ds : List Cont) → unsealed_of ds ≡ unsealed_of cs → unsealed_of (c ∷ ds) ≡ unsealed_of (c ∷ cs)
same-tail c cs ds e = cons c ds ∙ ap (λ n. unsealed_in c + n) e ∙ sym (cons c cs)

pub taken : (cs : List Cont) (q : Bundle × List Cont) → take_first cs ≡ Some q → unsealed_of q.1 ≡ unsealed_of cs
taken [] q h = cc
taken (c ∷ cs) q h = by_case c.waiting refl h (taken cs)
  where
    later : (o : Option (Bundle × List Cont)) → (o >>= λ r. Some (r.0, c ∷ r.1)) ≡ Some q → ((r : Bundle × List Cont) → o ≡ Some r → unsealed_of r.1 ≡ unsealed_of cs) → unsealed_of q.1 ≡ unsealed_of (c ∷ cs)
    later None h ih = cc
    later (Some r) h ih =
        let e : (r.0, c ∷ r.1) ≡ q = same_Some (r.0, c ∷ r.1) q h in
        ap (λ (z : Bundle × List Cont). unsealed_of z.1) (sym e) ∙ same-tail c cs r.1 (ih r refl)

    by_case : (w : List Bundle) → c.waiting ≡ w → first_taken c.waiting c cs (take_first cs) ≡ Some q → ((r : Bundle × List Cont) → take_first cs ≡ Some r → unsealed_of r.1 ≡ unsealed_of cs) → unsealed_of q.1 ≡ unsealed_of (c ∷ cs)
    by_case [] e h ih = later (take_first cs) (sym (ap (λ l. first_taken l c cs (take_first cs)) e) ∙ h) ih
    by_case (b ∷ bs) e h ih =
        let g : (b, record c { waiting = bs; out = c.out ++ b.number ∷ [] } ∷ cs) ≡ q = same_Some (b, record c { waiting = bs; out = c.out ++ b.number ∷ [] } ∷ cs) q (sym (ap (λ l. first_taken l c cs (take_first cs)) e) ∙ h) in
        ap (λ (z : Bundle × List Cont). unsealed_of z.1) (sym g) ∙ same-head c (record c { waiting = bs; out = c.out ++ b.number ∷ [] }) cs refl

pub finished : (epoch number : ℕ) (cs : List Cont) → unsealed_of (finish_first epoch number cs) ≡ unsealed_of cs
finished epoch number [] = refl
finished epoch number (c ∷ cs) = by_case (eqb c.epoch epoch) (finished epoch number cs)
  where
    by_case : (b : Bool) → unsealed_of (finish_first epoch number cs) ≡ unsealed_of cs → unsealed_of (cond b (with_finished number c ∷ cs) (c ∷ finish_first epoch number cs)) ≡ unsealed_of (c ∷ cs)
    by_case true ih = same-head c (with_finished number c) cs refl
    by_case false ih = same-tail c cs (finish_first epoch number cs) ih

pub begun : (cs : List Cont) → unsealed_of (with_first_closing cs) ≡ unsealed_of cs
begun [] = refl
begun (c ∷ cs) = same-head c (record c { closing = true }) cs refl

module _ (epoch floor : ℕ) (change : Cont → Cont) where
  -- a container more, or the same ones
  pub as_many : ((c : Cont) → (change c).mark ≡ c.mark) → (cs : List Cont) → unsealed_of cs ≤ unsealed_of (in_epoch epoch floor change cs)
  as_many keeps [] = omega arith
  as_many keeps (c ∷ cs) = by_case (eqb c.epoch epoch) (ltb epoch c.epoch) (as_many keeps cs)
    where
      by_case : (here before : Bool) → unsealed_of cs ≤ unsealed_of (in_epoch epoch floor change cs)
          → unsealed_of (c ∷ cs) ≤ unsealed_of (cond here (change c ∷ cs) (cond before (change (fresh epoch floor) ∷ c ∷ cs) (c ∷ in_epoch epoch floor change cs)))
      by_case true before ih = let e = same-head c (change c) cs (keeps c) in omega (arith, e)
      by_case false true ih = let e = cons (change (fresh epoch floor)) (c ∷ cs) in omega (arith, e)
      by_case false false ih = omega (arith, ih, cons c cs, cons c (in_epoch epoch floor change cs))

  -- where there was none
  pub one_more : (xs : List Placed) → link_in epoch (links_of xs) ≡ None → unsealed_of (in_epoch epoch floor change (conts_of xs)) ≡ unsealed_in (change (fresh epoch floor)) + unsealed_of (conts_of xs)
  one_more [] h = cons (change (fresh epoch floor)) []
  one_more (x ∷ xs) h = by_case (eqb x.cont.epoch epoch) (ltb epoch x.cont.epoch) h (λ z. one_more xs z)
    where
      by_case : (here before : Bool) → cond here (Some (link_of x)) (link_in epoch (links_of xs)) ≡ None
          → (link_in epoch (links_of xs) ≡ None → unsealed_of (in_epoch epoch floor change (conts_of xs)) ≡ unsealed_in (change (fresh epoch floor)) + unsealed_of (conts_of xs))
          → unsealed_of (cond here (change x.cont ∷ conts_of xs) (cond before (change (fresh epoch floor) ∷ x.cont ∷ conts_of xs) (x.cont ∷ in_epoch epoch floor change (conts_of xs)))) ≡ unsealed_in (change (fresh epoch floor)) + unsealed_of (x.cont ∷ conts_of xs)
      by_case true before h ih = cc
      by_case false true h ih = cons (change (fresh epoch floor)) (x.cont ∷ conts_of xs)
      by_case false false h ih = let e = ih h in cons x.cont (in_epoch epoch floor change (conts_of xs)) ∙ (omega (arith, e, cons x.cont (conts_of xs)))

  -- one less at most
  pub one_less : (cs : List Cont) → unsealed_of cs ≤ unsealed_of (in_epoch epoch floor change cs) + 1
  one_less [] = omega arith
  one_less (c ∷ cs) = by_case (eqb c.epoch epoch) (ltb epoch c.epoch) (one_less cs)
    where
      most : (c : Cont) → unsealed_in c ≤ 1
      most c = of c.mark
        where
          of : (m : Option ℕ) → unsealed_in (record c { mark = m }) ≤ 1
          of None = omega arith
          of (Some m) = omega arith

      by_case : (here before : Bool) → unsealed_of cs ≤ unsealed_of (in_epoch epoch floor change cs) + 1
          → unsealed_of (c ∷ cs) ≤ unsealed_of (cond here (change c ∷ cs) (cond before (change (fresh epoch floor) ∷ c ∷ cs) (c ∷ in_epoch epoch floor change cs))) + 1
      by_case true before ih = omega (arith, most c, cons c cs, cons (change c) cs)
      by_case false true ih = let e = cons (change (fresh epoch floor)) (c ∷ cs) in omega (arith, e)
      by_case false false ih = omega (arith, ih, cons c cs, cons c (in_epoch epoch floor change cs))

-- the oldest, which is sealed, is gone
pub record Oldest (lane : CoreLane) : Type 0 where
  pub first : Cont
  pub rest : List Cont
  pub conts : lane.conts ≡ first ∷ rest
  pub epoch_is : first.epoch ≡ lane.ended
  pub sealed : unsealed_in first ≡ 0

pub oldest : (bound : ℕ) (lane : CoreLane) → IsLane bound lane → lane.ended < length lane.marks → Oldest lane
oldest bound lane ok less = go (drop lane.ended lane.marks) refl lane.conts refl ok.containers
  where
    go : (ms : List ℕ) → drop lane.ended lane.marks ≡ ms → (cs : List Cont) → lane.conts ≡ cs → AreContainers bound lane.ended (last_of_first lane.ended lane.marks) ms cs → Oldest lane
    go [] e cs f are = absurd (omega (arith, length-drop lane.ended lane.marks, ap length e, less))
    go (m ∷ ms) e [] f are = absurd are
    go (m ∷ ms) e (c ∷ cs) f are = record {
      first = c;
      rest = cs;
      conts = f;
      epoch_is = are.0.epoch_is;
      sealed = ap (λ (o : Option ℕ). unsealed_in (record c { mark = o })) are.0.mark_is;
    }

pub ended : (lane : CoreLane) → Oldest lane → unsealed_of (drop 1 lane.conts) ≡ unsealed_of lane.conts
ended lane o = ap (λ cs. unsealed_of (drop 1 cs)) o.conts ∙ sym (ap unsealed_of o.conts ∙ cons o.first o.rest ∙ ap (λ n. n + unsealed_of o.rest) o.sealed ∙ zero)
  where
    zero : 0 + unsealed_of o.rest ≡ unsealed_of o.rest
    zero = omega arith
