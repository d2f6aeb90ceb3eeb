-- What the events of a node lower.
use Rattle.std.proofs.Common.{◌≡◌, ℕ, ◌+◌, ◌-◌, ◌≤◌, ◌<◌, cond, eqb, true, false, List, [], ◌∷◌, ◌++◌, length, drop, filter, not, refl, sym, ap, subst, ◌∙◌, arith}
use Rattle.std.specs.Prelude.{Bool, Option, Some, None, sum_by, slice_get, slice_set}
use Rattle.std.proofs.lemmas.List.Sums.{sum_by-cons}
use Rattle.sb_shown.specs.base.bundle.declared.bundle.Bundle.{Bundle}
use Rattle.sb_shown.specs.base.records.Reading.{◌>>=◌}
use Rattle.sb_shown.specs.core.containers.declared.container.Cont.{Cont}
use Rattle.sb_shown.specs.core.containers.declared.container.CoreLane.{CoreLane}
use Rattle.sb_shown.specs.core.containers.Lanes.{with_first_closing}
use Rattle.sb_shown.proofs.core.exact.Nodes.{slice_get-set_same, slice_get-set_other, sum_by-set_get}
use Rattle.sb_shown.specs.lane.LaneView.{LaneView, lane_of}
use Rattle.sb_shown.specs.lane.Taking.{first_taken, take_first, finish_first}
use Rattle.sb_shown.specs.node.declared.closing.Closing.{Closing}
use Rattle.sb_shown.specs.node.declared.state.NodeState.{NodeState}
use Rattle.sb_shown.specs.diary.declared.event.DiaryEvent.{DiaryEvent}
use Rattle.sb_shown.specs.Sets.{SetsLane, Takes, Turns, Absorbs, BeginsAt}
use Rattle.sb_hand.specs.Todo.{waiting_in, todo_lane, todo_seen, todo_of, todo_at, Lowers}
use Rattle.sb_shown.specs.lane.Placed.{conts_of}
use Rattle.sb_shown.specs.work.declared.outputs.Part.{Part}

pub lowers-then : (k x y : ℕ) (a b c : List NodeState) → Lowers k x a b → Lowers k y b c → Lowers k (x + y) a c
lowers-then k x y a b c l m = record {
  todo = let p = l.todo in let q = m.todo in omega arith;
  earlier = λ j h. m.earlier j h ∙ l.earlier j h;
}

pub lowers-none : (k : ℕ) (a : List NodeState) → Lowers k 0 a a
lowers-none k a = record { todo = omega arith; earlier = λ j h. refl }

-- one lane of the node another
pub lowers-lane : (k l less : ℕ) (old : List NodeState) (own with : NodeState) (lane now : LaneView) → slice_get old k ≡ Some own → slice_get own.lanes.items l ≡ Some lane → with.lanes.items ≡ slice_set own.lanes.items l now → todo_seen now + less ≤ todo_seen lane → Lowers k less old (slice_set old k with)
lowers-lane k l less old own with lane now at in_it set h = record {
  todo =
      let a : todo_at k (slice_set old k with) ≡ sum_by todo_seen with.lanes.items = ap todo_of (slice_get-set_same old k own with at) in
      let b : todo_at k old ≡ sum_by todo_seen own.lanes.items = ap todo_of at in
      let c : sum_by todo_seen with.lanes.items ≡ sum_by todo_seen (slice_set own.lanes.items l now) = ap (sum_by todo_seen) set in
      let d = sum_by-set_get todo_seen own.lanes.items l lane now in_it in
      omega (arith, a, b, c, d, h);
  earlier = λ j lt. sym (sym (slice_get-set_other old k j with (λ e. absurd (omega (arith, e, lt)))));
}

-- a later node another
pub lowers-below : (k d : ℕ) (old : List NodeState) (with : NodeState) → k < d → Lowers k 0 old (slice_set old d with)
lowers-below k d old with h = record {
  todo = let a = ap todo_of (slice_get-set_other old d k with (λ e. absurd (omega (arith, e, h)))) in omega (arith, a);
  earlier = λ j lt. slice_get-set_other old d j with (λ e. absurd (omega (arith, e, lt, h)));
}

some_is : {X : Type 0} (x y : X) → Some x ≡ Some y → x ≡ y
some_is x y e = cc

-- a bundle less waits
pub take-lowers : (cs : List Cont) (q : Bundle × List Cont) → take_first cs ≡ Some q → sum_by waiting_in q.1 + 1 ≡ sum_by waiting_in cs
take-lowers [] q h = cc
take-lowers (c ∷ cs) q h = let g = by_case c.waiting refl h (take-lowers cs) in omega (arith, g, sum_by-cons waiting_in c cs)
  where
    later : (o : Option (Bundle × List Cont)) → (o >>= λ r. Some (r.0, c ∷ r.1)) ≡ Some q → ((r : Bundle × List Cont) → o ≡ Some r → sum_by waiting_in r.1 + 1 ≡ sum_by waiting_in cs) → sum_by waiting_in q.1 + 1 ≡ length c.waiting + sum_by waiting_in cs
    later None h ih = cc
    later (Some r) h ih =
        let e : (r.0, c ∷ r.1) ≡ q = some_is (r.0, c ∷ r.1) q h in
        let f = ap (λ (z : Bundle × List Cont). sum_by waiting_in z.1) e in
        let g = ih r refl in
        omega (arith, f, g, sum_by-cons waiting_in c r.1)

    by_case : (w : List Bundle) → c.waiting ≡ w → first_taken c.waiting c cs (take_first cs) ≡ Some q → ((r : Bundle × List Cont) → take_first cs ≡ Some r → sum_by waiting_in r.1 + 1 ≡ sum_by waiting_in cs) → sum_by waiting_in q.1 + 1 ≡ length c.waiting + sum_by waiting_in cs
    by_case [] e h ih = later (take_first cs) (sym (ap (λ l. first_taken l c cs (take_first cs)) e) ∙ h) ih
    by_case (b ∷ bs) e h ih =
        let g : (b, record c { waiting = bs; out = c.out ++ b.number ∷ [] } ∷ cs) ≡ q = some_is (b, record c { waiting = bs; out = c.out ++ b.number ∷ [] } ∷ cs) q (sym (ap (λ l. first_taken l c cs (take_first cs)) e) ∙ h) in
        let f = ap (λ (z : Bundle × List Cont). sum_by waiting_in z.1) g in
        omega (arith, f, ap length e, sum_by-cons waiting_in (record c { waiting = bs; out = c.out ++ b.number ∷ [] }) cs)

-- as many wait
pub finish-lowers : (epoch number : ℕ) (cs : List Cont) → sum_by waiting_in (finish_first epoch number cs) ≡ sum_by waiting_in cs
finish-lowers epoch number [] = refl
finish-lowers epoch number (c ∷ cs) = by_case (eqb c.epoch epoch) (finish-lowers epoch number cs) ∙ sym (sum_by-cons waiting_in c cs)
  where
    by_case : (b : Bool) → sum_by waiting_in (finish_first epoch number cs) ≡ sum_by waiting_in cs → sum_by waiting_in (cond b (record c { out = filter (λ n. not (eqb n number)) c.out } ∷ cs) (c ∷ finish_first epoch number cs)) ≡ length c.waiting + sum_by waiting_in cs
    by_case true ih = sum_by-cons waiting_in (record c { out = filter (λ n. not (eqb n number)) c.out }) cs
    by_case false ih = sum_by-cons waiting_in c (finish_first epoch number cs) ∙ ap (λ n. length c.waiting + n) ih

pub begin-lowers : (cs : List Cont) → sum_by waiting_in (with_first_closing cs) ≡ sum_by waiting_in cs
begin-lowers [] = refl
begin-lowers (c ∷ cs) = refl

-- a sealed epoch less
pub end-lowers : (lane : LaneView) (now : LaneView) → lane_of now ≡ record (lane_of lane) { conts = drop 1 (lane_of lane).conts; ended = lane.ended + 1 } → lane.ended < length lane.marks → todo_seen now + 1 ≤ todo_seen lane
end-lowers lane now is h =
    let a = ap (λ (x : CoreLane). sum_by waiting_in x.conts) is in
    let b = ap (λ (x : CoreLane). length x.marks) is in
    let c = ap (λ (x : CoreLane). x.ended) is in
    let d = fewer (lane_of lane).conts in
    omega (arith, a, b, c, d, h)
  where
    more : (n m : ℕ) → n ≤ m + n
    more n m = omega arith

    fewer : (cs : List Cont) → sum_by waiting_in (drop 1 cs) ≤ sum_by waiting_in cs
    fewer [] = omega arith
    fewer (c ∷ cs) = let m : sum_by waiting_in cs ≤ length c.waiting + sum_by waiting_in cs = more (sum_by waiting_in cs) (length c.waiting) in subst (λ n. sum_by waiting_in cs ≤ n) (sym (sum_by-cons waiting_in c cs)) m

pub at-least : (a b : ℕ) → a ≡ b → a + 0 ≤ b
at-least a b e = omega (arith, e)

finished : (lane now : LaneView) (epoch number : ℕ) → lane_of now ≡ record (lane_of lane) { conts = finish_first epoch number (conts_of lane.containers) } → todo_seen now + 0 ≤ todo_seen lane
finished lane now epoch number is =
    at-least (todo_seen now) (todo_seen lane) (ap todo_lane is ∙ ap (λ n. n + (length lane.marks - lane.ended)) (finish-lowers epoch number (conts_of lane.containers)))

-- a bundle is taken, and finished
pub takes-lowers : (k l : ℕ) (old new : List NodeState) (lane : LaneView) (b : Bundle) → Takes k l old new lane b → Lowers k 1 old new
takes-lowers k l old new lane b t =
    let f = take-lowers (conts_of lane.containers) (b, conts_of t.now.containers) t.took in
    let g : todo_seen t.now ≡ sum_by waiting_in (conts_of t.now.containers) + (length lane.marks - lane.ended) = ap todo_lane t.is in
    subst (λ (n : List NodeState). Lowers k 1 old n) (sym t.sets.set) (lowers-lane k l 1 old t.sets.own t.sets.with lane t.now t.sets.there t.sets.in_it t.sets.lanes (omega (arith, f, g)))

pub finish-turns-lowers : (k l epoch number : ℕ) (old new : List NodeState) (lane : LaneView) (line : DiaryEvent) → Turns k l old new lane (record (lane_of lane) { conts = finish_first epoch number (conts_of lane.containers) }) line → Lowers k 0 old new
finish-turns-lowers k l epoch number old new lane line t =
    subst (λ (n : List NodeState). Lowers k 0 old n) (sym t.sets.set) (lowers-lane k l 0 old t.sets.own t.sets.with lane t.now t.sets.there t.sets.in_it t.sets.lanes (finished lane t.now epoch number t.is))

pub absorbs-lowers : (k l epoch number : ℕ) (part : Part) (old new : List NodeState) (lane : LaneView) → Absorbs k l old new lane epoch number part → Lowers k 0 old new
absorbs-lowers k l epoch number part old new lane a =
    subst (λ (n : List NodeState). Lowers k 0 old n) (sym a.sets.set) (lowers-lane k l 0 old a.sets.own a.sets.with lane a.now a.sets.there a.sets.in_it a.sets.lanes (finished lane a.now epoch number a.lane_is))

pub below-lowers : (k d l : ℕ) (old new : List NodeState) (lane now : LaneView) (line : DiaryEvent) → k < d → SetsLane d l lane now line old new → Lowers k 0 old new
below-lowers k d l old new lane now line h s = subst (λ (n : List NodeState). Lowers k 0 old n) (sym s.set) (lowers-below k d old s.with h)

-- a closing begins, and ends
pub begins-lowers : (c : Closing) (old new : List NodeState) (lane : LaneView) → BeginsAt c old new lane → Lowers c.node 0 old new
begins-lowers c old new lane b =
    subst (λ (n : List NodeState). Lowers c.node 0 old n) (sym b.sets.set) (lowers-lane c.node c.lane 0 old b.sets.own b.sets.with lane b.now b.sets.there b.sets.in_it b.sets.lanes
    (at-least (todo_seen b.now) (todo_seen lane) (ap todo_lane b.lane_is ∙ ap (λ n. n + (length lane.marks - lane.ended)) (begin-lowers (conts_of lane.containers)))))

pub ends-lowers : (k l : ℕ) (old new : List NodeState) (lane : LaneView) (line : DiaryEvent) → lane.ended < length lane.marks → Turns k l old new lane (record (lane_of lane) { conts = drop 1 (conts_of lane.containers); ended = lane.ended + 1 }) line → Lowers k 1 old new
ends-lowers k l old new lane line sealed t =
    subst (λ (n : List NodeState). Lowers k 1 old n) (sym t.sets.set) (lowers-lane k l 1 old t.sets.own t.sets.with lane t.now t.sets.there t.sets.in_it t.sets.lanes (end-lowers lane t.now t.is sealed))
