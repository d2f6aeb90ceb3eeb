use Rattle.std.proofs.Common.{◌≡◌, ℕ, vec_capacity, List, length, get_or, ap, sym, arith, subst}
use Rattle.sb_lane.specs.Slots.{AreSlots}
use Rattle.sb_lane.proofs.Inserts.{end-are}
use Rattle.sb_lane.proofs.Places.{stands-in, cont-read}
use Rattle.sb_lane.proofs.arena.Arena.end.Goals as goal

pub index-c-requires : goal.index-c-requires
index-c-requires c =
    let s = c.self.inside in
    let p = c.in-Some.place in
    let at : p ≡ get_or s.order.items 0 p = sym (ap (λ (l : List ℕ). get_or l 0 p) c.in-Some.ensures.items) in
    let here = stands-in s.slots.items s.order.items c.self.invariant c.self.view_is c.requires at in
    omega (arith, s.slots.ok, here.within)

pub invariant_of-self : goal.invariant_of-self
invariant_of-self c =
    let s = c.self.inside in
    rw (c.push_reserved.ensures.items, c.push_reserved.ensures.capacity)
    (end-are (length s.slots.items) (vec_capacity s.free) c.pop_front.new.self.items s.free.items c.in-Some.place (subst (λ (o : List ℕ). AreSlots (length s.slots.items) (vec_capacity s.free) o s.free.items) c.in-Some.ensures.items c.self.invariant))

pub returns-in-Some-clause-gone : goal.returns-in-Some-clause-gone
returns-in-Some-clause-gone c = λ d.
    let s = c.self.inside in
    let p = c.in-Some.place in
    let x = c.index-c.result.now in
    let at : p ≡ get_or s.order.items 0 p = sym (ap (λ (l : List ℕ). get_or l 0 p) c.in-Some.ensures.items) in
    let here = stands-in s.slots.items s.order.items c.self.invariant c.self.view_is c.requires at in
    rw (cont-read here x c.index-c.ensures d) (omega (arith, x.waiting.ok, x.out.ok, c.len.ensures, c.len-in-Some.ensures))
