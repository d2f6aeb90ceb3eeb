use Rattle.std.proofs.Common.{refl, arith}
use Rattle.sb_lane.proofs.Places.{stands-in, conts-linked, links-linked}
use Rattle.sb_lane.proofs.arena.Arena.link.Goals as goal

pub index_mut-c-requires : goal.index_mut-c-requires
index_mut-c-requires c =
    let s = c.self.inside in
    let here = stands-in s.slots.items s.order.items c.self.invariant c.self.view_is c.requires c.index-place.ensures in
    omega (arith, s.slots.ok, here.within)

pub returns-clause-conts : goal.returns-clause-conts
returns-clause-conts c =
    let s = c.self.inside in
    let here = stands-in s.slots.items s.order.items c.self.invariant c.self.view_is c.requires c.index-place.ensures in
    conts-linked here c.index_mut-c.result.now c.index_mut-c.ensures.value _ refl

pub returns-clause-links : goal.returns-clause-links
returns-clause-links c = λ d.
    let s = c.self.inside in
    let here = stands-in s.slots.items s.order.items c.self.invariant c.self.view_is c.requires c.index-place.ensures in
    links-linked here c.index_mut-c.result.now c.index_mut-c.ensures.value _ _ refl refl d
