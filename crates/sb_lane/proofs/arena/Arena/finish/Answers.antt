use Rattle.std.proofs.Common.{◌+◌, length, ap, refl, arith, sym, ◌∙◌}
use Rattle.sb_containers.specs.declared.container.Cont.{Cont}
use Rattle.sb_lane.proofs.Places.{stands-in, changes, cont-read}
use Rattle.sb_lane.proofs.arena.Arena.finish.Goals as goal

pub index_mut-c-requires : goal.index_mut-c-requires
index_mut-c-requires c =
    let s = c.self.inside in
    let here = stands-in s.slots.items s.order.items c.self.invariant c.self.view_is c.requires c.index-place.ensures in
    omega (arith, s.slots.ok, here.within)

pub returns-clause-cont : goal.returns-clause-cont
returns-clause-cont c =
    let s = c.self.inside in
    let here = stands-in s.slots.items s.order.items c.self.invariant c.self.view_is c.requires c.index-place.ensures in
    changes here c.index_mut-c.result.now c.index_mut-c.ensures.value _ _ c.finish_bundle.ensures.cont c.finish_bundle.ensures.down refl

pub returns-clause-gone : goal.returns-clause-gone
returns-clause-gone c = λ d.
    let s = c.self.inside in
    let here = stands-in s.slots.items s.order.items c.self.invariant c.self.view_is c.requires c.index-place.ensures in
    rw (cont-read here c.index_mut-c.result.now c.index_mut-c.ensures.value d) (ap (λ (x : Cont). length x.out + c.finish_bundle.result) (sym c.finish_bundle.ensures.cont) ∙ c.finish_bundle.ensures.gone)
