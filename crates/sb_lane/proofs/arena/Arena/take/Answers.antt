use Rattle.std.proofs.Common.{ap, refl, arith, ◌∙◌}
use Rattle.sb_containers.specs.declared.container.Cont.{Cont}
use Rattle.sb_lane.proofs.Results.{some-and, if_none}
use Rattle.sb_lane.proofs.Places.{stands-in, changes, same, cont-read}
use Rattle.sb_lane.proofs.arena.Arena.take.Goals as goal

pub index_mut-c-requires : goal.index_mut-c-requires
index_mut-c-requires c =
    let s = c.self.inside in
    let here = stands-in s.slots.items s.order.items c.self.invariant c.self.view_is c.requires c.index-place.ensures in
    omega (arith, s.slots.ok, here.within)

pub returns-clause-some : goal.returns-clause-some
returns-clause-some c =
    let s = c.self.inside in
    let here = stands-in s.slots.items s.order.items c.self.invariant c.self.view_is c.requires c.index-place.ensures in
    some-and c.take_bundle.result (λ b waits cont. (
      c.take_bundle.new.c.waiting.items,
      λ d. ap (λ (x : Cont). x.waiting) (cont-read here c.index_mut-c.result.now c.index_mut-c.ensures.value d) ∙ waits,
      changes here c.index_mut-c.result.now c.index_mut-c.ensures.value _ _ cont c.take_bundle.ensures.down refl,
    )) c.take_bundle.ensures.some c.take_bundle.ensures.cont

pub returns-clause-none : goal.returns-clause-none
returns-clause-none c =
    let s = c.self.inside in
    let here = stands-in s.slots.items s.order.items c.self.invariant c.self.view_is c.requires c.index-place.ensures in
    if_none c.take_bundle.result (λ e d. ap (λ (x : Cont). x.waiting) (cont-read here c.index_mut-c.result.now c.index_mut-c.ensures.value d) ∙ e) c.take_bundle.ensures.none

pub returns-clause-same : goal.returns-clause-same
returns-clause-same c =
    let s = c.self.inside in
    let here = stands-in s.slots.items s.order.items c.self.invariant c.self.view_is c.requires c.index-place.ensures in
    if_none c.take_bundle.result (λ e. same here c.index_mut-c.result.now c.index_mut-c.ensures.value _ e c.take_bundle.ensures.down) c.take_bundle.ensures.same
