use Rattle.std.proofs.Common.{refl, arith}
use Rattle.sb_containers.specs.Lanes.{with_bundle}
use Rattle.sb_lane.proofs.Results.{on_ok, on_err}
use Rattle.sb_lane.proofs.Places.{stands-in, changes, same, room-read}
use Rattle.sb_lane.proofs.arena.Arena.put.Goals as goal

pub index_mut-c-requires : goal.index_mut-c-requires
index_mut-c-requires c =
    let s = c.self.inside in
    let here = stands-in s.slots.items s.order.items c.self.invariant c.self.view_is c.requires c.index-place.ensures in
    omega (arith, s.slots.ok, here.within)

pub returns-clause-ok : goal.returns-clause-ok
returns-clause-ok c =
    let s = c.self.inside in
    let here = stands-in s.slots.items s.order.items c.self.invariant c.self.view_is c.requires c.index-place.ensures in
    on_ok c.put_bundle.result (λ e. changes here c.index_mut-c.result.now c.index_mut-c.ensures.value _ (with_bundle c.args.bundle) e c.put_bundle.ensures.down refl) c.put_bundle.ensures.ok

pub returns-clause-same : goal.returns-clause-same
returns-clause-same c =
    let s = c.self.inside in
    let here = stands-in s.slots.items s.order.items c.self.invariant c.self.view_is c.requires c.index-place.ensures in
    on_err c.put_bundle.result (λ e. same here c.index_mut-c.result.now c.index_mut-c.ensures.value _ e c.put_bundle.ensures.down) c.put_bundle.ensures.same

pub returns-clause-succeeds : goal.returns-clause-succeeds
returns-clause-succeeds c = λ room.
    let s = c.self.inside in
    let here = stands-in s.slots.items s.order.items c.self.invariant c.self.view_is c.requires c.index-place.ensures in
    c.put_bundle.ensures.succeeds (room-read here c.index_mut-c.result.now c.index_mut-c.ensures.value room)
