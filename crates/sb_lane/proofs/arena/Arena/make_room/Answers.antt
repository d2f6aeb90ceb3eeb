use Rattle.std.proofs.Common.{arith}
use Rattle.sb_lane.proofs.Results.{on_ok}
use Rattle.sb_lane.proofs.Places.{stands-in, same, room-written}
use Rattle.sb_lane.proofs.arena.Arena.make_room.Goals as goal

pub index_mut-c-requires : goal.index_mut-c-requires
index_mut-c-requires c =
    let s = c.self.inside in
    let here = stands-in s.slots.items s.order.items c.self.invariant c.self.view_is c.requires c.index-place.ensures in
    omega (arith, s.slots.ok, here.within)

pub returns-clause-same : goal.returns-clause-same
returns-clause-same c =
    let s = c.self.inside in
    let here = stands-in s.slots.items s.order.items c.self.invariant c.self.view_is c.requires c.index-place.ensures in
    same here c.index_mut-c.result.now c.index_mut-c.ensures.value _ c.make_room.ensures.cont c.make_room.ensures.down

pub returns-clause-room : goal.returns-clause-room
returns-clause-room c =
    let s = c.self.inside in
    let here = stands-in s.slots.items s.order.items c.self.invariant c.self.view_is c.requires c.index-place.ensures in
    on_ok c.make_room.result (λ room d. room-written here c.index_mut-c.result.now c.index_mut-c.ensures.value c.make_room.new.c room d) c.make_room.ensures.room
