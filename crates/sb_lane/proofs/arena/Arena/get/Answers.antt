use Rattle.std.proofs.Common.{ap, arith}
use Rattle.sb_lane.specs.Links.{Link}
use Rattle.sb_lane.proofs.Places.{stands-in, cont-read, link-read}
use Rattle.sb_lane.proofs.arena.Arena.get.Goals as goal

pub index-requires : goal.index-requires
index-requires c =
    let s = c.self.inside in
    let here = stands-in s.slots.items s.order.items c.self.invariant c.self.view_is c.requires c.index-place.ensures in
    omega (arith, s.slots.ok, here.within)

pub returns-clause-cont : goal.returns-clause-cont
returns-clause-cont c = λ d.
    let s = c.self.inside in
    let here = stands-in s.slots.items s.order.items c.self.invariant c.self.view_is c.requires c.index-place.ensures in
    cont-read here c.index.result.now c.index.ensures d

pub returns-clause-down : goal.returns-clause-down
returns-clause-down c = λ d.
    let s = c.self.inside in
    let here = stands-in s.slots.items s.order.items c.self.invariant c.self.view_is c.requires c.index-place.ensures in
    ap (λ (k : Link). k.down) (link-read here c.index.result.now c.index.ensures d)
