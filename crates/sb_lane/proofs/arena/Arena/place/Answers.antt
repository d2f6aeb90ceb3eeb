use Rattle.sb_lane.proofs.Places.{stands-in, place-read}
use Rattle.sb_lane.proofs.arena.Arena.place.Goals as goal

pub returns : goal.returns
returns c = λ d.
    let s = c.self.inside in
    place-read (stands-in s.slots.items s.order.items c.self.invariant c.self.view_is c.requires c.index.ensures) d
