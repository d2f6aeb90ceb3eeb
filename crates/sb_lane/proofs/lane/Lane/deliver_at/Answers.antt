use Rattle.std.proofs.Common.{◌≡◌, ◌+◌, List, sym, ap, subst, refl, ◌∙◌}
use Rattle.sb_containers.specs.base.bundle.declared.bundle.Bundle.{Bundle}
use Rattle.sb_containers.specs.declared.container.Cont.{Cont}
use Rattle.sb_containers.specs.declared.container.CoreLane.{CoreLane}
use Rattle.sb_containers.specs.Lanes.{with_bundle}
use Rattle.sb_lane.specs.LaneView.{LaneView}
use Rattle.sb_lane.specs.Links.{link_in, links_of}
use Rattle.sb_lane.specs.Placed.{conts_of}
use Rattle.std.specs.Prelude.{Some}
use Rattle.sb_lane.proofs.Linking.{in_epoch-linked}
use Rattle.sb_lane.proofs.lane.Lane.deliver_at.Goals as goal

pub returns-in-Ok-clause-ok : goal.returns-in-Ok-clause-ok
returns-in-Ok-clause-ok c =
    let s = c.self.inside in
    let b : Bundle = record { number = s.arrived + 1; epoch = c.args.bundle.epoch; floor = c.args.bundle.floor; records = c.args.bundle.records } in
    let k = c.requires.here in
    let there = subst (λ (x : LaneView). link_in c.args.bundle.epoch (links_of x.containers) ≡ Some k.link) (sym c.self.view_is) k.there in
    let was : CoreLane = record { conts = conts_of s.containers; arrived = s.arrived; marks = s.marks; ended = s.ended } in
    rw (← c.self.view_is) (λ bound ok. record {
      lane = ap (λ (cs : List Cont). record was { conts = cs; arrived = s.arrived + 1 }) (c.in-Ok.ensures.ok ∙ sym (in_epoch-linked bound b.epoch b.floor (with_bundle b) s.containers was k.link refl ok there));
      pending = refl;
    })
