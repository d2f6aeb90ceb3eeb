use Rattle.std.proofs.Common.{◌≡◌, ◌==◌, ◌<◌, ◌∙◌, ap, sym, not, filter, if◌then◌else◌, set, length, arith}
use Rattle.std.proofs.lemmas.List.Edits.{map_over_more}
use Rattle.sb_core.specs.containers.declared.container.Cont.{Cont}
use Rattle.sb_core.specs.containers.declared.container.CoreLane.{CoreLane}
use Rattle.sb_machine.proofs.lanes.finish.Goals as goal

pub loop-cont-preserved : goal.loop-cont-preserved
loop-cont-preserved c =
    let after = λ (x : Cont). (if x.epoch == c.args.epoch then record x { out = filter (λ n. not (n == c.args.number)) x.out } else x) in
    let items : c.deref_mut-cont-items.result.now ≡ c.args.lane.now.conts = c.deref_mut-cont-items.ensures.value ∙ ap (λ (l : CoreLane). l.conts) c.lane.view_is in
    let count : length c.deref_mut-cont-items.result.now ≡ length c.args.lane.now.conts = ap length items in
    let within : c.loop-cont.cont-index < length c.args.lane.now.conts = omega (arith, c.loop-cont-test.true) in
    let it = map_over_more after c.args.lane.now.conts c.loop-cont.cont-items c.loop-cont.cont-index c.cont-item.result within c.loop-cont.invariant c.cont-item.is in
    ap (set c.loop-cont.cont-items c.loop-cont.cont-index) (c.finish_in.ensures ∙ ap after (sym c.cont-item.is)) ∙ it
