use Rattle.std.proofs.Common.{◌≡◌, ◌++◌, ◌∷◌, [], false, eqb, List, Some, sym, ap, subst, ◌∙◌}
use Rattle.std.specs.List.{remove, slice_get}
use Rattle.std.specs.Option.{option_map}
use Rattle.std.proofs.lemmas.Option.{get_or_from_slice_get}
use Rattle.sb_slow.specs.base.pipeline.Operators.{operator_at}
use Rattle.sb_core.specs.declared.moment.Moment.{Moment}
use Rattle.sb_core.specs.declared.held.Held.{Held}
use Rattle.sb_core.specs.declared.held.Held.TheVariants.{Work}
use Rattle.sb_core.specs.containers.Choices.{is_empty}
use Rattle.sb_core.specs.Closings.{delivery}
use Rattle.sb_core.specs.LaneSteps.{arrived_at}
use Rattle.sb_core.specs.Moments.{with_held}
use Rattle.sb_machine.proofs.Finished.{found-in}
use Rattle.sb_core.proofs.places.Carried.{below-down, empty-by_length, arrived-held, held-after, held-delivered, work-is}
use Rattle.sb_machine.proofs.bundles.deliver.Goals as goal

pub returns : goal.returns
returns c =
    let m = c.args.moment.now in
    let plan = c.args.plan.now in
    let after = c.put_at.new.moment in
    let k = c.args.node in
    let l = c.args.lane in
    let n = c.args.number in
    let w = c.in-Some.work in
    let others = remove m.held w.place in
    let found = found-in m c.in-Some.ensures.found c.as_slice.ensures in
    let some : is_empty (delivery (operator_at (slice_get plan.steps k)) w.records.now) ≡ false =
    sym (ap is_empty c.in_ok-given.ensures) ∙ sym (empty-by_length c.in_ok-given.given.items) ∙ sym (ap (λ n. eqb n 0) c.in_ok-given.given.ok.0) ∙ sym c.if-is_empty.ensures in
    let still : after.held ≡ m.held = held-after m after (arrived_at c.down.result w.epoch w.floor c.new.result m) (arrived-held m m.held c.down.result w.epoch w.floor c.new.result) c.in_ok-put_at.ensures in
    let inside : c.moment.inside.0.1.1.0.items.items ≡ m.held = ap (λ (m : Moment). m.held) c.moment.view_is ∙ still in
    let there : slice_get c.moment.inside.0.1.1.0.items.items w.place ≡ Some (Work k l w.epoch w.floor n w.records.now w.delivered) =
    subst (λ (hs : List Held). slice_get hs w.place ≡ Some (Work k l w.epoch w.floor n w.records.now w.delivered)) (c.as_slice.ensures ∙ sym inside) c.in-Some.ensures.found.there in
    let taken = c.remove-work.ensures.value ∙ get_or_from_slice_get c.moment.inside.0.1.1.0.items.items w.place (Work k l w.epoch w.floor n w.records.now w.delivered) c.remove-work.result there in
    let held : c.push_reserved.new.self.items ≡ held-delivered plan m k l n w.epoch w.floor w.records.now w.delivered others found =
    c.push_reserved.ensures.items
    ∙ (λ z. (c.remove-work.ensures.items ∙ ap (λ l. remove l w.place) inside) z ++ (c.delivered_work.ensures k l w.epoch w.floor n w.records.now w.delivered taken) z ∷ []) in
    work-is plan m k l n w.epoch w.floor w.records.now w.delivered others found c.down.result (below-down plan k c.down.result c.down.ensures.down) c.if-work.false some
    ∙ (λ z. option_map (with_held (sym held z)) (arrived_at c.down.result w.epoch w.floor (sym (c.new.ensures ∙ c.in_ok-given.ensures) z) m))
    ∙ ap (option_map (with_held c.push_reserved.new.self.items)) c.in_ok-put_at.ensures
    ∙ (λ z. Some (with_held c.push_reserved.new.self.items (sym c.moment.view_is z)))
