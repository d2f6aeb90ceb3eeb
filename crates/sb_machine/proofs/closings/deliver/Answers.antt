use Rattle.std.proofs.Common.{◌≡◌, ◌++◌, ◌∷◌, [], false, length, take, min, List, Some, rules, sym, ap, subst, ◌∙◌, arith}
use Rattle.std.specs.List.{remove, slice_get}
use Rattle.std.specs.Option.{option_map}
use Rattle.std.proofs.lemmas.List.{take_min}
use Rattle.std.proofs.lemmas.Option.{get_or_from_slice_get}
use Rattle.sb_core.specs.declared.moment.Moment.{Moment}
use Rattle.sb_core.specs.declared.held.Held.{Held}
use Rattle.sb_core.specs.declared.held.Held.TheVariants.{Close}
use Rattle.sb_core.specs.containers.Choices.{is_empty}
use Rattle.sb_core.specs.LaneSteps.{arrived_at}
use Rattle.sb_core.specs.Moments.{with_held}
use Rattle.sb_machine.proofs.FromHeld.{close-in_lane}
use Rattle.sb_core.proofs.places.Carried.{below-down, empty-by_length, arrived-held, held-after, held-fewer, rows-is}
use Rattle.sb_machine.proofs.closings.deliver.Goals as goal

pub returns : goal.returns
returns c =
    let m = c.args.moment.now in
    let plan = c.args.plan.now in
    let after = c.put_at.new.moment in
    let k = c.args.node in
    let l = c.args.lane in
    let h = c.in-Some.close in
    let others = remove m.held h.place in
    let found = close-in_lane m c.in-Some.ensures.found c.as_slice.ensures in
    let some : is_empty h.rows.now ≡ false = sym (empty-by_length h.rows.now) ∙ sym c.is_empty.ensures ∙ c.if-is_empty.false in
    let count : c.min-count.result ≡ min m.bundle (length h.rows.now) = omega (arith, c.min-count.ensures) in
    let extended : c.extend_from_slice.new.self.items ≡ c.new-next.result.items ++ take c.min-count.result h.rows.now = search rules in
    let next : c.new.result ≡ take m.bundle h.rows.now =
    c.new.ensures ∙ extended
    ∙ (λ z. c.new-next.ensures.items z ++ take (count z) h.rows.now)
    ∙ take_min m.bundle h.rows.now in
    let still : after.held ≡ m.held = held-after m after (arrived_at c.down.result h.serial h.floor c.new.result m) (arrived-held m m.held c.down.result h.serial h.floor c.new.result) c.in_ok-put_at.ensures in
    let inside : c.moment.inside.0.1.1.0.items.items ≡ m.held = ap (λ (m : Moment). m.held) c.moment.view_is ∙ still in
    let x = Close k l h.epoch h.serial h.floor h.mark h.rows.now h.passed in
    let there : slice_get c.moment.inside.0.1.1.0.items.items h.place ≡ Some x = subst (λ (hs : List Held). slice_get hs h.place ≡ Some x) (c.as_slice.ensures ∙ sym inside) c.in-Some.ensures.found.there in
    let taken = c.remove-close.ensures.value ∙ get_or_from_slice_get c.moment.inside.0.1.1.0.items.items h.place x c.remove-close.result there in
    let held : c.push_reserved.new.self.items ≡ held-fewer plan m k l h.epoch h.serial h.floor h.mark h.rows.now h.passed others found =
    c.push_reserved.ensures.items
    ∙ (λ z. (c.remove-close.ensures.items ∙ ap (λ l. remove l h.place) inside) z ++ (c.without_rows.ensures k l h.epoch h.serial h.floor h.mark h.rows.now h.passed taken) z ∷ []) in
    rows-is plan m k l h.epoch h.serial h.floor h.mark h.rows.now h.passed others found c.down.result (below-down plan k c.down.result c.down.ensures.down) some
    ∙ (λ z. option_map (with_held (sym held z)) (arrived_at c.down.result h.serial h.floor (sym next z) m))
    ∙ ap (option_map (with_held c.push_reserved.new.self.items)) c.in_ok-put_at.ensures
    ∙ (λ z. Some (with_held c.push_reserved.new.self.items (sym c.moment.view_is z)))
