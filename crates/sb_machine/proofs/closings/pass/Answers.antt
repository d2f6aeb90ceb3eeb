use Rattle.std.proofs.Common.{◌≡◌, ◌++◌, ◌∷◌, [], true, List, Some, sym, ap, subst, ◌∙◌}
use Rattle.std.specs.List.{remove, slice_get}
use Rattle.std.specs.Option.{option_map}
use Rattle.std.proofs.lemmas.Option.{get_or_from_slice_get}
use Rattle.sb_core.specs.declared.moment.Moment.{Moment}
use Rattle.sb_core.specs.declared.held.Held.{Held}
use Rattle.sb_core.specs.declared.held.Held.TheVariants.{Close}
use Rattle.sb_core.specs.containers.Choices.{is_empty}
use Rattle.sb_core.specs.LaneSteps.{sealed_at}
use Rattle.sb_core.specs.Moments.{with_held}
use Rattle.sb_machine.proofs.FromHeld.{close-in}
use Rattle.sb_core.proofs.places.Carried.{below-down, empty-by_length, sealed-held, held-after, held-passed, pass-is}
use Rattle.sb_machine.proofs.closings.pass.Goals as goal

pub returns : goal.returns
returns c =
    let m = c.args.moment.now in
    let plan = c.args.plan.now in
    let after = c.seal_at.new.moment in
    let k = c.args.node in
    let h = c.in-Some.close in
    let others = remove m.held h.place in
    let found = close-in m c.in-Some.ensures.found c.as_slice.ensures in
    let none : is_empty h.rows.now ≡ true = sym (empty-by_length h.rows.now) ∙ sym c.is_empty.ensures ∙ c.if-not-is_empty.false in
    let still : after.held ≡ m.held = held-after m after (sealed_at c.down.result h.mark m) (sealed-held m m.held c.down.result h.mark) c.in_ok-seal_at.ensures in
    let inside : c.moment.inside.0.1.1.0.items.items ≡ m.held = ap (λ (m : Moment). m.held) c.moment.view_is ∙ still in
    let x = Close k h.lane h.epoch h.serial h.floor h.mark h.rows.now h.passed in
    let there : slice_get c.moment.inside.0.1.1.0.items.items h.place ≡ Some x = subst (λ (hs : List Held). slice_get hs h.place ≡ Some x) (c.as_slice.ensures ∙ sym inside) c.in-Some.ensures.found.there in
    let taken = c.remove-close.ensures.value ∙ get_or_from_slice_get c.moment.inside.0.1.1.0.items.items h.place x c.remove-close.result there in
    let held : c.push_reserved.new.self.items ≡ held-passed plan m k h.lane h.epoch h.serial h.floor h.mark h.rows.now h.passed others found =
    c.push_reserved.ensures.items
    ∙ (λ z. (c.remove-close.ensures.items ∙ ap (λ l. remove l h.place) inside) z ++ (c.passed_close.ensures k h.lane h.epoch h.serial h.floor h.mark h.rows.now h.passed taken) z ∷ []) in
    pass-is plan m k h.lane h.epoch h.serial h.floor h.mark h.rows.now h.passed others found c.down.result (below-down plan k c.down.result c.down.ensures.down) c.if-close.false none
    ∙ (λ z. option_map (with_held (sym held z)) (c.in_ok-seal_at.ensures z))
    ∙ (λ z. Some (with_held c.push_reserved.new.self.items (sym c.moment.view_is z)))
