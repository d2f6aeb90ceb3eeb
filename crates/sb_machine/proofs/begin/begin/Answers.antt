use Rattle.std.proofs.Common.{rules, ◌≡◌, List, ◌++◌, ◌∷◌, [], ◌+◌, Some, get_or, set as slice_set, sym, ap, ◌∙◌}
use Rattle.std.proofs.lemmas.Option.{get_or_from_slice_get}
use Rattle.sb_core.specs.containers.declared.container.CoreLane.{CoreLane}
use Rattle.sb_core.specs.declared.moment.Moment.{Moment}
use Rattle.sb_core.specs.declared.moment.Node.{Node}
use Rattle.sb_core.specs.declared.held.Held.{Held}
use Rattle.sb_core.specs.declared.held.Held.TheVariants.{Close}
use Rattle.sb_core.specs.containers.Lanes.{with_first_closing}
use Rattle.sb_machine.proofs.BeginParts.{begin-done}
use Rattle.sb_machine.proofs.begin.begin.Goals as goal

pub returns : goal.returns
returns c =
    let m = c.args.moment.now in
    let k = c.args.node in
    let l = c.args.lane in
    let closing = c.in_ok-closing.closing in
    let found = c.in_ok-closing.ensures.found in
    let nodes : c.nodes.inside.items.items ≡ m.nodes = c.nodes.view_is ∙ ap (λ (m : Moment). m.nodes) c.moment.view_is in
    let node : c.index_mut-there.result.now ≡ found.node =
    c.index_mut-there.ensures.value ∙ ap (λ (ns : List Node). get_or ns k c.index_mut-there.result.now) nodes ∙ get_or_from_slice_get m.nodes k found.node c.index_mut-there.result.now found.there in
    let lanes : c.there.inside.0.0.items.items ≡ found.node.lanes = ap (λ (n : Node). n.lanes) (c.there.view_is ∙ node) in
    let lane : c.index_mut-at.result.now ≡ found.lane =
    c.index_mut-at.ensures.value ∙ ap (λ (ls : List CoreLane). get_or ls l c.index_mut-at.result.now) lanes ∙ get_or_from_slice_get found.node.lanes l found.lane c.index_mut-at.result.now found.in_it in
    let begun = c.begin.ensures ∙ ap (λ (x : CoreLane). record x { conts = with_first_closing x.conts }) lane in
    let close : Held = Close k l closing.epoch closing.serial closing.floor closing.mark closing.rows closing.passed in
    let held : c.push_reserved.new.self.items ≡ m.held ++ close ∷ [] =
    c.push_reserved.ensures.items ∙ ap (λ (hs : List Held). hs ++ close ∷ []) (c.reserve.ensures.items ∙ ap (λ (m : Moment). m.held) c.moment.view_is) in
    let appended : c.append.new.self.items ≡ c.moment.inside.0.1.1.1.0.items.items ++ c.into_vec-collected.result.items = search rules in
    let rows : c.append.new.self.items ≡ m.rows ++ closing.collected = appended ∙ (λ i. (c.moment.view_is i).rows ++ c.into_vec-collected.ensures i) in
    begin-done c.args.plan.now m k l closing found
    ∙ sym (λ i. Some (record {
      bundle = (c.moment.view_is i).bundle;
      nodes = slice_set (nodes i) k (record { lanes = slice_set (lanes i) l (begun i); kept = closing.kept; closings = closing.serial + 1 });
      held = held i;
      rows = rows i;
    }))
