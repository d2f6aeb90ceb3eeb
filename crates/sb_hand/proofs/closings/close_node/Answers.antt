use Rattle.std.proofs.Common.{◌≡◌, ◌<◌, ◌∷◌, [], sym, subst, ◌∙◌, arith, false, true, length}
use Rattle.sb_shown.specs.core.declared.event.Event.TheVariants.{Begin}
use Rattle.sb_shown.proofs.lane.Results.{on_ok, both_ok}
use Rattle.sb_hand.specs.Runs.{close_of, ClosesNode}
use Rattle.sb_shown.specs.diary.declared.event.DiaryEvent.TheVariants as line
use Rattle.sb_shown.specs.node.LinkChanges.{LinksStay}
use Rattle.sb_hand.specs.LaneGoing.{LaneGoes}
use Rattle.sb_hand.proofs.ClosingLinks.{none-yet}
use Rattle.sb_hand.proofs.KeptLinks.{begin-keeps, end-keeps}
use Rattle.sb_hand.proofs.LinkedEvents.{keeps-then}
use Rattle.sb_hand.proofs.Composing.{can-after}
use Rattle.sb_hand.proofs.Whole.{few-there, rises-there, begins-sink, begins-transform, closes-transform, sink-lane, closes-sink}
use Rattle.sb_hand.proofs.closings.close_node.Goals as goal

pub begin_at-requires-clause-looks : goal.begin_at-requires-clause-looks
begin_at-requires-clause-looks c = λ at h. let l = c.requires.looks at h in (l.0, l.1)

pub begin_at-requires-clause-few : goal.begin_at-requires-clause-few
begin_at-requires-clause-few c = few-there c.args.plan.now c.args.bundle c.args.nodes.now.items c.requires.ready.can c.args.node c.requires.node

pub begin_at-requires-clause-rises : goal.begin_at-requires-clause-rises
begin_at-requires-clause-rises c =
    let at = c.requires.at in
    let l = c.requires.looks at.0 at.1 in
    rises-there c.args.plan.now c.requires.ready.is_plan c.args.bundle c.args.nodes.now.items c.requires.ready.can c.args.node c.args.lane c.requires.node at.0 at.1 l.0 l.1

pub close_transform-requires : goal.close_transform-requires
close_transform-requires c =
    let cl = c.in_ok-closing.closing in
    let at = c.requires.at in
    let l = c.requires.looks at.0 at.1 in
    let names = c.in_ok-closing.ensures.names in
    let b = c.in_ok-closing.ensures.begins at.0 at.1 in
    let g = subst (λ z. z) (λ i. LaneGoes (sym names.0 i) (sym names.1 i) LinksStay c.args.nodes.now.items c.begin_at.new.nodes.items) c.in_ok-closing.ensures.links in
    let within : cl.node < length c.args.plan.now.steps = omega (arith, names.0, c.if-node-transforms.true, c.transforms.ensures.value) in
    let can = can-after c.args.plan.now c.args.bundle (Begin cl.node cl.lane ∷ []) c.args.nodes.now.items c.begin_at.new.nodes.items [] (close_of cl cl.rows.items false ∷ []) [] c.requires.ready.can
    (begins-transform c.args.plan.now c.requires.ready.is_plan c.args.bundle cl c.args.nodes.now.items c.begin_at.new.nodes.items at.0 l.0 l.1 (l.2 ∙ sym names.2) b within) in
    record {
      ready = record {
        is_plan = c.requires.ready.is_plan;
        can = can;
        linked = (begin-keeps c.args.plan.now c.requires.ready.is_plan cl c.args.nodes.now.items c.begin_at.new.nodes.items at.0 c.requires.ready.linked b g).linked;
      };
      node = within;
      none = none-yet c.args.plan.now c.requires.ready.is_plan c.args.bundle cl c.args.nodes.now.items c.begin_at.new.nodes.items at.0 c.requires.ready.can b can;
    }

pub close_sink-requires : goal.close_sink-requires
close_sink-requires c =
    let cl = c.in_ok-closing.closing in
    let at = c.requires.at in
    let l = c.requires.looks at.0 at.1 in
    let names = c.in_ok-closing.ensures.names in
    let b = c.in_ok-closing.ensures.begins at.0 at.1 in
    sink-lane c.args.plan.now c.requires.ready.is_plan c.args.bundle cl c.args.nodes.now.items c.begin_at.new.nodes.items at.0 l.0 l.1 (l.2 ∙ sym names.2) b c.requires.ready.can (omega (arith, names.0, c.if-node-transforms.false, c.transforms.ensures.value, c.requires.node))

pub returns-then-node-transforms-clause-closes : goal.returns-then-node-transforms-clause-closes
returns-then-node-transforms-clause-closes c =
    let cl = c.in_ok-closing.closing in
    let at = c.requires.at in
    let l = c.requires.looks at.0 at.1 in
    let names = c.in_ok-closing.ensures.names in
    let b = c.in_ok-closing.ensures.begins at.0 at.1 in
    on_ok c.close_transform.result (λ e. subst (λ z. z) (λ i. ClosesNode c.args.plan.now c.args.bundle (names.0 i) (names.1 i) c.args.nodes.now.items c.args.tray.now.items c.close_transform.new.nodes.items c.args.tray.now.items)
    (closes-transform c.args.plan.now c.requires.ready.is_plan c.args.bundle cl c.args.nodes.now.items c.begin_at.new.nodes.items at.0 l.0 l.1 (l.2 ∙ sym names.2) b c.close_transform.new.nodes.items c.args.tray.now.items (omega (arith, names.0, c.if-node-transforms.true, c.transforms.ensures.value)) e)) c.close_transform.ensures.ends

pub returns-else-node-transforms-clause-closes : goal.returns-else-node-transforms-clause-closes
returns-else-node-transforms-clause-closes c =
    let cl = c.in_ok-closing.closing in
    let at = c.requires.at in
    let l = c.requires.looks at.0 at.1 in
    let names = c.in_ok-closing.ensures.names in
    let b = c.in_ok-closing.ensures.begins at.0 at.1 in
    let at_end : cl.node ≡ length c.args.plan.now.steps = omega (arith, names.0, c.if-node-transforms.false, c.transforms.ensures.value, c.requires.node) in
    let own = sink-lane c.args.plan.now c.requires.ready.is_plan c.args.bundle cl c.args.nodes.now.items c.begin_at.new.nodes.items at.0 l.0 l.1 (l.2 ∙ sym names.2) b c.requires.ready.can at_end in
    both_ok c.close_sink.result (λ t e. subst (λ z. z) (λ i. ClosesNode c.args.plan.now c.args.bundle (names.0 i) (names.1 i) c.args.nodes.now.items c.args.tray.now.items c.close_sink.new.nodes.items c.close_sink.new.tray.items)
    (closes-sink c.args.plan.now c.requires.ready.is_plan c.args.bundle cl c.args.nodes.now.items c.begin_at.new.nodes.items at.0 l.0 l.1 (l.2 ∙ sym names.2) b c.close_sink.new.nodes.items c.args.tray.now.items c.close_sink.new.tray.items at_end t own.0 (e own.0 own.1) own.3)) c.close_sink.ensures.tray c.close_sink.ensures.ends

pub returns-then-node-transforms-clause-links : goal.returns-then-node-transforms-clause-links
returns-then-node-transforms-clause-links c =
    let cl = c.in_ok-closing.closing in
    let at = c.requires.at in
    let l = c.requires.looks at.0 at.1 in
    let names = c.in_ok-closing.ensures.names in
    let b = c.in_ok-closing.ensures.begins at.0 at.1 in
    let g = subst (λ z. z) (λ i. LaneGoes (sym names.0 i) (sym names.1 i) LinksStay c.args.nodes.now.items c.begin_at.new.nodes.items) c.in_ok-closing.ensures.links in
    let keeps = begin-keeps c.args.plan.now c.requires.ready.is_plan cl c.args.nodes.now.items c.begin_at.new.nodes.items at.0 c.requires.ready.linked b g in
    on_ok c.close_transform.result (keeps-then c.args.plan.now c.args.nodes.now.items c.begin_at.new.nodes.items c.close_transform.new.nodes.items keeps) c.close_transform.ensures.links

pub returns-else-node-transforms-clause-links : goal.returns-else-node-transforms-clause-links
returns-else-node-transforms-clause-links c =
    let cl = c.in_ok-closing.closing in
    let at = c.requires.at in
    let l = c.requires.looks at.0 at.1 in
    let names = c.in_ok-closing.ensures.names in
    let b = c.in_ok-closing.ensures.begins at.0 at.1 in
    let g = subst (λ z. z) (λ i. LaneGoes (sym names.0 i) (sym names.1 i) LinksStay c.args.nodes.now.items c.begin_at.new.nodes.items) c.in_ok-closing.ensures.links in
    let keeps = begin-keeps c.args.plan.now c.requires.ready.is_plan cl c.args.nodes.now.items c.begin_at.new.nodes.items at.0 c.requires.ready.linked b g in
    let at_end : cl.node ≡ length c.args.plan.now.steps = omega (arith, names.0, c.if-node-transforms.false, c.transforms.ensures.value, c.requires.node) in
    let own = sink-lane c.args.plan.now c.requires.ready.is_plan c.args.bundle cl c.args.nodes.now.items c.begin_at.new.nodes.items at.0 l.0 l.1 (l.2 ∙ sym names.2) b c.requires.ready.can at_end in
    let can = can-after c.args.plan.now c.args.bundle (Begin cl.node cl.lane ∷ []) c.args.nodes.now.items c.begin_at.new.nodes.items [] (close_of cl [] true ∷ []) cl.rows.items c.requires.ready.can
    (begins-sink c.args.plan.now c.requires.ready.is_plan c.args.bundle cl c.args.nodes.now.items c.begin_at.new.nodes.items at.0 l.0 l.1 (l.2 ∙ sym names.2) b at_end) in
    both_ok c.close_sink.result (λ e h.
    keeps-then c.args.plan.now c.args.nodes.now.items c.begin_at.new.nodes.items c.close_sink.new.nodes.items keeps
    (end-keeps c.args.plan.now c.requires.ready.is_plan c.begin_at.new.nodes.items c.close_sink.new.nodes.items cl.node cl.lane own.0 keeps.linked c.args.bundle (close_of cl [] true ∷ []) can.rows can.moment can.stands (line.End cl.lane cl.epoch) (e own.0 own.1) h own.3)) c.close_sink.ensures.ends c.close_sink.ensures.links
