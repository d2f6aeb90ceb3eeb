use Rattle.std.proofs.Common.{◌∙◌, ap, sym, subst, length}
use Rattle.sb_plan.specs.Failures.{by_text}
use Rattle.sb_plan.specs.Wiring.{is_second_join}
use Rattle.sb_plan.proofs.Sending.{connected-refused, connected-passed}
use Rattle.sb_plan.specs.Answers.{ChangesTo}
use Rattle.sb_plan.proofs.Joined.{connects_sound}
use Rattle.sb_plan.proofs.wiring.connect.Goals as goal

pub returns-in-Err-clause-exact : goal.returns-in-Err-clause-exact
returns-in-Err-clause-exact c =
    ap by_text (
    connected-refused c.args.entry c.args.wiring.now c.next_node-node.result c.in-Err.cause
    (ap (is_second_join c.args.entry.kind) (sym c.as_slice.ensures) ∙ sym c.is_second_join.ensures ∙ c.if-is_second_join.false)
    (c.next_node-node.ensures ∙ ap length c.as_slice-2.ensures) c.in-Err.ensures)

pub returns-in-Ok-clause-sound : goal.returns-in-Ok-clause-sound
returns-in-Ok-clause-sound c = λ valid is.
    let passed = connected-passed c.args.entry c.args.wiring.now c.send_inputs.new.wiring c.next_node-node.result
    (ap (is_second_join c.args.entry.kind) (sym c.as_slice.ensures) ∙ sym c.is_second_join.ensures ∙ c.if-is_second_join.false)
    (c.next_node-node.ensures ∙ ap length c.as_slice-2.ensures) c.in-Ok.ensures in
    connects_sound c.args.entry c.args.wiring.now c.push.new.wiring c.push.result
    (subst (λ wanted. ChangesTo c.push.result wanted c.push.new.wiring) (sym (ap by_text passed)) c.push.ensures.exact) valid is
