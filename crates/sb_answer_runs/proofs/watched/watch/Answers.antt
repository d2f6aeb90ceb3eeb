use denote.Param.Send.{sendable}
use Rattle.sb_answers.proofs.live_table.Crossing.{LiveRows-send}
use Rattle.std.proofs.Common.{ap, map, ◌∙◌}
use Rattle.sb_answers.specs.base.records.declared.intake.Stop.TheVariants as stop
use Rattle.sb_answers.specs.live.Showings.{Showing, ShownRows}
use Rattle.sb_answer_runs.proofs.Shown.{neither_fails, tells, told_nothing}
use Rattle.sb_answer_runs.proofs.watched.watch.Goals as goal

pub returns-in_err-out-clause-watched : goal.returns-in_err-out-clause-watched
returns-in_err-out-clause-watched g c = told_nothing c.args.plan c.args.key.now (g.S.Source.left c.args.input.now) c.args.dropped.now.items c.from_residual.result c.from_residual.ensures.0

pub returns-in-Done-clause-watched : goal.returns-in-Done-clause-watched
returns-in-Done-clause-watched g c =
    tells c.args.plan c.args.key.now _ _ c.new-rows.result c.run-end.new.out _ _ _ _ stop.End c.keys.result c.key_named-named.result c.into_out-out.result c.last_if_any-last.result
    (ap (λ (s : ShownRows). s.out.changes) c.new-rows.ensures ∙ ap (λ (s : Showing). s.changes) c.in_ok-out.ensures.out)
    c.in-Done.ensures.ends.0 c.keys.ensures c.key_named-named.ensures c.into_out-out.ensures c.last_if_any-last.ensures

pub returns-in-Refused-clause-watched : goal.returns-in-Refused-clause-watched
returns-in-Refused-clause-watched g c =
    tells c.args.plan c.args.key.now _ _ c.new-rows.result c.run-end.new.out _ _ _ _ (stop.Refused c.in-Refused.refusal) c.keys.result c.key_named-named.result c.into_out-out.result c.last_if_any-last.result
    (ap (λ (s : ShownRows). s.out.changes) c.new-rows.ensures ∙ ap (λ (s : Showing). s.changes) c.in_ok-out.ensures.out)
    c.in-Refused.ensures.ends c.keys.ensures c.key_named-named.ensures c.into_out-out.ensures c.last_if_any-last.ensures

pub returns-in-Input-clause-watched : goal.returns-in-Input-clause-watched
returns-in-Input-clause-watched g c =
    tells c.args.plan c.args.key.now _ _ c.new-rows.result c.run-end.new.out _ _ _ _ stop.Fault c.keys.result c.key_named-named.result c.into_out-out.result c.last_if_any-last.result
    (ap (λ (s : ShownRows). s.out.changes) c.new-rows.ensures ∙ ap (λ (s : Showing). s.changes) c.in_ok-out.ensures.out)
    c.in-Input.ensures.ends c.keys.ensures c.key_named-named.ensures c.into_out-out.ensures c.last_if_any-last.ensures

pub unreachable-requires : goal.unreachable-requires
unreachable-requires g c =
    neither_fails c.args.plan _ _ c.new-rows.result c.run-end.new.out _ _ _ _ c.args.sizes c.run-end.result
    (ap (λ (s : ShownRows). s.out.changes) c.new-rows.ensures ∙ ap (λ (s : Showing). s.changes) c.in_ok-out.ensures.out)
    (ap (λ (s : ShownRows). s.faults) c.new-rows.ensures)
    (ap (map _) c.new-taps.ensures.items)
    c.run-end.ensures.ends c.run-end.ensures.output c.in-Output.is

pub run-end-requires-send-R : goal.run-end-requires-send-R
run-end-requires-send-R g c κs within = (search (sendable, LiveRows-send, c.type_bounds.sync-W) depth 60)
