use Rattle.std.proofs.Common.{ap, ◌∙◌}
use Rattle.sb_work.specs.base.pipeline.Operators.{operator_at, operator_of}
use Rattle.std.specs.Prelude.{slice_get}
use Rattle.sb_node.proofs.Staying.{session-fresh}
use Rattle.sb_node.proofs.kept.Kept.new.Goals as goal

pub returns-in-Session-clause-empty : goal.returns-in-Session-clause-empty
returns-in-Session-clause-empty c =
    session-fresh c.in-Session.agg c.in-Session.gap c.new-in-Session.result (operator_at (slice_get c.args.plan.now.steps c.args.node)) c.new-in-Session.ensures.empty
    (c.kind.ensures.operator ∙ ap operator_of c.in-Session.is)
