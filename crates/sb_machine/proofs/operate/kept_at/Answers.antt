use Rattle.std.proofs.Common.{◌≡◌, ⊎_elim, IfOk, subst, sym, ap, ◌∙◌}
use Rattle.sb_slow.specs.base.pipeline.Operators.{Operator, operator_of}
use Rattle.sb_core.specs.Closings as spec
use Rattle.sb_machine.proofs.operate.kept_at.Goals as goal

pub returns-in-Group : goal.returns-in-Group
returns-in-Group c = ⊎_elim
    (λ w. subst (λ (o : Operator). IfOk c.still_open.result (λ left. left.items ≡ spec.kept_at o c.args.mark c.args.kept.now)) (sym (c.kind.ensures.operator ∙ ap operator_of w.1)) c.still_open.ensures)
    (λ w. subst (λ (o : Operator). IfOk c.still_open.result (λ left. left.items ≡ spec.kept_at o c.args.mark c.args.kept.now)) (sym (c.kind.ensures.operator ∙ ap operator_of w.1)) c.still_open.ensures) c.in-Group.is
