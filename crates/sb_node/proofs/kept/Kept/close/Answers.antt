use Rattle.std.proofs.Common.{subst, sym}
use Rattle.std.specs.Prelude.{OnOk, IfOk}
use Rattle.std.proofs.lemmas.Result.{on_ok_weaker}
use Rattle.sb_work.specs.base.pipeline.Operators.{Operator}
use Rattle.sb_work.specs.base.window.Groupings.{Closes}
use Rattle.sb_node.specs.declared.kept.Kept.{Kept}
use Rattle.sb_node.specs.declared.kept.Kept.TheVariants as kept
use Rattle.sb_node.specs.Keeping.{IsMadeFor, gives}
use Rattle.sb_node.proofs.Staying.{aggregate-stays}
use Rattle.sb_node.proofs.kept.Kept.close.Goals as goal

pub returns-in-Aggregate-clause-made : goal.returns-in-Aggregate-clause-made
returns-in-Aggregate-clause-made c =
    let later = c.close.new.self in
    subst (λ (k : Kept). OnOk c.close.result ((op : Operator) → IsMadeFor op k → IsMadeFor op (kept.Aggregate later))) (sym c.in-Aggregate.is)
    (on_ok_weaker c.close.result (aggregate-stays c.in-Aggregate.kept later) c.close.ensures.fits)

pub returns-in-Join-clause-closes : goal.returns-in-Join-clause-closes
returns-in-Join-clause-closes c =
    let later = c.close-in-Join.new.self in
    subst (λ (k : Kept). IfOk c.close-in-Join.result (λ rows. Closes c.args.mark (gives k) rows.items (gives (kept.Join later)))) (sym c.in-Join.is)
    c.close-in-Join.ensures.closes
