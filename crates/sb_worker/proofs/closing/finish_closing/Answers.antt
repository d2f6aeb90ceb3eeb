use Rattle.std.proofs.Common.{refl, subst, sym}
use Rattle.sb_cascade.specs.declared.pass.CascadePass.{CascadePass}
use Rattle.sb_worker.specs.Entries.{Does, Gains}
use Rattle.sb_worker.proofs.Counting.{does-then}
use Rattle.sb_worker.proofs.Gaining.{gains-none, gains-then}
use Rattle.sb_worker.proofs.Leaving.{end-gains}
use Rattle.sb_worker.proofs.closing.finish_closing.Goals as goal
use Rattle.sb_worker.proofs.closing.finish_closing.Goals.{then-closing-transforms+in_ok-pass_all, else-closing-transforms}

pub returns-clause-done : goal.returns-clause-done
returns-clause-done g c =
    let p = c.args.pass.now in
    let q = c.if-closing-transforms.pass in
    let So = λ (r : CascadePass). Gains (Does 0 0) p r in
    let before : Gains (Does 0 0) p q = elim c.if-closing-transforms.branch [
      | then-closing-transforms+in_ok-pass_all w ↦ subst So (sym w.pass-is) w.in_ok-pass_all.ensures.trace
      | else-closing-transforms w ↦ subst So (sym w.pass-is) (gains-none p (Does 0 0) (refl, refl))
    ] in (
      c.end_close.ensures.pass.2,
      gains-then p q c.end_close.new.pass (Does 0 0) (Does 0 1) (Does 0 1) (does-then 0 0 0 1) before
          (end-gains c.args.closing.node c.args.closing q c.end_close.new.pass c.end_close.ensures.left),
    )
