use Rattle.std.proofs.Common.{List, sym, subst}
use Rattle.sb_window.specs.declared.keyed_window.KeyedWindow.{KeyedWindow}
use Rattle.sb_runs.specs.Runs.{IsRun}
use Rattle.sb_runs.proofs.Shifting.{shifted-run}
use Rattle.sb_runs.proofs.run.Run.shifted.Goals as goal

pub invariant_of-result : goal.invariant_of-result
invariant_of-result g c =
    subst (λ (es : List (KeyedWindow × g.row.J-Value.Denot)). IsRun es) (sym c.in_ok-entries.ensures) (shifted-run c.args.by c.self.inside.entries c.self.invariant)
