use Rattle.std.proofs.Common.{◌≡◌, ◌+◌, ◌*◌, ◌/◌, arith}
use Rattle.std.proofs.lemmas.Result.{IfOk-weaker}
use Rattle.sb_runs.proofs.Doubling.{spread-odd}
use Rattle.sb_runs.proofs.panes.with_odd.Goals as goal

pub returns : goal.returns
returns g c =
    let odd : c.args.count / 2 * 2 + 1 ≡ c.args.count = omega (arith, c.if-count-eq0.false) in
    IfOk-weaker c.merged.result _ _
    (λ all h q.
    spread-odd (g.J.Joiner.joined c.args.joiner.now) c.requires.groups c.args.step (c.args.count / 2 * 2) c.args.count odd c.args.run.now c.in_ok-last.last c.args.behind all c.in_ok-last.ensures q (h q))
    c.merged.ensures
