use Rattle.std.proofs.Common.{◌≡◌, ◌++◌, length}
use Rattle.sb_runs.specs.Merged.{merged}
use Rattle.sb_runs.proofs.run.merge.Given as goal

abbrev pub invariant-entries : goal.invariant-entries
invariant-entries g l =
    let join = g.J.Joiner.joined l.joiner in
    l.all ++ merged join l.both.0 l.both.1 ≡ merged join l.initial.both.0 l.initial.both.1

abbrev pub decreases-entries : goal.decreases-entries
decreases-entries g l = length (merged (g.J.Joiner.joined l.joiner) l.both.0 l.both.1)
