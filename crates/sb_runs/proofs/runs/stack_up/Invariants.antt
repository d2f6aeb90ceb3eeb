use Rattle.std.proofs.Common.{◌≡◌, length}
use Rattle.sb_window.specs.declared.keyed_window.KeyedWindow.{KeyedWindow}
use Rattle.sb_window.specs.Gatherings.{joined_value}
use Rattle.sb_runs.specs.Runs.{found, found_in}
use Rattle.sb_runs.proofs.runs.stack_up.Given as goal

abbrev pub invariant-small : goal.invariant-small
invariant-small g l =
    let join = g.J.Joiner.joined l.joiner in
    (q : KeyedWindow) → joined_value join (found_in join l.stack.items q) (found l.top q) ≡ joined_value join (found_in join l.initial.stack.items q) (found l.initial.top q)

abbrev pub decreases-small : goal.decreases-small
decreases-small g l = length l.stack.items
