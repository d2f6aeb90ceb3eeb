use Rattle.std.proofs.Common.{◌≡◌, map, take}
use Rattle.sb_runs.specs.window.declared.keyed_window.KeyedWindow.{KeyedWindow}
use Rattle.sb_aggregate.specs.Partials.{partial_values, joining}
use Rattle.sb_runs.specs.Placed.{placed_value}
use Rattle.sb_aggregate.specs.Numbers.{numbered_entry}
use Rattle.sb_runs.specs.Runs.{found}
use Rattle.sb_aggregate.proofs.placing.run_of_singles.Given as goal

abbrev pub invariant-loop-entry : goal.invariant-loop-entry
invariant-loop-entry l = (q : KeyedWindow) → found l.run q ≡ placed_value (partial_values (joining l.fn.agg)) (map numbered_entry (take l.entry-index l.numbers)) q
