use Rattle.std.proofs.Common.{◌≡◌, take}
use Rattle.sb_runs.specs.Placed.{placed_value}
use Rattle.sb_runs.specs.Runs.{found}
use Rattle.sb_runs.specs.window.declared.keyed_window.KeyedWindow.{KeyedWindow}
use Rattle.sb_join.proofs.Sides.{on_side}
use Rattle.sb_join.proofs.part.joined.Given as goal

abbrev pub invariant-loop-entry : goal.invariant-loop-entry
invariant-loop-entry l = (q : KeyedWindow) → found l.run q ≡ placed_value (on_side l.side) (take l.entry-index l.placed) q
