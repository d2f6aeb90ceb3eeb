use Rattle.std.proofs.Common.{◌≡◌, take}
use Rattle.std.specs.List.{flat_map}
use Rattle.sb_runs.specs.window.declared.keyed_window.KeyedWindow.{KeyedWindow}
use Rattle.sb_aggregate.specs.Partials.{partial_values, joining}
use Rattle.sb_runs.specs.Placed.{placed_first, placed_value}
use Rattle.sb_aggregate.proofs.part.part_of.Given as goal

abbrev pub invariant-loop-record : goal.invariant-loop-record
invariant-loop-record l = record {
  placed : (q : KeyedWindow) → placed_value (partial_values (joining l.agg)) l.placing q ≡ placed_value (partial_values l.agg) (flat_map (placed_first l.windows) (take l.record-index l.records)) q;
  grouped : l.grouped ≡ take l.record-index l.records;
}
