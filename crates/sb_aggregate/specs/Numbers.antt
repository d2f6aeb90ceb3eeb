-- The values that are placed at panes whose keys are numbers.
use Rattle.std.specs.Prelude.{ℕ, ℤ, ◌%◌, pos, List, [], ◌∷◌, slice_index_or}
use Rattle.sb_runs.specs.records.declared.key.Key.TheVariants.{Number}
use Rattle.sb_runs.specs.window.declared.keyed_window.KeyedWindow.{KeyedWindow}
use Rattle.sb_aggregate.specs.declared.placing.Numbered.{Numbered}
use Rattle.sb_aggregate.specs.declared.ranking.TheConstants.{RANKED}

-- the value at its pane, whose key is a number
abbrev pub numbered_entry : Numbered → KeyedWindow × ℤ
numbered_entry n = (record { end = n.end; key = Number n.key }, n.value)

-- the same as an entry of a run, whose partial value is a single number
abbrev pub single_entry : Numbered → KeyedWindow × List ℤ
single_entry n = ((numbered_entry n).0, n.value ∷ [])

-- the value at the place that a rank ends with
abbrev pub ranked : List Numbered → ℕ → Numbered
ranked numbers rank = slice_index_or numbers (rank % RANKED) (record { end = 0; key = 0; value = pos 0 })
