-- How the sink keeps records: in sorted runs.
use Rattle.std.specs.Prelude.{ℕ, nat_lt, Bool, false, List, [], ◌∷◌}
use Rattle.std.specs.List.{flat_map}
use Rattle.sb_window.specs.records.declared.item.Record.{Record}

-- the records of all runs, those of the first run first
abbrev pub records_in : List (List Record) → List Record
records_in runs = flat_map (λ run. run) runs

-- whether there is a first record, and its time is below w
abbrev pub begins_before : ℕ → List Record → Bool
begins_before w [] = false
begins_before w (r ∷ rs) = nat_lt r.time w
