-- What contracts see of a part of an aggregate, and of an aggregate.
use Rattle.std.specs.Prelude.{◌≡◌, ℕ, Bool, List, ◌++◌}
use Rattle.sb_runs.specs.records.declared.item.Record.{Record}
use Rattle.sb_runs.specs.records.declared.element.KeptRec.{KeptRec}
use Rattle.sb_runs.specs.records.Elements.{all_records}
use Rattle.sb_runs.specs.records.Records.{at_least}
use Rattle.sb_runs.specs.records.Reorderings.{IsReordered}
use Rattle.sb_runs.specs.window.declared.keyed_window.KeyedWindow.{KeyedWindow}
use Rattle.sb_runs.specs.window.Spacing.{Spacing}
use Rattle.sb_windowed.specs.declared.aggregate.Agg.{Agg}
use Rattle.sb_windowed.specs.Aggregates.{aggregate_rows}
use Rattle.sb_aggregate.specs.Partials.{PartialValues, join_values, partial_at, partial_from}
use Rattle.sb_runs.specs.Runs.{found, found_in}

-- a part: the records that were grouped
pub record Grouped : Type 0 where
  pub agg : Agg
  pub windows : Spacing
  pub records : List Record

-- an aggregate: the records that were absorbed, the mark of the last closing, and whether memory ran out
pub record Absorbed : Type 0 where
  pub agg : Agg
  pub windows : Spacing
  pub records : List Record
  pub closed : ℕ
  pub spent : Bool

-- what an aggregate gives, from its closed mark on, of what it absorbed and of these elements
abbrev pub given : Absorbed → List KeptRec → List Record
given g l = at_least g.closed (aggregate_rows g.agg g.windows (g.records ++ all_records l))

-- the part was made for such an aggregate
pub record IsLike (g : Absorbed) (p : Grouped) : Type 0 where
  pub agg : p.agg ≡ g.agg
  pub windows : p.windows ≡ g.windows

-- the part was made of the records of these elements, in any order
abbrev pub IsMadeOf : Grouped → List KeptRec → Type 0
IsMadeOf p es = IsReordered p.records (all_records es)

-- the run has the partial values of the records
abbrev pub HasPartials : Agg → Spacing → List Record → PartialValues → Type 0
HasPartials agg windows records run = (q : KeyedWindow) → found run q ≡ partial_at agg windows records q

-- the runs have those of the windows whose rows are from a mark on
abbrev pub HasPartialsFrom : ℕ → Agg → Spacing → List Record → List PartialValues → Type 0
HasPartialsFrom mark agg windows records runs =
    (q : KeyedWindow) → found_in (join_values agg) runs q ≡ partial_from agg windows mark records q
