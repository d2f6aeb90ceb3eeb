-- The sums of large values, and a plan that gives them.
use Rattle.std.specs.Prelude.{ℕ, ℤ, List, [], ◌∷◌, filter, Some, None}
use Rattle.std.specs.Ordering.{int_cmp, is_ge}
use Rattle.sb_cli.specs.base.records.declared.item.Item.{Item}
use Rattle.sb_cli.specs.base.records.declared.item.Record.{Record}
use Rattle.sb_cli.specs.base.records.declared.item.Stream.TheVariants.{A}
use Rattle.sb_cli.specs.base.records.declared.item.TheConstants.{END_MARK}
use Rattle.sb_cli.specs.base.records.Records.{before, sorted_records}
use Rattle.sb_cli.specs.base.records.Streams.{records_of}
use Rattle.sb_cli.specs.base.window.Aggregations.{sum_rows}
use Rattle.sb_cli.specs.base.window.Spacing.{fixed_windows}
use Rattle.sb_cli.specs.base.pardo.declared.operation.Field.TheVariants.{Value}
use Rattle.sb_cli.specs.base.pardo.declared.operation.Test.TheVariants.{AtLeast}
use Rattle.sb_cli.specs.base.pardo.declared.operation.Op.TheVariants.{Filter}
use Rattle.sb_cli.specs.base.windowed.declared.aggregate.Agg.TheVariants.{Sum}
use Rattle.sb_cli.specs.base.pipeline.declared.transform.Kind.TheVariants.{Do, Group}
use Rattle.sb_cli.specs.base.pipeline.declared.transform.Step.{Step}
use Rattle.sb_cli.specs.base.pipeline.Shapes.{Shape, shape_of}

-- a filter of values of at least this, and a sum of what it gives over fixed windows of this size
abbrev pub large_sums_steps : ℤ → ℕ → List Step
large_sums_steps least size =
    record { kind = Do (Filter Value AtLeast least); down = record { node = 1; lane = 0 } }
    ∷ record { kind = Group Sum (fixed_windows size); down = record { node = 2; lane = 0 } } ∷ []

-- stream a goes to the filter, and stream b is not used; keys are numbers, and late records are refused
abbrev pub large_sums_plan : ℤ → ℕ → Shape
large_sums_plan least size =
    shape_of (large_sums_steps least size) (Some (record { node = 0; lane = 0 })) None

-- the records with a value of at least this
abbrev pub large_values : ℤ → List Record → List Record
large_values least records = filter (λ r. is_ge (int_cmp r.value least)) records

-- the sums of the large values of stream a, by window and key
abbrev pub large_sums : ℤ → ℕ → List Item → List Record
large_sums least size items =
    sorted_records (before END_MARK (sum_rows (fixed_windows size) (large_values least (records_of A items))))
