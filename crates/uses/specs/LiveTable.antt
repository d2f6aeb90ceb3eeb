-- What a live table tells at the end of a run.
use Rattle.std.specs.Prelude.{◌≡◌, ℕ, List, Option}
use Rattle.sb_cli.specs.base.records.declared.intake.Stop.TheVariants.{End}
use Rattle.sb_cli.specs.base.records.declared.item.Record.{Record}
use Rattle.sb_cli.specs.base.records.declared.item.TheConstants.{END_MARK}
use Rattle.sb_cli.specs.base.records.declared.key.Key.{Key}
use Rattle.sb_cli.specs.base.pipeline.Shapes.{Shape, sum_shape}
use Rattle.sb_cli.specs.one_feed.Due.{rows_below}
use Rattle.sb_cli.specs.one_feed.Given.{Given, items_of, stop_at}
use Rattle.sb_cli.specs.generator.Generated.{generated_items}
use Rattle.sb_cli.specs.live.Lasts.{last_row}

-- the input was read to its end, and told is the last row of the key among all rows of the plan over its items
pub record TellsLast (plan : Shape) (key : Key) (left : Option (List ℕ)) (last : Option Record) : Type 0 where
  pub left' : Option (List ℕ)
  pub given : Given left left'
  pub stopped : stop_at plan given ≡ End
  pub last_is : last ≡ last_row key (rows_below END_MARK plan (items_of plan given))

-- the sums over windows of this size of so many records that are made
abbrev pub made_sums : ℕ → ℕ → List Record
made_sums size records = rows_below END_MARK (sum_shape size) (generated_items records)
