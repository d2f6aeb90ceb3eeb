-- The sums of a whole text, and an answer that gives them.
use Rattle.std.specs.Prelude.{◌≡◌, ℕ, true, List}
use Rattle.sb_cli.specs.base.records.declared.item.Record.{Record}
use Rattle.sb_cli.specs.base.records.Inputs.{Accepted, accepted}
use Rattle.sb_cli.specs.base.records.Rows.{text_of}
use Rattle.sb_cli.specs.outside.Lines.{lines}
use Rattle.sb_cli.specs.base.pipeline.Shapes.{Shape, streams_of, sum_shape}
use Rattle.sb_cli.specs.answers.Pipelines.{all_rows}
use Rattle.sb_cli.specs.told.declared.status.Status.TheVariants.{Done}
use Rattle.uses.specs.declared.in_memory.Answer.{Answer}

-- what a plan accepts of lines
abbrev pub accepted_by : Shape → List (List ℕ) → Accepted
accepted_by plan lines = accepted (streams_of plan) plan.late plan.keys lines

-- the rows of all windows of this size, over the accepted lines of the text
abbrev pub sums_of : ℕ → List ℕ → List Record
sums_of size text = all_rows (sum_shape size) (accepted_by (sum_shape size) (lines true text)).items

-- if the run is done, its rows are the text of the sums
abbrev pub GivesSums : ℕ → List ℕ → Answer → Type 0
GivesSums size text answer = answer.status ≡ Done → answer.rows.items ≡ text_of (sums_of size text)
