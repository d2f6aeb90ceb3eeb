-- From the end of a run over the records that are made to its summary.
use Rattle.std.specs.Prelude.{ℕ, ⊤}
use Rattle.sb_answers.specs.emit.Summaries.{Adds, Sums}
use Rattle.sb_answers.specs.alone.declared.run_end.RunEnd.{RunEnd}
use Rattle.sb_answers.specs.alone.declared.run_end.RunEnd.TheVariants.{Done, Refused, Input, Output, Tap, Memory}
use Rattle.sb_answers.specs.Summaries.{work_rows}

-- a run that is done has added the numbers of all rows over the records that are made, and none but one without memory
-- ends otherwise
abbrev pub SumsWork : ℕ → Sums → Sums → RunEnd → Type 0
SumsWork records old new (Done hand) = Adds old (work_rows records) new
SumsWork records old new Memory = ⊤
SumsWork records old new (Refused refusal) = ⊥
SumsWork records old new Input = ⊥
SumsWork records old new Output = ⊥
SumsWork records old new (Tap place) = ⊥
