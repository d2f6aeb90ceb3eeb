-- From the end of a run over a first part of an input to its answer.
use Rattle.std.specs.Prelude.{ℕ, List, Result, Ok, Err}
use Rattle.sb_answers.specs.checkpoint.declared.checkpoint.Checkpoint.{Checkpoint}
use Rattle.sb_answers.specs.checkpoint.Saved.{items_in}
use Rattle.sb_answers.specs.checkpoint.Texts.{checkpoint_text}
use Rattle.sb_answers.specs.outside.declared.sink.SinkFault.{SinkFault}
use Rattle.sb_answers.specs.outside.declared.sink.SinkFault.TheVariants as fault
use Rattle.sb_run.specs.declared.cut.cut_end.CutEnd.{CutEnd}
use Rattle.sb_run.specs.declared.cut.cut_end.CutEnd.TheVariants as cut
use Rattle.sb_answers.specs.told.declared.status.Status.{Status}
use Rattle.sb_answers.specs.told.declared.status.Status.TheVariants.{Done, Line, Input, Output, Memory}

-- the status of a run over a part whose rows were passed on
abbrev pub status_of_cut : CutEnd → Status
status_of_cut cut.Done = Done
status_of_cut (cut.Refused refusal) = Line refusal
status_of_cut cut.Input = Input
status_of_cut cut.Output = Output
status_of_cut cut.Memory = Memory

-- its status, once the sink was asked to pass on all rows
abbrev pub status_after_cut : {T : Type 0} → CutEnd → Result T SinkFault → Status
status_after_cut end (Ok x) = status_of_cut end
status_after_cut end (Err fault.Failed) = Output
status_after_cut end (Err fault.Memory) = Memory

-- the text of a checkpoint
abbrev pub text_in : Checkpoint → List ℕ
text_in c = checkpoint_text c.lines c.low (items_in c)
