-- From the end of a run over two files to its answer, and from a file to its bytes.
use Rattle.std.specs.Prelude.{ℕ, List, Option, Result, Ok, Err, ⊤}
use Rattle.sb_alone.specs.outside.declared.sink.SinkFault.{SinkFault}
use Rattle.sb_alone.specs.outside.declared.sink.SinkFault.TheVariants as fault
use Rattle.sb_alone.specs.outside.Folders.{Files}
use Rattle.sb_alone.specs.declared.two_end.TwoEnd.{TwoEnd}
use Rattle.sb_alone.specs.declared.two_end.TwoEnd.TheVariants as two
use Rattle.sb_told.specs.declared.status.Status.{Status}
use Rattle.sb_told.specs.declared.status.Status.TheVariants.{Done, Words, Plan, Line, Input, Output, Folder, Memory, Tap, Audit, FileTooLong, FileLine, Checkpoint}
use Rattle.sb_answers.specs.RecordFiles.{HasLongFile, IsLong}

-- the status of a run over two files whose rows were passed on
abbrev pub status_of_two : TwoEnd → Status
status_of_two (two.Done hand) = Done
status_of_two (two.Refused stream refusal) = FileLine stream refusal
status_of_two two.Output = Output
status_of_two (two.Tap place) = Tap place
status_of_two two.Memory = Memory

-- its status, once the sink was asked to pass on all rows
abbrev pub status_after_two : {T : Type 0} → TwoEnd → Result T SinkFault → Status
status_after_two end (Ok x) = status_of_two end
status_after_two end (Err fault.Failed) = Output
status_after_two end (Err fault.Memory) = Memory

-- why there are no bytes of a file
abbrev pub HasNoBytes : Option Files → List ℕ → Status → Type 0
HasNoBytes folder name FileTooLong = IsLong folder name
HasNoBytes folder name Folder = ⊤
HasNoBytes folder name Memory = ⊤
HasNoBytes folder name Done = ⊥
HasNoBytes folder name Words = ⊥
HasNoBytes folder name (Plan fault) = ⊥
HasNoBytes folder name (Line refusal) = ⊥
HasNoBytes folder name (FileLine stream refusal) = ⊥
HasNoBytes folder name Input = ⊥
HasNoBytes folder name Output = ⊥
HasNoBytes folder name (Tap place) = ⊥
HasNoBytes folder name (Audit fault) = ⊥
HasNoBytes folder name (Checkpoint line) = ⊥

-- why there are none of one of two files
abbrev pub HaveNoBytes : Option Files → List ℕ → List ℕ → Status → Type 0
HaveNoBytes folder file_a file_b FileTooLong = HasLongFile folder file_a file_b
HaveNoBytes folder file_a file_b Folder = ⊤
HaveNoBytes folder file_a file_b Memory = ⊤
HaveNoBytes folder file_a file_b Done = ⊥
HaveNoBytes folder file_a file_b Words = ⊥
HaveNoBytes folder file_a file_b (Plan fault) = ⊥
HaveNoBytes folder file_a file_b (Line refusal) = ⊥
HaveNoBytes folder file_a file_b (FileLine stream refusal) = ⊥
HaveNoBytes folder file_a file_b Input = ⊥
HaveNoBytes folder file_a file_b Output = ⊥
HaveNoBytes folder file_a file_b (Tap place) = ⊥
HaveNoBytes folder file_a file_b (Audit fault) = ⊥
HaveNoBytes folder file_a file_b (Checkpoint line) = ⊥
