-- From the end of a run of the engine to its answer.
use Rattle.std.specs.Prelude.{Bool, true, false, List, [], Result, Ok, Err, ⊤}
use Rattle.sb_alone.specs.outside.declared.sink.SinkFault.{SinkFault}
use Rattle.sb_alone.specs.outside.declared.sink.SinkFault.TheVariants as fault
use Rattle.sb_alone.specs.diary.Texts.{NodeDiary}
use Rattle.sb_alone.specs.declared.run_end.RunEnd.{RunEnd}
use Rattle.sb_alone.specs.declared.run_end.RunEnd.TheVariants as run
use Rattle.sb_alone.specs.declared.sizes.Sizes.{Sizes}
use Rattle.sb_words.specs.declared.options.Options.{Options}
use Rattle.sb_told.specs.declared.status.Status.{Status}
use Rattle.sb_told.specs.declared.status.Status.TheVariants.{Done, Words, Plan, Line, Input, Output, Folder, Memory, Tap, Audit, FileTooLong, FileLine, Checkpoint}
use Rattle.sb_answers.specs.Telling.{CanTell, diaries_of_hand}

-- the sizes that options give
abbrev pub sizes_from : Options → Sizes
sizes_from options = record {
  workers = options.workers;
  bundle = options.bundle;
  pending = options.pending;
  keeps_diaries = options.diary;
}

-- the status of a run of the engine whose rows were passed on
abbrev pub status_at : RunEnd → Status
status_at (run.Done hand) = Done
status_at (run.Refused refusal) = Line refusal
status_at run.Input = Input
status_at run.Output = Output
status_at (run.Tap place) = Tap place
status_at run.Memory = Memory

-- its status, once the sink was asked to pass on all rows
abbrev pub status_after : {T : Type 0} → RunEnd → Result T SinkFault → Status
status_after end (Ok x) = status_at end
status_after end (Err fault.Failed) = Output
status_after end (Err fault.Memory) = Memory

-- the diaries of a run that is done can be told if they are kept
abbrev pub CanTellAt : Bool → RunEnd → Type 0
CanTellAt true (run.Done hand) = CanTell hand
CanTellAt true run.Input = ⊤
CanTellAt true (run.Refused refusal) = ⊤
CanTellAt true run.Output = ⊤
CanTellAt true (run.Tap place) = ⊤
CanTellAt true run.Memory = ⊤
CanTellAt false end = ⊤

-- the diaries of a run that ended so, if they are kept
abbrev pub kept_at : Bool → RunEnd → List NodeDiary
kept_at true (run.Done hand) = diaries_of_hand hand
kept_at true run.Input = []
kept_at true (run.Refused refusal) = []
kept_at true run.Output = []
kept_at true (run.Tap place) = []
kept_at true run.Memory = []
kept_at false end = []

-- they are told if all was passed on
abbrev pub diaries_told : Bool → RunEnd → Status → List NodeDiary
diaries_told keeps end Done = kept_at keeps end
diaries_told keeps end Words = []
diaries_told keeps end (Plan fault) = []
diaries_told keeps end (Line refusal) = []
diaries_told keeps end (FileLine stream refusal) = []
diaries_told keeps end Input = []
diaries_told keeps end Output = []
diaries_told keeps end Folder = []
diaries_told keeps end Memory = []
diaries_told keeps end (Tap place) = []
diaries_told keeps end (Audit fault) = []
diaries_told keeps end FileTooLong = []
diaries_told keeps end (Checkpoint line) = []
