-- The faults of what a run was handed, and which of them its status tells.
use Rattle.std.specs.Prelude.{◌≡◌, ◌⊎◌, ◌+◌, ℕ, List, [], ◌∷◌, ◌++◌, take, Option, Some, Err, ⊤}
use Rattle.sb_alone.specs.base.records.declared.intake.Refusal.{Refusal}
use Rattle.sb_alone.specs.base.records.declared.intake.Stop.TheVariants.{Refused}
use Rattle.sb_alone.specs.outside.Folders.{Files, Load, without}
use Rattle.sb_alone.specs.outside.Sinks.{SinkState}
use Rattle.sb_alone.specs.outside.Sources.{Rose}
use Rattle.sb_alone.specs.base.pipeline.Shapes.{Shape}
use Rattle.sb_told.specs.plan.Failures.Failure.{NoFile}
use Rattle.sb_told.specs.plan.PlanFiles.{plan_of}
use Rattle.sb_told.specs.plan.declared.TheConstants.{MAX_PLAN_BYTES, MAX_TABLE_BYTES}
use Rattle.sb_told.specs.declared.status.Status.{Status}
use Rattle.sb_told.specs.declared.status.Status.TheVariants.{Done, Words, Plan, Line, Input, Output, Folder, Memory, Tap, Audit, FileTooLong, FileLine, Checkpoint}
use Rattle.sb_alone.specs.diary.declared.audit.AuditFault.{AuditFault}
use Rattle.sb_alone.specs.emit.Taps.{TapState}
use Rattle.std.specs.Io.KnownBytes.{prepend_known}
use Rattle.sb_checkpoint.specs.Checkpoints.{with_comments}
use Rattle.sb_checkpoint.specs.Texts.{items_text}
use Rattle.sb_answers.specs.CheckpointFiles.{Said, checkpoint_load}
use Rattle.sb_answers.specs.Courses.{Course}
use Rattle.sb_told.specs.DiaryReads.{IsRefusedAmong}
use Rattle.sb_answers.specs.Offered.{BlamesTap}
use Rattle.sb_answers.specs.Pipelines.{HasCutPlan, HasPlan}
use Rattle.sb_answers.specs.RecordFiles.{IsLoadOfFile}
use Rattle.sb_alone.specs.one_feed.Given.{Given, lines_of, stop_at}
use Rattle.sb_alone.specs.base.records.declared.item.Stream.{Stream}
use Rattle.sb_alone.specs.feeds.Files.{NoneRefused}
use Rattle.sb_words.specs.Words.{Asked, Asked as ask}
use Rattle.sb_words.specs.Words.Asked.{Sum, Run, Slow, Work, Watch, Feeds, Part, Save, Resume}

-- how many reads and writes have failed, and which loads
pub record Faults : Type 0 where
  pub reads : ℕ
  pub writes : ℕ
  pub loads : List Load

-- those of a source, a sink and a folder
abbrev pub faults_of : ℕ → SinkState → List Load → Faults
faults_of reads sink loads = record { reads = reads; writes = sink.faults; loads = loads }

-- a failed read or write is answered only if its count rose
abbrev pub HasCause : Faults → Faults → Status → Type 0
HasCause before now Input = Rose before.reads now.reads
HasCause before now Output = Rose before.writes now.writes
HasCause before now Folder = ⊤
HasCause before now Done = ⊤
HasCause before now Words = ⊤
HasCause before now (Plan fault) = ⊤
HasCause before now (Line refusal) = ⊤
HasCause before now (FileLine stream refusal) = ⊤
HasCause before now Memory = ⊤
HasCause before now (Tap place) = ⊤
HasCause before now (Audit fault) = ⊤
HasCause before now FileTooLong = ⊤
HasCause before now (Checkpoint line) = ⊤

-- the load of the plan file
abbrev pub plan_load : List ℕ → Load
plan_load name = record { name = name; most = MAX_PLAN_BYTES + 1 }

-- the load is of a table that the plan in a file wants: without the table's file there is no plan, and no test fails
-- first
abbrev pub IsTableOf : Option Files → List ℕ → Load → Type 0
IsTableOf folder name load =
    (load.most ≡ MAX_TABLE_BYTES + 1)
    × ((files : Files) → folder ≡ Some files → (bytes : List ℕ) × (files name ≡ Some bytes)
    × (plan_of (without load.name files) (take (MAX_PLAN_BYTES + 1) bytes) ≡ Err NoFile))

-- the load is of the plan file, or of a table whose turn has come
unfoldable pub IsWantedFor : Option Files → List ℕ → Load → Type 0
IsWantedFor folder name load = (load ≡ plan_load name) ⊎ IsTableOf folder name load

-- the load is wanted for what is asked for: that of a checkpoint or of a record file once there is a plan
abbrev pub IsWanted : Option Files → Asked → Load → Type 0
IsWanted folder (Sum size options) load = ⊥
IsWanted folder (Run name options) load = IsWantedFor folder name load
IsWanted folder (Slow name) load = IsWantedFor folder name load
IsWanted folder ask.Audit load = ⊥
IsWanted folder (Work records options) load = ⊥
IsWanted folder (Watch name key options) load = IsWantedFor folder name load
IsWanted folder (Feeds name file_a file_b options) load =
    IsWantedFor folder name load ⊎ (IsLoadOfFile folder file_a file_b load × HasPlan folder name)
IsWanted folder (Part name options) load = IsWantedFor folder name load
IsWanted folder (Save name) load = IsWantedFor folder name load
IsWanted folder (Resume name checkpoint options) load =
    IsWantedFor folder name load ⊎ ((load ≡ checkpoint_load checkpoint) × HasCutPlan folder name)

-- one load failed, which was wanted
abbrev pub BlamesFile : Option Files → Asked → List Load → List Load → Type 0
BlamesFile folder wanted before now = (load : Load) × IsWanted folder wanted load × (now ≡ before ++ load ∷ [])

-- no fault is passed over: nothing failed but what the status tells. At Output a read may have failed before, and so it
-- may if a tap fails and several workers ran; out of memory, a read or a write
abbrev pub HidesNoFault : Faults → Faults → Status → Type 0
HidesNoFault before now Done = now ≡ before
HidesNoFault before now Words = now ≡ before
HidesNoFault before now (Plan fault) = now ≡ before
HidesNoFault before now (Line refusal) = now ≡ before
HidesNoFault before now (FileLine stream refusal) = now ≡ before
HidesNoFault before now Input = (now.writes ≡ before.writes) × (now.loads ≡ before.loads)
HidesNoFault before now Output = now.loads ≡ before.loads
HidesNoFault before now Folder = (now.reads ≡ before.reads) × (now.writes ≡ before.writes)
HidesNoFault before now Memory = now.loads ≡ before.loads
HidesNoFault before now (Tap place) = (now.writes ≡ before.writes) × (now.loads ≡ before.loads)
HidesNoFault before now (Audit fault) = now ≡ before
HidesNoFault before now FileTooLong = now ≡ before
HidesNoFault before now (Checkpoint line) = now ≡ before

-- the run was done, or there was no memory
abbrev pub IsDoneOrMemory : Status → Type 0
IsDoneOrMemory status = (status ≡ Done) ⊎ (status ≡ Memory)

-- no line of the diary text that the source gave is refused, and nothing failed
pub record NothingFailsInAudit (left left' : Option (List ℕ)) (before now : Faults) : Type 0 where
  pub no_refusal : (given : Given left left') (fault : AuditFault) → IsRefusedAmong (lines_of given) fault → ⊥
  pub no_read_failed : Rose before.reads now.reads → ⊥
  pub no_write_failed : Rose before.writes now.writes → ⊥

-- no line of what the source gave is refused, and nothing failed
pub record NothingFails
    (left left' : Option (List ℕ)) (course : Given left left' → Course)
    (before now : Faults) (taps taps' : List TapState)
    : Type 0 where
  pub no_refusal : (given : Given left left') (refusal : Refusal) → (course given).stop ≡ Refused refusal → ⊥
  pub no_read_failed : Rose before.reads now.reads → ⊥
  pub no_write_failed : Rose before.writes now.writes → ⊥
  pub no_load_failed : now.loads ≡ before.loads
  pub no_tap_failed : (place : ℕ) → BlamesTap place taps taps' → ⊥

-- no line of two files with these bytes is refused, and nothing failed
pub record NothingFailsInFiles
    (plan : Shape) (files : Stream → List ℕ) (before now : Faults) (taps taps' : List TapState) : Type 0 where
  pub no_refusal : NoneRefused plan files
  pub no_write_failed : Rose before.writes now.writes → ⊥
  pub no_load_failed : now.loads ≡ before.loads
  pub no_tap_failed : (place : ℕ) → BlamesTap place taps taps' → ⊥

-- no line that a run reads behind this checkpoint is refused, and nothing failed
pub record NothingFailsBehind
    (plan : Shape) (said : Said) (left left' : Option (List ℕ)) (before now : Faults) : Type 0 where
  pub no_refusal : (rest : List ℕ)
      (given : Given (prepend_known (items_text (with_comments said.lines said.items)) left) (prepend_known rest left'))
      (refusal : Refusal) → stop_at plan given ≡ Refused refusal → ⊥
  pub no_read_failed : Rose before.reads now.reads → ⊥
  pub no_write_failed : Rose before.writes now.writes → ⊥
  pub no_load_failed : now.loads ≡ before.loads
