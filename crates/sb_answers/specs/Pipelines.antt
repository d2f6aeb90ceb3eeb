-- What is asked of an input.
use Rattle.std.specs.Prelude.{◌≡◌, ◌⊎◌, ℕ, ◌+◌, List, take, Option, Some, Result, Ok, Err}
use Rattle.sb_alone.specs.base.records.declared.item.Item.{Item}
use Rattle.sb_alone.specs.base.records.declared.item.Record.{Record}
use Rattle.sb_alone.specs.base.records.declared.item.TheConstants.{END_MARK}
use Rattle.sb_alone.specs.outside.Folders.{Files}
use Rattle.sb_alone.specs.base.pipeline.Plans.{IsPlan}
use Rattle.sb_alone.specs.base.pipeline.Shapes.{Shape, sum_shape}
use Rattle.sb_alone.specs.one_feed.Due.{rows_below}
use Rattle.sb_checkpoint.specs.Reach.{HasNoSession, IsFirstSession}
use Rattle.sb_told.specs.plan.declared.fault.PlanCause.TheVariants.{HasSession}
use Rattle.sb_told.specs.plan.declared.fault.PlanFault.{PlanFault}
use Rattle.sb_told.specs.plan.declared.TheConstants.{MAX_PLAN_BYTES}
use Rattle.sb_told.specs.plan.Failures.{Failure, in_file}
use Rattle.sb_told.specs.plan.Failures.Failure.{Fails}
use Rattle.sb_told.specs.plan.PlanFiles.{plan_of}
use Rattle.sb_words.specs.Options.{defaults}
use Rattle.sb_words.specs.Words.{Asked}
use Rattle.sb_words.specs.Words.Asked.{Sum, Run, Slow, Audit, Work, Watch, Feeds, Part, Save, Resume}
use Rattle.sb_words.specs.declared.options.Options.{Options}

-- the options that are given: the plain program, an audit and the saving of a checkpoint have none
abbrev pub options_in : Asked → Options
options_in (Sum size options) = options
options_in (Run name options) = options
options_in (Slow name) = defaults
options_in Audit = defaults
options_in (Work records options) = options
options_in (Watch name key options) = options
options_in (Feeds name file_a file_b options) = options
options_in (Part name options) = options
options_in (Save name) = defaults
options_in (Resume name checkpoint options) = options

-- a run of the engine by one worker
abbrev pub HasOneWorker : Asked → Type 0
HasOneWorker (Sum size options) = options.workers ≡ 1
HasOneWorker (Run name options) = options.workers ≡ 1
HasOneWorker (Slow name) = ⊥
HasOneWorker Audit = ⊥
HasOneWorker (Work records options) = options.workers ≡ 1
HasOneWorker (Watch name key options) = options.workers ≡ 1
HasOneWorker (Feeds name file_a file_b options) = options.workers ≡ 1
HasOneWorker (Part name options) = options.workers ≡ 1
HasOneWorker (Save name) = ⊥
HasOneWorker (Resume name checkpoint options) = options.workers ≡ 1

-- a run by one worker that writes rows as it reads
abbrev pub WritesAsItReads : Asked → Type 0
WritesAsItReads (Sum size options) = options.workers ≡ 1
WritesAsItReads (Run name options) = options.workers ≡ 1
WritesAsItReads (Slow name) = ⊥
WritesAsItReads Audit = ⊥
WritesAsItReads (Work records options) = ⊥
WritesAsItReads (Watch name key options) = ⊥
WritesAsItReads (Feeds name file_a file_b options) = ⊥
WritesAsItReads (Part name options) = ⊥
WritesAsItReads (Save name) = ⊥
WritesAsItReads (Resume name checkpoint options) = ⊥

-- the input is read: `work` makes its records, and `feeds` has them from two files
abbrev pub ReadsInput : Asked → Type 0
ReadsInput (Sum size options) = Unit {0}
ReadsInput (Run name options) = Unit {0}
ReadsInput (Slow name) = Unit {0}
ReadsInput Audit = Unit {0}
ReadsInput (Work records options) = ⊥
ReadsInput (Watch name key options) = Unit {0}
ReadsInput (Feeds name file_a file_b options) = ⊥
ReadsInput (Part name options) = Unit {0}
ReadsInput (Save name) = Unit {0}
ReadsInput (Resume name checkpoint options) = Unit {0}

-- the plan in a file, or its first fault, or that the file or one that it names is not there. One byte more than a plan
-- may have shows that it is too long
abbrev pub plan_in : Files → List ℕ → Result Shape (Failure PlanFault)
plan_in files name = in_file (λ bytes. plan_of files (take (MAX_PLAN_BYTES + 1) bytes)) (files name)

-- the file is where the folder tells its files; in one that tells nothing it may be any
abbrev pub GivesPlan : Option Files → List ℕ → Result Shape (Failure PlanFault) → Type 0
GivesPlan folder name found = (files : Files) → folder ≡ Some files → plan_in files name ≡ found

-- there is a file with a plan
abbrev pub HasPlan : Option Files → List ℕ → Type 0
HasPlan folder name = (plan : Shape) × IsPlan plan × GivesPlan folder name (Ok plan)

-- a file with this plan, whose runs can be cut in two
abbrev pub IsCutPlan : Option Files → List ℕ → Shape → Type 0
IsCutPlan folder name plan = IsPlan plan × GivesPlan folder name (Ok plan) × HasNoSession plan

-- there is one
abbrev pub HasCutPlan : Option Files → List ℕ → Type 0
HasCutPlan folder name = (plan : Shape) × IsCutPlan folder name plan

-- the first transform of the plan that gathers records by session is to blame
pub record BlamesSession (plan : Shape) (fault : PlanFault) : Type 0 where
  pub place : ℕ
  pub first : IsFirstSession plan place
  pub at : fault.at ≡ place + 1
  pub what : fault.what ≡ HasSession

-- the first fault of a plan file for runs that are cut in two: after all others, that a session can't be saved
abbrev pub IsFaultOfCut : Option Files → List ℕ → PlanFault → Type 0
IsFaultOfCut folder name fault =
    GivesPlan folder name (Err (Fails fault))
    ⊎ ((plan : Shape) × GivesPlan folder name (Ok plan) × BlamesSession plan fault)

-- this is the plan that is asked for; an audit and `work` ask for none
abbrev pub IsPlanFor : Option Files → Asked → Shape → Type 0
IsPlanFor folder (Sum size options) plan = plan ≡ sum_shape size
IsPlanFor folder (Run name options) plan = IsPlan plan × GivesPlan folder name (Ok plan)
IsPlanFor folder (Slow name) plan = IsPlan plan × GivesPlan folder name (Ok plan)
IsPlanFor folder Audit plan = ⊥
IsPlanFor folder (Work records options) plan = ⊥
IsPlanFor folder (Watch name key options) plan = IsPlan plan × GivesPlan folder name (Ok plan)
IsPlanFor folder (Feeds name file_a file_b options) plan = IsPlan plan × GivesPlan folder name (Ok plan)
IsPlanFor folder (Part name options) plan = IsPlan plan × GivesPlan folder name (Ok plan)
IsPlanFor folder (Save name) plan = IsCutPlan folder name plan
IsPlanFor folder (Resume name checkpoint options) plan = IsCutPlan folder name plan

-- there is no such plan: this is the first fault of its file
abbrev pub IsFaultFor : Option Files → Asked → PlanFault → Type 0
IsFaultFor folder (Sum size options) fault = ⊥
IsFaultFor folder (Run name options) fault = GivesPlan folder name (Err (Fails fault))
IsFaultFor folder (Slow name) fault = GivesPlan folder name (Err (Fails fault))
IsFaultFor folder Audit fault = ⊥
IsFaultFor folder (Work records options) fault = ⊥
IsFaultFor folder (Watch name key options) fault = GivesPlan folder name (Err (Fails fault))
IsFaultFor folder (Feeds name file_a file_b options) fault = GivesPlan folder name (Err (Fails fault))
IsFaultFor folder (Part name options) fault = GivesPlan folder name (Err (Fails fault))
IsFaultFor folder (Save name) fault = IsFaultOfCut folder name fault
IsFaultFor folder (Resume name checkpoint options) fault = IsFaultOfCut folder name fault

-- a file is asked for
abbrev pub AsksForFile : Asked → Type 0
AsksForFile (Sum size options) = ⊥
AsksForFile (Run name options) = Unit {0}
AsksForFile (Slow name) = Unit {0}
AsksForFile Audit = ⊥
AsksForFile (Work records options) = ⊥
AsksForFile (Watch name key options) = Unit {0}
AsksForFile (Feeds name file_a file_b options) = Unit {0}
AsksForFile (Part name options) = Unit {0}
AsksForFile (Save name) = Unit {0}
AsksForFile (Resume name checkpoint options) = Unit {0}

-- the folder tells its files, and one of them gives this plan
abbrev pub TellsPlanIn : Option Files → List ℕ → Shape → Type 0
TellsPlanIn folder name plan = (files : Files) × (folder ≡ Some files) × (plan_in files name ≡ Ok plan)

-- and its runs can be cut in two
abbrev pub TellsCutPlan : Option Files → List ℕ → Shape → Type 0
TellsCutPlan folder name plan = TellsPlanIn folder name plan × HasNoSession plan

-- the folder tells its files, where one is asked for, and that gives this plan; `resume` asks for a checkpoint, too,
-- and `feeds` for two files more
abbrev pub TellsPlan : Option Files → Asked → Shape → Type 0
TellsPlan folder (Sum size options) plan = plan ≡ sum_shape size
TellsPlan folder (Run name options) plan = TellsPlanIn folder name plan
TellsPlan folder (Slow name) plan = TellsPlanIn folder name plan
TellsPlan folder Audit plan = ⊥
TellsPlan folder (Work records options) plan = ⊥
TellsPlan folder (Watch name key options) plan = TellsPlanIn folder name plan
TellsPlan folder (Feeds name file_a file_b options) plan = ⊥
TellsPlan folder (Part name options) plan = TellsPlanIn folder name plan
TellsPlan folder (Save name) plan = TellsCutPlan folder name plan
TellsPlan folder (Resume name checkpoint options) plan = ⊥

-- the rows of all windows
abbrev pub all_rows : Shape → List Item → List Record
all_rows plan items = rows_below END_MARK plan items
