-- Which loads of tables a plan wants, and what is listed of those that fail.
use Rattle.std.specs.Prelude.{◌≡◌, ◌≢◌, ℕ, ◌+◌, List, [], ◌∷◌, ◌++◌, Option, Some, None, Result, Ok, Err}
use Rattle.sb_outside.specs.Folders.{Files, Load, without}
use Rattle.sb_plan.specs.declared.fault.PlanStop.{PlanStop}
use Rattle.sb_plan.specs.declared.fault.PlanStop.TheVariants as stop
use Rattle.sb_plan.specs.declared.TheConstants.{MAX_TABLE_BYTES}
use Rattle.sb_plan.specs.Failures.{Failure}
use Rattle.sb_plan.specs.Failures.Failure.{NoFile}
use Rattle.sb_plan.specs.PlanFiles.{plan_of}

-- the files of an empty folder
abbrev pub no_files : Files
no_files name = None

-- tests that want no file: over an empty folder they do not find that a file is not there
abbrev pub WantsNoFile : {A E : Type 0} → (Files → Result A (Failure E)) → Type 0
WantsNoFile tests = tests no_files ≢ Err NoFile

-- a load of a table that the plan of a text wants: without the file there is no plan, and no test fails before its turn
abbrev pub IsWantedBy : Option Files → List ℕ → Load → Type 0
IsWantedBy folder text load =
    (load.most ≡ MAX_TABLE_BYTES + 1)
    × ((files : Files) → folder ≡ Some files → plan_of (without load.name files) text ≡ Err NoFile)

-- only an answer that a load failed changes the list of those that did: it has one more, which is wanted
abbrev pub BlamesLoad : {A : Type 0} → (Load → Type 0) → List Load → List Load → Result A PlanStop → Type 0
BlamesLoad wanted before now (Ok x) = now ≡ before
BlamesLoad wanted before now (Err (stop.Fault fault)) = now ≡ before
BlamesLoad wanted before now (Err stop.Folder) = (load : Load) × wanted load × (now ≡ before ++ load ∷ [])
BlamesLoad wanted before now (Err stop.Memory) = now ≡ before
