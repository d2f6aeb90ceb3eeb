-- The laws of plan files.
use Rattle.std.specs.Prelude.{◌≡◌, ℕ, List, Ok}
use Rattle.sb_outside.specs.Folders.{Files}
use Rattle.sb_pipeline.specs.Plans.{IsPlan}
use Rattle.sb_pipeline.specs.Shapes.{Shape}
use Rattle.sb_plan.specs.declared.TheConstants.{MAX_NAME_BYTES, MAX_PLAN_BYTES, MAX_TABLE_BYTES}
use Rattle.sb_plan.specs.PlanFiles.{plan_of}
use Rattle.sb_plan.specs.Wants.{WantsNoFile, no_files}

-- what a text that passes all tests describes is a plan
abbrev pub TextsThatPassArePlans : Type 0
TextsThatPassArePlans = (files : Files) (text : List ℕ) (plan : Shape) → plan_of files text ≡ Ok plan → IsPlan plan

-- what a text says that wants no file is the same whatever the files are
abbrev pub FilesMatterOnlyIfWanted : Type 0
FilesMatterOnlyIfWanted =
    (files : Files) (text : List ℕ)
    → WantsNoFile (λ others. plan_of others text) → plan_of files text ≡ plan_of no_files text

-- how many bytes a plan file, a table file and the name of a transform may have
abbrev pub Limits : Type 0
Limits = (MAX_PLAN_BYTES ≡ 1048576) × (MAX_TABLE_BYTES ≡ 4194304) × (MAX_NAME_BYTES ≡ 32)
