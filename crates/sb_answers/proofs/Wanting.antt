-- Which loads a plan file wants.
use Rattle.std.proofs.Common.{◌≡◌, ℕ, ◌+◌, List, take, Option, inl, inr, refl, sym, ap, subst, ◌∙◌}
use Rattle.std.specs.Prelude.{Result, Ok, Err}
use Rattle.sb_alone.specs.outside.Folders.{Files, IsFile, Load, without}
use Rattle.sb_told.specs.plan.declared.fault.PlanStop.{PlanStop}
use Rattle.sb_told.specs.plan.declared.fault.PlanStop.TheVariants as stop
use Rattle.sb_told.specs.plan.declared.TheConstants.{MAX_PLAN_BYTES}
use Rattle.sb_told.specs.plan.PlanFiles.{plan_of}
use Rattle.sb_told.specs.plan.Wants.{BlamesLoad, IsWantedBy}
use Rattle.sb_answers.specs.Faults.{IsWantedFor, plan_load}

-- the plan file is wanted
pub plan_file_wanted : (folder : Option Files) (name : List ℕ) → IsWantedFor folder name (plan_load name)
unfolding IsWantedFor
plan_file_wanted folder name = inl refl

-- a load that is wanted by the text of a file is wanted for the file
pub wanted_in_file : (folder : Option Files) (name bytes text : List ℕ) → IsFile folder name bytes → text ≡ take (MAX_PLAN_BYTES + 1) bytes → (load : Load)
    → IsWantedBy folder text load → IsWantedFor folder name load
unfolding IsWantedFor
wanted_in_file folder name bytes text file is load (most, none) =
    inr (most, λ files told. (bytes, subst (λ f. IsFile f name bytes) told file, ap (plan_of (without load.name files)) (sym is) ∙ none files told))

-- the same blame for loads that are wanted otherwise
pub blames_as : {A : Type 0} (wanted wanted' : Load → Type 0) (before now : List Load) (r : Result A PlanStop) → ((load : Load) → wanted load → wanted' load)
    → BlamesLoad wanted before now r → BlamesLoad wanted' before now r
blames_as wanted wanted' before now (Ok x) turn b = b
blames_as wanted wanted' before now (Err (stop.Fault fault)) turn b = b
blames_as wanted wanted' before now (Err stop.Folder) turn (load, is, more) = (load, turn load is, more)
blames_as wanted wanted' before now (Err stop.Memory) turn b = b
