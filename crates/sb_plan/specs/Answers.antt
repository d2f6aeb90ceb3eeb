-- What the answers of the calls on one table say.
use Rattle.std.specs.Prelude.{◌≡◌, ◌+◌, ℕ, List, [], ◌∷◌, ◌++◌, Option, Some, Result, Ok, Err, ⊤}
use Rattle.toml.specs.Data.{Data, Items, item}
use Rattle.sb_outside.specs.Folders.{Files, Load, without}
use Rattle.sb_plan.specs.declared.fault.PlanCause.{PlanCause}
use Rattle.sb_plan.specs.declared.fault.PlanStop.{PlanStop}
use Rattle.sb_plan.specs.declared.stop.Stop.{Stop}
use Rattle.sb_plan.specs.declared.stop.Stop.TheVariants as stop
use Rattle.sb_plan.specs.declared.wiring.Wiring.{Wiring}
use Rattle.sb_plan.specs.Failures.{Failure}
use Rattle.sb_plan.specs.Failures.Failure.{Fails, NoFile}
use Rattle.sb_plan.specs.declared.TheConstants.{MAX_TABLE_BYTES}
use Rattle.sb_plan.specs.PlanFiles.{IsPlanStopOf, with_element, with_elements_from}

-- the test that failed is the first that fails; nothing is said if a load failed or memory ran out
abbrev pub IsStopOf : {A : Type 0} → Result A (Failure PlanCause) → Stop → Type 0
IsStopOf wanted (stop.Cause cause) = wanted ≡ Err (Fails cause)
IsStopOf wanted stop.Folder = ⊤
IsStopOf wanted stop.Memory = ⊤

-- the answer is what is wanted, or the first test that fails
abbrev pub AnswersTests : {A : Type 0} → Result A Stop → Result A (Failure PlanCause) → Type 0
AnswersTests (Ok x) wanted = wanted ≡ Ok x
AnswersTests (Err s) wanted = IsStopOf wanted s

-- the same of a call that changes a value into what is wanted
abbrev pub ChangesTo : {A S : Type 0} → Result A Stop → Result S (Failure PlanCause) → S → Type 0
ChangesTo (Ok x) wanted new = wanted ≡ Ok new
ChangesTo (Err s) wanted new = IsStopOf wanted s

-- a load of a table that these tests want: without the file they find that it is not there
abbrev pub IsWantedIn : {A E : Type 0} → Option Files → (Files → Result A (Failure E)) → Load → Type 0
IsWantedIn folder tests load =
    (load.most ≡ MAX_TABLE_BYTES + 1)
    × ((files : Files) → folder ≡ Some files → tests (without load.name files) ≡ Err NoFile)

-- only an answer that a load failed changes the list of those that did: it has one more, which is wanted
abbrev pub BlamesInTests : {A : Type 0} → (Load → Type 0) → List Load → List Load → Result A Stop → Type 0
BlamesInTests wanted before now (Ok x) = now ≡ before
BlamesInTests wanted before now (Err (stop.Cause cause)) = now ≡ before
BlamesInTests wanted before now (Err stop.Folder) = (load : Load) × wanted load × (now ≡ before ++ load ∷ [])
BlamesInTests wanted before now (Err stop.Memory) = now ≡ before

-- the answer is no test that fails
abbrev pub IsNoFault : {A : Type 0} → Result A Stop → Type 0
IsNoFault (Ok x) = ⊤
IsNoFault (Err (stop.Cause cause)) = ⊥
IsNoFault (Err stop.Folder) = ⊤
IsNoFault (Err stop.Memory) = ⊤

-- one element more: it passes, or the tests from it on find its fault, whatever follows it
abbrev pub TakesElement : {A : Type 0} → Files → ℕ → Wiring → Data → Result A PlanStop → Wiring → Type 0
TakesElement files place old value (Ok x) new = with_element files old value ≡ Ok new
TakesElement files place old value (Err s) new =
    (rest : Items) → IsPlanStopOf (with_elements_from files place old (item value rest)) s
