-- The load that failed is one that all elements together want.
use Rattle.std.proofs.Common.{◌≡◌, ◌∙◌, ℕ, List, Option, Some, Err, ap, subst, inl, inr}
use Rattle.toml.specs.Data.{Data, Items, item}
use Rattle.sb_outside.specs.Folders.{Files, Load, without}
use Rattle.sb_plan.specs.Answers.{IsWantedIn}
use Rattle.sb_plan.specs.PlanFiles.{with_element, with_elements_from}
use Rattle.sb_plan.specs.declared.wiring.Wiring.{Wiring}
use Rattle.sb_plan.proofs.Absent.{SameOrNoFile, wired-absent}
use Rattle.sb_plan.specs.Wants.{BlamesLoad}
use Rattle.sb_plan.specs.declared.fault.PlanStop.{PlanStop}
use Rattle.sb_plan.specs.declared.fault.PlanStop.TheVariants as stop

-- what a part of the tests wants, all of them want
blames-part : (part whole : Load → Type 0) → ((load : Load) → part load → whole load) → (before now : List Load) (s : PlanStop)
    → BlamesLoad {A = Wiring} part before now (Err s) → BlamesLoad {A = Wiring} whole before now (Err s)
blames-part part whole wider before now (stop.Fault fault) same = same
blames-part part whole wider before now stop.Folder blamed = (blamed.0, wider blamed.0 blamed.1, blamed.2)
blames-part part whole wider before now stop.Memory same = same

-- the load that an element wants, whose turn it is, all of them want
pub blames-element : (told before_told : Option Files) (place : ℕ) (first wiring : Wiring) (value : Data) (rest from all : Items) (start before now : List Load) (s : PlanStop)
    → before_told ≡ told → before ≡ start → from ≡ item value rest
    → ((files : Files) (name : List ℕ) → told ≡ Some files → SameOrNoFile (with_elements_from (without name files) 1 first all) (with_elements_from (without name files) place wiring from))
    → BlamesLoad {A = Wiring} (IsWantedIn before_told (λ files. with_element files wiring value)) before now (Err s)
    → BlamesLoad {A = Wiring} (IsWantedIn told (λ files. with_elements_from files 1 first all)) start now (Err s)
blames-element told before_told place first wiring value rest from all start before now s same_files unlisted at fewer blamed =
    subst (λ list. BlamesLoad {A = Wiring} (IsWantedIn told (λ files. with_elements_from files 1 first all)) list now (Err s)) unlisted
    (blames-part (IsWantedIn before_told (λ files. with_element files wiring value)) (IsWantedIn told (λ files. with_elements_from files 1 first all)) wider before now s blamed)
  where
    wider : (load : Load) → IsWantedIn before_told (λ files. with_element files wiring value) load → IsWantedIn told (λ files. with_elements_from files 1 first all) load
    wider load wanted = (
      wanted.0,
      λ files known. elim (fewer files load.name known) [
        | inl same ↦ same ∙ ap (with_elements_from (without load.name files) place wiring) at ∙ wired-absent (without load.name files) place wiring value rest (wanted.1 files (same_files ∙ known))
        | inr none ↦ none
      ],
    )
