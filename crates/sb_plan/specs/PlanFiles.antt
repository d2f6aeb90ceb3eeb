-- The plan that a text describes, or the first test that it fails, or that a file of it is not there.
use Rattle.std.specs.Prelude.{◌≡◌, ⊤, ℕ, ◌+◌, ◌-◌, ◌==◌, nat_lt, take, Bool, if◌then◌else◌, List, [], ◌∷◌, map, length, Option, Some, None, is_none, unwrap_or, Result, Ok, Err}
use Rattle.std.specs.List.{list_any, position}
use Rattle.std.specs.Str.{is_utf8}
use Rattle.toml.specs.Data.{Data, Items, no_items, item, Members, as_array, as_table}
use Rattle.toml.specs.Parse.{parse_document}
use Rattle.sb_pipeline.specs.records.declared.intake.LatePolicy.{LatePolicy}
use Rattle.sb_pipeline.specs.records.declared.intake.LatePolicy.TheVariants.{Refuse}
use Rattle.sb_pipeline.specs.records.declared.key.Keys.{Keys}
use Rattle.sb_pipeline.specs.records.declared.key.Keys.TheVariants.{Numbers}
use Rattle.sb_outside.specs.Folders.{Files}
use Rattle.sb_pipeline.specs.pardo.TableFiles.{then_test, or_fault}
use Rattle.sb_pipeline.specs.declared.transform.Down.{Down}
use Rattle.sb_pipeline.specs.declared.transform.Step.{Step}
use Rattle.sb_pipeline.specs.declared.transform.TheConstants.{MAX_TRANSFORMS}
use Rattle.sb_pipeline.specs.Plans.{has_windows}
use Rattle.sb_pipeline.specs.Shapes.{Shape}
use Rattle.sb_plan.specs.declared.fault.PlanKey.TheVariants as key
use Rattle.sb_plan.specs.declared.fault.PlanCause.{PlanCause}
use Rattle.sb_plan.specs.declared.fault.PlanCause.TheVariants.{NoWindow, NotToml, OutOfRange, TooLong, TooMany, UnknownField, Unused, WrongType}
use Rattle.sb_plan.specs.declared.fault.PlanFault.{PlanFault}
use Rattle.sb_plan.specs.declared.fault.PlanStop.{PlanStop}
use Rattle.sb_plan.specs.declared.fault.PlanStop.TheVariants as stop
use Rattle.sb_plan.specs.declared.TheConstants.{MAX_PLAN_BYTES}
use Rattle.sb_plan.specs.declared.wiring.Part.{Part}
use Rattle.sb_plan.specs.declared.wiring.Wiring.{Wiring}
use Rattle.sb_plan.specs.Failures.{Failure, by_text}
use Rattle.sb_plan.specs.Failures.Failure.{Fails, NoFile}
use Rattle.sb_plan.specs.Keys.{is_one_of, typed_at, word_or}
use Rattle.sb_plan.specs.Words.{keys_named, late_named}
use Rattle.sb_plan.specs.Entries.{all_keys, entry_at}
use Rattle.sb_plan.specs.Wiring.{with_transform}

-- the table that some bytes are, if they are UTF-8 and TOML
unfoldable pub document_of : List ℕ → Option Members
document_of bytes = if is_utf8 bytes then parse_document bytes else None

-- a fault at a place: that of a transform, from 1, or 0 for the document
abbrev pub fault_at : ℕ → PlanCause → PlanFault
fault_at place cause = record { at = place; what = cause }

-- the next tests, if those at this place passed
abbrev pub at_place : {A B : Type 0}
    → ℕ → Result A (Failure PlanCause) → (A → Result B (Failure PlanFault)) → Result B (Failure PlanFault)
at_place place (Ok x) next = next x
at_place place (Err (Fails cause)) next = Err (Fails (fault_at place cause))
at_place place (Err NoFile) next = Err NoFile

-- one element of the array: a table, whose transform is connected with the earlier ones
unfoldable pub with_element : Files → Wiring → Data → Result Wiring (Failure PlanCause)
with_element files wiring value =
    then_test (by_text (or_fault (WrongType key.Transform) (as_table value))) (λ table.
    then_test (entry_at files wiring.keys wiring.parts table) (λ entry.
    by_text (with_transform entry wiring)))

-- the elements from this place on, after the earlier ones
unfoldable pub with_elements_from : Files → ℕ → Wiring → Items → Result Wiring (Failure PlanFault)
with_elements_from files place wiring no_items = Ok wiring
with_elements_from files place wiring (item value rest) =
    at_place place (with_element files wiring value) (λ more. with_elements_from files (place + 1) more rest)

-- no transforms yet, in a plan with this policy on late records and with these keys
abbrev pub first_wiring : LatePolicy → Keys → Wiring
first_wiring late keys = record { parts = []; source_a = None; source_b = None; late = late; keys = keys }

-- the first transform that goes nowhere, of all but the last
abbrev pub first_unused : List Part → Option ℕ
first_unused parts = position (λ part. is_none part.down) (take (length parts - 1) parts)

-- a transform of the plan: the last one goes to the sink
abbrev pub step_of : Down → Part → Step
step_of sink part = record { kind = part.kind; down = unwrap_or part.down sink }

-- the plan of a wiring
abbrev pub shape_of : Wiring → Shape
shape_of wiring =
    record {
      steps = map (step_of (record { node = length wiring.parts; lane = 0 })) wiring.parts;
      source_a = wiring.source_a;
      source_b = wiring.source_b;
      late = wiring.late;
      keys = wiring.keys;
    }

-- there is an aggregation or a join
abbrev pub plan_with_window : Wiring → Result Shape PlanFault
plan_with_window wiring =
    if list_any (λ part. has_windows part.kind) wiring.parts then Ok (shape_of wiring) else Err (fault_at 0 NoWindow)

-- each transform but the last goes somewhere, and what is left to test passes
abbrev pub used_by : Option ℕ → Wiring → Result Shape PlanFault
used_by (Some k) wiring = Err (fault_at (k + 1) Unused)
used_by None wiring = plan_with_window wiring

-- the tests of the whole, and the plan
unfoldable pub finished_plan : Wiring → Result Shape PlanFault
finished_plan wiring = used_by (first_unused wiring.parts) wiring

-- how many elements there are
abbrev pub item_count : Items → ℕ
item_count no_items = 0
item_count (item value rest) = item_count rest + 1

-- 1 to 12 elements, and then the tests of each, and of the whole
unfoldable pub transforms_of : Files → LatePolicy → Keys → Items → Result Shape (Failure PlanFault)
transforms_of files late keys items =
    if item_count items == 0 then Err (Fails (fault_at 0 (OutOfRange key.Transform)))
    else if nat_lt MAX_TRANSFORMS (item_count items) then Err (Fails (fault_at 0 TooMany))
    else then_test (with_elements_from files 1 (first_wiring late keys) items) (λ wiring.
    by_text (finished_plan wiring))

-- the keys of a document
abbrev pub is_document_key : List ℕ → Bool
is_document_key text = is_one_of (key.Transform ∷ key.Late ∷ key.Keys ∷ []) text

-- the plan of a text, for a folder of these files; or the first test that it fails, or that a file is not there
unfoldable pub plan_of : Files → List ℕ → Result Shape (Failure PlanFault)
plan_of files text =
    if nat_lt MAX_PLAN_BYTES (length text) then Err (Fails (fault_at 0 TooLong))
    else at_place 0 (by_text (or_fault NotToml (document_of text))) (λ document.
    if all_keys is_document_key document
    then at_place 0 (by_text (word_or Refuse late_named key.Late document)) (λ late.
    at_place 0 (by_text (word_or Numbers keys_named key.Keys document)) (λ keys.
    at_place 0 (by_text (typed_at as_array key.Transform document)) (transforms_of files late keys)))
    else Err (Fails (fault_at 0 UnknownField)))

-- the fault is the first one of the text; nothing is said if a load failed or memory ran out
abbrev pub IsPlanStopOf : {A : Type 0} → Result A (Failure PlanFault) → PlanStop → Type 0
IsPlanStopOf wanted (stop.Fault fault) = wanted ≡ Err (Fails fault)
IsPlanStopOf wanted stop.Folder = ⊤
IsPlanStopOf wanted stop.Memory = ⊤

-- the answer for a whole text is the plan that is wanted, or the first fault
abbrev pub AnswersPlan : {A : Type 0} → Result A PlanStop → Result A (Failure PlanFault) → Type 0
AnswersPlan (Ok x) wanted = wanted ≡ Ok x
AnswersPlan (Err s) wanted = IsPlanStopOf wanted s
