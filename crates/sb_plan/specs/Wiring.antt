-- How the transforms of a file are connected: what each takes goes to a lane of it, and may go to no other.
use Rattle.std.specs.Prelude.{codes, bytes_eq, ℕ, Bool, ◌&&◌, if◌then◌else◌, List, [], ◌∷◌, ◌++◌, length, Option, Some, None, Result, Ok, Err}
use Rattle.std.specs.List.{list_any}
use Rattle.sb_pipeline.specs.pardo.TableFiles.{then_test}
use Rattle.sb_pipeline.specs.declared.transform.Down.{Down}
use Rattle.sb_pipeline.specs.declared.transform.Kind.{Kind}
use Rattle.sb_pipeline.specs.Plans.{is_join}
use Rattle.sb_plan.specs.declared.entry.Entry.{Entry}
use Rattle.sb_plan.specs.declared.wiring.Part.{Part}
use Rattle.sb_plan.specs.declared.wiring.Wiring.{Wiring}
use Rattle.sb_plan.specs.declared.fault.PlanKey.{PlanKey}
use Rattle.sb_plan.specs.declared.fault.PlanKey.TheVariants as key
use Rattle.sb_plan.specs.declared.fault.PlanCause.{PlanCause}
use Rattle.sb_plan.specs.declared.fault.PlanCause.TheVariants.{TwoJoins, UnknownFrom, UsedTwice}

-- what has gone nowhere yet goes to the place
abbrev pub place_if_unused : PlanKey → Down → Option Down → Result (Option Down) PlanCause
place_if_unused k place None = Ok (Some place)
place_if_unused k place (Some down) = Err (UsedTwice k)

-- what the transform of this name gives goes to the place
abbrev pub parts_with_down : PlanKey → List ℕ → Down → List Part → Result (List Part) PlanCause
parts_with_down k input place [] = Err (UnknownFrom k)
parts_with_down k input place (part ∷ parts) =
    if bytes_eq part.name input
    then then_test (place_if_unused k place part.down) (λ down. Ok (record part { down = down } ∷ parts))
    else then_test (parts_with_down k input place parts) (λ rest. Ok (part ∷ rest))

-- the input, a stream or a transform, goes to the place
unfoldable pub with_input : PlanKey → List ℕ → Down → Wiring → Result Wiring PlanCause
with_input k input place wiring =
    if bytes_eq input (codes "a")
    then then_test (place_if_unused k place wiring.source_a) (λ source. Ok (record wiring { source_a = source }))
    else if bytes_eq input (codes "b")
    then then_test (place_if_unused k place wiring.source_b) (λ source. Ok (record wiring { source_b = source }))
    else then_test (parts_with_down k input place wiring.parts) (λ parts. Ok (record wiring { parts = parts }))

-- the right input goes to the place, if there is one
abbrev pub with_right_input : Option (List ℕ) → Down → Wiring → Result Wiring PlanCause
with_right_input None place wiring = Ok wiring
with_right_input (Some input) place wiring = with_input key.With input place wiring

-- the inputs of an entry go to the lanes of its node
unfoldable pub with_inputs : ℕ → Entry → Wiring → Result Wiring PlanCause
with_inputs node entry wiring =
    then_test (with_input key.From entry.left (record { node = node; lane = 0 }) wiring) (λ left.
    with_right_input entry.right (record { node = node; lane = 1 }) left)

-- a join after an earlier one
abbrev pub is_second_join : Kind → List Part → Bool
is_second_join transform parts = is_join transform && list_any (λ part. is_join part.kind) parts

-- the transform is added, and goes nowhere yet
abbrev pub with_part : Entry → Wiring → Wiring
with_part entry wiring =
    record wiring { parts = wiring.parts ++ record { name = entry.name; kind = entry.kind; down = None } ∷ [] }

-- one transform more, with its inputs: there is no second join, and each input is there and goes nowhere else
unfoldable pub with_transform : Entry → Wiring → Result Wiring PlanCause
with_transform entry wiring =
    if is_second_join entry.kind wiring.parts then Err TwoJoins
    else then_test (with_inputs (length wiring.parts) entry wiring) (λ sent. Ok (with_part entry sent))
