-- Which lines of an input are accepted, and where reading stops.
use Rattle.std.specs.Prelude.{ℕ, Bool, true, false, List, [], ◌∷◌, ◌++◌, length, Option, Some, None, Result, Ok, Err}
use Rattle.sb_record.specs.declared.item.Stream.TheVariants.{A, B}
use Rattle.sb_record.specs.declared.item.Streams.{Streams}
use Rattle.sb_record.specs.declared.item.Item.{Item}
use Rattle.sb_record.specs.declared.key.Keys.{Keys}
use Rattle.sb_record.specs.declared.intake.LatePolicy.{LatePolicy}
use Rattle.sb_record.specs.declared.intake.Refusal.{Refusal}
use Rattle.sb_record.specs.declared.intake.Stop.{Stop}
use Rattle.sb_record.specs.declared.intake.Stop.TheVariants.{End, Refused, Fault}
use Rattle.sb_record.specs.Progress.{Progress}
use Rattle.sb_record.specs.Intake.{answer_to}
use Rattle.sb_record.specs.Streams.{last_watermark}

-- what the accepted items of an input have said
abbrev pub progress_of : Streams → LatePolicy → Keys → List Item → Progress
progress_of streams late keys items = record {
  streams = streams;
  mark_a = last_watermark A items;
  mark_b = last_watermark B items;
  lines = length items;
  late = late;
  keys = keys;
}

-- the items of the lines before the first that is refused, and that line's refusal where there is one
pub record Accepted : Type 0 where
  pub items : List Item
  pub refused : Option Refusal

-- the items so far and the refusal, where the next line is refused, else what the lines after it give
abbrev pub accepted_if : Result Item Refusal → List Item → (List Item → Accepted) → Accepted
accepted_if (Ok item) items rest = rest (items ++ item ∷ [])
accepted_if (Err refusal) items rest = record { items = items; refused = Some refusal }

-- these items and those of the lines that follow, where each line is tested by what the items before it have said
abbrev pub accepted_after : Streams → LatePolicy → Keys → List Item → List (List ℕ) → Accepted
accepted_after streams late keys items [] = record { items = items; refused = None }
accepted_after streams late keys items (line ∷ lines) =
    accepted_if (answer_to (progress_of streams late keys items) line) items
    (λ more. accepted_after streams late keys more lines)

-- the accepted items of an input
abbrev pub accepted : Streams → LatePolicy → Keys → List (List ℕ) → Accepted
accepted streams late keys lines = accepted_after streams late keys [] lines

-- where reading stops: at the first refused line, else where the input ended, or where its source failed
abbrev pub stop_of : Bool → Option Refusal → Stop
stop_of ended (Some refusal) = Refused refusal
stop_of true None = End
stop_of false None = Fault
