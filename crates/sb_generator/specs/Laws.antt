-- What an intake accepts of the generated text.
use Rattle.std.specs.Prelude.{◌≡◌, ◌≤◌, ◌^◌, ℕ, Bool, true, false, List, Option, Some}
use Rattle.std.specs.Io.KnownBytes.{Consumes, IsAtEnd}
use Rattle.sb_record.specs.declared.item.Streams.{Streams}
use Rattle.sb_record.specs.declared.intake.LatePolicy.TheVariants.{Refuse}
use Rattle.sb_record.specs.declared.key.Keys.TheVariants.{Numbers}
use Rattle.sb_record.specs.declared.intake.Refusal.{Refusal}
use Rattle.sb_record.specs.declared.intake.Stop.{Stop}
use Rattle.sb_record.specs.declared.intake.Stop.TheVariants.{End, Refused}
use Rattle.sb_record.specs.Inputs.{Accepted, accepted, stop_of}
use Rattle.sb_outside.specs.Lines.{lines}
use Rattle.sb_generator.specs.declared.pattern.TheConstants.{MAX_RECORDS, GROUP, KEYS, VALUES, VALUE_STEP, VALUE_OFFSET}
use Rattle.sb_generator.specs.Generated.{generated_items, generated_text}

-- the most records, how many stand between two watermarks, how many keys and values there are, and how values go on
pub record Limits : Type 0 where
  pub records : MAX_RECORDS ≡ 10 ^ 7
  pub group : GROUP ≡ 8
  pub keys : KEYS ≡ 5
  pub values : VALUES ≡ 101
  pub step : VALUE_STEP ≡ 37
  pub offset : VALUE_OFFSET ≡ 50

-- stream a alone
abbrev pub only_a : Streams
only_a = record { a = true; b = false }

-- what is accepted of the lines of bytes by an intake of stream a alone that refuses late records, where keys are
-- numbers
abbrev pub accepted_of : Bool → List ℕ → Accepted
accepted_of ended bytes = accepted only_a Refuse Numbers (lines ended bytes)

-- where reading the bytes stops
abbrev pub stop_at : Bool → List ℕ → Stop
stop_at ended bytes = stop_of ended (accepted_of ended bytes).refused

-- no line is refused, and at the end the items are those of the first n records
pub record AreAccepted (n : ℕ) (ended : Bool) (bytes : List ℕ) : Type 0 where
  pub no_refusal : (refusal : Refusal) → stop_at ended bytes ≡ Refused refusal → ⊥
  pub stop : ended ≡ true → stop_at ended bytes ≡ End
  pub items : ended ≡ true → (accepted_of ended bytes).items ≡ generated_items n

-- whatever was read of the generated text so far, up to its end
abbrev pub GeneratedTextIsAccepted : Type 0
GeneratedTextIsAccepted = (n : ℕ) (left : Option (List ℕ)) (bytes : List ℕ) (ended : Bool) → n ≤ MAX_RECORDS
    → Consumes (Some (generated_text n)) left bytes → (ended ≡ true → IsAtEnd left) → AreAccepted n ended bytes
