-- What reading an input gives.
use Rattle.std.specs.Prelude.{◌≡◌, ℕ, Bool, true, false, List, [], ◌∷◌, ◌++◌, Option, Some, None, Result, Ok, Err, ⊤}
use Rattle.std.specs.Io.KnownBytes.{Consumes, IsAtEnd}
use Rattle.sb_base.specs.records.declared.item.Item.{Item}
use Rattle.sb_base.specs.records.declared.intake.Stop.{Stop}
use Rattle.sb_base.specs.records.declared.intake.Stop.TheVariants.{End, Refused, Fault}
use Rattle.sb_base.specs.records.Progress.{Progress}
use Rattle.sb_base.specs.records.Intake.{answer_to, after}
use Rattle.sb_outside.specs.Sources.{Rose}
use Rattle.sb_outside.specs.declared.lines.Halt.{Halt}
use Rattle.sb_outside.specs.declared.lines.Halt.TheVariants as halt
use Rattle.sb_outside.specs.Readings.{Reading, MayCome, rest_of_lines}

-- a reader that goes on, or stands where its source has ended
abbrev pub IsGoing : Option Halt → Option (List ℕ) → Type 0
IsGoing None left = ⊤
IsGoing (Some halt.End) left = IsAtEnd left
IsGoing (Some halt.TooLong) left = ⊥
IsGoing (Some halt.Fault) left = ⊥

-- why reading stops at the first of these lines, after what the lines before have said
abbrev pub StopsAt : Progress → Bool → List (List ℕ) → Stop → Type 0
StopsAt p ended lines (Refused refusal) =
    (line : List ℕ) × (rest : List (List ℕ)) × (lines ≡ line ∷ rest) × (answer_to p line ≡ Err refusal)
StopsAt p ended lines End = (lines ≡ []) × (ended ≡ true)
StopsAt p ended lines Fault = (lines ≡ []) × (ended ≡ false)

-- the source gave more bytes, and the first line of what is then left gave the item
pub record TakesItem {S : Type 0} (left : S → Option (List ℕ)) (old new : Reading S) (p p' : Progress) (item : Item)
    : Type 0 where
  pub more : List ℕ
  pub given : Consumes (left old.source) (left new.source) more
  pub line : List ℕ
  pub first : (ended : Bool) (later : List ℕ) → MayCome new.halt ended later
      → MayCome old.halt ended (more ++ later)
      × (rest_of_lines old.halt old.at_hand ended (more ++ later)
      ≡ line ∷ rest_of_lines new.halt new.at_hand ended later)
  pub tests : answer_to p line ≡ Ok item
  pub progress : p' ≡ after item p
  pub going : IsGoing new.halt (left new.source)

-- the source gave more bytes, and reading stops at the first line of what is then left, or behind the last one
pub record StopsReading {S : Type 0} (left : S → Option (List ℕ)) (old new : Reading S) (p p' : Progress) (stop : Stop)
    : Type 0 where
  pub more : List ℕ
  pub given : Consumes (left old.source) (left new.source) more
  pub ended : Bool
  pub at_end : ended ≡ true → IsAtEnd (left new.source)
  pub may : MayCome old.halt ended more
  pub why : StopsAt p ended (rest_of_lines old.halt old.at_hand ended more) stop
  pub progress : p' ≡ p

abbrev pub TakesNext : {S : Type 0} → (S → Option (List ℕ)) → Reading S → Reading S → Progress → Progress
    → Result Item Stop → Type 0
TakesNext left old new p p' (Ok item) = TakesItem left old new p p' item
TakesNext left old new p p' (Err stop) = StopsReading left old new p p' stop

-- a fault of the source stops reading only where its count rose, and where another cause does the count is as it was
abbrev pub FaultCause : ℕ → ℕ → Stop → Type 0
FaultCause before now Fault = Rose before now
FaultCause before now End = now ≡ before
FaultCause before now (Refused refusal) = now ≡ before
