-- What a reader of lines has, and what one call of it does.
use Rattle.std.specs.Prelude.{◌≡◌, ◌≢◌, ◌≤◌, ℕ, Bool, true, false, List, [], ◌∷◌, ◌++◌, length, ⊤, Option, Some, None, IfSome}
use Rattle.std.specs.Io.KnownBytes.{Consumes, IsAtEnd}
use Rattle.sb_outside.specs.Sources.{Rose}
use Rattle.sb_outside.specs.Lines.{lines, is_too_long, longest_line}
use Rattle.sb_outside.specs.declared.lines.Halt.{Halt}
use Rattle.sb_outside.specs.declared.lines.Halt.TheVariants as halt
use Rattle.sb_outside.specs.declared.lines.Step.{Step}
use Rattle.sb_outside.specs.declared.lines.Step.TheVariants as step

-- the bytes that were read and not taken, the line that was given last, and why the reader stands
pub record Held : Type 0 where
  pub at_hand : List ℕ
  pub line : List ℕ
  pub halt : Option Halt

-- the same with the source
pub record Reading (S : Type 0) : Type 0 where
  pub source : S
  pub at_hand : List ℕ
  pub line : List ℕ
  pub halt : Option Halt

abbrev pub reading : {S : Type 0} → S → Held → Reading S
reading source held = record { source = source; at_hand = held.at_hand; line = held.line; halt = held.halt }

-- what may still come behind the bytes at hand: nothing, once the reader stands
abbrev pub MayCome : Option Halt → Bool → List ℕ → Type 0
MayCome None ended later = ⊤
MayCome (Some h) ended later = (ended ≡ true) × (later ≡ [])

-- the lines that a reader has still to give, if these bytes come
abbrev pub rest_of_lines : Option Halt → List ℕ → Bool → List ℕ → List (List ℕ)
rest_of_lines None at_hand ended later = lines ended (at_hand ++ later)
rest_of_lines (Some h) at_hand ended later = []

-- the reader gave the first line of the bytes, and has the others still to give; it stands only behind the last one
pub record GivesLine (bytes : List ℕ) (left : Option (List ℕ)) (at_hand line : List ℕ)
    (halted : Option Halt) : Type 0 where
  pub first : (ended : Bool) (later : List ℕ) → MayCome halted ended later
      → lines ended (bytes ++ later) ≡ line ∷ rest_of_lines halted at_hand ended later
  pub short : length line ≤ longest_line
  pub last : IfSome halted (λ h. (h ≡ halt.End) × IsAtEnd left)

-- lines of which the first is too long
pub record BeginTooLong (ls : List (List ℕ)) : Type 0 where
  pub line : List ℕ
  pub others : List (List ℕ)
  pub first : ls ≡ line ∷ others
  pub long : is_too_long line ≡ true

-- the first line of the bytes is too long, whatever comes behind them
abbrev pub IsTooLong : List ℕ → Type 0
IsTooLong bytes = (ended : Bool) (later : List ℕ) → BeginTooLong (lines ended (bytes ++ later))

-- what an answer says of the bytes that were at hand and those of this call; before is the count of faults at the call
abbrev pub Tells : {S : Type 0} → (S → Option (List ℕ)) → (S → ℕ) → List ℕ → ℕ → Reading S → Step → Type 0
Tells left faults bytes before new step.Line =
    GivesLine bytes (left new.source) new.at_hand new.line new.halt × (faults new.source ≡ before)
Tells left faults bytes before new step.End =
    (lines true bytes ≡ []) × IsAtEnd (left new.source) × (new.halt ≡ Some halt.End) × (faults new.source ≡ before)
Tells left faults bytes before new step.TooLong =
    IsTooLong bytes × (new.halt ≡ Some halt.TooLong) × (faults new.source ≡ before)
Tells left faults bytes before new step.Fault =
    (lines false bytes ≡ []) × (new.halt ≡ Some halt.Fault) × Rose before (faults new.source)

-- the answer of a reader that stands
abbrev pub step_at : Halt → Step
step_at halt.End = step.End
step_at halt.TooLong = step.TooLong
step_at halt.Fault = step.Fault

-- one call of a reader that goes on: the source gave more bytes, none where those at hand show a line
pub record GoesOn {S : Type 0} (left : S → Option (List ℕ)) (faults : S → ℕ) (old new : Reading S)
    (answer : Step) : Type 0 where
  pub more : List ℕ
  pub given : Consumes (left old.source) (left new.source) more
  pub tells : Tells left faults (old.at_hand ++ more) (faults old.source) new answer
  pub unread : lines false old.at_hand ≢ [] → new.source ≡ old.source

-- one call of a reader: one that stands answers the same again, and nothing changes
abbrev pub Advances : {S : Type 0} → (S → Option (List ℕ)) → (S → ℕ) → Option Halt
    → Reading S → Reading S → Step → Type 0
Advances left faults (Some h) old new answer = (new ≡ old) × (answer ≡ step_at h)
Advances left faults None old new answer = GoesOn left faults old new answer
