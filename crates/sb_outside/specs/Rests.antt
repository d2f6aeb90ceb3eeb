-- What a call that lends its line leaves.
use Rattle.std.specs.Prelude.{◌≡◌, ◌≤◌, ℕ, List, length, Option, ⊤}
use Rattle.std.specs.Borrow.{Fml, RattleType, MutBor}
use Rattle.std.specs.Io.BufRead.{Rests}
use Rattle.sb_outside.specs.declared.lines.Step.{Step}
use Rattle.sb_outside.specs.declared.lines.Step.TheVariants as step
use Rattle.sb_outside.specs.declared.lines.Next.{Next}
use Rattle.sb_outside.specs.declared.lines.Next.TheVariants as next
use Rattle.sb_outside.specs.Lines.{longest_line}
use Rattle.sb_outside.specs.Readings.{Reading, Advances}
use Rattle.sb_outside.specs.contracts.lines.LineReader.{the_row}

-- the answer without the line
abbrev pub step_of : Next → Step
step_of (next.Line l) = step.Line
step_of next.End = step.End
step_of next.TooLong = step.TooLong
step_of next.Fault = step.Fault

-- a line in the answer is the one that the reader gave last
abbrev pub HasLine : Next → List ℕ → Type 0
HasLine (next.Line l) line = l.now ≡ line
HasLine next.End line = ⊤
HasLine next.TooLong line = ⊤
HasLine next.Fault line = ⊤

-- a line in the answer is not too long
abbrev pub IsShort : Next → Type 0
IsShort (next.Line l) = length l.now ≤ longest_line
IsShort next.End = ⊤
IsShort next.TooLong = ⊤
IsShort next.Fault = ⊤

-- once the line is let go, the reader stands behind it
abbrev pub Leaves : (S : RattleType) → (S.Denot → Option (List ℕ)) → (S.Denot → ℕ) → MutBor (Reading S.Denot)
    → Next → Fml
Leaves S left faults reader result =
    Rests (the_row S) reader
    (λ new. Advances left faults reader.now.halt reader.now new (step_of result) × HasLine result new.line)
