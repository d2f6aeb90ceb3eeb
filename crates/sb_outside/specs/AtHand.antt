-- A line that is known to be at hand.
use Rattle.std.specs.Prelude.{◌≡◌, ℕ, ◌+◌, ◌<◌, ◌≤◌, Bool, List, [], ◌∷◌, ◌++◌, length, take, drop, Option, Some, None}
use Rattle.sb_outside.specs.Lines.{lines, longest_line}
use Rattle.sb_outside.specs.Readings.{Held}
use Rattle.sb_outside.specs.declared.lines.Halt.{Halt}

-- these bytes, or none once a reader stands
abbrev pub unless_halted : Option Halt → List ℕ → List ℕ
unless_halted None bytes = bytes
unless_halted (Some h) bytes = []

-- the bytes at hand in which lines are still to be found
abbrev pub to_read : Held → List ℕ
to_read held = unless_halted held.halt held.at_hand

-- so many bytes are the first line, whatever comes behind the bytes, and the byte behind them is its LF
pub record BeginsWithLine (len : ℕ) (bytes : List ℕ) : Type 0 where
  pub first : (ended : Bool) (later : List ℕ)
      → lines ended (bytes ++ later) ≡ take len bytes ∷ lines ended (drop (len + 1) bytes ++ later)
  pub short : len ≤ longest_line
  pub within : len < length bytes
