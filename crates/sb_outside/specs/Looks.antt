-- What a look at bytes shows of their first line.
use Rattle.std.specs.Prelude.{◌≡◌, ◌≤◌, ◌+◌, ℕ, Bool, true, false, not, ◌==◌, List, [], ◌∷◌, ◌++◌, length, take, drop}
use Rattle.std.specs.List.{prefix_len}
use Rattle.sb_outside.specs.Lines.{lines, last_line, without_cr, longest_line, line_feed}
use Rattle.sb_outside.specs.Readings.{IsTooLong}
use Rattle.sb_outside.specs.declared.look.Look.{Look}
use Rattle.sb_outside.specs.declared.look.Look.TheVariants as look

-- no LF
abbrev pub is_within : ℕ → Bool
is_within b = not (b == line_feed)

-- how many bytes stand before the first LF
abbrev pub line_len : List ℕ → ℕ
line_len bytes = prefix_len is_within bytes

-- the first line of the bytes, and the bytes behind its LF
abbrev pub IsFirstLine : List ℕ → List ℕ → List ℕ → Type 0
IsFirstLine line rest bytes =
    (ended : Bool) (later : List ℕ) → lines ended (bytes ++ later) ≡ line ∷ lines ended (rest ++ later)

-- no LF is among the bytes, and they are not too long for a line
pub record IsOpen (bytes : List ℕ) : Type 0 where
  pub no_line_yet : lines false bytes ≡ []
  pub last_one : lines true bytes ≡ last_line true bytes
  pub short : length (without_cr bytes) ≤ longest_line

-- a whole line that is not too long, a line that is, or neither
abbrev pub Shows : List ℕ → Look → Type 0
Shows bytes (look.Line len used) =
    IsFirstLine (take len bytes) (drop used bytes) bytes × (len ≤ longest_line) × (len ≤ used) × (used ≤ length bytes)
Shows bytes look.TooLong = IsTooLong bytes
Shows bytes look.More = IsOpen bytes × (length bytes ≤ longest_line + 1)
