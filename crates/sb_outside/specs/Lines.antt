-- The lines of bytes.
use Rattle.std.specs.Prelude.{ℕ, ◌++◌, Bool, ◌||◌, ◌&&◌, ◌==◌, nat_lt, if◌then◌else◌, List, [], ◌∷◌, length}
use Rattle.std.specs.Io.BufRead.{strip_last}

-- a line ends at an LF
abbrev pub line_feed : ℕ
line_feed = 10

-- a CR just before it is no part of the line
abbrev pub carriage_return : ℕ
carriage_return = 13

-- as many bytes as a line may have
abbrev pub longest_line : ℕ
longest_line = 128

-- the bytes before an LF as a line: without the one CR at their end
abbrev pub without_cr : List ℕ → List ℕ
without_cr bytes = strip_last carriage_return bytes

abbrev pub is_too_long : List ℕ → Bool
is_too_long line = nat_lt longest_line (length line)

-- what stands behind the last LF is a line where the input has ended, or once it is too long for one
abbrev pub last_line : Bool → List ℕ → List (List ℕ)
last_line ended rest =
    if (ended && nat_lt 0 (length rest)) || is_too_long (without_cr rest) then without_cr rest ∷ [] else []

-- the lines of bytes that go on with a line begun
abbrev pub lines_from : Bool → List ℕ → List ℕ → List (List ℕ)
lines_from ended begun [] = last_line ended begun
lines_from ended begun (b ∷ bytes) =
    if b == line_feed then without_cr begun ∷ lines_from ended [] bytes else lines_from ended (begun ++ b ∷ []) bytes

-- the lines of bytes, where the input has ended behind them or has not yet
abbrev pub lines : Bool → List ℕ → List (List ℕ)
lines ended bytes = lines_from ended [] bytes
