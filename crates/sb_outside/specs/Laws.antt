-- The limits of lines as numbers.
use Rattle.std.specs.Prelude.{◌≡◌}
use Rattle.sb_outside.specs.declared.buffer.TheConstants.{CAPACITY}
use Rattle.sb_outside.specs.declared.lines.TheConstants.{LONGEST_LINE}
use Rattle.sb_outside.specs.Lines.{longest_line}

-- the most bytes of a line, and how many bytes a reader of lines has room for
pub record Limits : Type 0 where
  pub line : LONGEST_LINE ≡ 128
  pub definition : longest_line ≡ LONGEST_LINE
  pub buffer : CAPACITY ≡ 65536
