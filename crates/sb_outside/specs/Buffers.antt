-- What a buffer holds.
use Rattle.std.specs.Prelude.{ℕ, List, slice_range}
use Rattle.sb_outside.specs.declared.buffer.Buffer.{Buffer}

-- the bytes that were read and not taken
abbrev pub pending_bytes : Buffer → List ℕ
pending_bytes b = slice_range b.bytes b.start b.end
