-- What a source of the generated input has not made yet.
use Rattle.std.specs.Prelude.{ℕ, ◌-◌, List, flat_map}
use Rattle.std.specs.List.{range_with_len}
use Rattle.sb_generator.specs.Generated.{items_at, text_of}

-- the text of the records from number i on, of n
abbrev pub text_from : ℕ → ℕ → List ℕ
text_from i n = text_of (flat_map items_at (range_with_len i (n - i)))
