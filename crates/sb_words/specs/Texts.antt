-- The words of a command line as texts.
use Rattle.std.specs.Prelude.{ℕ, List, map, String, string_bytes}

-- the bytes of each word
abbrev pub texts : {Y : Type 0} → List (String Y) → List (List ℕ)
texts words = map (λ w. string_bytes w) words
