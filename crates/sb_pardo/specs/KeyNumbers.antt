-- The number that a key is, and its changes.
use Rattle.std.specs.Prelude.{ℕ, ℤ, pos, Option, Some, None}
use Rattle.sb_record.specs.declared.key.Key.{Key}
use Rattle.sb_record.specs.declared.key.Key.TheVariants.{Number, Word}

-- the number that a key is; none for a word
abbrev pub number_of : Key → Option ℤ
number_of (Number n) = Some (pos n)
number_of (Word w) = None

-- the key with its number changed; a word stays as it is
abbrev pub number_changed : (ℕ → ℕ) → Key → Key
number_changed change (Number n) = Number (change n)
number_changed change (Word w) = Word w
