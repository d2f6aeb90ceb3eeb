-- Words, their order, and how they are held.
use Rattle.std.specs.Prelude.{◌≡◌, ℕ, ◌-◌, Bool, not, ◌&&◌, ◌==◌, nat_le, List, ◌++◌, length, replicate, IsTrue}
use Rattle.std.specs.Char.{is_ascii_graphic}
use Rattle.std.specs.List.{list_all, before_first}
use Rattle.std.specs.Ordering.{nat_cmp}
use Rattle.std.specs.Cmp.Lexicographic.{slice_cmp}
use Rattle.std.specs.declared.cmp.Ordering.{Ordering}
use Rattle.sb_record.specs.declared.key.TheConstants.{MAX_WORD_LENGTH}

-- a visible byte of ASCII, 0x21 to 0x7E, and neither a comma nor a double quote
abbrev pub is_word_byte : ℕ → Bool
is_word_byte b = is_ascii_graphic b && not (b == 44) && not (b == 34)

-- whether the bytes are a word
abbrev pub is_word : List ℕ → Bool
is_word bytes = nat_le 1 (length bytes) && nat_le (length bytes) MAX_WORD_LENGTH && list_all is_word_byte bytes

-- by the first byte that differs, where a proper prefix stands first
abbrev pub word_cmp : List ℕ → List ℕ → Ordering
word_cmp v w = slice_cmp nat_cmp v w

-- the word with zeros behind it
abbrev pub word_with_zeros : List ℕ → List ℕ
word_with_zeros word = word ++ replicate (MAX_WORD_LENGTH - length word) 0

-- what stands before the first zero
abbrev pub word_before_zeros : List ℕ → List ℕ
word_before_zeros bytes = before_first (λ b. b == 0) bytes

-- the bytes are those of a word, with zeros behind it
pub record IsPaddedWord (bytes : List ℕ) : Type 0 where
  pub word : IsTrue (is_word (word_before_zeros bytes))
  pub zeros : word_with_zeros (word_before_zeros bytes) ≡ bytes
