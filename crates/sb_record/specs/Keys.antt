-- Keys, their order, and their text. Wherever keys are compared, `key_cmp` is the order and `same_key` the test.
use Rattle.std.specs.Prelude.{ℕ, ◌≤◌, Bool, List, IsTrue, decimal}
use Rattle.std.specs.Ordering.{nat_cmp, eq_by_cmp}
use Rattle.std.specs.declared.cmp.Ordering.{Ordering}
use Rattle.std.specs.declared.cmp.Ordering.TheVariants.{Less, Greater}
use Rattle.sb_record.specs.declared.key.TheConstants.{MAX_KEY}
use Rattle.sb_record.specs.declared.key.Keys.{Keys}
use Rattle.sb_record.specs.declared.key.Keys.TheVariants.{Numbers, Words}
use Rattle.sb_record.specs.declared.key.Key.{Key}
use Rattle.sb_record.specs.declared.key.Key.TheVariants.{Number, Word}
use Rattle.sb_record.specs.Words.{is_word, word_cmp}

-- numbers by value, then words
abbrev pub key_cmp : Key → Key → Ordering
key_cmp (Number m) (Number n) = nat_cmp m n
key_cmp (Number m) (Word w) = Less
key_cmp (Word v) (Number n) = Greater
key_cmp (Word v) (Word w) = word_cmp v w

-- whether the keys are the same
abbrev pub same_key : Key → Key → Bool
same_key a b = eq_by_cmp key_cmp a b

-- a number in decimal, and a word as its bytes
abbrev pub key_text : Key → List ℕ
key_text (Number n) = decimal n
key_text (Word w) = w

-- the keys that a line can give, where keys are numbers or words
abbrev pub IsKeyInRange : Keys → Key → Type 0
IsKeyInRange Numbers (Number n) = n ≤ MAX_KEY
IsKeyInRange Numbers (Word w) = ⊥
IsKeyInRange Words (Number n) = ⊥
IsKeyInRange Words (Word w) = IsTrue (is_word w)

-- the keys that a record may have
abbrev pub IsKey : Key → Type 0
IsKey (Number n) = n ≤ MAX_KEY
IsKey (Word w) = IsTrue (is_word w)
