-- What stands for what in a line that is read: words without a space, and numbers behind spaces.
use Rattle.std.specs.Prelude.{◌≡◌, ℕ, ◌+◌, ◌<◌, ◌^◌, List, [], ◌∷◌, ◌++◌, length, decimal}
use Rattle.std.specs.List.{AllByRecursion}
use Rattle.sb_diary.specs.declared.text.DiaryLine.{DiaryLine}
use Rattle.sb_diary.specs.Texts.{word_of, numbers_of, spaced_text, AreInRange, IsLine}

-- no byte is a space
abbrev pub HasNoSpace : List ℕ → Type 0
HasNoSpace bytes = AllByRecursion (λ b. b ≡ 32 → ⊥) bytes

-- there is no byte, or the first is a space
abbrev pub IsAtSpace : List ℕ → Type 0
IsAtSpace [] = Unit {0}
IsAtSpace (b ∷ rest) = b ≡ 32

-- the text is that of the number
abbrev pub IsNumber : ℕ → List ℕ → Type 0
IsNumber n text = (n < 2 ^ 64) × (text ≡ decimal n)

-- these bytes begin with a space and the number, which goes up to this rest
pub record BeginsWith (bytes : List ℕ) (n : ℕ) (rest : List ℕ) : Type 0 where
  pub fits : n < 2 ^ 64
  pub text : bytes ≡ 32 ∷ (decimal n ++ rest)
  pub ends : IsAtSpace rest

-- these so many numbers have this text
pub record AreNumbers (count : ℕ) (ns bytes : List ℕ) : Type 0 where
  pub count_is : length ns ≡ count
  pub fit : AllByRecursion (λ n. n < 2 ^ 64) ns
  pub text : spaced_text ns ≡ bytes

-- a lane or a node and so many numbers have this text
pub record AreFields (count : ℕ) (ns bytes : List ℕ) : Type 0 where
  pub count_is : length ns ≡ count + 1
  pub fit : AreInRange ns
  pub text : spaced_text ns ≡ bytes

-- the line has this word, and these bytes are its numbers
abbrev pub IsSpelled : DiaryLine → List ℕ → List ℕ → Type 0
IsSpelled line word rest = IsLine line × (word_of line ≡ word) × (spaced_text (numbers_of line) ≡ rest)
