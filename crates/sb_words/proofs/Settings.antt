-- Options and their words.
use Rattle.std.proofs.Common.{◌≡◌, ℕ, List, [], ◌∷◌, ◌++◌, refl, ap, arith}
use Rattle.std.proofs.lemmas.Fmt.{decimal_injective}
use Rattle.sb_words.specs.declared.setting.Setting.{Setting}
use Rattle.sb_words.specs.declared.setting.Setting.TheVariants.{Workers, Bundle, Pending, Diary, Taps}
use Rattle.sb_words.specs.Options.{IsSetting, words_of_option}

abbrev second_of : List (List ℕ) → List ℕ
second_of (x ∷ y ∷ xs) = y
second_of xs = []

abbrev after_two : List (List ℕ) → List (List ℕ)
after_two (x ∷ y ∷ xs) = xs
after_two xs = []

-- the letter at which the names of options differ
abbrev letter_of : List (List ℕ) → ℕ
letter_of ((a ∷ b ∷ c ∷ bytes) ∷ words) = c
letter_of words = 0

-- the words at the front are of one option, and what is behind them is one list
pub first_is_one : (s t : Setting) (a b : List (List ℕ)) → IsSetting s → IsSetting t → words_of_option s ++ a ≡ words_of_option t ++ b → (s ≡ t) × (a ≡ b)
first_is_one (Workers m) (Workers n) a b is it e = (ap (λ k. Workers k) (decimal_injective m n (omega arith) (omega arith) (ap second_of e)), ap after_two e)
first_is_one (Bundle m) (Bundle n) a b is it e = (ap (λ k. Bundle k) (decimal_injective m n (omega arith) (omega arith) (ap second_of e)), ap after_two e)
first_is_one (Pending m) (Pending n) a b is it e = (ap (λ k. Pending k) (decimal_injective m n (omega arith) (omega arith) (ap second_of e)), ap after_two e)
first_is_one Diary Diary a b is it e = (refl, cc)
first_is_one Taps Taps a b is it e = (refl, cc)
first_is_one s t a b is it e = let other : letter_of (words_of_option s ++ a) ≡ letter_of (words_of_option t ++ b) = ap letter_of e in absurd (omega (arith, other))
