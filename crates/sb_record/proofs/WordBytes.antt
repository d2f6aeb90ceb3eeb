-- What holds of each byte of a word.
use Rattle.std.proofs.Common.{◌≡◌, ℕ, ◌<◌, ◌≤◌, ◌==◌, Bool, true, false, not, List, length, refl, arith, inl, inr}
use Rattle.std.specs.Prelude.{◌&&◌, nat_le}
use Rattle.std.specs.List.{list_all, position, position_or_len}
use Rattle.std.specs.Option.{unwrap_or}
use Rattle.std.proofs.lemmas.Bool.{cases_lt, lt-ltb, le-ltb, leb-true}
use Rattle.std.proofs.lemmas.List.Sums.{prefix_len-le-length}
use Rattle.std.proofs.lemmas.Bool.Decides.{nat_tests}
use Rattle.sb_record.specs.declared.key.TheConstants.{MAX_WORD_LENGTH}
use Rattle.sb_record.specs.Words.{is_word, is_word_byte}

abbrev pub AreWordBytes : List ℕ → Type 0
AreWordBytes bytes = list_all is_word_byte bytes ≡ true

pub first_of_both : (a b : Bool) → (a && b) ≡ true → a ≡ true
first_of_both true b h = refl
first_of_both false b h = h

pub second_of_both : (a b : Bool) → (a && b) ≡ true → b ≡ true
second_of_both true b h = h
second_of_both false b h = cc

pub above_zero : (b : ℕ) → is_word_byte b ≡ true → 0 < b
above_zero b h = grind (arith, nat_tests)

pub no_comma : (b : ℕ) → is_word_byte b ≡ true → (b == 44) ≡ false
no_comma b h = grind (arith, nat_tests)

pub are_word_bytes : (word : List ℕ) → is_word word ≡ true → AreWordBytes word
are_word_bytes word h = second_of_both (nat_le 1 (length word) && nat_le (length word) MAX_WORD_LENGTH) (list_all is_word_byte word) h

pub word_length : (word : List ℕ) → is_word word ≡ true → length word ≤ MAX_WORD_LENGTH
word_length word h =
    leb-true _ _ (second_of_both (nat_le 1 (length word)) (nat_le (length word) MAX_WORD_LENGTH) (first_of_both (nat_le 1 (length word) && nat_le (length word) MAX_WORD_LENGTH) (list_all is_word_byte word) h))

pub position_or_end : {X : Type 0} (p : X → Bool) (xs : List X) → unwrap_or (position p xs) (length xs) ≡ position_or_len p xs
position_or_end p xs = elim (cases_lt (position_or_len p xs) (length xs)) [
  | inl within ↦ rw (lt-ltb _ _ within) refl
  | inr at_end ↦ let e : length xs ≡ position_or_len p xs = omega (arith, prefix_len-le-length (λ x. not (p x)) xs) in rw (le-ltb _ _ at_end) e
]
