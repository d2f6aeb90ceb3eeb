-- One step of reading a number.
use Rattle.std.proofs.Common.{◌≡◌, ℕ, ◌+◌, ◌-◌, ◌*◌, ◌<◌, ◌≤◌, true, false, None, List, length, drop, slice_index, refl}
use Rattle.std.proofs.lemmas.List.{drop_more}
use Rattle.std.proofs.lemmas.Bool.{lt-leb, le-leb}
use Rattle.std.specs.Char.{is_ascii_digit}
use Rattle.sb_record.specs.Reading.{digits_from, ended_number, is_leading_zero}

pub digits_stop : (value n : ℕ) (xs : List ℕ) (i : ℕ) → i < length xs → is_ascii_digit (slice_index xs i) ≡ false
    → digits_from value n (drop i xs) ≡ ended_number value n (drop i xs)
unfolding digits_from
digits_stop value n xs i lt d = rw (drop_more xs i 0 lt, d) refl

pub digits_zero : (value n : ℕ) (xs : List ℕ) (i : ℕ) → i < length xs → is_ascii_digit (slice_index xs i) ≡ true → is_leading_zero value n ≡ true
    → digits_from value n (drop i xs) ≡ None
unfolding digits_from
digits_zero value n xs i lt d z = rw (drop_more xs i 0 lt, d, z) refl

pub digits_over : (value n : ℕ) (xs : List ℕ) (i : ℕ) → i < length xs → is_ascii_digit (slice_index xs i) ≡ true → is_leading_zero value n ≡ false
    → 1000000000000000000 ≤ value
    → digits_from value n (drop i xs) ≡ None
unfolding digits_from
digits_over value n xs i lt d z o = rw (drop_more xs i 0 lt, d, z, le-leb _ _ o) refl

pub digits_next : (value n : ℕ) (xs : List ℕ) (i : ℕ) → i < length xs → is_ascii_digit (slice_index xs i) ≡ true → is_leading_zero value n ≡ false
    → value < 1000000000000000000
    → digits_from value n (drop i xs) ≡ digits_from (value * 10 + (slice_index xs i - 48)) (n + 1) (drop (i + 1) xs)
unfolding digits_from
digits_next value n xs i lt d z o = rw (drop_more xs i 0 lt, d, z, lt-leb _ _ o) refl
