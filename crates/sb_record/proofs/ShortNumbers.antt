-- The usual line at the front: its short numbers, and the record that they give.
use Rattle.std.proofs.Common.{◌≡◌, ℕ, ℤ, zero, suc, pos, negsuc, ◌+◌, ◌-◌, ◌*◌, ◌^◌, ◌<◌, ◌≤◌, true, false, Some, List, ◌∷◌, length, take, drop, slice_index, refl, ap, subst, ◌∙◌, arith, length-drop}
use Rattle.std.proofs.lemmas.Bool.{lt-ltb, le-leb, ne_eqb}
use Rattle.std.proofs.lemmas.List.{drop_more, take_all}
use native.Mathlib.Numerals.{unary_clauses}
use Rattle.std.specs.Char.{is_ascii_digit}
use Rattle.sb_record.specs.declared.item.Stream.{Stream}
use Rattle.sb_record.specs.declared.item.Item.TheVariants.{Rec}
use Rattle.sb_record.specs.declared.key.Key.TheVariants.{Number}
use Rattle.sb_record.specs.declared.key.Keys.TheVariants.{Numbers}
use Rattle.sb_record.specs.Reading.{number_at, byte_at, key_at, signed_at, negative_at, positive_at, between, digits_from, is_leading_zero}
use Rattle.sb_record.specs.FrontReading.{value_at, rest_of_record_at, record_line_at, front_at}
use Rattle.sb_record.proofs.Grammar.{byte_some}
use Rattle.sb_record.proofs.Steps.{digits_next, digits_stop}

-- what is left is what follows
pub rest_of_bytes : (xs : List ℕ) (i : ℕ) → take (length xs - i) (drop i xs) ≡ drop i xs
rest_of_bytes xs i = take_all (length xs - i) (drop i xs) (omega (arith, length-drop i xs))

-- ---- digits
below_power : (n k v : ℕ) → v < 10 ^ n → v < 10 ^ (n + k)
below_power n zero v small = simp unary_clauses small
below_power n (suc k) v small = simp unary_clauses (omega (arith, below_power n k v small))

-- what up to 18 digits give
pub short_is_small : (i v : ℕ) → i ≤ 18 → v < 10 ^ i → v < 10 ^ 18
short_is_small i v short small =
    let e : i + (18 - i) ≡ 18 = omega arith in
    subst (λ n. v < 10 ^ n) e (below_power i (18 - i) v small)

pub digit_more : (i v d : ℕ) → v < 10 ^ i → d ≤ 9 → v * 10 + d < 10 ^ (i + 1)
digit_more i v d small low = simp unary_clauses (omega arith)

-- one digit more
pub digit_next : (value i d : ℕ) (xs : List ℕ) → i < length xs → d ≤ 9 → slice_index xs i ≡ 48 + d → is_leading_zero value i ≡ false
    → value < 10 ^ 18
    → digits_from value i (drop i xs) ≡ digits_from (value * 10 + d) (i + 1) (drop (i + 1) xs)
digit_next value i d xs lt low is z small =
    let digit : is_ascii_digit (slice_index xs i) ≡ true = rw is (grind arith) in
    let e : slice_index xs i - 48 ≡ d = omega arith in
    digits_next value i xs i lt digit z small ∙ rw e refl

pub digit_first : (d : ℕ) (xs : List ℕ) → 0 < length xs → d ≤ 9 → slice_index xs 0 ≡ 48 + d → digits_from 0 0 xs ≡ digits_from d 1 (drop 1 xs)
digit_first d xs some low is = digit_next 0 0 d xs some low is refl (omega arith) ∙ (let e : 0 * 10 + d ≡ d = omega arith in rw e refl)

-- the digits end here
pub digits_end : (end value i : ℕ) (xs : List ℕ) → 0 < i → i < length xs → slice_index xs i ≡ end → is_ascii_digit end ≡ false
    → digits_from 0 0 xs ≡ digits_from value i (drop i xs) → digits_from 0 0 xs ≡ Some (value, end ∷ drop (i + 1) xs)
digits_end end value i xs some lt is other so_far =
    so_far ∙ digits_stop value i xs i lt (ap is_ascii_digit is ∙ other) ∙ rw (lt-ltb 0 i some, drop_more xs i 0 lt, is) refl

-- a zero alone
pub zero_alone : (end d : ℕ) (xs : List ℕ) → 1 < length xs → d ≡ 0 → slice_index xs 0 ≡ 48 + d → slice_index xs 1 ≡ end → is_ascii_digit end ≡ false
    → digits_from 0 0 xs ≡ Some (0, end ∷ drop 2 xs)
zero_alone end d xs lt none first is other =
    let zero_first : slice_index xs 0 ≡ 48 + 0 = omega (arith, first, none) in
    digits_end end 0 1 xs (omega arith) lt is other (digit_first 0 xs (omega arith) (omega arith) zero_first)

-- ---- a sign
pub short_negative : (end n : ℕ) (xs rest : List ℕ) → digits_from 0 0 xs ≡ Some (n, end ∷ rest) → 0 < n → n < 10 ^ 18
    → negative_at xs ≡ Some (negsuc (n - 1), end ∷ rest)
unfolding number_at
short_negative end n xs rest read some small = rw (read, le-leb n 9223372036854775808 (omega arith), ne_eqb n 0 (λ z. omega arith)) refl

pub short_positive : (end n : ℕ) (xs rest : List ℕ) → digits_from 0 0 xs ≡ Some (n, end ∷ rest) → n < 10 ^ 18
    → positive_at xs ≡ Some (pos n, end ∷ rest)
unfolding number_at
short_positive end n xs rest read small = rw (read, le-leb n 9223372036854775807 (omega arith)) refl

-- ---- the record
number_and_value : (s : Stream) (t k : ℕ) (v : ℤ) (keys values rest : List ℕ)
    → digits_from 0 0 keys ≡ Some (k, 44 ∷ values) → k < 10 ^ 18 → signed_at values ≡ Some (v, 10 ∷ rest)
    → rest_of_record_at Numbers s t keys ≡ Some (Rec s (record { time = t; key = Number k; value = v }), rest)
unfolding rest_of_record_at value_at number_at key_at byte_at
number_and_value s t k v keys values rest key small value = rw (key, le-leb k 1000000000000000000 (omega arith), value) refl

pub usual_front : (all bytes times keys values rest : List ℕ) (s : Stream) (t k : ℕ) (v : ℤ)
    → byte_at 114 all ≡ Some bytes → between bytes ≡ Some (s, times)
    → digits_from 0 0 times ≡ Some (t, 44 ∷ keys) → t ≤ 1000000000000000
    → digits_from 0 0 keys ≡ Some (k, 44 ∷ values) → k < 10 ^ 18 → signed_at values ≡ Some (v, 10 ∷ rest)
    → front_at Numbers all ≡ Some (Rec s (record { time = t; key = Number k; value = v }), rest)
unfolding front_at record_line_at number_at byte_at
usual_front all bytes times keys values rest s t k v first head time early key small value =
    rw (byte_some 114 all bytes first, head, time, le-leb t 1000000000000000 early) (number_and_value s t k v keys values rest key small value)
