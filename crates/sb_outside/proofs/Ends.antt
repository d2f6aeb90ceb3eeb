-- Where a line ends.
use Rattle.std.proofs.Common.{◌≡◌, ℕ, ◌<◌, ◌≤◌, List, length, take, get_or, Some, None, true, false, min, sym, subst, ◌∙◌, arith, inl, inr}
use Rattle.std.proofs.lemmas.Bool.{cases_lt, eqb-true, eq-eqb}
use Rattle.std.proofs.lemmas.List.{length-take, get_or-take}
use Rattle.std.proofs.lemmas.List.Sums.{prefix_len_passes, prefix_len_stops, prefix_len-le-length}
use Rattle.std.proofs.lemmas.Bool.Decides.{nat_tests}
use Rattle.memchr.specs.Find.{IsFirstByte, is_byte}
use Rattle.sb_outside.specs.Looks.{is_within, line_len}

within_not : (b : ℕ) → is_within b ≡ true → b ≡ 10 → ⊥
within_not b h e = cc (subst (λ x. is_within x ≡ true) e h)

not_within : (b : ℕ) → is_within b ≡ false → b ≡ 10
not_within b h = grind (arith, nat_tests)

-- no LF below the length, and one there where it is within
pub before_len : (xs : List ℕ) (k : ℕ) → k < line_len xs → get_or xs k 0 ≡ 10 → ⊥
before_len xs k h e = within_not (get_or xs k 0) (prefix_len_passes is_within xs k 0 h) e

pub at_len : (xs : List ℕ) → line_len xs < length xs → get_or xs (line_len xs) 0 ≡ 10
at_len xs h = not_within _ (prefix_len_stops is_within xs 0 h)

pub len_within : (xs : List ℕ) → line_len xs ≤ length xs
len_within xs = prefix_len-le-length is_within xs

-- what a search of the first 130 bytes finds
pub found_len : (xs : List ℕ) (k : ℕ) → IsFirstByte (is_byte 10) (take 130 xs) (Some k) → k ≡ min 130 (line_len xs)
found_len xs k h =
    let n = line_len xs in
    let size = length-take 130 xs in
    let high : k < length (take 130 xs) = h.0.high in
    let here : get_or xs k 0 ≡ 10 = sym (get_or-take 130 xs k 0 (omega arith)) ∙ eqb-true _ 10 h.1 in
    elim (cases_lt n k) [
      | inl less ↦
          let there : get_or (take 130 xs) n 0 ≡ 10 = get_or-take 130 xs n 0 (omega arith) ∙ at_len xs (omega arith) in
          absurd (h.0.before n (omega arith) less (eq-eqb _ 10 there))
      | inr more ↦ elim (cases_lt k n) [
        | inl later ↦ absurd (before_len xs k later here)
        | inr same ↦ omega arith
      ]
    ]

pub no_found_len : (xs : List ℕ) → IsFirstByte (is_byte 10) (take 130 xs) None → length (take 130 xs) ≡ min 130 (line_len xs)
no_found_len xs h =
    let n = line_len xs in
    let size = length-take 130 xs in
    let within = len_within xs in
    elim (cases_lt n (length (take 130 xs))) [
      | inl less ↦
          let there : get_or (take 130 xs) n 0 ≡ 10 = get_or-take 130 xs n 0 (omega arith) ∙ at_len xs (omega arith) in
          absurd (h n (omega arith) less (eq-eqb _ 10 there))
      | inr more ↦ omega arith
    ]
