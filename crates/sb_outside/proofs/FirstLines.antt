-- The first of the lines of bytes, and what follows it.
use Rattle.std.proofs.Common.{◌≡◌, ◌==◌, ◌&&◌, ℕ, suc, ◌+◌, ◌-◌, ◌<◌, ◌≤◌, ◌++◌, List, [], ◌∷◌, length, take, drop, get_or, Bool, true, false, refl, sym, ap, ◌∙◌, arith, inl, inr, append_assoc, append-nil, length-append, subst}
use Rattle.std.specs.Prelude.{nat_lt}
use Rattle.std.specs.List.{AllByRecursion}
use Rattle.std.proofs.lemmas.Bool.{cases_Bool, lt-ltb, ltb-false, ne_eqb, or_right}
use Rattle.std.proofs.lemmas.Bool.Decides.{nat_tests}
use Rattle.std.proofs.lemmas.List.{length-take, take_all}
use Rattle.std.proofs.lemmas.List.Elements.{All-from_recursion}
use Rattle.std.specs.Io.BufRead.{ends_with_byte}
use Rattle.sb_outside.specs.Lines.{without_cr, is_too_long, last_line, lines_from, lines}
use Rattle.sb_outside.specs.Readings.{BeginTooLong, IsTooLong}
use Rattle.sb_outside.specs.Looks.{line_len, IsFirstLine}

-- the bytes before the first LF
abbrev pub front : List ℕ → List ℕ
front bytes = take (line_len bytes) bytes

-- an LF is among the bytes
abbrev pub has_line : List ℕ → Bool
has_line bytes = nat_lt (line_len bytes) (length bytes)

pub next_line : (bytes : List ℕ) (e : Bool) (f later : List ℕ) → has_line bytes ≡ true → lines_from e f (bytes ++ later) ≡ without_cr (f ++ front bytes) ∷ lines e (drop (line_len bytes + 1) bytes ++ later)
next_line [] e f later h = cc h
next_line (b ∷ bs) e f later h = elim (cases_Bool (b == 10)) [
  | inl lf ↦ rw (lf, append-nil f) refl
  | inr other ↦
      let n = line_len bs in
      let one : 1 + n ≡ suc n = omega arith in
      let two : (1 + n) + 1 ≡ suc (n + 1) = omega arith in
      let more : nat_lt (1 + n) (suc (length bs)) ≡ true = rw other at h in
      let within : has_line bs ≡ true = grind (arith, nat_tests) in
      let ih = next_line bs e (f ++ b ∷ []) later within in
      let joined : (f ++ b ∷ []) ++ front bs ≡ f ++ take (1 + n) (b ∷ bs) = append_assoc f (b ∷ []) (front bs) ∙ ap (λ k. f ++ take k (b ∷ bs)) (sym one) in
      let rest : drop (n + 1) bs ≡ drop ((1 + n) + 1) (b ∷ bs) = ap (λ k. drop k (b ∷ bs)) (sym two) in
      rw other (ih ∙ (λ i. without_cr (joined i) ∷ lines e (rest i ++ later)))
]

-- bytes without an LF go on with the line begun
pub no_line : (bytes : List ℕ) (e : Bool) (f later : List ℕ) → has_line bytes ≡ false → lines_from e f (bytes ++ later) ≡ lines_from e (f ++ bytes) later
no_line [] e f later h = ap (λ l. lines_from e l later) (sym (append-nil f))
no_line (b ∷ bs) e f later h = elim (cases_Bool (b == 10)) [
  | inl lf ↦ absurd (let bad : true ≡ false = sym (lt-ltb 0 (suc (length bs)) (omega arith)) ∙ (rw lf at h) in cc bad)
  | inr other ↦
      let n = line_len bs in
      let more : nat_lt (1 + n) (suc (length bs)) ≡ false = rw other at h in
      let within : has_line bs ≡ false = grind (arith, nat_tests) in
      rw other (no_line bs e (f ++ b ∷ []) later within ∙ ap (λ l. lines_from e l later) (append_assoc f (b ∷ []) bs))
]

pub no_line_at_end : (bytes : List ℕ) (e : Bool) → has_line bytes ≡ false → lines e bytes ≡ last_line e bytes
no_line_at_end bytes e h = ap (lines e) (sym (append-nil bytes)) ∙ no_line bytes e [] [] h

pub front_all : (bytes : List ℕ) → has_line bytes ≡ false → front bytes ≡ bytes
front_all bytes h = take_all (line_len bytes) bytes (ltb-false (line_len bytes) (length bytes) h)

-- a line loses at most one byte
pub without_cr_least : (l : List ℕ) → (length (without_cr l) ≤ length l) × (length l ≤ length (without_cr l) + 1)
without_cr_least l = elim (cases_Bool (ends_with_byte 13 l)) [
  | inl cr ↦ rw cr (omega (arith, length-take (length l - 1) l), omega (arith, length-take (length l - 1) l))
  | inr other ↦ rw other (omega arith, omega arith)
]

-- a line begun that is too long stays so with one more byte
longer : (f : List ℕ) (b : ℕ) → is_too_long (without_cr f) ≡ true → is_too_long (without_cr (f ++ b ∷ [])) ≡ true
longer f b h =
    let size = length-append f (b ∷ []) in
    let small = without_cr_least f in
    let large = without_cr_least (f ++ b ∷ []) in
    let over : 128 < length (without_cr f) = grind (arith, nat_tests) in
    lt-ltb 128 (length (without_cr (f ++ b ∷ []))) (omega arith)

pub begun_too_long : (later : List ℕ) (e : Bool) (f : List ℕ) → is_too_long (without_cr f) ≡ true → BeginTooLong (lines_from e f later)
begun_too_long [] e f h = record {
  line = without_cr f;
  others = [];
  first = rw (or_right (e && nat_lt 0 (length f)) _ h) refl;
  long = h;
}
begun_too_long (b ∷ bs) e f h = elim (cases_Bool (b == 10)) [
  | inl lf ↦ record {
    line = without_cr f;
    others = lines e bs;
    first = rw lf refl;
    long = h;
  }
  | inr other ↦ rw other (begun_too_long bs e (f ++ b ∷ []) (longer f b h))
]

pub long_line : (bytes : List ℕ) → is_too_long (without_cr (front bytes)) ≡ true → IsTooLong bytes
long_line bytes h e later = elim (cases_Bool (has_line bytes)) [
  | inl some ↦ record {
    line = without_cr (front bytes);
    others = lines e (drop (line_len bytes + 1) bytes ++ later);
    first = next_line bytes e [] later some;
    long = h;
  }
  | inr none ↦
      let long : is_too_long (without_cr bytes) ≡ true = ap (λ l. is_too_long (without_cr l)) (sym (front_all bytes none)) ∙ h in
      subst BeginTooLong (sym (no_line bytes e [] later none)) (begun_too_long later e bytes long)
]

pub open_rest : (bytes : List ℕ) → has_line bytes ≡ false → is_too_long (without_cr bytes) ≡ false → lines false bytes ≡ []
open_rest bytes none short = no_line_at_end bytes false none ∙ rw short refl

-- ---- bytes that are no control characters, with an LF behind them
ends_line : (e : Bool) (f line rest : List ℕ) → AllByRecursion (λ b. 32 < b) line → lines_from e f (line ++ 10 ∷ rest) ≡ without_cr (f ++ line) ∷ lines e rest
ends_line e f [] rest high = ap (λ l. without_cr l ∷ lines e rest) (sym (append-nil f))
ends_line e f (b ∷ line) rest high =
    let other : (b == 10) ≡ false = ne_eqb b 10 (λ same. omega (arith, same, high.0)) in
    rw other (ends_line e (f ++ b ∷ []) line rest high.1 ∙ ap (λ l. without_cr l ∷ lines e rest) (append_assoc f (b ∷ []) line))

no_cr : (line : List ℕ) → AllByRecursion (λ b. 32 < b) line → without_cr line ≡ line
no_cr [] high = refl
no_cr (b ∷ line) high =
    let place : suc (length line) - 1 ≡ length line = omega arith in
    let last : 32 < get_or (b ∷ line) (length line) 0 = All-from_recursion (λ x. 32 < x) (b ∷ line) high (length line) 0 (omega arith) in
    let other : (get_or (b ∷ line) (length line) 0 == 13) ≡ false = ne_eqb _ 13 (λ same. omega (arith, same, last)) in
    let plain : ends_with_byte 13 (b ∷ line) ≡ false = rw (lt-ltb 0 (suc (length line)) (omega arith), place, other) refl in
    rw plain refl

-- they are the first line
pub visible_first : (line rest : List ℕ) → AllByRecursion (λ b. 32 < b) line → IsFirstLine line rest (line ++ 10 ∷ rest)
visible_first line rest high ended later =
    ap (lines ended) (append_assoc line (10 ∷ rest) later) ∙ ends_line ended [] line (rest ++ later) high ∙ ap (λ l. l ∷ lines ended (rest ++ later)) (no_cr line high)
