-- What is read as a number is the text of a number, and the text of a number reads back.
use Rattle.std.proofs.Common.{◌≡◌, ◌↔◌, append-nil, ℕ, ◌+◌, ◌-◌, ◌*◌, ◌/◌, ◌%◌, ◌<◌, ◌≤◌, ◌++◌, List, [], ◌∷◌, length, Some, None, Bool, true, false, refl, sym, ap, ◌∙◌, arith, inl, inr, append_assoc, length-append}
use Rattle.std.proofs.lemmas.Bool.{cases_Bool, cases_lt, le-leb, lt-leb, lt-ltb}
use Rattle.std.proofs.lemmas.Fmt.{decimal_by_steps, decimal_digit, decimal_nonempty, decimal_step}
use Rattle.std.specs.Fmt.{decimal}
use Rattle.std.specs.Char.{is_ascii_digit}
use Rattle.std.specs.Prelude.{Option}
use Rattle.std.proofs.lemmas.Option.{same_Some}
use Rattle.sb_record.specs.Reading.{◌>>=◌, value_at_end, whole_number, at_most, number_at, digits_from, ended_number, is_leading_zero}

-- digits that ended give what was read, and there was at least one
ended_some : (value len : ℕ) (xs : List ℕ) (v : ℕ) (rest : List ℕ) → ended_number value len xs ≡ Some (v, rest)
    → (0 < len) × (value ≡ v) × (xs ≡ rest)
ended_some value len xs v rest h = elim (cases_lt 0 len) [
  | inl some ↦
      let p = same_Some _ _ (rw (lt-ltb 0 len some) at h) in
      (some, ap (λ (q : ℕ × List ℕ). q.0) p, ap (λ (q : ℕ × List ℕ). q.1) p)
  | inr none ↦
      let e : len ≡ 0 = omega arith in
      cc (rw e at h)
]

-- one digit more on the front of a number
next_front : (value len b : ℕ) (front : List ℕ) → is_ascii_digit b ≡ true → is_leading_zero value len ≡ false
    → value < 1000000000000000000
    → (len ≡ 0 → (front ≡ []) × (value ≡ 0)) → (0 < len → front ≡ decimal value)
    → front ++ b ∷ [] ≡ decimal (value * 10 + (b - 48))
next_front value len b front d z small start run =
    let range : (48 ≤ b) × (b ≤ 57) = grind arith in
    elim (cases_lt 0 len) [
      | inl some ↦
          let other : 0 < value = grind arith in
          let step = decimal_step (value * 10 + (b - 48)) (omega arith) (omega arith) in
          let top : (value * 10 + (b - 48)) / 10 ≡ value = omega arith in
          let low : 48 + (value * 10 + (b - 48)) % 10 ≡ b = omega arith in
          rw (run some) (sym (rw (top, low) at step))
      | inr none ↦
          let s = start (omega arith) in
          let e : value * 10 + (b - 48) ≡ b - 48 = rw s.1 (omega arith) in
          let low : 48 + (b - 48) ≡ b = omega arith in
          rw (s.0, e, decimal_digit (b - 48) (omega arith), low) refl
    ]

-- digits that were read are the text of what they give, with what is left after it
digits_text : (value len : ℕ) (xs front : List ℕ) (v : ℕ) (rest : List ℕ)
    → (len ≡ 0 → (front ≡ []) × (value ≡ 0)) → (0 < len → front ≡ decimal value)
    → digits_from value len xs ≡ Some (v, rest)
    → front ++ xs ≡ decimal v ++ rest
unfolding digits_from
digits_text value len [] front v rest start run h =
    let d = ended_some value len [] v rest h in
    rw (run d.0, d.1, ← d.2) refl
digits_text value len (b ∷ r) front v rest start run h =
    elim (cases_Bool (is_ascii_digit b)) [
      | inl digit ↦ elim (cases_Bool (is_leading_zero value len)) [
        | inl leading ↦ cc (rw (digit, leading) at h)
        | inr plain ↦ elim (cases_lt value 1000000000000000000) [
          | inl small ↦
              let more = rw (digit, plain, lt-leb _ _ small) at h in
              let next = next_front value len b front digit plain small start run in
              let ih = digits_text (value * 10 + (b - 48)) (len + 1) r (front ++ b ∷ []) v rest (λ e. absurd (omega arith)) (λ _. next) more in
              sym (append_assoc front (b ∷ []) r) ∙ ih
          | inr big ↦ cc (rw (digit, plain, le-leb _ _ big) at h)
        ]
      ]
      | inr other ↦
          let d = ended_some value len (b ∷ r) v rest (rw other at h) in
          rw (run d.0, d.1, d.2) refl
    ]

pub bind_some : {A B : Type 0} (r : Option A) (f : A → Option B) (y : B) → (r >>= f) ≡ Some y → (x : A) × (r ≡ Some x) × (f x ≡ Some y)
bind_some None f y e = cc
bind_some (Some x) f y e = (x, refl, e)

at_most_some : (most : ℕ) (p : ℕ × List ℕ) (v : ℕ) (rest : List ℕ) → at_most most p ≡ Some (v, rest) → (p ≡ (v, rest)) × (v ≤ most)
at_most_some most p v rest h = elim (cases_lt most p.0) [
  | inl big ↦ cc (rw (lt-leb _ _ big) at h)
  | inr small ↦
      let e : p ≡ (v, rest) = same_Some _ _ (rw (le-leb _ _ small) at h) in
      let same : p.0 ≡ v = ap (λ (q : ℕ × List ℕ). q.0) e in
      (e, omega arith)
]

-- a number that was read is the text of its value, with the rest after it
pub number_text : (most : ℕ) (xs : List ℕ) (v : ℕ) (rest : List ℕ) → number_at most xs ≡ Some (v, rest)
    → (xs ≡ decimal v ++ rest) × (v ≤ most)
unfolding number_at
number_text most xs v rest h =
    let (p, read, fits) = bind_some (digits_from 0 0 xs) (at_most most) (v, rest) h in
    let (same, small) = at_most_some most p v rest fits in
    (digits_text 0 0 xs [] v rest (λ _. (refl, refl)) (λ e. absurd (omega arith)) (read ∙ ap Some same), small)

-- one digit more
digits_cons : (value len b : ℕ) (r : List ℕ) → is_ascii_digit b ≡ true → is_leading_zero value len ≡ false
    → value < 1000000000000000000 → digits_from value len (b ∷ r) ≡ digits_from (value * 10 + (b - 48)) (len + 1) r
unfolding digits_from
digits_cons value len b r d z small = rw (d, z, lt-leb _ _ small) refl

abbrev Runs : ℕ → List ℕ → Type 0
Runs n ds = n < 10000000000000000000 → (rest : List ℕ) → digits_from 0 0 (ds ++ rest) ≡ digits_from n (length ds) rest

-- the digits of a number, read from the front
digits_run : (n : ℕ) → n < 10000000000000000000 → (rest : List ℕ)
    → digits_from 0 0 (decimal n ++ rest) ≡ digits_from n (length (decimal n)) rest
digits_run n fits rest = decimal_by_steps Runs
    (λ k low small r.
    let d : is_ascii_digit (48 + k) ≡ true = grind arith in
    let e : 0 * 10 + ((48 + k) - 48) ≡ k = omega arith in
    digits_cons 0 0 (48 + k) r d refl (omega arith) ∙ rw e refl)
    (λ k ds big ih small r.
    let g = 48 + k % 10 in
    let d : is_ascii_digit g ≡ true = grind arith in
    let z : is_leading_zero (k / 10) (length ds) ≡ false = grind arith in
    let e : (k / 10) * 10 + (g - 48) ≡ k = omega arith in
    let l : length ds + 1 ≡ length (ds ++ g ∷ []) = sym (length-append ds (g ∷ [])) in
    rw (append_assoc ds (g ∷ []) r) (ih (omega arith) (g ∷ r) ∙ digits_cons (k / 10) (length ds) g r d z (omega arith) ∙ rw (e, l) refl))
    n (omega arith) fits rest

-- whether a text starts with a digit
abbrev pub starts_digit : List ℕ → Bool
starts_digit [] = false
starts_digit (b ∷ r) = is_ascii_digit b

-- the text of a number reads back
digits_of_text : (v : ℕ) (rest : List ℕ) → v < 10000000000000000000 → starts_digit rest ≡ false
    → digits_from 0 0 (decimal v ++ rest) ≡ Some (v, rest)
unfolding digits_from
digits_of_text v [] fits h =
    let some = decimal_nonempty v (omega arith) in
    rw (digits_run v fits [], lt-ltb 0 (length (decimal v)) some) refl
digits_of_text v (b ∷ r) fits h =
    let some = decimal_nonempty v (omega arith) in
    rw (digits_run v fits (b ∷ r), h, lt-ltb 0 (length (decimal v)) some) refl

pub number_of_text : (most v : ℕ) (rest : List ℕ) → most < 10000000000000000000 → v ≤ most → starts_digit rest ≡ false
    → number_at most (decimal v ++ rest) ≡ Some (v, rest)
unfolding number_at
number_of_text most v rest top fits h =
    rw (digits_of_text v rest (omega arith) h, le-leb _ _ fits) refl

pub number_of_whole : (most v : ℕ) → most < 10000000000000000000 → v ≤ most → number_at most (decimal v) ≡ Some (v, [])
number_of_whole most v top small = ap (number_at most) (sym (append-nil (decimal v))) ∙ number_of_text most v [] top small refl

at_end_some : (p : ℕ × List ℕ) (n : ℕ) → value_at_end p ≡ Some n → p ≡ (n, [])
at_end_some (value, []) n h = let e : value ≡ n = same_Some _ _ h in λ i. (e i, [])
at_end_some (value, b ∷ rest) n h = cc h

-- a text is read as a whole number exactly where it is the text of one within the bound
pub whole_number_exact : (most : ℕ) (xs : List ℕ) (n : ℕ) → most < 10000000000000000000
    → (whole_number most xs ≡ Some n) ↔ ((n ≤ most) × (xs ≡ decimal n))
unfolding whole_number
whole_number_exact most xs n top = (
  λ h.
      let (p, read, is) = bind_some (number_at most xs) value_at_end n h in
      let t = number_text most xs n [] (read ∙ ap Some (at_end_some p n is)) in
      (t.1, t.0 ∙ append-nil (decimal n)),
  λ (small, text).
      ap (λ l. number_at most l >>= value_at_end) text ∙ ap (λ r. r >>= value_at_end) (number_of_whole most n top small),
)
