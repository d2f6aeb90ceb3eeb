-- A first line and a last line tell their numbers.
use Rattle.std.proofs.Common.{◌≡◌, ◌<◌, ◌==◌, ℕ, suc, ◌+◌, ◌%◌, ◌^◌, Bool, true, false, not, cond, List, [], ◌∷◌, ◌++◌, length, take, drop, Option, Some, None, refl, sym, ap, ◌∙◌, arith, inl, inr, length-append}
use Rattle.std.specs.Prelude.{◌↔◌, decimal, nat_eq, nat_lt, MatchOption, IfSome, IfNone, IsTrue}
use Rattle.std.specs.Cmp.Lexicographic.{pointwise, same_text, other_text}
use Rattle.std.specs.List.{AllByRecursion, position, position_or_len}
use Rattle.std.proofs.Math.Seq.{take-append_seam, drop-append_seam}
use Rattle.std.proofs.lemmas.Bool.{cases_Bool, cases_lt, eqb-true, lt-ltb}
use Rattle.std.proofs.lemmas.Bool.Decides.{nat_tests}
use Rattle.std.proofs.lemmas.List.{drop-drop, take-append-drop}
use Rattle.std.proofs.lemmas.List.Sums.{split_at_first, passes_at_first}
use Rattle.std.proofs.lemmas.Option.{same_Some}
use Rattle.std.proofs.lemmas.Fmt.{decimal_by_steps, decimal_injective}
use Rattle.sb_pipeline.proofs.records.Elements.{All-join}
use Rattle.sb_checkpoint.specs.Texts.{head_text, end_text, is_same, IsHead}
use Rattle.sb_checkpoint.proofs.ReadBack.{same-itself, same-texts}

-- ---- a number goes on to the space behind it
abbrev AreHigh : List ℕ → Type 0
AreHigh bytes = AllByRecursion (λ b. 47 < b) bytes

digits-high : (n : ℕ) → n < 2 ^ 64 → AreHigh (decimal n)
digits-high n fits = decimal_by_steps (λ _ ds. AreHigh ds) (λ k small. (omega arith, tt)) (λ k ds big all. All-join (λ b. 47 < b) ds ((48 + k % 10) ∷ []) all (omega arith, tt)) n fits

space-at : (ds rest : List ℕ) → AreHigh ds → position_or_len (λ b. b == 32) (ds ++ 32 ∷ rest) ≡ length ds
space-at [] rest all = refl
space-at (d ∷ ds) rest all =
    let other : (d == 32) ≡ false = grind (arith, nat_tests, all.0) in
    (λ i. cond (not (other i)) (1 + position_or_len (λ b. b == 32) (ds ++ 32 ∷ rest)) 0) ∙ ap (λ n. 1 + n) (space-at ds rest all.1) ∙ omega arith

number-space : (n : ℕ) (rest : List ℕ) → n < 2 ^ 64 → position_or_len (λ b. b == 32) (decimal n ++ 32 ∷ rest) ≡ length (decimal n)
number-space n rest fits = space-at (decimal n) rest (digits-high n fits)

-- ---- two first lines with one text
pub same-numbers : (l w m v : ℕ) → l < 2 ^ 64 → w < 2 ^ 64 → m < 2 ^ 64 → v < 2 ^ 64 → decimal l ++ 32 ∷ decimal w ≡ decimal m ++ 32 ∷ decimal v → (l ≡ m) × (w ≡ v)
same-numbers l w m v fl fw fm fv e =
    let long : length (decimal l) ≡ length (decimal m) = sym (number-space l (decimal w) fl) ∙ ap (position_or_len (λ b. b == 32)) e ∙ number-space m (decimal v) fm in
    let front : decimal l ≡ decimal m = sym (take-append_seam (decimal l) (32 ∷ decimal w)) ∙ (λ i. take (long i) (e i)) ∙ take-append_seam (decimal m) (32 ∷ decimal v) in
    let behind : 32 ∷ decimal w ≡ 32 ∷ decimal v = sym (drop-append_seam (decimal l) (32 ∷ decimal w)) ∙ (λ i. drop (long i) (e i)) ∙ drop-append_seam (decimal m) (32 ∷ decimal v) in
    let back : decimal w ≡ decimal v = cc in
    (decimal_injective l m fl fm front, decimal_injective w v fw fv back)

pub same-head : (line : List ℕ) (l w m v : ℕ) → IsHead line l w → IsHead line m v → (l ≡ m) × (w ≡ v)
same-head line l w m v h k =
    let e : head_text l w ≡ head_text m v = sym h.text ∙ k.text in
    let numbers : decimal l ++ 32 ∷ decimal w ≡ decimal m ++ 32 ∷ decimal v = cc in
    same-numbers l w m v h.few_lines h.small_low k.few_lines k.small_low numbers

-- ---- what stands before and behind the first space
first-space : (l w space : ℕ) → l < 2 ^ 64 → Some space ≡ position (λ b. b == 32) (decimal l ++ 32 ∷ decimal w) → space ≡ length (decimal l)
first-space l w space fl at =
    let all : List ℕ = decimal l ++ 32 ∷ decimal w in
    let place : position_or_len (λ b. b == 32) all ≡ length (decimal l) = number-space l (decimal w) fl in
    let long : length all ≡ length (decimal l) + suc (length (decimal w)) = length-append (decimal l) (32 ∷ decimal w) in
    let inside : nat_lt (length (decimal l)) (length all) ≡ true = grind (arith, nat_tests) in
    let found : position (λ b. b == 32) all ≡ Some (length (decimal l)) =
    (λ i. cond (nat_lt (place i) (length all)) (Some (place i)) None) ∙ ap (λ c. cond c (Some (length (decimal l))) None) inside
    in
    same_Some space (length (decimal l)) (at ∙ found)

pub around-space : (l w : ℕ) (rest : List ℕ) (space : ℕ) → l < 2 ^ 64 → rest ≡ decimal l ++ 32 ∷ decimal w → Some space ≡ position (λ b. b == 32) rest
    → (take space rest ≡ decimal l) × (drop (space + 1) rest ≡ decimal w)
around-space l w rest space fl is at =
    let all : List ℕ = decimal l ++ 32 ∷ decimal w in
    let here : space ≡ length (decimal l) = first-space l w space fl (at ∙ ap (position (λ b. b == 32)) is) in (
      (λ i. take (here i) (is i)) ∙ take-append_seam (decimal l) (32 ∷ decimal w),
      (λ i. drop (here i + 1) (is i)) ∙ sym (drop-drop 1 (length (decimal l)) all) ∙ ap (drop 1) (drop-append_seam (decimal l) (32 ∷ decimal w)),
    )

pub no-space : (l w : ℕ) → l < 2 ^ 64 → None ≡ position (λ b. b == 32) (decimal l ++ 32 ∷ decimal w) → ⊥
no-space l w fl none =
    let all : List ℕ = decimal l ++ 32 ∷ decimal w in
    let place : position_or_len (λ b. b == 32) all ≡ length (decimal l) = number-space l (decimal w) fl in
    let long : length all ≡ length (decimal l) + suc (length (decimal w)) = length-append (decimal l) (32 ∷ decimal w) in
    let inside : nat_lt (position_or_len (λ b. b == 32) all) (length all) ≡ true = grind (arith, nat_tests) in
    let e : ◌≡◌ {A = Option ℕ} None (Some (position_or_len (λ b. b == 32) all)) = none ∙ ap (λ c. cond c (Some (position_or_len (λ b. b == 32) all)) None) inside in
    cc

pub at-space : (rest : List ℕ) (space : ℕ) → Some space ≡ position (λ b. b == 32) rest → rest ≡ take space rest ++ 32 ∷ drop (space + 1) rest
at-space rest space at = elim (cases_lt (position_or_len (λ b. b == 32) rest) (length rest)) [
  | inl some ↦
      let here : space ≡ position_or_len (λ b. b == 32) rest = same_Some _ _ (rw (lt-ltb _ _ some) at at) in
      let byte = eqb-true _ 32 (passes_at_first (λ b. b == 32) rest 0 some) in
      split_at_first (λ b. b == 32) rest 0 some ∙ (λ i. take (sym here i) rest ++ byte i ∷ drop (sym here i + 1) rest)
  | inr none ↦ let off : nat_lt (position_or_len (λ b. b == 32) rest) (length rest) ≡ false = grind (arith, nat_tests) in cc (rw off at at)
]

-- ---- what follows the word of a line
pub behind-word : (line rest : List ℕ) (lines low : ℕ) → line ≡ 99 ∷ 104 ∷ 101 ∷ 99 ∷ 107 ∷ 112 ∷ 111 ∷ 105 ∷ 110 ∷ 116 ∷ 32 ∷ rest → IsHead line lines low → rest ≡ decimal lines ++ 32 ∷ decimal low
behind-word line rest lines low e h = let f : line ≡ head_text lines low = h.text in cc

pub strip-some : {R : Type 0} (now : R → List ℕ) (r : Option R) (front bytes : List ℕ)
    → MatchOption r (pointwise nat_eq (take (length front) bytes) front ≡ false) (λ x. (pointwise nat_eq (take (length front) bytes) front ≡ true) × (now x ≡ drop (length front) bytes) × (length (now x) + length front ≡ length bytes))
    → IfSome r (λ x. bytes ≡ front ++ now x)
strip-some now None front bytes h = tt
strip-some now (Some x) front bytes h = sym (take-append-drop (length front) bytes) ∙ (λ i. same_text (take (length front) bytes) front (sym h.0) i ++ sym h.1 i)

pub strip-none : {R : Type 0} (now : R → List ℕ) (r : Option R) (front bytes : List ℕ)
    → MatchOption r (pointwise nat_eq (take (length front) bytes) front ≡ false) (λ x. (pointwise nat_eq (take (length front) bytes) front ≡ true) × (now x ≡ drop (length front) bytes) × (length (now x) + length front ≡ length bytes))
    → IfNone r ((rest : List ℕ) → bytes ≡ front ++ rest → ⊥)
strip-none now None front bytes h = λ rest e. other_text (take (length front) bytes) front (sym h) (ap (take (length front)) e ∙ take-append_seam front rest)
strip-none now (Some x) front bytes h = tt

pub end-told : (line digits : List ℕ) (count : ℕ) (b : Bool) → line ≡ 101 ∷ 110 ∷ 100 ∷ 32 ∷ digits → (IsTrue b ↔ (digits ≡ decimal count)) → b ≡ is_same line (end_text count)
end-told line digits count true e h =
    let same : digits ≡ decimal count = h.0 refl in
    sym (ap (λ l. is_same l (end_text count)) (e ∙ ap (λ l. 101 ∷ 110 ∷ 100 ∷ 32 ∷ l) same) ∙ same-itself (end_text count))
end-told line digits count false e h = elim (cases_Bool (is_same line (end_text count))) [
  | inl same ↦
      let f : line ≡ end_text count = same-texts line (end_text count) same in
      let own : digits ≡ decimal count = cc in
      let t : false ≡ true = h.1 own in
      cc
  | inr other ↦ sym other
]

pub end-none : (line : List ℕ) (count : ℕ) → ((rest : List ℕ) → line ≡ 101 ∷ 110 ∷ 100 ∷ 32 ∷ rest → ⊥) → false ≡ is_same line (end_text count)
end-none line count none = elim (cases_Bool (is_same line (end_text count))) [
  | inl same ↦ absurd (none (decimal count) (same-texts line (end_text count) same))
  | inr other ↦ sym other
]
