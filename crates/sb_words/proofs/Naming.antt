-- Which options the words of options name.
use Rattle.std.proofs.Common.{◌≡◌, ℕ, ◌+◌, ◌%◌, ◌≤◌, ◌<◌, ◌++◌, ◌||◌, ◌∙◌, List, [], ◌∷◌, map, Bool, true, false, refl, ap, arith}
use Rattle.std.specs.Prelude.{String, string_bytes, decimal}
use Rattle.std.specs.List.{AllByRecursion, flat_map, list_any}
use Rattle.std.specs.Str.{bytes_eq}
use Rattle.std.proofs.lemmas.Bool.{false_from_ne_true}
use Rattle.std.proofs.lemmas.Fmt.{decimal_by_steps}
use Rattle.std.proofs.lemmas.List.Folds.{list_any-append}
use Rattle.std.proofs.lemmas.Slice.Eq.{bytes_eq-Decides}
use Rattle.sb_words.specs.declared.setting.Setting.{Setting}
use Rattle.sb_words.specs.declared.setting.Setting.TheVariants.{Workers, Bundle, Pending, Diary, Taps}
use Rattle.sb_words.specs.Options.{IsSetting, name_of, words_of_option, value_of}
use Rattle.sb_words.specs.Texts.{texts}

-- a list that begins with a digit
abbrev pub BeginsWithDigit : ℕ → List ℕ → Type 0
BeginsWithDigit n digits = (first : ℕ) × (more : List ℕ) × (digits ≡ first ∷ more) × (48 ≤ first)

pub decimal_begins : (n : ℕ) → n < 18446744073709551616 → BeginsWithDigit n (decimal n)
decimal_begins n fits = decimal_by_steps BeginsWithDigit
    (λ k small. (48 + k, [], refl, omega arith))
    (λ k digits big begins. (begins.0, begins.1 ++ (48 + k % 10) ∷ [], ap (λ ds. ds ++ (48 + k % 10) ∷ []) begins.2, begins.3))
    n (omega arith)

abbrev head_of : List ℕ → ℕ
head_of [] = 0
head_of (byte ∷ bytes) = byte

name_begins : (s : Setting) → head_of (name_of s) ≡ 45
name_begins (Workers n) = refl
name_begins (Bundle n) = refl
name_begins (Pending n) = refl
name_begins Diary = refl
name_begins Taps = refl

-- the name of an option is no number
no_number : (s : Setting) (n : ℕ) → n < 18446744073709551616 → bytes_eq (name_of s) (decimal n) ≡ false
no_number s n fits = false_from_ne_true _ (λ same.
    let begins = decimal_begins n fits in
    let e : head_of (name_of s) ≡ begins.0 = ap head_of ((bytes_eq-Decides _ _).0 same ∙ begins.2) in
    let digit : 48 ≤ begins.0 = begins.3 in
    let dash = name_begins s in
    absurd (omega arith))

-- no value of an option is the name of one
no_value : (s t : Setting) → IsSetting t → list_any (bytes_eq (name_of s)) (value_of t) ≡ false
no_value s (Workers n) is = ap (λ b. b || false) (no_number s n (omega arith))
no_value s (Bundle n) is = ap (λ b. b || false) (no_number s n (omega arith))
no_value s (Pending n) is = ap (λ b. b || false) (no_number s n (omega arith))
no_value s Diary is = refl
no_value s Taps is = refl

-- the words of options have this name if one of the options does
pub named : (s : Setting) (settings : List Setting) → AllByRecursion IsSetting settings
    → list_any (bytes_eq (name_of s)) (flat_map words_of_option settings) ≡ list_any (bytes_eq (name_of s)) (map name_of settings)
named s [] range = refl
named s (t ∷ settings) range =
    let first = bytes_eq (name_of s) (name_of t) in
    ap (λ b. first || b) (list_any-append (bytes_eq (name_of s)) (value_of t) (flat_map words_of_option settings) ∙ rw (no_value s t range.0) (named s settings range.1))

-- a test that no element passes
pub none_passes : {X : Type 0} (test : X → Bool) (xs : List X) → AllByRecursion (λ x. test x ≡ false) xs → list_any test xs ≡ false
none_passes test [] all = refl
none_passes test (x ∷ xs) all = rw all.0 (none_passes test xs all.1)

pub passes_none : {X : Type 0} (test : X → Bool) (xs : List X) → list_any test xs ≡ false → AllByRecursion (λ x. test x ≡ false) xs
passes_none test [] none = tt
passes_none test (x ∷ xs) none = parts (test x) refl (passes_none test xs)
  where
    parts : (b : Bool) → test x ≡ b → (list_any test xs ≡ false → AllByRecursion (λ y. test y ≡ false) xs)
        → (test x ≡ false) × AllByRecursion (λ y. test y ≡ false) xs
    parts false e rest = (e, rest (rw e at none))
    parts true e rest = absurd (cc (rw e at none))

-- a test of words is one of their texts
pub any_text : {Y : Type 0} (test : List ℕ → Bool) (words : List (String Y)) → list_any (λ w. test (string_bytes w)) words ≡ list_any test (texts words)
any_text test [] = refl
any_text test (w ∷ words) = ap (λ b. test (string_bytes w) || b) (any_text test words)
