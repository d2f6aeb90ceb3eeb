-- Keys that are named by their text.
use Rattle.std.proofs.Common.{◌≡◌, ◌≤◌, ◌↔◌, ℕ, Bool, true, false, true≢false, List, [], ◌∷◌, Option, Some, None, All, refl, sym, ap, subst, ◌∙◌, arith}
use Rattle.std.specs.Prelude.{bytes_eq, decimal, fold, if◌then◌else◌}
use Rattle.std.specs.Bool.{Decides}
use Rattle.std.specs.Cmp.{tied_itself}
use Rattle.std.specs.Cmp.Lexicographic.{bytes_decides}
use Rattle.std.specs.List.{AllByRecursion}
use Rattle.std.specs.Option.{option_map}
use Rattle.std.specs.Ordering.{is_eq}
use Rattle.std.proofs.lemmas.Bool.Decides.{same_from_decides}
use Rattle.std.proofs.lemmas.List.Elements.{recursion_from_All}
use Rattle.std.proofs.lemmas.Map.Views.{tells_apart}
use Rattle.std.proofs.lemmas.Option.{none-some, same_Some}
use Rattle.sb_emit.specs.records.declared.item.Record.{Record}
use Rattle.sb_emit.specs.records.declared.key.TheConstants.{MAX_KEY}
use Rattle.sb_emit.specs.records.declared.key.Keys.{Keys}
use Rattle.sb_emit.specs.records.declared.key.Keys.TheVariants.{Numbers, Words}
use Rattle.sb_emit.specs.records.declared.key.Key.{Key}
use Rattle.sb_emit.specs.records.declared.key.Key.TheVariants.{Number, Word}
use Rattle.sb_emit.specs.records.KeyOrder.{key_cmp_total}
use Rattle.sb_emit.specs.records.Keys.{IsKeyInRange, key_text, same_key}
use Rattle.sb_emit.specs.records.Reading.{whole_number}
use Rattle.sb_emit.specs.records.Words.{is_word}
use Rattle.sb_emit.proofs.records.Elements.{every}
use Rattle.sb_emit.proofs.records.KeyOrder.{exact_keys}
use Rattle.sb_emit.proofs.records.Numbers.{whole_number_exact}
use Rattle.sb_live.specs.Lasts.{last_if_any, last_named}
use Rattle.sb_live.specs.Naming.{key_named}

-- the number that the text spells, up to the greatest key
abbrev IsNumberOf : List ℕ → Option ℕ → Type 0
IsNumberOf text found = (n : ℕ) → (found ≡ Some n) ↔ ((n ≤ MAX_KEY) × (text ≡ decimal n))

number_spelled : (text : List ℕ) → IsNumberOf text (whole_number MAX_KEY text)
number_spelled text n = whole_number_exact MAX_KEY text n (omega arith)

-- there is one such number alone
pub number_is : (text : List ℕ) (found : Option ℕ) → IsNumberOf text found → found ≡ whole_number MAX_KEY text
number_is text None exact = by_case (whole_number MAX_KEY text) (number_spelled text)
  where
    by_case : (spelled : Option ℕ) → IsNumberOf text spelled → None ≡ spelled
    by_case None is = refl
    by_case (Some n) is = (exact n).1 ((is n).0 refl)
number_is text (Some n) exact = sym ((number_spelled text n).1 ((exact n).0 refl))

-- the key of the kind has this text
abbrev IsNamed : Keys → List ℕ → Key → Type 0
IsNamed keys text k = IsKeyInRange keys k × (key_text k ≡ text)

apart : {m : ℕ} {w : List ℕ} → Number m ≡ Word w → ⊥
apart e = true≢false (let k : true ≡ false = cc in k)

named_number : (text : List ℕ) (found : Option ℕ) → IsNumberOf text found → (k : Key) → (option_map Number found ≡ Some k) ↔ IsNamed Numbers text k
named_number text None exact (Word w) = (λ h. absurd (none-some (Word w) h), λ h. absurd h.0)
named_number text (Some m) exact (Word w) = (λ h. absurd (apart (same_Some (Number m) (Word w) h)), λ h. absurd h.0)
named_number text None exact (Number n) = (λ h. absurd (none-some (Number n) h), λ h. absurd (none-some n ((exact n).1 (h.0, sym h.1))))
named_number text (Some m) exact (Number n) = (
  λ h. let e : m ≡ n = cc in let is = (exact n).0 (ap Some e) in (is.0, sym is.1),
  λ h. ap (option_map Number) ((exact n).1 (h.0, sym h.1)),
)

named_word : (text : List ℕ) (b : Bool) → is_word text ≡ b → (k : Key) → ((if b then Some (Word text) else None) ≡ Some k) ↔ IsNamed Words text k
named_word text true is (Number n) = (λ h. absurd (apart (sym (same_Some (Word text) (Number n) h))), λ h. absurd h.0)
named_word text false is (Number n) = (λ h. absurd (none-some (Number n) h), λ h. absurd h.0)
named_word text true is (Word w) = (
  λ h. let e : text ≡ w = cc in (subst (λ z. is_word z ≡ true) e is, sym e),
  λ h. ap (λ z. Some (Word z)) (sym h.1),
)
named_word text false is (Word w) = (
  λ h. absurd (none-some (Word w) h),
  λ h. absurd (true≢false (sym h.0 ∙ ap is_word h.1 ∙ is)),
)

pub key_named-exact : (keys : Keys) (text : List ℕ) (k : Key) → (key_named keys text ≡ Some k) ↔ IsNamed keys text k
key_named-exact Numbers text k = named_number text (whole_number MAX_KEY text) (number_spelled text) k
key_named-exact Words text k = named_word text (is_word text) refl k

same_key-decides : (a b : Key) → Decides (same_key a b) (a ≡ b)
same_key-decides a b = (tells_apart exact_keys a b, λ e. subst (λ k. same_key a k ≡ true) e (ap is_eq (tied_itself key_cmp_total a)))

-- the last row that passes
abbrev last_passed : (Record → Bool) → Option Record → List Record → Option Record
last_passed p found rows = fold (λ (o : Option Record) (r : Record). if p r then Some r else o) found rows

-- tests that agree on all rows pass the same last row
passed_alike : (p q : Record → Bool) (found : Option Record) (rows : List Record) → AllByRecursion (λ r. p r ≡ q r) rows → last_passed p found rows ≡ last_passed q found rows
passed_alike p q found [] h = refl
passed_alike p q found (r ∷ rows) h = ap (λ b. last_passed p (if b then Some r else found) rows) h.0 ∙ passed_alike p q (if q r then Some r else found) rows h.1

passed_none : (rows : List Record) → last_passed (λ r. false) None rows ≡ None
passed_none [] = refl
passed_none (r ∷ rows) = passed_none rows

abbrev has_text : List ℕ → Record → Bool
has_text text r = bytes_eq (key_text r.key) text

pub last_named-is : (keys : Keys) (text : List ℕ) (rows : List Record) → All (λ r. IsKeyInRange keys r.key) rows → last_named text rows ≡ last_if_any (key_named keys text) rows
last_named-is keys text rows range = by_key (key_named keys text) (key_named-exact keys text)
  where
    alike : (q : Record → Bool) → ((r : Record) → IsKeyInRange keys r.key → has_text text r ≡ q r) → last_named text rows ≡ last_passed q None rows
    alike q same = passed_alike (has_text text) q None rows (every same rows (recursion_from_All (λ r. IsKeyInRange keys r.key) rows range))

    by_key : (named : Option Key) → ((k : Key) → (named ≡ Some k) ↔ IsNamed keys text k) → last_named text rows ≡ last_if_any named rows
    by_key None exact = alike (λ r. false) (λ r fits. not_named r fits (has_text text r) refl) ∙ passed_none rows
      where
        not_named : (r : Record) → IsKeyInRange keys r.key → (b : Bool) → has_text text r ≡ b → b ≡ false
        not_named r fits true e = absurd (none-some r.key ((exact r.key).1 (fits, (bytes_decides (key_text r.key) text).0 e)))
        not_named r fits false e = refl
    by_key (Some k) exact =
        alike (λ r. same_key r.key k) (λ r fits. same_from_decides (has_text text r) (same_key r.key k) (bytes_decides (key_text r.key) text) (
          λ same. ap key_text (tells_apart exact_keys r.key k same) ∙ ((exact k).0 refl).1,
          λ is. (same_key-decides r.key k).1 (sym (same_Some k r.key ((exact r.key).1 (fits, is)))),
        ))
