-- Numbers that words spell.
use Rattle.std.proofs.Common.{◌≡◌, ◌↔◌, ℕ, ◌≤◌, List, Some, Option, arith, refl, sym, ◌∙◌}
use Rattle.std.specs.Prelude.{decimal}
use Rattle.std.proofs.lemmas.Option.{same_Some}

-- a number within a bound that is not 0 is at least 1
pub is_count : (v most bound : ℕ) (text word : List ℕ) → (v ≡ 0 → ⊥) → bound ≡ most → text ≡ word
    → ((n : ℕ) → (◌≡◌ {A = Option ℕ} (Some v) (Some n)) ↔ ((n ≤ bound) × (text ≡ decimal n)))
    → (n : ℕ) → (◌≡◌ {A = Option ℕ} (Some v) (Some n)) ↔ ((1 ≤ n) × (n ≤ most) × (word ≡ decimal n))
is_count v most bound text word some within spelled exact n = (
  λ e.
      let same = same_Some v n e in
      let both = (exact n).0 e in
      (omega (arith, some, same), omega (arith, both.0), sym spelled ∙ both.1),
  λ is. (exact n).1 (omega (arith, is.1), spelled ∙ is.2),
)

-- what is spelled by a word that gives this number
pub spells : (v most : ℕ) (text : List ℕ) → ((n : ℕ) → (◌≡◌ {A = Option ℕ} (Some v) (Some n)) ↔ ((1 ≤ n) × (n ≤ most) × (text ≡ decimal n)))
    → (1 ≤ v) × (v ≤ most) × (text ≡ decimal v)
spells v most text exact = (exact v).0 refl
