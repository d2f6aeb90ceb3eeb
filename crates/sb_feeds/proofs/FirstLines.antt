-- The first line of bytes, where more bytes follow them.
use Rattle.std.proofs.Common.{◌≡◌, ◌==◌, ◌⊎◌, ℕ, ◌++◌, List, [], ◌∷◌, true, false, Err, refl, sym, ap, ◌∙◌, inl, inr}
use Rattle.std.proofs.lemmas.Bool.{cases_Bool}
use Rattle.sb_feed.specs.base.records.declared.intake.Refusal.{Refusal}
use Rattle.sb_feed.specs.base.records.Intake.{answer_to}
use Rattle.sb_feed.specs.base.records.Progress.{Progress}
use Rattle.sb_feed.specs.outside.Lines.{without_cr, is_too_long, lines_from}
use Rattle.sb_feed.proofs.outside.FirstLines.{begun_too_long}
use Rattle.sb_feed.proofs.ReadSteps.{too_long_tested}

-- the first of the lines is this one, or both are too long
pub record BeginsAs (line : List ℕ) (ls : List (List ℕ)) : Type 0 where
  pub first : List ℕ
  pub others : List (List ℕ)
  pub are : ls ≡ first ∷ others
  pub same : (first ≡ line) ⊎ ((is_too_long first ≡ true) × (is_too_long line ≡ true))

-- a line that the bytes show is still the first with more bytes, or too long as it was
pub first_with_more : (bytes begun later line : List ℕ) (rest : List (List ℕ)) → lines_from false begun bytes ≡ line ∷ rest → BeginsAs line (lines_from true begun (bytes ++ later))
first_with_more [] begun later line rest h = elim (cases_Bool (is_too_long (without_cr begun))) [
  | inl long ↦
      let is : without_cr begun ∷ [] ≡ line ∷ rest = rw long at h in
      let same : without_cr begun ≡ line = cc is in
      let begins = begun_too_long later true begun long in
      record { first = begins.line; others = begins.others; are = begins.first; same = inr (begins.long, ap is_too_long (sym same) ∙ long) }
  | inr short ↦ let none : ◌≡◌ {A = List (List ℕ)} [] (line ∷ rest) = rw short at h in absurd (cc none)
]
first_with_more (b ∷ bytes) begun later line rest h = elim (cases_Bool (b == 10)) [
  | inl ends ↦
      let is : without_cr begun ∷ lines_from false [] bytes ≡ line ∷ rest = rw ends at h in
      record { first = without_cr begun; others = lines_from true [] (bytes ++ later); are = rw ends refl; same = inl (cc is) }
  | inr within ↦
      let goes_on : lines_from false (begun ++ b ∷ []) bytes ≡ line ∷ rest = rw within at h in
      rw within (first_with_more bytes (begun ++ b ∷ []) later line rest goes_on)
]

-- so it is refused as it was
pub still_refused : (p : Progress) (line : List ℕ) (ls : List (List ℕ)) (refusal : Refusal) → answer_to p line ≡ Err refusal → (b : BeginsAs line ls) → answer_to p b.first ≡ Err refusal
still_refused p line ls refusal bad b = by_case b.same
  where
    by_case : (b.first ≡ line) ⊎ ((is_too_long b.first ≡ true) × (is_too_long line ≡ true)) → answer_to p b.first ≡ Err refusal
    by_case (inl same) = ap (answer_to p) same ∙ bad
    by_case (inr (long, also)) = too_long_tested p b.first long ∙ sym (too_long_tested p line also) ∙ bad
