-- A key as plain data: its number, or the bytes of its word.
use Rattle.std.specs.Prelude.{◌≡◌, ℕ, List, ◌⊎◌, refl}
use Rattle.std.proofs.Common.{inl, inr}
use Rattle.std.specs.Coded.{Coded, code_by, coded_ℕ, coded_list, coded⊎}
use Rattle.sb_record.specs.declared.key.Key.{Key}
use Rattle.sb_record.specs.declared.key.Key.TheVariants.{Number, Word}

abbrev split : Key → ℕ ⊎ List ℕ
split (Number n) = inl n
split (Word w) = inr w

abbrev join : ℕ ⊎ List ℕ → Key
join (inl n) = Number n
join (inr w) = Word w

pub join-split : (key : Key) → join (split key) ≡ key
join-split (Number n) = refl
join-split (Word w) = refl

abbrev pub coded_key : Coded Key
coded_key = code_by (ℕ ⊎ List ℕ) (coded⊎ coded_ℕ (coded_list coded_ℕ)) split join join-split
