-- A file that is read no further than shows that it is too long.
use Rattle.std.proofs.Common.{◌≡◌, ◌≤◌, ◌+◌, ◌∙◌, ℕ, List, [], ◌∷◌, true, length, take, Some, Ok, Err, sym, ap, refl, arith, inl, inr}
use Rattle.std.specs.Prelude.{nat_lt, ◌⊎◌}
use Rattle.std.proofs.lemmas.Bool.{cases_Bool, ltb-false, lt-ltb, ltb-true}
use Rattle.std.proofs.lemmas.List.{length-take-le, take_all}
use Rattle.toml.specs.Data.{Members, as_str}
use Rattle.sb_pipeline.specs.records.declared.key.Keys.{Keys}
use Rattle.sb_outside.specs.Folders.{Files}
use Rattle.sb_plan.specs.declared.fault.PlanKey.TheVariants as key
use Rattle.sb_plan.specs.declared.TheConstants.{MAX_TABLE_BYTES}
use Rattle.sb_plan.specs.Failures.{by_text}
use Rattle.sb_plan.specs.Failures.Failure.{NoFile}
use Rattle.sb_plan.specs.Keys.{typed_at, word_at}
use Rattle.sb_plan.specs.Kinds.{lookup_at, lookup_in}
use Rattle.sb_plan.specs.Wants.{no_files}

-- as much of a file as shows whether it has more than so many bytes: all of it, unless it has
pub cut : (most : ℕ) (bytes : List ℕ) → (take (most + 1) bytes ≡ bytes) ⊎ ((nat_lt most (length bytes) ≡ true) × (nat_lt most (length (take (most + 1) bytes)) ≡ true))
cut most bytes = elim (cases_Bool (nat_lt most (length bytes))) [
  | inl long ↦
      let more : most + 1 ≤ length bytes = omega (arith, ltb-true most (length bytes) long) in
      inr (long, lt-ltb most (length (take (most + 1) bytes)) (omega (arith, length-take-le (most + 1) bytes more)))
  | inr short ↦ inl (take_all (most + 1) bytes (omega (arith, ltb-false most (length bytes) short)))
]

lookup-cut : (keys : Keys) (bytes : List ℕ) → lookup_in keys (take (MAX_TABLE_BYTES + 1) bytes) ≡ lookup_in keys bytes
unfolding lookup_in
lookup-cut keys bytes = elim (cut MAX_TABLE_BYTES bytes) [
  | inl all ↦ ap (lookup_in keys) all
  | inr long ↦ rw long.0 (rw long.1 refl)
]

-- the look-up in the file that was read
pub lookup-read : (files : Files) (keys : Keys) (table : Members) (name bytes read : List ℕ) → typed_at as_str key.Table table ≡ Ok name → 1 ≤ length name → files name ≡ Some bytes
    → read ≡ take (MAX_TABLE_BYTES + 1) bytes → lookup_at files keys table ≡ by_text (lookup_in keys read)
unfolding lookup_at word_at
lookup-read files keys table [] bytes read typed some found cut_off = absurd (omega arith)
lookup-read files keys table (c ∷ cs) bytes read typed some found cut_off = rw typed (rw found (ap by_text (sym (ap (lookup_in keys) cut_off ∙ lookup-cut keys bytes))))

-- a look-up whose file has a name wants that file
pub lookup-unfound : (keys : Keys) (table : Members) (name : List ℕ) → typed_at as_str key.Table table ≡ Ok name → 1 ≤ length name → lookup_at no_files keys table ≡ Err NoFile
unfolding lookup_at word_at
lookup-unfound keys table [] typed some = absurd (omega arith)
lookup-unfound keys table (c ∷ cs) typed some = rw typed refl
