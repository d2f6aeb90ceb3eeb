-- Tests over fewer files: they give the same answer, or find that a file is not there.
use Rattle.std.proofs.Common.{◌≡◌, ◌+◌, ◌∙◌, ℕ, List, length, None, Result, Ok, Err, refl, inl, inr}
use Rattle.std.specs.Prelude.{◌⊎◌, ◌==◌, bytes_eq, nat_lt, Bool, true, false, cond}
use Rattle.std.proofs.lemmas.Bool.{cases_Bool}
use Rattle.toml.specs.Data.{Data, Items, no_items, item, Members, as_array, as_str, as_table}
use Rattle.sb_pipeline.specs.records.declared.intake.LatePolicy.{LatePolicy}
use Rattle.sb_pipeline.specs.records.declared.intake.LatePolicy.TheVariants.{Refuse}
use Rattle.sb_pipeline.specs.records.declared.key.Keys.{Keys}
use Rattle.sb_pipeline.specs.records.declared.key.Keys.TheVariants.{Numbers}
use Rattle.sb_outside.specs.Folders.{Files, without}
use Rattle.sb_pipeline.specs.pardo.TableFiles.{or_fault, then_test}
use Rattle.sb_pipeline.specs.declared.transform.TheConstants.{MAX_TRANSFORMS}
use Rattle.sb_plan.specs.declared.fault.PlanCause.{PlanCause}
use Rattle.sb_plan.specs.declared.fault.PlanCause.TheVariants as cause
use Rattle.sb_plan.specs.declared.fault.PlanFault.{PlanFault}
use Rattle.sb_plan.specs.declared.fault.PlanKey.TheVariants as key
use Rattle.sb_plan.specs.declared.wiring.Part.{Part}
use Rattle.sb_plan.specs.declared.wiring.Wiring.{Wiring}
use Rattle.sb_plan.specs.declared.words.KindName.{KindName}
use Rattle.sb_plan.specs.declared.words.KindName.TheVariants as kind
use Rattle.sb_plan.specs.declared.TheConstants.{MAX_PLAN_BYTES}
use Rattle.sb_plan.specs.Failures.{Failure, by_text, in_file}
use Rattle.sb_plan.specs.Failures.Failure.{Fails, NoFile}
use Rattle.sb_plan.specs.Keys.{typed_at, word_at, word_or}
use Rattle.sb_plan.specs.Words.{keys_named, late_named}
use Rattle.sb_plan.specs.Kinds.{file_name, lookup_at, lookup_in, transform_at}
use Rattle.sb_plan.specs.Entries.{all_keys, entry_at, is_key_of, kind_at, name_at}
use Rattle.sb_plan.specs.PlanFiles.{at_place, document_of, fault_at, first_wiring, is_document_key, item_count, plan_of, transforms_of, with_element, with_elements_from}

-- fewer files give the same answer, or that one is not there
abbrev pub SameOrNoFile : {A E : Type 0} → Result A (Failure E) → Result A (Failure E) → Type 0
SameOrNoFile fewer all = (fewer ≡ all) ⊎ (fewer ≡ Err NoFile)

pub fewer-more : {A E : Type 0} {r s t : Result A (Failure E)} → SameOrNoFile r s → SameOrNoFile s t → SameOrNoFile r t
fewer-more (inl same) (inl more) = inl (same ∙ more)
fewer-more (inl same) (inr none) = inr (same ∙ none)
fewer-more (inr none) more = inr none

-- files matter only for the next tests
then-fewer : {A B E : Type 0} (r : Result A (Failure E)) (fewer all : A → Result B (Failure E)) → ((a : A) → SameOrNoFile (fewer a) (all a))
    → SameOrNoFile (then_test r fewer) (then_test r all)
then-fewer (Ok a) fewer all next = next a
then-fewer (Err e) fewer all next = inl refl

at-fewer : {A B : Type 0} (place : ℕ) (r : Result A (Failure PlanCause)) (fewer all : A → Result B (Failure PlanFault)) → ((a : A) → SameOrNoFile (fewer a) (all a))
    → SameOrNoFile (at_place place r fewer) (at_place place r all)
at-fewer place (Ok a) fewer all next = next a
at-fewer place (Err (Fails c)) fewer all next = inl refl
at-fewer place (Err NoFile) fewer all next = inl refl

if-fewer : {B E : Type 0} (c : Bool) (r fewer all : Result B (Failure E)) → SameOrNoFile fewer all → SameOrNoFile (cond c fewer r) (cond c all r)
if-fewer true r fewer all next = next
if-fewer false r fewer all next = inl refl

unless-fewer : {B E : Type 0} (c : Bool) (r fewer all : Result B (Failure E)) → SameOrNoFile fewer all → SameOrNoFile (cond c r fewer) (cond c r all)
unless-fewer true r fewer all next = inl refl
unless-fewer false r fewer all next = next

-- files matter only for the first tests
fewer-then : {A B E : Type 0} (fewer all : Result A (Failure E)) (next : A → Result B (Failure E)) → SameOrNoFile fewer all → SameOrNoFile (then_test fewer next) (then_test all next)
fewer-then fewer all next (inl same) = inl (rw same refl)
fewer-then fewer all next (inr none) = inr (rw none refl)

fewer-at : {A B : Type 0} (place : ℕ) (fewer all : Result A (Failure PlanCause)) (next : A → Result B (Failure PlanFault)) → SameOrNoFile fewer all
    → SameOrNoFile (at_place place fewer next) (at_place place all next)
fewer-at place fewer all next (inl same) = inl (rw same refl)
fewer-at place fewer all next (inr none) = inr (rw none refl)

module _ (fewer files : Files) (is_fewer : (name : List ℕ) → (fewer name ≡ files name) ⊎ (fewer name ≡ None)) where
  file-fewer : {A E : Type 0} (read : List ℕ → Result A (Failure E)) (name : List ℕ) → SameOrNoFile (in_file read (fewer name)) (in_file read (files name))
  file-fewer read name = elim (is_fewer name) [ inl same ↦ inl (rw same refl) | inr none ↦ inr (rw none refl) ]

  lookup-fewer : (keys : Keys) (table : Members) → SameOrNoFile (lookup_at fewer keys table) (lookup_at files keys table)
  unfolding lookup_at
  lookup-fewer keys table = then-fewer (by_text (word_at file_name key.Table table)) _ _ (λ name. file-fewer (λ bytes. by_text (lookup_in keys bytes)) name)

  transform-fewer : (keys : Keys) (of : KindName) (table : Members) → SameOrNoFile (transform_at fewer keys of table) (transform_at files keys of table)
  unfolding transform_at
  transform-fewer keys kind.Filter table = inl refl
  transform-fewer keys kind.Map table = inl refl
  transform-fewer keys kind.Expand table = inl refl
  transform-fewer keys kind.Lookup table = lookup-fewer keys table
  transform-fewer keys (kind.Group agg) table = inl refl
  transform-fewer keys kind.Top table = inl refl
  transform-fewer keys kind.Session table = inl refl
  transform-fewer keys kind.Join table = inl refl

  entry-fewer : (keys : Keys) (parts : List Part) (table : Members) → SameOrNoFile (entry_at fewer keys parts table) (entry_at files keys parts table)
  unfolding entry_at
  entry-fewer keys parts table =
      then-fewer (by_text (name_at parts table)) _ _ (λ own.
      then-fewer (by_text (kind_at table)) _ _ (λ of.
      if-fewer (all_keys (is_key_of of) table) (Err (Fails cause.UnknownField)) _ _ (
      then-fewer (by_text (typed_at as_str key.From table)) _ _ (λ left.
      fewer-then (transform_at fewer keys of table) (transform_at files keys of table) _ (transform-fewer keys of table)))))

  element-fewer : (wiring : Wiring) (value : Data) → SameOrNoFile (with_element fewer wiring value) (with_element files wiring value)
  unfolding with_element
  element-fewer wiring value =
      then-fewer (by_text (or_fault (cause.WrongType key.Transform) (as_table value))) _ _ (λ table.
      fewer-then (entry_at fewer wiring.keys wiring.parts table) (entry_at files wiring.keys wiring.parts table) _ (entry-fewer wiring.keys wiring.parts table))

  elements-fewer : (place : ℕ) (wiring : Wiring) (items : Items) → SameOrNoFile (with_elements_from fewer place wiring items) (with_elements_from files place wiring items)
  unfolding with_elements_from
  elements-fewer place wiring no_items = inl refl
  elements-fewer place wiring (item value rest) =
      fewer-more
      (fewer-at place (with_element fewer wiring value) (with_element files wiring value) (λ more. with_elements_from fewer (place + 1) more rest) (element-fewer wiring value))
      (at-fewer place (with_element files wiring value) (λ more. with_elements_from fewer (place + 1) more rest) (λ more. with_elements_from files (place + 1) more rest) (λ more. elements-fewer (place + 1) more rest))

  transforms-fewer : (late : LatePolicy) (keys : Keys) (items : Items) → SameOrNoFile (transforms_of fewer late keys items) (transforms_of files late keys items)
  unfolding transforms_of
  transforms-fewer late keys items =
      unless-fewer (item_count items == 0) (Err (Fails (fault_at 0 (cause.OutOfRange key.Transform)))) _ _ (
      unless-fewer (nat_lt MAX_TRANSFORMS (item_count items)) (Err (Fails (fault_at 0 cause.TooMany))) _ _ (
      fewer-then (with_elements_from fewer 1 (first_wiring late keys) items) (with_elements_from files 1 (first_wiring late keys) items) _ (elements-fewer 1 (first_wiring late keys) items)))

  -- the plan of a text
  pub plan-fewer : (text : List ℕ) → SameOrNoFile (plan_of fewer text) (plan_of files text)
  unfolding plan_of
  plan-fewer text =
      unless-fewer (nat_lt MAX_PLAN_BYTES (length text)) (Err (Fails (fault_at 0 cause.TooLong))) _ _ (
      at-fewer 0 (by_text (or_fault cause.NotToml (document_of text))) _ _ (λ document.
      if-fewer (all_keys is_document_key document) (Err (Fails (fault_at 0 cause.UnknownField))) _ _ (
      at-fewer 0 (by_text (word_or Refuse late_named key.Late document)) _ _ (λ late.
      at-fewer 0 (by_text (word_or Numbers keys_named key.Keys document)) _ _ (λ keys.
      at-fewer 0 (by_text (typed_at as_array key.Transform document)) _ _ (transforms-fewer late keys))))))

  -- one element more, which passes with the file
  pub wired-more : (place : ℕ) (old new : Wiring) (value : Data) (rest : Items) → with_element files old value ≡ Ok new
      → SameOrNoFile (with_elements_from fewer place old (item value rest)) (with_elements_from fewer (place + 1) new rest)
  unfolding with_elements_from
  wired-more place old new value rest h = elim (element-fewer old value) [
    | inl same ↦ inl (rw same (rw h refl))
    | inr none ↦ inr (rw none refl)
  ]

-- one element more, which passes with all files
pub wired-fewer : (files : Files) (name : List ℕ) (place : ℕ) (old new : Wiring) (value : Data) (rest : Items) → with_element files old value ≡ Ok new
    → SameOrNoFile (with_elements_from (without name files) place old (item value rest)) (with_elements_from (without name files) (place + 1) new rest)
wired-fewer files name = wired-more (without name files) files (λ other. elim (cases_Bool (bytes_eq name other)) [ inl same ↦ inr (rw same refl) | inr differs ↦ inl (rw differs refl) ])

-- an element whose file is not there
pub wired-absent : (files : Files) (place : ℕ) (wiring : Wiring) (value : Data) (rest : Items) → with_element files wiring value ≡ Err NoFile
    → with_elements_from files place wiring (item value rest) ≡ Err NoFile
unfolding with_elements_from
wired-absent files place wiring value rest h = rw h refl
