-- What every operation keeps of a record, by cases on it.
use Rattle.std.proofs.Common.{◌≡◌, ◌≤◌, ◌%◌, ◌/◌, ℕ, Bool, true, false, Option, Some, None, IfSome, if◌then◌else◌, [], ◌∷◌, length, refl, arith}
use Rattle.std.proofs.lemmas.Bool.{cond_both}
use Rattle.std.proofs.lemmas.List.{length-map}
use Rattle.std.proofs.Math.Nat.{div-le_self}
use Rattle.std.specs.List.{AllByRecursion}
use Rattle.std.specs.FinMap.{get}
use Rattle.sb_record.specs.declared.item.Record.{Record}
use Rattle.sb_record.specs.declared.key.Key.{Key}
use Rattle.sb_record.specs.declared.key.Key.TheVariants.{Number, Word}
use Rattle.sb_record.specs.Keys.{IsKey}
use Rattle.sb_record.proofs.Elements.{All-map}
use Rattle.sb_pardo.specs.declared.operation.Change.{Change}
use Rattle.sb_pardo.specs.declared.operation.Change.TheVariants.{KeyMod, KeyDiv, KeySet, ValueAdd, ValueMul, ValueSet}
use Rattle.sb_pardo.specs.declared.operation.Op.TheVariants.{Filter, Map, Expand, Lookup}
use Rattle.sb_pardo.specs.Outputs.{changed_record, field_of, is_passed, value_plus, with_image}
use Rattle.sb_pardo.specs.KeyNumbers.{number_changed}
use Rattle.sb_pardo.specs.Validity.{IsValidChange}
use Rattle.sb_pardo.specs.Laws.{OutputsKeepKeysInRange, OutputsKeepTheTime, OutputsAreFew}

all_kept : (P : Record → Type 0) (b : Bool) (r : Record) → P r → AllByRecursion P (if b then r ∷ [] else [])
all_kept P true r p = (p, tt)
all_kept P false r p = tt

time_with_image : (image : Option Key) (r : Record) → AllByRecursion (λ output. output.time ≡ r.time) (with_image image r)
time_with_image (Some image) r = (refl, tt)
time_with_image None r = tt

key_with_image : (image : Option Key) (r : Record) → IfSome image IsKey → AllByRecursion (λ output. IsKey output.key) (with_image image r)
key_with_image (Some image) r small = (small, tt)
key_with_image None r small = tt

time-changed : (change : Change) (r : Record) → (changed_record change r).time ≡ r.time
time-changed (KeyMod n) r = refl
time-changed (KeyDiv n) r = refl
time-changed (KeySet n) r = refl
time-changed (ValueAdd n) r = refl
time-changed (ValueMul n) r = refl
time-changed (ValueSet n) r = refl

-- a change that makes no number greater
number_kept : (change : ℕ → ℕ) → ((k : ℕ) → change k ≤ k) → (key : Key) → IsKey key → IsKey (number_changed change key)
number_kept change less (Number k) small = omega (arith, less k)
number_kept change less (Word w) small = small

key_changed : (change : Change) (r : Record) → IsValidChange change → IsKey r.key → IsKey (changed_record change r).key
key_changed (KeyMod n) r valid small = number_kept (λ k. k % n) (λ k. omega arith) r.key small
key_changed (KeyDiv n) r valid small = number_kept (λ k. k / n) (λ k. div-le_self k n) r.key small
key_changed (KeySet n) r valid small = valid
key_changed (ValueAdd n) r valid small = small
key_changed (ValueMul n) r valid small = small
key_changed (ValueSet n) r valid small = small

pub outputs_keep_time : OutputsKeepTheTime
outputs_keep_time (Filter field test n) r = all_kept (λ output. output.time ≡ r.time) (is_passed test (field_of field r) n) r refl
outputs_keep_time (Map change) r = (time-changed change r, tt)
outputs_keep_time (Expand addends) r = All-map (λ output. output.time ≡ r.time) (value_plus r) (λ n. refl) addends
outputs_keep_time (Lookup table) r = time_with_image (get table r.key) r

pub outputs_keep_keys : OutputsKeepKeysInRange
outputs_keep_keys (Filter field test n) r valid small = all_kept (λ output. IsKey output.key) (is_passed test (field_of field r) n) r small
outputs_keep_keys (Map change) r valid small = (key_changed change r valid small, tt)
outputs_keep_keys (Expand addends) r valid small = All-map (λ output. IsKey output.key) (value_plus r) (λ n. small) addends
outputs_keep_keys (Lookup table) r valid small = key_with_image (get table r.key) r (valid r.key)

few_with_image : (image : Option Key) (r : Record) → length (with_image image r) ≤ 1
few_with_image (Some image) r = omega arith
few_with_image None r = omega arith

pub outputs_few : OutputsAreFew
outputs_few (Filter field test n) r valid = (cond_both (is_passed test (field_of field r) n) (r ∷ []) [] (λ l. length l ≤ 1) (λ e. omega arith) (λ e. omega arith), omega arith)
outputs_few (Map change) r valid = (omega arith, omega arith)
outputs_few (Expand addends) r valid = (omega (arith, length-map addends (value_plus r)), valid.1)
outputs_few (Lookup table) r valid = (few_with_image (get table r.key) r, omega arith)
