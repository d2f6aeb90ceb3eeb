-- What an operation gives for a record.
use Rattle.std.specs.Prelude.{ℕ, ℤ, pos, Bool, false, if◌then◌else◌, Option, Some, None, List, [], ◌∷◌, map, length, ◌%◌, ◌/◌}
use Rattle.std.specs.Int.{int_wrapping_add, int_wrapping_mul, w64}
use Rattle.std.specs.Ordering.{int_cmp, is_lt, is_le, is_eq, is_ge, is_gt}
use Rattle.std.specs.FinMap.{get}
use Rattle.sb_record.specs.declared.item.Record.{Record}
use Rattle.sb_record.specs.declared.key.Key.{Key as RecordKey}
use Rattle.sb_record.specs.declared.key.Key.TheVariants.{Number}
use Rattle.sb_pardo.specs.declared.operation.Field.{Field}
use Rattle.sb_pardo.specs.declared.operation.Field.TheVariants.{Time, Key, Value}
use Rattle.sb_pardo.specs.declared.operation.Test.{Test}
use Rattle.sb_pardo.specs.declared.operation.Test.TheVariants.{Less, AtMost, Equal, AtLeast, More}
use Rattle.sb_pardo.specs.declared.operation.Change.{Change}
use Rattle.sb_pardo.specs.declared.operation.Change.TheVariants.{KeyMod, KeyDiv, KeySet, ValueAdd, ValueMul, ValueSet}
use Rattle.sb_pardo.specs.declared.operation.Op.{Op}
use Rattle.sb_pardo.specs.declared.operation.Op.TheVariants.{Filter, Map, Expand, Lookup}
use Rattle.sb_pardo.specs.KeyNumbers.{number_changed, number_of}

-- the field, as a whole number; none for a key that is a word
abbrev pub field_of : Field → Record → Option ℤ
field_of Time r = Some (pos r.time)
field_of Key r = number_of r.key
field_of Value r = Some r.value

-- whether x stands in the test's relation to n
abbrev pub passes : Test → ℤ → ℤ → Bool
passes Less x n = is_lt (int_cmp x n)
passes AtMost x n = is_le (int_cmp x n)
passes Equal x n = is_eq (int_cmp x n)
passes AtLeast x n = is_ge (int_cmp x n)
passes More x n = is_gt (int_cmp x n)

-- whether it is a number that stands in the test's relation to n
abbrev pub is_passed : Test → Option ℤ → ℤ → Bool
is_passed test None n = false
is_passed test (Some x) n = passes test x n

-- the record with n added to its value, or its value times n, modulo 2^64
abbrev pub value_plus : Record → ℤ → Record
value_plus r n = record r { value = int_wrapping_add w64 r.value n }

abbrev pub value_times : Record → ℤ → Record
value_times r n = record r { value = int_wrapping_mul w64 r.value n }

abbrev pub changed_record : Change → Record → Record
changed_record (KeyMod n) r = record r { key = number_changed (λ k. k % n) r.key }
changed_record (KeyDiv n) r = record r { key = number_changed (λ k. k / n) r.key }
changed_record (KeySet n) r = record r { key = Number n }
changed_record (ValueAdd n) r = value_plus r n
changed_record (ValueMul n) r = value_times r n
changed_record (ValueSet n) r = record r { value = n }

-- the record under the image of its key, where there is one
abbrev pub with_image : Option RecordKey → Record → List Record
with_image (Some image) r = record r { key = image } ∷ []
with_image None r = []

abbrev pub outputs_of : Op → Record → List Record
outputs_of (Filter field test n) r = if is_passed test (field_of field r) n then r ∷ [] else []
outputs_of (Map change) r = changed_record change r ∷ []
outputs_of (Expand addends) r = map (value_plus r) addends
outputs_of (Lookup table) r = with_image (get table r.key) r

-- the most records that the operation gives for one
abbrev pub most_outputs : Op → ℕ
most_outputs (Filter field test n) = 1
most_outputs (Map change) = 1
most_outputs (Expand addends) = length addends
most_outputs (Lookup table) = 1
