-- What stands at the keys of a table.
use Rattle.std.specs.Prelude.{codes, bytes_eq, ℕ, ℤ, pos, negsuc, nat_le, Bool, ◌&&◌, if◌then◌else◌, List, Option, Some, None, is_some, Result, Ok}
use Rattle.std.specs.List.{list_any}
use Rattle.toml.specs.Data.{Data, Members, get_member, as_integer, as_str}
use Rattle.sb_pipeline.specs.pardo.TableFiles.{then_test, or_fault}
use Rattle.sb_plan.specs.declared.fault.PlanKey.{PlanKey}
use Rattle.sb_plan.specs.declared.fault.PlanKey.TheVariants as key
use Rattle.sb_plan.specs.declared.fault.PlanCause.{PlanCause}
use Rattle.sb_plan.specs.declared.fault.PlanCause.TheVariants.{Missing, WrongType, OutOfRange}

-- a key as it stands in the file
unfoldable pub key_text : PlanKey → List ℕ
key_text key.Transform = codes "transform"
key_text key.Late = codes "late"
key_text key.Keys = codes "keys"
key_text key.Name = codes "name"
key_text key.Kind = codes "kind"
key_text key.From = codes "from"
key_text key.With = codes "with"
key_text key.Field = codes "field"
key_text key.Test = codes "test"
key_text key.Number = codes "number"
key_text key.Change = codes "change"
key_text key.Addends = codes "addends"
key_text key.Table = codes "table"
key_text key.Size = codes "size"
key_text key.Every = codes "every"
key_text key.Keep = codes "keep"
key_text key.Gap = codes "gap"
key_text key.Give = codes "give"

-- whether the text is one of these keys
abbrev pub is_one_of : List PlanKey → List ℕ → Bool
is_one_of keys text = list_any (λ k. bytes_eq text (key_text k)) keys

-- the value at a key: it is there, and it has this type
abbrev pub typed_at : {A : Type 0} → (Data → Option A) → PlanKey → Members → Result A PlanCause
typed_at as_type k table =
    then_test (or_fault (Missing k) (get_member (key_text k) table)) (λ value. or_fault (WrongType k) (as_type value))

-- the word at a key: a text that is one of its words
unfoldable pub word_at : {A : Type 0} → (List ℕ → Option A) → PlanKey → Members → Result A PlanCause
word_at word_of k table = then_test (typed_at as_str k table) (λ text. or_fault (OutOfRange k) (word_of text))

-- the word at a key that may be left out, and is then this one
unfoldable pub word_or : {A : Type 0} → A → (List ℕ → Option A) → PlanKey → Members → Result A PlanCause
word_or default word_of k table =
    if is_some (get_member (key_text k) table) then word_at word_of k table else Ok default

-- an integer as a number from low to high
abbrev pub number_between : ℕ → ℕ → ℤ → Option ℕ
number_between low high (pos n) = if nat_le low n && nat_le n high then Some n else None
number_between low high (negsuc n) = None

-- the number at a key, from low to high
unfoldable pub number_at : ℕ → ℕ → PlanKey → Members → Result ℕ PlanCause
number_at low high k table =
    then_test (typed_at as_integer k table) (λ number. or_fault (OutOfRange k) (number_between low high number))
