-- What one table of a plan file says.
use Rattle.std.specs.Prelude.{codes, bytes_eq, ℕ, nat_le, ◌==◌, Bool, true, false, not, ◌&&◌, ◌||◌, if◌then◌else◌, List, [], ◌∷◌, length, Option, Some, None, Result, Ok, Err}
use Rattle.std.specs.List.{list_all, list_any}
use Rattle.toml.specs.Data.{Members, no_members, member, as_str}
use Rattle.sb_pipeline.specs.records.declared.key.Keys.{Keys}
use Rattle.sb_outside.specs.Folders.{Files}
use Rattle.sb_pipeline.specs.pardo.TableFiles.{then_test, or_fault}
use Rattle.sb_plan.specs.declared.entry.Entry.{Entry}
use Rattle.sb_plan.specs.declared.wiring.Part.{Part}
use Rattle.sb_plan.specs.declared.fault.PlanKey.{PlanKey}
use Rattle.sb_plan.specs.declared.fault.PlanKey.TheVariants as key
use Rattle.sb_plan.specs.declared.fault.PlanCause.{PlanCause}
use Rattle.sb_plan.specs.declared.fault.PlanCause.TheVariants.{NameTaken, UnknownField, UnknownKind}
use Rattle.sb_plan.specs.declared.words.KindName.{KindName}
use Rattle.sb_plan.specs.declared.words.KindName.TheVariants as kind
use Rattle.sb_plan.specs.declared.TheConstants.{MAX_NAME_BYTES}
use Rattle.sb_plan.specs.Failures.{Failure, by_text}
use Rattle.sb_plan.specs.Failures.Failure.{Fails}
use Rattle.sb_plan.specs.Keys.{is_one_of, typed_at, word_at}
use Rattle.sb_plan.specs.Words.{kind_named}
use Rattle.sb_plan.specs.Kinds.{transform_at}

-- a letter from a to z
abbrev pub is_letter : ℕ → Bool
is_letter byte = nat_le 97 byte && nat_le byte 122

-- a letter, a digit or an underscore
abbrev pub is_name_byte : ℕ → Bool
is_name_byte byte = is_letter byte || (nat_le 48 byte && nat_le byte 57) || (byte == 95)

abbrev pub begins_with_letter : List ℕ → Bool
begins_with_letter [] = false
begins_with_letter (byte ∷ bytes) = is_letter byte

-- the name of a stream
abbrev pub is_stream_name : List ℕ → Bool
is_stream_name text = bytes_eq text (codes "a") || bytes_eq text (codes "b")

-- the spelling of a name: 1 to 32 such bytes, a letter first
abbrev pub is_spelled_as_name : List ℕ → Bool
is_spelled_as_name text = begins_with_letter text && nat_le (length text) MAX_NAME_BYTES && list_all is_name_byte text

-- a text as the name of a transform, which has no stream's name
unfoldable pub name_of : List ℕ → Option (List ℕ)
name_of text = if is_spelled_as_name text && not (is_stream_name text) then Some text else None

-- the name of the transform, which no earlier one has
unfoldable pub name_at : List Part → Members → Result (List ℕ) PlanCause
name_at parts table =
    then_test (word_at name_of key.Name table) (λ name.
    if list_any (λ part. bytes_eq part.name name) parts then Err NameTaken else Ok name)

-- the name of its kind
unfoldable pub kind_at : Members → Result KindName PlanCause
kind_at table = then_test (typed_at as_str key.Kind table) (λ text. or_fault UnknownKind (kind_named text))

-- the keys of a kind
abbrev pub own_keys : KindName → List PlanKey
own_keys kind.Filter = key.Field ∷ key.Test ∷ key.Number ∷ []
own_keys kind.Map = key.Change ∷ key.Number ∷ []
own_keys kind.Expand = key.Addends ∷ []
own_keys kind.Lookup = key.Table ∷ []
own_keys (kind.Group agg) = key.Size ∷ key.Every ∷ []
own_keys kind.Top = key.Size ∷ key.Every ∷ key.Keep ∷ []
own_keys kind.Session = key.Gap ∷ key.Give ∷ []
own_keys kind.Join = key.Size ∷ key.Give ∷ key.With ∷ []

-- whether a table of this kind may have the key
abbrev pub is_key_of : KindName → List ℕ → Bool
is_key_of name text = is_one_of (key.Name ∷ key.Kind ∷ key.From ∷ []) text || is_one_of (own_keys name) text

-- whether all keys of a table pass
abbrev pub all_keys : (List ℕ → Bool) → Members → Bool
all_keys passes no_members = true
all_keys passes (member k value rest) = passes k && all_keys passes rest

-- the right input, which only a join has
unfoldable pub right_at : KindName → Members → Result (Option (List ℕ)) PlanCause
right_at kind.Join table = then_test (typed_at as_str key.With table) (λ input. Ok (Some input))
right_at _ table = Ok None

-- all that the table says by itself, if keys and the transforms before it are these
unfoldable pub entry_at : Files → Keys → List Part → Members → Result Entry (Failure PlanCause)
entry_at files keys parts table =
    then_test (by_text (name_at parts table)) (λ name.
    then_test (by_text (kind_at table)) (λ kind_name.
    if all_keys (is_key_of kind_name) table
    then then_test (by_text (typed_at as_str key.From table)) (λ left.
    then_test (transform_at files keys kind_name table) (λ transform.
    then_test (by_text (right_at kind_name table)) (λ right.
    Ok (record { name = name; kind = transform; left = left; right = right }))))
    else Err (Fails UnknownField)))
