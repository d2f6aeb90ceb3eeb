-- The operations that a plan may have.
use Rattle.std.specs.Prelude.{◌≤◌, ℕ, length}
use Rattle.sb_record.specs.declared.key.TheConstants.{MAX_KEY}
use Rattle.sb_pardo.specs.declared.operation.TheConstants.{MAX_ADDENDS}
use Rattle.sb_pardo.specs.declared.operation.Change.{Change}
use Rattle.sb_pardo.specs.declared.operation.Change.TheVariants.{KeyMod, KeyDiv, KeySet, ValueAdd, ValueMul, ValueSet}
use Rattle.sb_pardo.specs.declared.operation.Op.{Op}
use Rattle.sb_pardo.specs.declared.operation.Op.TheVariants.{Filter, Map, Expand, Lookup}
use Rattle.sb_pardo.specs.Tables.{HasKeyImages}

-- keys are divided by 1 to the greatest key
abbrev pub IsDivisor : ℕ → Type 0
IsDivisor n = (1 ≤ n) × (n ≤ MAX_KEY)

-- a number that a key may be stays one
abbrev pub IsValidChange : Change → Type 0
IsValidChange (KeyMod n) = IsDivisor n
IsValidChange (KeyDiv n) = IsDivisor n
IsValidChange (KeySet n) = n ≤ MAX_KEY
IsValidChange (ValueAdd n) = Unit {0}
IsValidChange (ValueMul n) = Unit {0}
IsValidChange (ValueSet n) = Unit {0}

abbrev pub IsValid : Op → Type 0
IsValid (Filter field test n) = Unit {0}
IsValid (Map change) = IsValidChange change
IsValid (Expand addends) = (1 ≤ length addends) × (length addends ≤ MAX_ADDENDS)
IsValid (Lookup table) = HasKeyImages table
