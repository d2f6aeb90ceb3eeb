-- Keys by their text.
use Rattle.std.specs.Prelude.{ℕ, List, Option, Some, None, if◌then◌else◌}
use Rattle.std.specs.Option.{option_map}
use Rattle.sb_emit.specs.records.declared.key.TheConstants.{MAX_KEY}
use Rattle.sb_emit.specs.records.declared.key.Keys.{Keys}
use Rattle.sb_emit.specs.records.declared.key.Keys.TheVariants.{Numbers, Words}
use Rattle.sb_emit.specs.records.declared.key.Key.{Key}
use Rattle.sb_emit.specs.records.declared.key.Key.TheVariants.{Number, Word}
use Rattle.sb_emit.specs.records.Reading.{whole_number}
use Rattle.sb_emit.specs.records.Words.{is_word}

-- the key with this text, where keys are numbers or words
abbrev pub key_named : Keys → List ℕ → Option Key
key_named Numbers text = option_map Number (whole_number MAX_KEY text)
key_named Words text = if is_word text then Some (Word text) else None
