-- What a table gives.
use Rattle.std.specs.Prelude.{IfSome}
use Rattle.std.specs.FinMap.{FinMap, get}
use Rattle.sb_record.specs.declared.key.Key.{Key}
use Rattle.sb_record.specs.Keys.{IsKey, key_cmp}

-- each image is a key that a record may have
abbrev pub HasKeyImages : FinMap key_cmp Key → Type 0
HasKeyImages table = (key : Key) → IfSome (get table key) IsKey
