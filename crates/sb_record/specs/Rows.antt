-- Rows as they are printed.
use Rattle.std.specs.Prelude.{ℕ, ◌+◌, List, [], ◌∷◌, ◌++◌, decimal, flat_map}
use Rattle.std.specs.Fmt.{signed_decimal}
use Rattle.sb_record.specs.declared.item.Record.{Record}
use Rattle.sb_record.specs.Keys.{key_text}

-- `end,key,value` and a line feed, where the end of the window is the row's time plus 1
abbrev pub row_text : Record → List ℕ
row_text r = decimal (r.time + 1) ++ 44 ∷ (key_text r.key ++ 44 ∷ (signed_decimal r.value ++ 10 ∷ []))

-- the text of rows, one after another
abbrev pub text_of : List Record → List ℕ
text_of rows = flat_map row_text rows
