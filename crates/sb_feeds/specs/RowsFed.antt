-- Rows that go through a ring, one value after another.
use Rattle.std.specs.Prelude.{◌<◌, Bool, true, false, List, [], ◌∷◌, flat_map, All, ⊤}
use Rattle.std.specs.List.{list_any}
use Rattle.sb_feed.specs.base.records.declared.item.Record.{Record}
use Rattle.sb_feed.specs.base.records.declared.item.TheConstants.{END_MARK}
use Rattle.sb_feed.specs.emit.Outputs.{AreApart}
use Rattle.sb_feeds.specs.declared.rows.fed.RowsFed.{RowsFed}
use Rattle.sb_feeds.specs.declared.rows.fed.RowsFed.TheVariants.{End, Rows}

-- the rows of a value
abbrev pub rows_of : RowsFed → List Record
rows_of (Rows rows) = rows.items
rows_of End = []

-- the rows of all the values
abbrev pub all_rows : List RowsFed → List Record
all_rows values = flat_map rows_of values

-- the rule of the ring: an output may be given the rows
abbrev pub IsTimely : RowsFed → Type 0
IsTimely (Rows rows) = All (λ r. r.time < END_MARK) rows.items
IsTimely End = ⊤

-- whether the end is among the values
abbrev pub is_end : RowsFed → Bool
is_end (Rows rows) = false
is_end End = true

abbrev pub has_end : List RowsFed → Bool
has_end values = list_any is_end values

-- each row of a value is earlier than all rows of the values behind it
abbrev pub AreInTurn : List RowsFed → Type 0
AreInTurn [] = ⊤
AreInTurn (v ∷ values) = AreApart (rows_of v) (all_rows values) × AreInTurn values
