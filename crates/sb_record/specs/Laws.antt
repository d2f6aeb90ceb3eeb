-- The laws of lines, and the limits of lines and of records as numbers.
use Rattle.std.specs.Prelude.{◌≡◌, ℕ, ◌-◌, ◌*◌, ◌^◌, ◌↔◌, List, Some}
use Rattle.sb_record.specs.declared.intake.TheConstants.{MAX_LINES, MAX_LINE_LENGTH}
use Rattle.sb_record.specs.declared.item.TheConstants.{MAX_TIME, END_MARK}
use Rattle.sb_record.specs.declared.key.TheConstants.{MAX_KEY, MAX_WORD_LENGTH}
use Rattle.sb_record.specs.declared.item.Item.{Item}
use Rattle.sb_record.specs.declared.item.Record.{Record}
use Rattle.sb_record.specs.declared.key.Keys.{Keys}
use Rattle.sb_record.specs.Lines.{IsTextOf}
use Rattle.sb_record.specs.Reading.{item_of}
use Rattle.sb_record.specs.Records.{count_of}
use Rattle.sb_record.specs.Reorderings.{IsReordered}

-- the greatest time and number key of an input, the most bytes of a word, the watermark at the input's end, and the
-- most lines and bytes of a line
pub record Limits : Type 0 where
  pub time : MAX_TIME ≡ 10 ^ 15
  pub key : MAX_KEY ≡ 10 ^ 18
  pub word : MAX_WORD_LENGTH ≡ 24
  pub end : END_MARK ≡ 2 * 10 ^ 15
  pub lines : MAX_LINES ≡ 2 ^ 32 - 1
  pub length : MAX_LINE_LENGTH ≡ 128

-- a line is read as an item exactly if it is a text of the item
abbrev pub LinesAreItemsByTheirText : Type 0
LinesAreItemsByTheirText =
    (keys : Keys) (line : List ℕ) (item : Item) → (item_of keys line ≡ Some item) ↔ IsTextOf keys item line

-- lists of records differ in order alone exactly if they hold each record equally often
abbrev pub CountsTellReorderings : Type 0
CountsTellReorderings = (l m : List Record) → IsReordered l m ↔ ((r : Record) → count_of r l ≡ count_of r m)
