-- The list in which a table has the images of small numbers a second time.
use Rattle.std.specs.Prelude.{◌≡◌, ◌<◌, ℕ, List, Option, Some, None, nat_lt, if◌then◌else◌, slice_index_or}
use Rattle.std.specs.FinMap.{FinMap, get}
use Rattle.sb_record.specs.Keys.{key_cmp}
use Rattle.sb_record.specs.declared.key.Key.{Key}
use Rattle.sb_record.specs.declared.key.Key.TheVariants.{Number, Word}
use Rattle.sb_pardo.specs.declared.table.TheConstants.{LISTED_KEYS}

-- the number of a key whose image is in the list
abbrev pub listed_number : Key → Option ℕ
listed_number (Number n) = if nat_lt n LISTED_KEYS then Some n else None
listed_number (Word w) = None

-- the list has the image of each such number at its place, and nothing where the table has none
abbrev pub IsListed : List (Option Key) → FinMap key_cmp Key → Type 0
IsListed listed table = (n : ℕ) → n < LISTED_KEYS → slice_index_or listed n None ≡ get table (Number n)
