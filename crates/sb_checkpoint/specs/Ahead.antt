-- Lines that are given before the bytes of a source.
use Rattle.std.specs.Prelude.{◌≡◌, ◌⊎◌, ℕ, ◌+◌, List, [], ◌∷◌, ◌++◌, Option, None, Some, drop, length, replicate, slice_get}
use Rattle.std.specs.Io.KnownBytes.{Consumes}
use Rattle.sb_pipeline.specs.records.declared.item.Item.{Item}
use Rattle.sb_pipeline.specs.records.declared.item.Item.TheVariants.{Skip}
use Rattle.sb_checkpoint.specs.Texts.{item_text, with_end}

-- the bytes of the line at hand that are left, and those of the lines behind it
pub record Lines : Type 0 where
  pub at_hand : List ℕ
  pub behind : List ℕ

-- all the bytes that are left
abbrev pub bytes : Lines → List ℕ
bytes l = l.at_hand ++ l.behind

-- the text is the line of the item at this place
pub record IsLineAt (items : List Item) (place : ℕ) (text : List ℕ) : Type 0 where
  pub item : Item
  pub at : slice_get items place ≡ Some item
  pub is : text ≡ with_end (item_text item)

-- so many comments, and then the items from this place on
abbrev pub items_left : ℕ → ℕ → List Item → List Item
items_left comments place items = replicate comments Skip ++ drop place items

-- lines, the source whose bytes come behind them, and what it was at first
pub record Before (S : Type 0) : Type 0 where
  pub lines : List ℕ
  pub source : S
  pub begun : S

-- all the lines were read, and then the source behind them gave more bytes, or none; or nothing of it was read
abbrev pub AllReadOrNoneOfTheSource : List ℕ → Option (List ℕ) → Option (List ℕ) → Type 0
AllReadOrNoneOfTheSource lines left left' =
    ((lines ≡ []) × (more : List ℕ) × Consumes left left' more) ⊎ (left' ≡ left)

-- a name that begins with what was left of a source
abbrev pub name_behind : Option (List ℕ) → List ℕ → List ℕ
name_behind None name = 0 ∷ name
name_behind (Some left) name = (length left + 1) ∷ left ++ name
