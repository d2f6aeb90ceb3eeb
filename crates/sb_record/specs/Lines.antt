-- The line grammar: the text that an item has, without its line end.
use Rattle.std.specs.Prelude.{◌≡◌, ◌≤◌, ◌<◌, ◌^◌, ℕ, List, ◌∷◌, ◌++◌, decimal}
use Rattle.std.specs.Fmt.{signed_decimal}
use lib.Signed.{mag}
use Rattle.sb_record.specs.declared.item.TheConstants.{MAX_TIME}
use Rattle.sb_record.specs.declared.item.Record.{Record}
use Rattle.sb_record.specs.declared.item.Stream.{Stream}
use Rattle.sb_record.specs.declared.item.Stream.TheVariants.{A, B}
use Rattle.sb_record.specs.declared.item.Item.{Item}
use Rattle.sb_record.specs.declared.item.Item.TheVariants.{Rec, Mark, Skip, Late}
use Rattle.sb_record.specs.declared.key.Keys.{Keys}
use Rattle.sb_record.specs.Keys.{key_text, IsKeyInRange}

-- `a` or `b`
abbrev pub letter : Stream → ℕ
letter A = 97
letter B = 98

-- `r,S,T,K,V`
abbrev pub record_text : Stream → Record → List ℕ
record_text s r = 114 ∷ 44 ∷ letter s ∷ 44 ∷ (decimal r.time ++ 44 ∷ (key_text r.key ++ 44 ∷ signed_decimal r.value))

-- `w,S,T`
abbrev pub mark_text : Stream → ℕ → List ℕ
mark_text s t = 119 ∷ 44 ∷ letter s ∷ 44 ∷ decimal t

-- the times, keys and values that a line can give
pub record IsInRange (keys : Keys) (r : Record) : Type 0 where
  pub time : r.time ≤ MAX_TIME
  pub key : IsKeyInRange keys r.key
  pub value : mag r.value < 2 ^ 63

-- the items that lines can give, where keys are numbers or words
abbrev pub IsItemInRange : Keys → Item → Type 0
IsItemInRange keys (Rec s r) = IsInRange keys r
IsItemInRange keys (Mark s t) = t ≤ MAX_TIME
IsItemInRange keys Skip = Unit {0}
IsItemInRange keys (Late n t m) = t ≤ MAX_TIME

-- the line is a text of the item: a record or a watermark has one text, and a comment is any line that begins with `#`.
-- No line is a text of a late record as such
abbrev pub IsTextOf : Keys → Item → List ℕ → Type 0
IsTextOf keys (Rec s r) line = IsInRange keys r × (line ≡ record_text s r)
IsTextOf keys (Mark s t) line = (t ≤ MAX_TIME) × (line ≡ mark_text s t)
IsTextOf keys Skip line = (rest : List ℕ) × (line ≡ 35 ∷ rest)
IsTextOf keys (Late n t m) line = ⊥
