-- The text of a checkpoint, and what a text means when it is read.
use Rattle.std.specs.Prelude.{◌≡◌, ◌<◌, ◌^◌, ◌+◌, ◌==◌, ◌⊎◌, ℕ, Bool, true, false, ◌&&◌, not, nat_le, if◌then◌else◌, List, [], ◌∷◌, ◌++◌, length, flat_map, decimal, Option, Some, None, Result, Ok, Err}
use Rattle.std.specs.List.{slice_split}
use Rattle.sb_outside.specs.Lines.{line_feed}
use Rattle.sb_pipeline.specs.records.declared.intake.TheConstants.{MAX_LINES}
use Rattle.sb_pipeline.specs.records.declared.item.Item.{Item}
use Rattle.sb_pipeline.specs.records.declared.item.Item.TheVariants.{Rec, Mark, Skip, Late}
use Rattle.sb_pipeline.specs.records.declared.item.Stream.TheVariants.{A, B}
use Rattle.sb_pipeline.specs.records.Lines.{record_text, mark_text}
use Rattle.sb_pipeline.specs.records.Reading.{item_of}
use Rattle.sb_pipeline.specs.records.Streams.{uses, last_watermark}
use Rattle.sb_pipeline.specs.Shapes.{Shape, streams_of}
use Rattle.sb_checkpoint.specs.Reach.{reach, is_within}
use Rattle.sb_checkpoint.specs.Checkpoints.{low_of}

-- the line of an item, without its end; a comment is `#` alone, and so is what stands in place of a dropped record
abbrev pub item_text : Item → List ℕ
item_text (Rec s r) = record_text s r
item_text (Mark s t) = mark_text s t
item_text Skip = 35 ∷ []
item_text (Late n t m) = 35 ∷ []

-- `checkpoint LINES LOW`
abbrev pub head_text : ℕ → ℕ → List ℕ
head_text lines low =
    99 ∷ 104 ∷ 101 ∷ 99 ∷ 107 ∷ 112 ∷ 111 ∷ 105 ∷ 110 ∷ 116 ∷ 32 ∷ (decimal lines ++ 32 ∷ decimal low)

-- `end COUNT`
abbrev pub end_text : ℕ → List ℕ
end_text count = 101 ∷ 110 ∷ 100 ∷ 32 ∷ decimal count

-- the line with its end
abbrev pub with_end : List ℕ → List ℕ
with_end line = line ++ 10 ∷ []

-- the lines of the items, each with its end
abbrev pub items_text : List Item → List ℕ
items_text items = flat_map (λ i. with_end (item_text i)) items

-- the text of the checkpoint of so many lines, with this low watermark and these items
abbrev pub checkpoint_text : ℕ → ℕ → List Item → List ℕ
checkpoint_text lines low items =
    with_end (head_text lines low) ++ (items_text items ++ with_end (end_text (length items)))

-- whether the item may come where these are the last watermarks of a and b: first records that can be part of a row
-- from the low watermark on, then a watermark of a, then one of b
abbrev pub may_come : Shape → ℕ → ℕ → ℕ → Item → Bool
may_come plan low a b (Rec s r) =
    uses (streams_of plan) s && (is_within (reach plan) low r.time && ((a == 0) && (b == 0)))
may_come plan low a b (Mark A t) = uses (streams_of plan) A && (not (t == 0) && ((a == 0) && (b == 0)))
may_come plan low a b (Mark B t) = uses (streams_of plan) B && (not (t == 0) && (b == 0))
may_come plan low a b Skip = false
may_come plan low a b (Late n t m) = false

-- whether it may stand after these
abbrev pub may_follow : Shape → ℕ → List Item → Item → Bool
may_follow plan low items item = may_come plan low (last_watermark A items) (last_watermark B items) item

-- whether a checkpoint of so many lines, with this low watermark and these items, can be that of an input
abbrev pub is_whole : Shape → ℕ → ℕ → List Item → Bool
is_whole plan lines low items = nat_le (length items) lines && (nat_le lines MAX_LINES && (low == low_of plan items))

-- whether the line of this item may stand there
abbrev pub may_stand : Shape → ℕ → List Item → Option Item → Bool
may_stand plan low items None = false
may_stand plan low items (Some item) = may_follow plan low items item

-- the items and this one, if it is one
abbrev pub with_item : List Item → Option Item → List Item
with_item items None = items
with_item items (Some item) = items ++ item ∷ []

-- whether the texts are the same
abbrev pub is_same : List ℕ → List ℕ → Bool
is_same [] [] = true
is_same [] (y ∷ ys) = false
is_same (x ∷ xs) [] = false
is_same (x ∷ xs) (y ∷ ys) = (x == y) && is_same xs ys

-- nothing stands after the last line
abbrev pub if_last : List Item → List (List ℕ) → Result (List Item) ℕ
if_last items ([] ∷ []) = Ok items
if_last items pieces = Err (length items + 3)

-- the items of a checkpoint, or the number of its first faulty line: what stands between the line feeds after its first
-- line, where these items were read; the last piece, behind the last line feed, is no line
abbrev pub read_pieces : Shape → ℕ → ℕ → List Item → List ℕ → List (List ℕ) → Result (List Item) ℕ
read_pieces plan lines low items line [] = Err (length items + 2)
read_pieces plan lines low items line (next ∷ pieces) =
    if may_stand plan low items (item_of plan.keys line)
    then read_pieces plan lines low (with_item items (item_of plan.keys line)) next pieces
    else if is_same line (end_text (length items)) && is_whole plan lines low items then if_last items (next ∷ pieces)
    else Err (length items + 2)

-- the same of all pieces behind the first line, if there are any
abbrev pub read_lines : Shape → ℕ → ℕ → List Item → List (List ℕ) → Result (List Item) ℕ
read_lines plan lines low items [] = Err (length items + 2)
read_lines plan lines low items (line ∷ pieces) = read_pieces plan lines low items line pieces

-- the items, or the number of the faulty line if there is one
abbrev pub answer_of : List Item → Option ℕ → Result (List Item) ℕ
answer_of items None = Ok items
answer_of items (Some line) = Err line

-- the parts of a text before, between and behind its line feeds: one more than it has of these
abbrev pub pieces : List ℕ → List (List ℕ)
pieces text = slice_split (λ b. b == line_feed) text

-- the text is that of the number
abbrev pub IsNumber : ℕ → List ℕ → Type 0
IsNumber n text = (n < 2 ^ 64) × (text ≡ decimal n)

-- the line is the first one of a checkpoint of so many lines with this low watermark
pub record IsHead (line : List ℕ) (lines low : ℕ) : Type 0 where
  pub few_lines : lines < 2 ^ 64
  pub small_low : low < 2 ^ 64
  pub text : line ≡ head_text lines low

-- the first of the pieces is the first line, which says so many lines and this low watermark, and this is what the
-- others give
pub record Gives (plan : Shape) (pieces : List (List ℕ)) (lines low : ℕ) (answer : Result (List Item) ℕ) : Type 0 where
  pub head : List ℕ
  pub next : List ℕ
  pub rest : List (List ℕ)
  pub split : pieces ≡ head ∷ next ∷ rest
  pub is_head : IsHead head lines low
  pub others : read_pieces plan lines low [] next rest ≡ answer

-- the pieces are a checkpoint of so many lines, with this low watermark and these items
abbrev pub IsRead : Shape → List (List ℕ) → ℕ → ℕ → List Item → Type 0
IsRead plan pieces lines low items = Gives plan pieces lines low (Ok items)

-- there is no first line, since no line feed ends it, or it is not that of a checkpoint
abbrev pub HasNoHead : List (List ℕ) → Type 0
HasNoHead (head ∷ next ∷ rest) = (lines low : ℕ) → IsHead head lines low → ⊥
HasNoHead pieces = Unit {0}

-- the number of the first faulty line: the first line, or one behind it
abbrev pub IsFaultAt : Shape → List (List ℕ) → ℕ → Type 0
IsFaultAt plan pieces line =
    (HasNoHead pieces × (line ≡ 1)) ⊎ ((lines : ℕ) × (low : ℕ) × Gives plan pieces lines low (Err line))
