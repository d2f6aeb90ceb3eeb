-- The generated input: its items, and their text.
use Rattle.std.specs.Prelude.{ℕ, pos, ◌+◌, ◌-◌, ◌*◌, ◌/◌, ◌%◌, ◌-ℤ◌, ◌==◌, if◌then◌else◌, List, [], ◌∷◌, ◌++◌, flat_map}
use Rattle.std.specs.List.{range_with_len}
use Rattle.sb_record.specs.declared.item.Item.{Item}
use Rattle.sb_record.specs.declared.item.Item.TheVariants.{Rec, Mark, Skip, Late}
use Rattle.sb_record.specs.declared.item.Record.{Record}
use Rattle.sb_record.specs.declared.item.Stream.TheVariants.{A}
use Rattle.sb_record.specs.declared.key.Key.TheVariants.{Number}
use Rattle.sb_record.specs.Lines.{record_text, mark_text}
use Rattle.sb_outside.specs.Lines.{line_feed}
use Rattle.sb_generator.specs.declared.pattern.TheConstants.{GROUP, KEYS, VALUES, VALUE_STEP, VALUE_OFFSET}

-- record i: times fall within a group, keys come in turn, and values jump
abbrev pub record_at : ℕ → Record
record_at i = record {
  time = GROUP * (i / GROUP) + (GROUP - 1) - i % GROUP;
  key = Number (i % KEYS);
  value = pos (VALUE_STEP * i % VALUES) -ℤ pos VALUE_OFFSET;
}

-- record i, and behind the last of a group the watermark above all times so far
abbrev pub items_at : ℕ → List Item
items_at i = Rec A (record_at i) ∷ (if i % GROUP == GROUP - 1 then Mark A (i + 1) ∷ [] else [])

-- the items of the first n records
abbrev pub generated_items : ℕ → List Item
generated_items n = flat_map items_at (range_with_len 0 n)

-- the line of a record or a watermark. No other item is generated
abbrev pub line_of : Item → List ℕ
line_of (Rec s r) = record_text s r
line_of (Mark s t) = mark_text s t
line_of Skip = []
line_of (Late n t m) = []

-- the lines of these items, each with its line end
abbrev pub text_of : List Item → List ℕ
text_of items = flat_map (λ item. line_of item ++ line_feed ∷ []) items

-- the text of the first n records and their watermarks
abbrev pub generated_text : ℕ → List ℕ
generated_text n = text_of (generated_items n)
