-- What was fed of the items of an input.
use Rattle.std.specs.Prelude.{◌≡◌, ◌≤◌, ◌++◌, ℕ, true, if◌then◌else◌, List, [], ◌∷◌, flat_map, length, ⊤}
use Rattle.std.specs.List.{AllByRecursion}
use Rattle.sb_base.specs.records.declared.item.Item.{Item}
use Rattle.sb_base.specs.records.declared.item.Item.TheVariants as item
use Rattle.sb_base.specs.records.declared.item.Record.{Record}
use Rattle.sb_base.specs.records.declared.item.Stream.{Stream}
use Rattle.sb_base.specs.records.declared.item.Stream.TheVariants.{A, B}
use Rattle.sb_base.specs.records.declared.item.Streams.{Streams}
use Rattle.sb_base.specs.records.declared.item.TheConstants.{END_MARK}
use Rattle.sb_base.specs.records.declared.intake.Stop.{Stop}
use Rattle.sb_base.specs.records.declared.intake.Stop.TheVariants.{End, Refused, Fault}
use Rattle.sb_base.specs.records.Streams.{uses, watermark_in, last_watermark, records_of}
use Rattle.sb_base.specs.bundle.Cuts.{first_cutting}
use Rattle.sb_base.specs.bundle.Cutting.{Cutting}
use Rattle.sb_base.specs.bundle.Laws.{bundles_of, cutting_after}
use Rattle.sb_feed.specs.declared.cutters.Cutters.{Cutters}
use Rattle.sb_feed.specs.Calls.{calls_of}
use Rattle.sb_feed.specs.Feeds.{Fed, bundles_in, marks_in, floor_in, records_of_feed, IsFrom}

-- before the first record
abbrev pub new_cutters : ℕ → Cutters
new_cutters size = record { a = first_cutting size; b = first_cutting size }

-- the cutter of a stream
abbrev pub cutter_of : Cutters → Stream → Cutting
cutter_of c A = c.a
cutter_of c B = c.b

abbrev pub with_cutter : Stream → Cutting → Cutters → Cutters
with_cutter A d c = record c { a = d }
with_cutter B d c = record c { b = d }

-- what was fed of the stream is what its cutter gives by these items, and the cutter holds the rest
pub record IsStreamFedBy (size : ℕ) (s : Stream) (items : List Item) (f : Fed) (c : Cutting) : Type 0 where
  pub bundles : bundles_in f s ≡ bundles_of size (calls_of s items)
  pub marks : marks_in f s ≡ flat_map (watermark_in s) items
  pub cut : c ≡ cutting_after size (calls_of s items)
  pub sized : c.size ≡ size
  pub floor : c.floor ≡ floor_in f s
  pub epoch : c.epoch ≡ length (marks_in f s)
  pub held : AllByRecursion (IsFrom c.floor) c.held
  pub few_bundles : length (bundles_in f s) ≤ length items
  pub few_marks : length (marks_in f s) ≤ length items

-- the same of both streams
pub record IsFedBy (size : ℕ) (items : List Item) (f : Fed) (c : Cutters) : Type 0 where
  pub of_a : IsStreamFedBy size A items f c.a
  pub of_b : IsStreamFedBy size B items f c.b

-- what was fed of the records of these items, and what was not yet
pub record Covers (items : List Item) (f : Fed) : Type 0 where
  pub rest : Stream → List Record
  pub are : (s : Stream) → records_of_feed f s ++ rest s ≡ records_of s items
  pub coming : (s : Stream) → AllByRecursion (IsFrom (floor_in f s)) (rest s)
  pub floors : (s : Stream) → floor_in f s ≤ last_watermark s items

-- the item's stream is one of these, and its time is not below the stream's last watermark among the items before
abbrev pub IsTimely : Streams → List Item → Item → Type 0
IsTimely streams items (item.Rec s r) = (uses streams s ≡ true) × IsFrom (last_watermark s items) r
IsTimely streams items (item.Mark s t) = (uses streams s ≡ true) × (last_watermark s items ≤ t) × (t ≤ END_MARK)
IsTimely streams items item.Skip = ⊤
IsTimely streams items (item.Late n t m) = ⊤

-- the end of a stream of the plan counts as a watermark above every time
abbrev pub end_item : Streams → Stream → List Item
end_item streams s = if uses streams s then item.Mark s END_MARK ∷ [] else []

-- so does the end of the input, on each stream
abbrev pub end_items : Streams → Stop → List Item
end_items streams End = end_item streams A ++ end_item streams B
end_items streams (Refused refusal) = []
end_items streams Fault = []
