-- What was fed once the end of the input was: all records of the items, and the last watermark of each stream of the plan.
use Rattle.std.proofs.Common.{◌≡◌, ℕ, Bool, true, false, List, [], ◌∷◌, ◌++◌, Option, Result, Ok, Err, refl, sym, ap, ◌∙◌, append-nil}
use Rattle.std.specs.Prelude.{is_some, if◌then◌else◌, flat_map}
use Rattle.std.proofs.lemmas.Bool.{true≢false}
use Rattle.std.proofs.lemmas.List.Concat.{flat_map-append}
use Rattle.sb_feeds.specs.base.records.declared.item.Item.{Item}
use Rattle.sb_feeds.specs.base.records.declared.item.Item.TheVariants as item
use Rattle.sb_feeds.specs.base.records.declared.item.Stream.{Stream}
use Rattle.sb_feeds.specs.base.records.declared.item.Stream.TheVariants.{A, B}
use Rattle.sb_feeds.specs.base.records.declared.item.Streams.{Streams}
use Rattle.sb_feeds.specs.base.records.declared.item.TheConstants.{END_MARK}
use Rattle.sb_feeds.specs.base.records.declared.intake.Refusal.{Refusal}
use Rattle.sb_feeds.specs.base.records.declared.intake.Stop.TheVariants.{End}
use Rattle.sb_feeds.specs.base.records.Inputs.{accepted_if}
use Rattle.sb_feeds.specs.base.records.Intake.{answer_to}
use Rattle.sb_feeds.specs.base.records.Streams.{last_or, records_of, uses, watermark_in}
use Rattle.sb_feeds.specs.outside.Lines.{lines}
use Rattle.sb_feeds.specs.base.bundle.declared.bundle.Bundle.{Bundle}
use Rattle.sb_feeds.specs.base.bundle.Calls as calls
use Rattle.sb_feeds.specs.base.bundle.Calls.{Call, records_in_order, parts_of}
use Rattle.sb_feeds.specs.base.bundle.Calls.Call.{Mark, Push}
use Rattle.sb_feeds.specs.base.bundle.Cuts.{first_cutting}
use Rattle.sb_feeds.specs.base.bundle.Laws.{bundles_of}
use Rattle.sb_feeds.specs.base.pipeline.Shapes.{Shape, streams_of}
use Rattle.sb_hand.specs.tally.Whole.{marks_of}
use Rattle.sb_hand.proofs.tally.Cutters.{cutter-records}
use Rattle.sb_feeds.specs.one_feed.declared.cutters.Cutters.{Cutters}
use Rattle.sb_feeds.specs.one_feed.Calls.{call_in, calls_of}
use Rattle.sb_feeds.specs.one_feed.FedByItems.{IsFedBy, IsStreamFedBy, IsTimely, cutter_of, end_items}
use Rattle.sb_feeds.specs.one_feed.Feeds.{Fed, bundles_in, records_of_feed, floor_in, marks_in}
use Rattle.sb_feeds.specs.one_feed.Given.{Given, items_of}
use Rattle.sb_feeds.proofs.one_feed.FirstRows.{pushed}
use Rattle.sb_feeds.proofs.one_feed.ItemSteps.{fed_stream}
use Rattle.sb_feeds.proofs.one_feed.LaterItems.{following, said_by, tested_is_timely}
use Rattle.sb_alone.proofs.Standing.{last_more}

-- ---- a stream that the plan does not use has no item
one_quiet : (streams : Streams) (items : List Item) (s : Stream) (i : Item) → uses streams s ≡ false → IsTimely streams items i → call_in s i ≡ []
one_quiet streams items A (item.Rec A r) unused h = absurd (true≢false (sym h.0 ∙ unused))
one_quiet streams items B (item.Rec B r) unused h = absurd (true≢false (sym h.0 ∙ unused))
one_quiet streams items A (item.Mark A t) unused h = absurd (true≢false (sym h.0 ∙ unused))
one_quiet streams items B (item.Mark B t) unused h = absurd (true≢false (sym h.0 ∙ unused))
one_quiet streams items A (item.Rec B r) unused h = refl
one_quiet streams items B (item.Rec A r) unused h = refl
one_quiet streams items A (item.Mark B t) unused h = refl
one_quiet streams items B (item.Mark A t) unused h = refl
one_quiet streams items A item.Skip unused h = refl
one_quiet streams items B item.Skip unused h = refl
one_quiet streams items A (item.Late n t m) unused h = refl
one_quiet streams items B (item.Late n t m) unused h = refl

all_quiet : (plan : Shape) (s : Stream) → uses (streams_of plan) s ≡ false → (all : List (List ℕ)) (items : List Item) → calls_of s items ≡ [] → calls_of s (following plan items all).items ≡ []
all_quiet plan s unused [] items h = h
all_quiet plan s unused (line ∷ later) items h = by_result (answer_to (said_by plan items) line) refl (λ more. all_quiet plan s unused later more)
  where
    by_result : (r : Result Item Refusal) → answer_to (said_by plan items) line ≡ r
        → ((more : List Item) → calls_of s more ≡ [] → calls_of s (following plan more later).items ≡ [])
        → calls_of s (accepted_if r items (λ more. following plan more later)).items ≡ []
    by_result (Ok i) e on =
        on (items ++ i ∷ []) (
        flat_map-append (call_in s) items (i ∷ []) ∙ ap (λ l. l ++ calls_of s (i ∷ [])) h ∙ append-nil (call_in s i) ∙ one_quiet (streams_of plan) items s i unused (tested_is_timely plan items line i e))
    by_result (Err refusal) e on = h

-- no stream says what the plan does not read
abbrev pub IsQuiet : Shape → List Item → Type 0
IsQuiet plan items = (s : Stream) → uses (streams_of plan) s ≡ false → calls_of s items ≡ []

no_calls : (s : Stream) → calls_of s [] ≡ []
no_calls A = refl
no_calls B = refl

pub items_are_quiet : {left left' : Option (List ℕ)} (plan : Shape) (given : Given left left') → IsQuiet plan (items_of plan given)
items_are_quiet plan given = λ s unused. all_quiet plan s unused (lines given.ended given.bytes) [] (no_calls s)

-- ---- the end of the input, as each stream takes it
abbrev if_used : {X : Type 0} → Bool → X → List X
if_used used x = if used then x ∷ [] else []

end_calls : (a b : Bool) (s : Stream) → calls_of s (end_items (record { a = a; b = b }) End) ≡ if_used (uses (record { a = a; b = b }) s) (Mark END_MARK)
end_calls true true A = refl
end_calls true true B = refl
end_calls true false A = refl
end_calls true false B = refl
end_calls false true A = refl
end_calls false true B = refl
end_calls false false A = refl
end_calls false false B = refl

end_marks : (a b : Bool) (s : Stream) → flat_map (watermark_in s) (end_items (record { a = a; b = b }) End) ≡ if_used (uses (record { a = a; b = b }) s) END_MARK
end_marks true true A = refl
end_marks true true B = refl
end_marks true false A = refl
end_marks true false B = refl
end_marks false true A = refl
end_marks false true B = refl
end_marks false false A = refl
end_marks false false B = refl

-- the marks of items, and then the last mark
marks_then : (s : Stream) (items : List Item) → flat_map (watermark_in s) items ++ END_MARK ∷ [] ≡ marks_of (calls_of s items)
marks_then A [] = refl
marks_then B [] = refl
marks_then A (item.Rec A r ∷ items) = marks_then A items
marks_then A (item.Rec B r ∷ items) = marks_then A items
marks_then B (item.Rec A r ∷ items) = marks_then B items
marks_then B (item.Rec B r ∷ items) = marks_then B items
marks_then A (item.Mark A t ∷ items) = ap (λ l. t ∷ l) (marks_then A items)
marks_then A (item.Mark B t ∷ items) = marks_then A items
marks_then B (item.Mark A t ∷ items) = marks_then B items
marks_then B (item.Mark B t ∷ items) = ap (λ l. t ∷ l) (marks_then B items)
marks_then A (item.Skip ∷ items) = marks_then A items
marks_then B (item.Skip ∷ items) = marks_then B items
marks_then A (item.Late n t m ∷ items) = marks_then A items
marks_then B (item.Late n t m ∷ items) = marks_then B items

joined_is : (bs : List Bundle) → records_in_order (parts_of bs) ≡ flat_map (λ b. b.records) bs
joined_is [] = refl
joined_is (b ∷ bs) = ap (λ l. b.records ++ l) (joined_is bs)

module _ (plan : Shape) (size : ℕ) (items : List Item) (f : Fed) (c : Cutters)
    (fed : IsFedBy size (items ++ end_items (streams_of plan) End) f c) (quiet : IsQuiet plan items) where
  of_stream : (s : Stream) → IsStreamFedBy size s (items ++ end_items (streams_of plan) End) f (cutter_of c s)
  of_stream s = fed_stream size (items ++ end_items (streams_of plan) End) f c s fed

  -- of each stream that the plan uses, the marks are those of the items and the last one
  pub marks_at_end : (s : Stream) → uses (streams_of plan) s ≡ true → marks_in f s ≡ marks_of (calls_of s items)
  marks_at_end s used =
      (of_stream s).marks
      ∙ flat_map-append (watermark_in s) items (end_items (streams_of plan) End)
      ∙ ap (λ l. flat_map (watermark_in s) items ++ l) (end_marks (is_some plan.source_a) (is_some plan.source_b) s ∙ ap (λ u. if_used u END_MARK) used)
      ∙ marks_then s items

  pub floor_at_end : (s : Stream) → uses (streams_of plan) s ≡ true → floor_in f s ≡ END_MARK
  floor_at_end s used = ap (last_or 0) (marks_at_end s used ∙ sym (marks_then s items)) ∙ last_more 0 END_MARK (flat_map (watermark_in s) items)

  -- the bundles are those of the items and the last mark
  pub bundles_at_end : (s : Stream) → bundles_in f s ≡ bundles_of size (calls_of s items ++ Mark END_MARK ∷ [])
  bundles_at_end s =
      (of_stream s).bundles
      ∙ ap (bundles_of size) (flat_map-append (call_in s) items (end_items (streams_of plan) End) ∙ ap (λ l. calls_of s items ++ l) (end_calls (is_some plan.source_a) (is_some plan.source_b) s))
      ∙ by_use (uses (streams_of plan) s) refl
    where
      by_use : (u : Bool) → uses (streams_of plan) s ≡ u → bundles_of size (calls_of s items ++ if_used (uses (streams_of plan) s) (Mark END_MARK)) ≡ bundles_of size (calls_of s items ++ Mark END_MARK ∷ [])
      by_use true is = ap (λ u. bundles_of size (calls_of s items ++ if_used u (Mark END_MARK))) is
      by_use false is =
          ap (λ u. bundles_of size (calls_of s items ++ if_used u (Mark END_MARK))) is
          ∙ ap (λ l. bundles_of size (l ++ [])) (quiet s is)
          ∙ ap (λ l. bundles_of size (l ++ Mark END_MARK ∷ [])) (sym (quiet s is))

  -- all records were fed
  pub pushed_at_end : (s : Stream) → records_of_feed f s ≡ calls.records_of (calls_of s items)
  pushed_at_end s =
      ap (λ l. records_in_order (parts_of l)) (bundles_at_end s)
      ∙ joined_is (bundles_of size (calls_of s items ++ Mark END_MARK ∷ []))
      ∙ cutter-records (calls_of s items) (first_cutting size) END_MARK

  pub fed_at_end : (s : Stream) → records_of_feed f s ≡ records_of s items
  fed_at_end s = pushed_at_end s ∙ pushed s items
