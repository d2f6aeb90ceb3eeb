-- What is kept of the items that were read of an input.
use Rattle.std.proofs.Common.{◌≡◌, ℕ, List, [], ◌∷◌, ◌++◌, Option, Ok, Err, sym, ap, subst, ◌∙◌, append-nil}
use Rattle.std.specs.List.{flat_map}
use Rattle.std.specs.Prelude.{IsErr, Result}
use Rattle.std.proofs.lemmas.List.Concat.{flat_map-append}
use Rattle.sb_feed.specs.base.records.declared.item.Item.{Item}
use Rattle.sb_feed.specs.base.records.declared.item.Stream.TheVariants.{A, B}
use Rattle.sb_feed.specs.base.records.declared.intake.Stop.{Stop}
use Rattle.sb_feed.specs.base.records.Progress.{Progress}
use Rattle.sb_feed.specs.base.records.Intake.{low}
use Rattle.sb_feed.specs.base.records.Streams.{low_watermark, record_in, dropped_in}
use Rattle.sb_feed.specs.base.pipeline.Shapes.{Shape, streams_of}
use Rattle.sb_feed.specs.outside.Readings.{Held, reading}
use Rattle.sb_feed.specs.Given.{Given}
use Rattle.sb_feed.specs.Reads.{StopsReading}
use Rattle.sb_feed.proofs.ReadSoFar.{ReadSoFar, reading_stops}
use Rattle.sb_told.specs.declared.input.Input.{Input}
use Rattle.sb_told.specs.declared.kept.Kept.{Kept}
use Rattle.sb_told.specs.Keeping.{AreKept, Keeps}
use Rattle.sb_told.specs.Reads.{IsInputOf, ReadsAll}

-- nothing is told of items where memory was wanting
pub reads_err : {E : Type 0} (plan : Shape) (left left' : Option (List ℕ)) (result : Result Input E) → IsErr result → Given left left' → ReadsAll plan left left' result
reads_err plan left left' (Ok input) err given = cc err
reads_err plan left left' (Err e) err given = given

-- what is kept, with one item more
flat_map-more : {X : Type 0} (f : Item → List X) (items : List Item) (i : Item) → flat_map f items ++ f i ≡ flat_map f (items ++ i ∷ [])
flat_map-more f items i = sym (flat_map-append f items (i ∷ []) ∙ ap (λ l. flat_map f items ++ l) (append-nil (f i)))

pub kept-more : (items : List Item) (i : Item) (before after : Kept) → AreKept before items → Keeps before after i → AreKept after (items ++ i ∷ [])
kept-more items i before after are keeps =
    record {
      a = keeps.a ∙ ap (λ l. l ++ record_in A i) are.a ∙ flat_map-more (record_in A) items i;
      b = keeps.b ∙ ap (λ l. l ++ record_in B i) are.b ∙ flat_map-more (record_in B) items i;
      dropped = keeps.dropped ∙ ap (λ l. l ++ dropped_in i) are.dropped ∙ flat_map-more dropped_in items i;
    }

module _ {S : Type 0} (left_of : S → Option (List ℕ)) where
  -- where reading stops, what is kept is that of all items
  pub kept-all : (plan : Shape) (left : Option (List ℕ)) (source source' : S) (held held' : Held) (p p' : Progress) (items : List Item) (kept : Kept) (mark : ℕ) (stop : Stop) (faults faults' : ℕ)
      → ReadSoFar plan left (left_of source) held p items faults faults' → AreKept kept items
      → StopsReading left_of (reading source held) (reading source' held') p p' stop → mark ≡ low p'
      → (given : Given left (left_of source')) × IsInputOf plan given (record { kept = kept; low = mark; stop = stop })
  kept-all plan left source source' held held' p p' items kept mark stop faults faults' read are_kept stops is_low =
      let (given, same_items, same_stop) = reading_stops left_of plan left source source' held held' p p' items stop faults faults' read stops in (
        given,
        record {
          kept = subst (AreKept kept) same_items are_kept;
          low = is_low ∙ ap low (stops.progress ∙ read.progress) ∙ ap (low_watermark (streams_of plan)) same_items;
          stop = same_stop;
        },
      )
