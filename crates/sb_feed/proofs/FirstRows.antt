-- The rows that came out are the first of all rows of what was accepted.
use Rattle.std.proofs.Common.{◌≡◌, ℕ, ◌≤◌, List, [], ◌∷◌, ◌++◌, length, arith, refl, sym, ap, subst, ◌∙◌, append_assoc}
use Rattle.std.specs.List.{AllByRecursion, flat_map}
use Rattle.std.proofs.lemmas.List.Concat.{flat_map-append}
use Rattle.sb_base.specs.records.declared.item.TheConstants.{END_MARK}
use Rattle.sb_base.specs.records.declared.item.Record.{Record}
use Rattle.sb_base.specs.records.declared.item.Stream.{Stream}
use Rattle.sb_base.specs.records.declared.item.Stream.TheVariants.{A, B}
use Rattle.sb_base.specs.records.declared.item.Item.{Item}
use Rattle.sb_base.specs.records.declared.item.Item.TheVariants.{Rec, Mark, Skip, Late}
use Rattle.sb_base.specs.records.Streams.{records_of, record_in, last_watermark, last_or, watermark_in}
use Rattle.sb_base.specs.records.Records.{before, sorted_records, at_least}
use Rattle.sb_base.proofs.records.Elements.{All-join}
use Rattle.sb_base.proofs.records.Earlier.{sorted_before-front}
use Rattle.sb_base.specs.bundle.Calls as calls
use Rattle.sb_base.specs.bundle.Calls.{Call, records_in_order, parts_of}
use Rattle.sb_base.specs.bundle.Laws.{bundles_of}
use Rattle.sb_base.proofs.bundle.Runs.{new_keeps}
use Rattle.sb_base.specs.pipeline.Shapes.{Shape}
use Rattle.sb_base.specs.pipeline.Flow.{sent_from, arrivals_at, from_stream}
use Rattle.sb_base.specs.pipeline.Results.{rows_below, output_of, output_at}
use Rattle.sb_feed.specs.Feeds.{Fed, IsFrom, AreRowsSoFar, records_of_feed, floor_in, marks_in}
use Rattle.sb_feed.specs.Calls.{calls_of}
use Rattle.sb_feed.specs.Due.{AreFirstRows, streams_in}
use Rattle.sb_feed.specs.FedByItems.{Covers, IsFedBy, IsStreamFedBy, cutter_of}
use Rattle.sb_feed.specs.declared.cutters.Cutters.{Cutters}
use Rattle.sb_feed.proofs.LaterItems.{GoesOnTo, from_later}

-- a plan looks at its two streams alone
pub rows_same : (w : ℕ) (plan : Shape) (x y : Stream → List Record) → ((s : Stream) → x s ≡ y s) → rows_below w plan x ≡ rows_below w plan y
rows_same w plan x y same = ap (λ l. of_two l (x B)) (same A) ∙ ap (λ l. of_two (y A) l) (same B)
  where
    of_two : List Record → List Record → List Record
    of_two a b = sorted_records (before w (output_at plan (length plan.steps) (arrivals_at (length plan.steps) (sent_from (output_at plan) 0 plan.steps (from_stream plan.source_a a ++ from_stream plan.source_b b)))))

pub covers_later : (items all : List Item) (f : Fed) → Covers items f → GoesOnTo items all → (rest : Stream → List Record) × ((s : Stream) → records_of_feed f s ++ rest s ≡ records_of s all) × ((s : Stream) → AllByRecursion (IsFrom (floor_in f s)) (rest s))
covers_later items all f c g = (
  λ s. c.rest s ++ records_of s g.later,
  λ s. sym (append_assoc (records_of_feed f s) (c.rest s) (records_of s g.later)) ∙ ap (λ l. l ++ records_of s g.later) (c.are s) ∙ sym (flat_map-append (record_in s) items g.later) ∙ ap (records_of s) (sym g.are),
  λ s. All-join (IsFrom (floor_in f s)) (c.rest s) (records_of s g.later) (c.coming s) (from_later (floor_in f s) (last_watermark s items) (records_of s g.later) (c.floors s) (g.timely s)),
)

-- the rows are those of all items below a mark
pub rows_covered : (plan : Shape) (items all : List Item) (f : Fed) (rows : List Record) → Covers items f → GoesOnTo items all → (so_far : AreRowsSoFar plan f rows) → rows ≡ rows_below so_far.mark plan (streams_in all)
rows_covered plan items all f rows c g so_far =
    let (rest, are, coming) = covers_later items all f c g in
    so_far.are rest coming ∙ rows_same so_far.mark plan (λ s. records_of_feed f s ++ rest s) (streams_in all) are

-- the rows are the first of all rows
pub rows_are_first : (plan : Shape) (items all : List Item) (f : Fed) (rows : List Record) → Covers items f → GoesOnTo items all → AreRowsSoFar plan f rows → AreFirstRows plan all rows
rows_are_first plan items all f rows c g so_far =
    let these = rows_covered plan items all f rows c g so_far in
    let more = sorted_records (at_least so_far.mark (before END_MARK (output_of plan (streams_in all)))) in
    record { rest = more; are = sorted_before-front so_far.mark END_MARK (output_of plan (streams_in all)) so_far.bound ∙ ap (λ l. l ++ more) (sym these) }

-- what the calls push is what the items have
pub pushed : (s : Stream) (items : List Item) → calls.records_of (calls_of s items) ≡ records_of s items
pushed s [] = pushed_none s
  where
    pushed_none : (s : Stream) → calls.records_of (calls_of s []) ≡ records_of s []
    pushed_none A = refl
    pushed_none B = refl
pushed A (Rec A r ∷ items) = ap (λ l. r ∷ l) (pushed A items)
pushed A (Rec B r ∷ items) = pushed A items
pushed B (Rec A r ∷ items) = pushed B items
pushed B (Rec B r ∷ items) = ap (λ l. r ∷ l) (pushed B items)
pushed A (Mark A t ∷ items) = pushed A items
pushed A (Mark B t ∷ items) = pushed A items
pushed B (Mark A t ∷ items) = pushed B items
pushed B (Mark B t ∷ items) = pushed B items
pushed A (Skip ∷ items) = pushed A items
pushed B (Skip ∷ items) = pushed B items
pushed A (Late n t m ∷ items) = pushed A items
pushed B (Late n t m ∷ items) = pushed B items

stream_covers : (size : ℕ) (s : Stream) (items : List Item) (f : Fed) (c : Cutters) → IsStreamFedBy size s items f (cutter_of c s)
    → (records_of_feed f s ++ (cutter_of c s).held ≡ records_of s items) × AllByRecursion (IsFrom (floor_in f s)) (cutter_of c s).held × (floor_in f s ≤ last_watermark s items)
stream_covers size s items f c fed = (
  ap (λ l. records_in_order (parts_of l) ++ (cutter_of c s).held) fed.bundles ∙ ap (λ d. records_in_order (parts_of (bundles_of size (calls_of s items))) ++ d.held) fed.cut ∙ new_keeps size (calls_of s items) ∙ pushed s items,
  subst (λ x. AllByRecursion (IsFrom x) (cutter_of c s).held) fed.floor fed.held,
  subst (λ x. floor_in f s ≤ x) (floor_is s fed.marks) (le_refl (floor_in f s)),
)
  where
    le_refl : (n : ℕ) → n ≤ n
    le_refl n = omega arith

    floor_is : (s : Stream) → marks_in f s ≡ flat_map (watermark_in s) items → floor_in f s ≡ last_watermark s items
    floor_is s e = ap (last_or 0) e

pub fed_covers : (size : ℕ) (items : List Item) (f : Fed) (c : Cutters) → IsFedBy size items f c → Covers items f
fed_covers size items f c fed = record {
  rest = λ s. (cutter_of c s).held;
  are = λ s. (of_each s).0;
  coming = λ s. (of_each s).1;
  floors = λ s. (of_each s).2;
}
  where
    of_each : (s : Stream) → (records_of_feed f s ++ (cutter_of c s).held ≡ records_of s items) × AllByRecursion (IsFrom (floor_in f s)) (cutter_of c s).held × (floor_in f s ≤ last_watermark s items)
    of_each A = stream_covers size A items f c fed.of_a
    of_each B = stream_covers size B items f c fed.of_b
