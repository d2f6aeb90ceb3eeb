-- The rows of a run that is cut and goes on are those of the whole run.
use Rattle.std.proofs.Common.{◌≡◌, ◌≤◌, ◌<◌, ℕ, zero, suc, ◌-◌, Bool, true, false, cond, eqb, List, [], ◌∷◌, ◌++◌, length, refl, sym, ap, ◌∙◌, arith, append-nil}
use Rattle.std.specs.Prelude.{nat_lt, not, replicate}
use Rattle.std.specs.List.{filter, AllByRecursion}
use Rattle.std.proofs.lemmas.Bool.Decides.{nat_tests}
use Rattle.std.proofs.lemmas.List.Elements.{filter-append, recursion_from_All}
use Rattle.std.proofs.lemmas.List.Concat.{flat_map-append}
use Rattle.sb_pipeline.specs.records.declared.item.Item.{Item}
use Rattle.sb_pipeline.specs.records.declared.item.Item.TheVariants.{Rec, Mark, Skip, Late}
use Rattle.sb_pipeline.specs.records.declared.item.Record.{Record}
use Rattle.sb_pipeline.specs.records.declared.item.Stream.{Stream}
use Rattle.sb_pipeline.specs.records.declared.item.Stream.TheVariants.{A, B}
use Rattle.sb_pipeline.specs.records.Records.{before, at_least, sorted_records, record_cmp}
use Rattle.sb_pipeline.specs.records.Streams.{record_in, records_of, last_watermark}
use Rattle.sb_pipeline.proofs.records.Elements.{filter_of_filter}
use Rattle.sb_pipeline.proofs.records.Earlier.{before-low, at_least-high, sorted-split, sorted_before-front}
use Rattle.sb_pipeline.proofs.records.Sorting.{All-in_order}
use Rattle.sb_pipeline.specs.Results.{output_of}
use Rattle.sb_pipeline.specs.Shapes.{Shape}
use Rattle.sb_checkpoint.specs.Reach.{reach, is_within, within}
use Rattle.sb_checkpoint.specs.Checkpoints.{is_kept, low_of, kept_of, mark_item, mark_items, saved_items, resumed_items, streams_in}
use Rattle.sb_checkpoint.specs.Laws.{KeptRecordsGiveTheLaterRows, ResumedRowsAreTheRest}
use Rattle.sb_checkpoint.proofs.Dependence.{later-rows, earlier-rows, filters-commute}

-- ---- what of a list passes
pub none_pass_of : {X : Type 0} (p : X → Bool) (l : List X) → AllByRecursion (λ x. p x ≡ false) l → filter p l ≡ []
none_pass_of p [] all = refl
none_pass_of p (x ∷ l) all = (λ i. cond (all.0 i) (x ∷ filter p l) (filter p l)) ∙ none_pass_of p l all.1

pub all_pass_of : {X : Type 0} (p : X → Bool) (l : List X) → AllByRecursion (λ x. p x ≡ true) l → filter p l ≡ l
all_pass_of p [] all = refl
all_pass_of p (x ∷ l) all = (λ i. cond (all.0 i) (x ∷ filter p l) (filter p l)) ∙ ap (λ m. x ∷ m) (all_pass_of p l all.1)

every_by : {P Q : Record → Type 0} → ((r : Record) → P r → Q r) → (l : List Record) → AllByRecursion P l → AllByRecursion Q l
every_by f [] all = tt
every_by f (r ∷ l) all = (f r all.0, every_by f l all.1)

-- ---- the records that are kept
-- the last watermark of each stream that has one
abbrev pub last_marks : List Item → List Item
last_marks items = mark_items (last_watermark A items) (last_watermark B items)

records-kept : (s : Stream) (n w : ℕ) (items : List Item) → records_of s (filter (is_kept n w) items) ≡ within n w (records_of s items)
records-kept A n w [] = refl
records-kept B n w [] = refl
records-kept A n w (Rec A r ∷ items) =
    elim (is_within n w r.time) as (λ c. records_of A (cond c (Rec A r ∷ filter (is_kept n w) items) (filter (is_kept n w) items)) ≡ cond c (r ∷ within n w (records_of A items)) (within n w (records_of A items))) [
      | true ↦ ap (λ l. r ∷ l) (records-kept A n w items)
      | false ↦ records-kept A n w items
    ]
records-kept B n w (Rec B r ∷ items) =
    elim (is_within n w r.time) as (λ c. records_of B (cond c (Rec B r ∷ filter (is_kept n w) items) (filter (is_kept n w) items)) ≡ cond c (r ∷ within n w (records_of B items)) (within n w (records_of B items))) [
      | true ↦ ap (λ l. r ∷ l) (records-kept B n w items)
      | false ↦ records-kept B n w items
    ]
records-kept A n w (Rec B r ∷ items) =
    elim (is_within n w r.time) as (λ c. records_of A (cond c (Rec B r ∷ filter (is_kept n w) items) (filter (is_kept n w) items)) ≡ within n w (records_of A items)) [
      | true ↦ records-kept A n w items
      | false ↦ records-kept A n w items
    ]
records-kept B n w (Rec A r ∷ items) =
    elim (is_within n w r.time) as (λ c. records_of B (cond c (Rec A r ∷ filter (is_kept n w) items) (filter (is_kept n w) items)) ≡ within n w (records_of B items)) [
      | true ↦ records-kept B n w items
      | false ↦ records-kept B n w items
    ]
records-kept A n w (Mark A t ∷ items) = records-kept A n w items
records-kept A n w (Mark B t ∷ items) = records-kept A n w items
records-kept A n w (Skip ∷ items) = records-kept A n w items
records-kept A n w (Late l t m ∷ items) = records-kept A n w items
records-kept B n w (Mark A t ∷ items) = records-kept B n w items
records-kept B n w (Mark B t ∷ items) = records-kept B n w items
records-kept B n w (Skip ∷ items) = records-kept B n w items
records-kept B n w (Late l t m ∷ items) = records-kept B n w items

records-append : (s : Stream) (xs ys : List Item) → records_of s (xs ++ ys) ≡ records_of s xs ++ records_of s ys
records-append s xs ys = flat_map-append (record_in s) xs ys

records-mark : (s u : Stream) (t : ℕ) → records_of s (mark_item u t) ≡ []
records-mark s u t = elim (eqb t 0) as (λ c. records_of s (cond c [] (Mark u t ∷ [])) ≡ []) [ true ↦ refl | false ↦ by_stream s u ]
  where
    by_stream : (s u : Stream) → records_of s (Mark u t ∷ []) ≡ []
    by_stream A A = refl
    by_stream A B = refl
    by_stream B A = refl
    by_stream B B = refl

records-skips : (s : Stream) (n : ℕ) → records_of s (replicate n Skip) ≡ []
records-skips A zero = refl
records-skips B zero = refl
records-skips A (suc n) = records-skips A n
records-skips B (suc n) = records-skips B n

-- the records that a resumed run begins with are those that are kept
pub records-resumed : (plan : Shape) (s : Stream) (items : List Item) → records_of s (resumed_items plan items) ≡ within (reach plan) (low_of plan items) (records_of s items)
records-resumed plan s items = records-append s (replicate n Skip) (saved_items plan items) ∙ (λ i. records-skips s n i ++ saved i)
  where
    n : ℕ
    n = length items - length (saved_items plan items)

    marks : records_of s (last_marks items) ≡ []
    marks =
        records-append s (mark_item A (last_watermark A items)) (mark_item B (last_watermark B items))
        ∙ (λ i. records-mark s A (last_watermark A items) i ++ records-mark s B (last_watermark B items) i)

    saved : records_of s (saved_items plan items) ≡ within (reach plan) (low_of plan items) (records_of s items)
    saved =
        records-append s (kept_of plan items) (last_marks items)
        ∙ (λ i. records-kept s (reach plan) (low_of plan items) items i ++ marks i)
        ∙ append-nil _

-- ---- the rows from the low watermark on
pub kept-give : KeptRecordsGiveTheLaterRows
kept-give plan free items more = later-rows plan free low (streams_in (items ++ more)) (streams_in (resumed_items plan items ++ more)) same
  where
    low : ℕ
    low = low_of plan items

    n : ℕ
    n = reach plan

    again : (l : List Record) → within n low (within n low l) ≡ within n low l
    again l = filter_of_filter (λ r. is_within n low r.time) (λ r. is_within n low r.time) (λ r h. h) l

    same : (s : Stream) → within n low (records_of s (items ++ more)) ≡ within n low (records_of s (resumed_items plan items ++ more))
    same s =
        ap (within n low) (records-append s items more)
        ∙ filter-append (λ r. is_within n low r.time) (records_of s items) (records_of s more)
        ∙ ap (λ l. l ++ within n low (records_of s more)) (sym (again (records_of s items)) ∙ ap (within n low) (sym (records-resumed plan s items)))
        ∙ sym (filter-append (λ r. is_within n low r.time) (records_of s (resumed_items plan items)) (records_of s more))
        ∙ sym (ap (within n low) (records-append s (resumed_items plan items) more))

-- ---- sorted lists
-- no sorted record before a time is from a later time on
pub none-later : (v w : ℕ) (l : List Record) → v ≤ w → at_least w (sorted_records (before v l)) ≡ []
none-later v w l le =
    none_pass_of (λ r. not (nat_lt r.time w)) (sorted_records (before v l))
    (every_by (λ r h. let early : r.time < w = omega (arith, h, le) in grind (arith, nat_tests)) (sorted_records (before v l)) (All-in_order (λ r. r.time < v) record_cmp (before v l) (before-low v l)))

pub at_least-sorted : (v : ℕ) (l : List Record) → at_least v (sorted_records l) ≡ sorted_records (at_least v l)
at_least-sorted v l =
    ap (at_least v) (sorted-split v l)
    ∙ filter-append (λ r. not (nat_lt r.time v)) (sorted_records (before v l)) (sorted_records (at_least v l))
    ∙ (λ i. none-later v v l (omega arith) i ++ all i)
  where
    all : at_least v (sorted_records (at_least v l)) ≡ sorted_records (at_least v l)
    all = all_pass_of (λ r. not (nat_lt r.time v)) (sorted_records (at_least v l)) (every_by (λ r h. grind (arith, nat_tests)) (sorted_records (at_least v l)) (All-in_order (λ r. v ≤ r.time) record_cmp (at_least v l) (at_least-high v l)))

-- ---- the rows of the whole run
pub resumed-rest : ResumedRowsAreTheRest
resumed-rest plan free w items more le later =
    sorted_before-front low w whole le
    ∙ (λ i. sorted_records (first i) ++ rest i)
  where
    low : ℕ
    low = low_of plan items

    whole : List Record
    whole = output_of plan (streams_in (items ++ more))

    resumed : List Record
    resumed = output_of plan (streams_in (resumed_items plan items ++ more))

    none_early : (s : Stream) → before low (records_of s more) ≡ []
    none_early s = none_pass_of (λ r. nat_lt r.time low) (records_of s more) (every_by (λ r h. grind (arith, nat_tests)) (records_of s more) (recursion_from_All (λ r. low ≤ r.time) (records_of s more) (later s)))

    first : before low whole ≡ before low (output_of plan (streams_in items))
    first =
        earlier-rows plan free low (streams_in (items ++ more)) (streams_in items)
        (λ s. ap (before low) (records-append s items more) ∙ filter-append (λ r. nat_lt r.time low) (records_of s items) (records_of s more) ∙ ap (λ l. before low (records_of s items) ++ l) (none_early s) ∙ append-nil _)

    rest : sorted_records (at_least low (before w whole)) ≡ at_least low (sorted_records (before w resumed))
    rest =
        ap sorted_records (filters-commute (λ r. not (nat_lt r.time low)) (λ r. nat_lt r.time w) whole)
        ∙ ap (λ l. sorted_records (before w l)) (kept-give plan free items more)
        ∙ ap sorted_records (filters-commute (λ r. nat_lt r.time w) (λ r. not (nat_lt r.time low)) resumed)
        ∙ sym (at_least-sorted low (before w resumed))
