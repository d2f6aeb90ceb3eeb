-- What is read of a checkpoint can be read again.
use Rattle.std.proofs.Common.{◌≡◌, ◌≤◌, ◌<◌, ◌+◌, ◌-◌, ◌^◌, ℕ, Bool, true, false, cond, eqb, List, [], ◌∷◌, ◌++◌, map, length, Option, Some, None, Ok, Err, refl, sym, ap, subst, ◌∙◌, arith, inl, inr, append-nil, length-append}
use Rattle.std.specs.Prelude.{decimal, nat_le, not, ◌&&◌, replicate}
use Rattle.std.specs.Fmt.{signed_decimal}
use Rattle.std.specs.List.{AllByRecursion}
use Rattle.std.proofs.lemmas.Bool.{cases_Bool, eqb-true, leb-true}
use Rattle.std.proofs.lemmas.Bool.Decides.{nat_tests}
use Rattle.std.proofs.lemmas.Fmt.{length-decimal-le, length_signed_le}
use Rattle.sb_outside.specs.Lines.{lines}
use Rattle.sb_pipeline.specs.records.declared.item.Item.{Item}
use Rattle.sb_pipeline.specs.records.declared.item.Item.TheVariants.{Rec, Mark, Skip, Late}
use Rattle.sb_pipeline.specs.records.declared.item.Record.{Record}
use Rattle.sb_pipeline.specs.records.declared.item.Stream.{Stream}
use Rattle.sb_pipeline.specs.records.declared.item.Stream.TheVariants.{A, B}
use Rattle.sb_pipeline.specs.records.declared.item.Streams.{Streams}
use Rattle.sb_pipeline.specs.records.declared.intake.LatePolicy.{LatePolicy}
use Rattle.sb_pipeline.specs.records.declared.key.Key.{Key}
use Rattle.sb_pipeline.specs.records.declared.key.Key.TheVariants.{Number, Word}
use Rattle.sb_pipeline.specs.records.declared.key.Keys.{Keys}
use Rattle.sb_pipeline.specs.records.declared.key.Keys.TheVariants.{Numbers, Words}
use Rattle.sb_pipeline.specs.records.Keys.{key_text, IsKeyInRange}
use Rattle.sb_pipeline.specs.records.Lines.{IsTextOf, IsInRange, record_text, mark_text}
use Rattle.sb_pipeline.specs.records.Inputs.{progress_of}
use Rattle.sb_pipeline.specs.records.Reading.{item_of}
use Rattle.sb_pipeline.specs.records.Streams.{uses, last_watermark}
use Rattle.sb_pipeline.proofs.records.Elements.{All-join}
use Rattle.sb_pipeline.proofs.records.Grammar.{item_some}
use Rattle.sb_pipeline.proofs.records.InputLemmas.{progress-more}
use Rattle.sb_pipeline.specs.Shapes.{Shape, streams_of}
use Rattle.sb_checkpoint.specs.Reach.{reach, is_within}
use Rattle.sb_checkpoint.specs.Texts.{item_text, items_text, end_text, may_follow, may_stand, with_item, is_same, is_whole, if_last, read_pieces, read_lines}
use Rattle.sb_checkpoint.specs.Checkpoints.{low_of, with_comments}
use Rattle.sb_checkpoint.specs.Laws.{accepted_in, Accepts, ReadItemsAreAccepted}
use Rattle.sb_checkpoint.proofs.LinesOfTexts.{own-lines}
use Rattle.sb_checkpoint.proofs.ReadAgain.{IsFit, AreTimely, takes, skips-before, skips-fit}
use Rattle.sb_checkpoint.proofs.Runs.{join-assoc, IsInTime, length-skips}
use Rattle.sb_checkpoint.proofs.SoFar.{both}

-- ---- the texts of items are short
number-short : (n : ℕ) → n < 2 ^ 64 → length (decimal n) ≤ 20
number-short n fits = length-decimal-le 20 n (omega arith) (omega arith) fits

key-short : (keys : Keys) (k : Key) → IsKeyInRange keys k → length (key_text k) ≤ 24
key-short Numbers (Number n) h = omega (arith, number-short n (omega (arith, h)))
key-short Numbers (Word w) h = absurd h
key-short Words (Number n) h = absurd h
key-short Words (Word w) h = grind (arith, nat_tests)

record-short : (keys : Keys) (s : Stream) (r : Record) → IsInRange keys r → length (record_text s r) ≤ 128
record-short keys s r h =
    omega (
      arith,
      length-append (decimal r.time) (44 ∷ (key_text r.key ++ 44 ∷ signed_decimal r.value)),
      length-append (key_text r.key) (44 ∷ signed_decimal r.value),
      number-short r.time (omega (arith, h.time)),
      key-short keys r.key h.key,
      length_signed_le 20 r.value (omega (arith, h.value)) h.value,
    )

mark-short : (s : Stream) (t : ℕ) → t ≤ 1000000000000000 → length (mark_text s t) ≤ 128
mark-short s t h = omega (arith, number-short t (omega (arith, h)))

-- ---- what may stand is fit, and in time
module _ (plan : Shape) (low : ℕ) where
  text-fit : (base : List Item) (i : Item) (line : List ℕ) → IsTextOf plan.keys i line → may_follow plan low base i ≡ true → IsFit (streams_of plan) plan.keys i
  text-fit base (Rec s r) line text may = ((both _ _ may).0, text.0, record-short plan.keys s r text.0)
  text-fit base (Mark A t) line text may = ((both _ _ may).0, text.0, mark-short A t text.0)
  text-fit base (Mark B t) line text may = ((both _ _ may).0, text.0, mark-short B t text.0)
  text-fit base Skip line text may = tt
  text-fit base (Late n t m) line text may = cc

  -- a record comes before all watermarks, and a watermark before those of its stream
  none-before : (a b : ℕ) (c d : Bool) → (c && (d && (eqb a 0 && eqb b 0))) ≡ true → (c ≡ true) × (a ≡ 0) × (b ≡ 0)
  none-before a b c d h =
      let used = both c (d && (eqb a 0 && eqb b 0)) h in
      let marks = both (eqb a 0) (eqb b 0) (both d (eqb a 0 && eqb b 0) used.1).1 in
      (used.0, eqb-true a 0 marks.0, eqb-true b 0 marks.1)

  may-in_time : (late : LatePolicy) (base : List Item) (i : Item) → may_follow plan low base i ≡ true → IsInTime (progress_of (streams_of plan) late plan.keys base) i
  may-in_time late base (Rec A r) may =
      let none = none-before (last_watermark A base) (last_watermark B base) (uses (streams_of plan) A) (is_within (reach plan) low r.time) may in
      (none.0, omega (arith, none.1))
  may-in_time late base (Rec B r) may =
      let none = none-before (last_watermark A base) (last_watermark B base) (uses (streams_of plan) B) (is_within (reach plan) low r.time) may in
      (none.0, omega (arith, none.2))
  may-in_time late base (Mark A t) may =
      let none = none-before (last_watermark A base) (last_watermark B base) (uses (streams_of plan) A) (not (eqb t 0)) may in
      (none.0, omega (arith, none.1))
  may-in_time late base (Mark B t) may =
      let used = both (uses (streams_of plan) B) (not (eqb t 0) && eqb (last_watermark B base) 0) may in
      let none : last_watermark B base ≡ 0 = eqb-true (last_watermark B base) 0 (both (not (eqb t 0)) (eqb (last_watermark B base) 0) used.1).1 in
      (used.0, omega (arith, none))
  may-in_time late base Skip may = tt
  may-in_time late base (Late n t m) may = tt

  -- each of the items is fit, and may stand after those before it
  abbrev Stand : List Item → List Item → Type 0
  Stand base [] = Unit {0}
  Stand base (u ∷ us) = IsFit (streams_of plan) plan.keys u × (may_follow plan low base u ≡ true) × Stand (base ++ u ∷ []) us

  stand-fit : (us base : List Item) → Stand base us → AllByRecursion (IsFit (streams_of plan) plan.keys) us
  stand-fit [] base h = tt
  stand-fit (u ∷ us) base h = (h.0, stand-fit us (base ++ u ∷ []) h.2)

  stand-timely : (late : LatePolicy) (us base : List Item) → Stand base us → AreTimely (progress_of (streams_of plan) late plan.keys base) us
  stand-timely late [] base h = tt
  stand-timely late (u ∷ us) base h = (
    may-in_time late base u h.1,
    subst (λ p. AreTimely p us) (progress-more (streams_of plan) late plan.keys base u) (stand-timely late us (base ++ u ∷ []) h.2),
  )

-- the items that were read behind these
record Behind (plan : Shape) (lines low : ℕ) (base out : List Item) : Type 0 where
  more : List Item
  split : out ≡ base ++ more
  stand : Stand plan low base more
  whole : is_whole plan lines low out ≡ true

module _ (plan : Shape) (lines low : ℕ) where
  last-behind : (items out : List Item) (next : List ℕ) (pieces : List (List ℕ)) → is_whole plan lines low items ≡ true → if_last items (next ∷ pieces) ≡ Ok out → Behind plan lines low items out
  last-behind items out [] [] whole h =
      let e : items ≡ out = cc in
      subst (Behind plan lines low items) e (record { more = []; split = sym (append-nil items); stand = tt; whole = whole })
  last-behind items out [] (p ∷ pieces) whole h = cc
  last-behind items out (b ∷ next) pieces whole h = cc

  end-behind : (items out : List Item) (line next : List ℕ) (pieces : List (List ℕ)) (b : Bool) → (is_same line (end_text (length items)) && is_whole plan lines low items) ≡ b
      → cond b (if_last items (next ∷ pieces)) (Err (length items + 2)) ≡ Ok out → Behind plan lines low items out
  end-behind items out line next pieces true e h = last-behind items out next pieces (both _ _ e).1 h
  end-behind items out line next pieces false e h = cc

  one-behind : (items out : List Item) (i : Item) → IsFit (streams_of plan) plan.keys i → may_follow plan low items i ≡ true → Behind plan lines low (items ++ i ∷ []) out → Behind plan lines low items out
  one-behind items out i fit may b = record { more = i ∷ b.more; split = b.split ∙ join-assoc items (i ∷ []) b.more; stand = (fit, may, b.stand); whole = b.whole }

  read-behind : (pieces : List (List ℕ)) (items out : List Item) (line : List ℕ) → read_pieces plan lines low items line pieces ≡ Ok out → Behind plan lines low items out
  read-behind [] items out line h = cc
  read-behind (next ∷ pieces) items out line h = by_item (item_of plan.keys line) refl h (λ more. read-behind pieces more out next)
    where
      by_item : (o : Option Item) → item_of plan.keys line ≡ o
          → cond (may_stand plan low items o) (read_pieces plan lines low (with_item items o) next pieces)
          (cond (is_same line (end_text (length items)) && is_whole plan lines low items) (if_last items (next ∷ pieces)) (Err (length items + 2))) ≡ Ok out
          → ((more : List Item) → read_pieces plan lines low more next pieces ≡ Ok out → Behind plan lines low more out)
          → Behind plan lines low items out
      by_item None e h on = end-behind items out line next pieces _ refl h
      by_item (Some i) e h on = elim (cases_Bool (may_follow plan low items i)) [
        | inl may ↦ one-behind items out i (text-fit plan low items i line (item_some plan.keys line i e) may) may (on (items ++ i ∷ []) (rw may at h))
        | inr other ↦ end-behind items out line next pieces _ refl (rw other at h)
      ]

  pub room-read : (parts : List (List ℕ)) (out : List Item) → read_lines plan lines low [] parts ≡ Ok out → length out ≤ lines
  room-read [] out h = cc
  room-read (line ∷ parts) out h =
      let whole = (read-behind parts [] out line h).whole in
      leb-true (length out) lines (both (nat_le (length out) lines) (nat_le lines 4294967295 && eqb low (low_of plan out)) whole).0

-- ---- what a run reads in place of the input
pub read-accepted : ReadItemsAreAccepted
read-accepted plan parts count low items is = (own, bytes)
  where
    streams : Streams
    streams = streams_of plan

    behind : Behind plan count low [] items
    behind = read-behind plan count low is.rest [] items is.next is.others

    stand : Stand plan low [] items
    stand = subst (Stand plan low []) (sym behind.split) behind.stand

    few : (length items ≤ count) × (count ≤ 4294967295)
    few =
        let lines = both (nat_le (length items) count) (nat_le count 4294967295 && eqb low (low_of plan items)) behind.whole in
        let most = both (nat_le count 4294967295) (eqb low (low_of plan items)) lines.1 in
        (leb-true (length items) count lines.0, leb-true count 4294967295 most.0)

    fits : AllByRecursion (IsFit streams plan.keys) (with_comments count items)
    fits = All-join (IsFit streams plan.keys) (replicate (count - length items) Skip) items (skips-fit streams plan.keys (count - length items)) (stand-fit plan low items [] stand)

    own : Accepts plan (map item_text (with_comments count items)) (with_comments count items)
    own =
        takes streams plan.late plan.keys (with_comments count items) [] fits
        (skips-before (count - length items) (progress_of streams plan.late plan.keys []) items (stand-timely plan low plan.late items [] stand))
        (omega (arith, few.0, few.1, length-append (replicate (count - length items) Skip) items, length-skips (count - length items)))

    bytes : Accepts plan (lines false (items_text (with_comments count items))) (with_comments count items)
    bytes = ap (accepted_in plan) (own-lines streams plan.keys (with_comments count items) fits) ∙ own
