-- How a run ends, said in other words.
use Rattle.std.proofs.Common.{◌≡◌, ℕ, List, [], ◌++◌, Option, Result, Ok, Err, inl, refl, sym, append-nil}
use Rattle.sb_engines.specs.feeds.base.records.declared.intake.Stop.{Stop}
use Rattle.sb_engines.specs.feeds.base.records.declared.intake.Stop.TheVariants as at
use Rattle.sb_engines.specs.feeds.base.records.declared.item.Dropped.{Dropped}
use Rattle.sb_engines.specs.feeds.base.records.declared.item.Item.{Item}
use Rattle.sb_engines.specs.feeds.base.records.declared.item.Record.{Record}
use Rattle.sb_engines.specs.feeds.base.records.declared.item.TheConstants.{END_MARK}
use Rattle.sb_engines.specs.feeds.base.records.Records.{before, sorted_records}
use Rattle.sb_engines.specs.feeds.base.records.Streams.{low_watermark}
use Rattle.sb_engines.specs.feeds.base.pipeline.Results.{output_of}
use Rattle.sb_engines.specs.feeds.base.pipeline.Shapes.{Shape, streams_of}
use Rattle.sb_engines.specs.feeds.emit.Taps.{TapState}
use Rattle.sb_engines.specs.worker.hand.Hands.{HandView}
use Rattle.sb_engines.specs.feeds.one_feed.Due.{due_mark, due_rows, streams_in}
use Rattle.sb_engines.specs.feeds.one_feed.Given.{items_of}
use Rattle.sb_engines.specs.feeds.one_feed.declared.give.GiveStop.{GiveStop}
use Rattle.sb_engines.specs.feeds.one_feed.declared.give.GiveStop.TheVariants as stop
use Rattle.sb_engines.specs.alone.Ending.{end_by}
use Rattle.sb_engines.specs.alone.declared.run_end.RunEnd.{RunEnd}
use Rattle.sb_engines.specs.alone.declared.run_end.RunEnd.TheVariants.{Done, Refused, Input, Output, Tap, Memory}
use Rattle.sb_engines.specs.alone.declared.sizes.Sizes.{Sizes}
use Rattle.sb_engines.specs.alone.RunEnds.{Ends, EndsAt, EndsEarly, InputCause, IsDone, SharedInputCause}

-- the rows are the first of sorted ones
abbrev pub AreFirstSorted : List Record → Type 0
AreFirstSorted rows = (records : List Record) × (rest : List Record) × (sorted_records records ≡ rows ++ rest)

due_first : (at : Stop) (plan : Shape) (items : List Item) → AreFirstSorted (due_rows plan at items)
due_first at plan items = (before (due_mark at (low_watermark (streams_of plan) items)) (output_of plan (streams_in items)), [], sym (append-nil (due_rows plan at items)))

-- what is said of an output by two relations is said by two others that follow from them for the first of sorted rows
module _ {O P : Type 0} (after part : O → List Record → O → Type 0) (after' part' : P → List Record → P → Type 0) (o p : O) (o' p' : P)
    (whole : (l : List Record) → AreFirstSorted l → after o l p → after' o' l p') (some : (l : List Record) → AreFirstSorted l → part o l p → part' o' l p')
    (plan : Shape) (left left' : Option (List ℕ)) (taps taps' : List TapState) (dropped dropped' : List Dropped) where
  abbrev at_stop : (at : Stop) → EndsAt at plan left left' after o p taps taps' dropped dropped' → EndsAt at plan left left' after' o' p' taps taps' dropped dropped'
  at_stop at e = record { given = e.given; stopped = e.stopped; wrote = whole _ (due_first at plan (items_of plan e.given)) e.wrote; offered = e.offered; listed = e.listed }

  early : (Wrote : O → List Record → O → Type 0) (Wrote' : P → List Record → P → Type 0) → ((l : List Record) → AreFirstSorted l → Wrote o l p → Wrote' o' l p') → (Offered : List Record → Type 0)
      → EndsEarly plan left left' Wrote o p Offered dropped dropped' → EndsEarly plan left left' Wrote' o' p' Offered dropped dropped'
  early Wrote Wrote' so Offered e =
      record { given = e.given; rows = e.rows; first = e.first; wrote = so e.rows (before END_MARK (output_of plan (streams_in (items_of plan e.given))), e.first.rest, e.first.are) e.wrote; offered = e.offered; late = e.late; first_late = e.first_late; listed = e.listed }

  pub sorted_ends_through : (sizes : Sizes) (end : RunEnd) → Ends plan sizes left left' after part o p taps taps' dropped dropped' end
      → Ends plan sizes left left' after' part' o' p' taps taps' dropped dropped' end
  sorted_ends_through sizes (Done hand) e = (at_stop _ e.0, e.1)
  sorted_ends_through sizes (Refused refusal) e = at_stop _ e
  sorted_ends_through sizes Input e = at_stop _ e
  sorted_ends_through sizes Output e = early part part' some _ e
  sorted_ends_through sizes (Tap place) e = early after after' whole _ e
  sorted_ends_through sizes Memory e = early part part' some _ e

-- the same where they follow for all rows
module _ {O P : Type 0} (after part : O → List Record → O → Type 0) (after' part' : P → List Record → P → Type 0) (o p : O) (o' p' : P)
    (whole : (l : List Record) → after o l p → after' o' l p') (some : (l : List Record) → part o l p → part' o' l p')
    (plan : Shape) (left left' : Option (List ℕ)) (taps taps' : List TapState) (dropped dropped' : List Dropped) where
  pub ends_through : (sizes : Sizes) (end : RunEnd) → Ends plan sizes left left' after part o p taps taps' dropped dropped' end
      → Ends plan sizes left left' after' part' o' p' taps taps' dropped dropped' end
  ends_through sizes end e = sorted_ends_through after part after' part' o p o' p' (λ l first h. whole l h) (λ l first h. some l h) plan left left' taps taps' dropped dropped' sizes end e

-- what follows both from all that was written and from a part of it
module _ {O X : Type 0} (after part : O → List Record → O → Type 0) (o p : O) (whole : (l : List Record) → after o l p → X) (some : (l : List Record) → part o l p → X)
    (plan : Shape) (left left' : Option (List ℕ)) (taps taps' : List TapState) (dropped dropped' : List Dropped) where
  pub in_ends : (sizes : Sizes) (end : RunEnd) → Ends plan sizes left left' after part o p taps taps' dropped dropped' end → X
  in_ends sizes (Done hand) e = whole _ e.0.wrote
  in_ends sizes (Refused refusal) e = whole _ e.wrote
  in_ends sizes Input e = whole _ e.wrote
  in_ends sizes Output e = some _ e.wrote
  in_ends sizes (Tap place) e = whole _ e.wrote
  in_ends sizes Memory e = some _ e.wrote

-- of one worker the cause is the stronger one
pub cause_alone : (before now : ℕ) (end : RunEnd) → InputCause before now end → SharedInputCause before now end
cause_alone before now (Done hand) cause = cause
cause_alone before now (Refused refusal) cause = cause
cause_alone before now Input cause = cause
cause_alone before now Output cause = inl cause
cause_alone before now (Tap place) cause = inl cause
cause_alone before now Memory cause = inl cause

-- a run is done only if feeding came to the end of the input
pub done-at-end : (h : HandView) (fed : Result Stop GiveStop) → IsDone (end_by h fed) → fed ≡ Ok at.End
done-at-end h (Ok at.End) done = refl
done-at-end h (Ok (at.Refused refusal)) done = absurd done
done-at-end h (Ok at.Fault) done = absurd done
done-at-end h (Err stop.Output) done = absurd done
done-at-end h (Err (stop.Tap place)) done = absurd done
done-at-end h (Err stop.Memory) done = absurd done
