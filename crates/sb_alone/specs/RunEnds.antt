-- How a run ends: what was written and dropped, and what the taps have seen, over the accepted items.
use Rattle.std.specs.Prelude.{◌≡◌, ◌≤◌, ◌⊎◌, ℕ, true, false, List, ◌++◌, length, Option, slice_get, Result, Ok, Err, ⊤}
use Rattle.sb_feeds.specs.base.records.declared.intake.Stop.{Stop}
use Rattle.sb_feeds.specs.base.records.declared.intake.Stop.TheVariants as stop
use Rattle.sb_feeds.specs.base.records.declared.item.Dropped.{Dropped}
use Rattle.sb_feeds.specs.base.records.declared.item.Item.{Item}
use Rattle.sb_feeds.specs.base.records.declared.item.Record.{Record}
use Rattle.sb_feeds.specs.base.records.Streams.{dropped_of}
use Rattle.sb_feeds.specs.outside.Sinks.{SinkState}
use Rattle.sb_feeds.specs.outside.Sources.{Rose}
use Rattle.sb_feeds.specs.base.bundle.declared.bundle.TheConstants.{MAX_BUNDLE}
use Rattle.sb_feeds.specs.base.pipeline.Operators.{lanes_of, operator_at}
use Rattle.sb_feeds.specs.base.pipeline.Shapes.{Shape}
use Rattle.sb_hand.specs.diary.Legal.{IsLegal, IsSettled}
use Rattle.sb_hand.specs.tally.Whole.{Tallies}
use Rattle.sb_hand.specs.tally.Written.{diary_at}
use Rattle.sb_feeds.specs.emit.Taps.{TapState}
use Rattle.sb_hand.specs.declared.hand.TheConstants.{MAX_PENDING}
use Rattle.sb_hand.specs.Hands.{HandView, NoneLeft}
use Rattle.sb_hand.specs.Showing.{diaries_of, settings_at, settings_of}
use Rattle.sb_feeds.specs.one_feed.Calls.{calls_of}
use Rattle.sb_feeds.specs.one_feed.Due.{AreFirstDropped, AreFirstRows, due_rows}
use Rattle.sb_feeds.specs.one_feed.declared.give.GiveStop.{GiveStop}
use Rattle.sb_feeds.specs.one_feed.Given.{Given, items_of, stop_at}
use Rattle.sb_feeds.specs.one_feed.Reads.{FaultCause}
use Rattle.sb_feeds.specs.one_feed.TapLists.{LeavesThoseThatStay, StopsIn}
use Rattle.sb_alone.specs.declared.sizes.Sizes.{Sizes}
use Rattle.sb_alone.specs.declared.sizes.TheConstants.{MAX_WORKERS}
use Rattle.sb_alone.specs.declared.run_end.RunEnd.{RunEnd}
use Rattle.sb_alone.specs.declared.run_end.RunEnd.TheVariants.{Done, Refused, Input, Output, Tap, Memory}

-- sizes in their ranges
pub record AreSizes (sizes : Sizes) : Type 0 where
  pub some_workers : 1 ≤ sizes.workers
  pub most_workers : sizes.workers ≤ MAX_WORKERS
  pub some_records : 1 ≤ sizes.bundle
  pub most_records : sizes.bundle ≤ MAX_BUNDLE
  pub some_bundles : 1 ≤ sizes.pending
  pub most_bundles : sizes.pending ≤ MAX_PENDING

-- reading stopped there: the rows that are due were written and offered, and all late records that were dropped are
-- listed
pub record EndsAt {O : Type 0} (at : Stop) (plan : Shape) (left left' : Option (List ℕ))
    (after : O → List Record → O → Type 0) (o p : O) (taps taps' : List TapState) (dropped dropped' : List Dropped)
    : Type 0 where
  pub given : Given left left'
  pub stopped : stop_at plan given ≡ at
  pub wrote : after o (due_rows plan at (items_of plan given)) p
  pub offered : LeavesThoseThatStay (due_rows plan at (items_of plan given)) taps taps'
  pub listed : dropped' ≡ dropped ++ dropped_of (items_of plan given)

-- of some first rows this was written and this was offered, and the first of the late records are listed
pub record EndsEarly {O : Type 0} (plan : Shape) (left left' : Option (List ℕ))
    (Wrote : O → List Record → O → Type 0) (o p : O) (Offered : List Record → Type 0)
    (dropped dropped' : List Dropped) : Type 0 where
  pub given : Given left left'
  pub rows : List Record
  pub first : AreFirstRows plan (items_of plan given) rows
  pub wrote : Wrote o rows p
  pub offered : Offered rows
  pub late : List Dropped
  pub first_late : AreFirstDropped (items_of plan given) late
  pub listed : dropped' ≡ dropped ++ late

-- the hand of a run that is done over these items: each diary is legal and settled, they tally with the plan and the
-- items, and no container is left
pub record IsDoneHand (plan : Shape) (sizes : Sizes) (items : List Item) (h : HandView) : Type 0 where
  pub plan_is : h.plan ≡ plan
  pub unspent : h.spent ≡ false
  pub none_left : NoneLeft h.nodes
  pub legal : (k : ℕ) → k ≤ length plan.steps
      → IsLegal (lanes_of (operator_at (slice_get plan.steps k))) (diary_at (diaries_of h.nodes) k)
  pub settled : (k : ℕ) → k ≤ length plan.steps
      → IsSettled (lanes_of (operator_at (slice_get plan.steps k))) (diary_at (diaries_of h.nodes) k)
  pub tallies : Tallies plan sizes.bundle (λ s. calls_of s items) (diaries_of h.nodes)
  pub settings : settings_of h.nodes ≡ settings_at sizes.keeps_diaries sizes.pending plan

-- what is so, by how the run ended
abbrev pub Ends : {O : Type 0} → Shape → Sizes → Option (List ℕ) → Option (List ℕ) → (O → List Record → O → Type 0)
    → (O → List Record → O → Type 0) → O → O → List TapState → List TapState → List Dropped → List Dropped
    → RunEnd → Type 0
Ends plan sizes left left' after part o p taps taps' dropped dropped' (Done hand) =
    (end : EndsAt stop.End plan left left' after o p taps taps' dropped dropped')
    × IsDoneHand plan sizes (items_of plan end.given) hand
Ends plan sizes left left' after part o p taps taps' dropped dropped' (Refused refusal) =
    EndsAt (stop.Refused refusal) plan left left' after o p taps taps' dropped dropped'
Ends plan sizes left left' after part o p taps taps' dropped dropped' Input =
    EndsAt stop.Fault plan left left' after o p taps taps' dropped dropped'
Ends plan sizes left left' after part o p taps taps' dropped dropped' Output =
    EndsEarly plan left left' part o p (λ rows. ⊤) dropped dropped'
Ends plan sizes left left' after part o p taps taps' dropped dropped' (Tap place) =
    EndsEarly plan left left' after o p (λ rows. StopsIn rows place taps taps') dropped dropped'
Ends plan sizes left left' after part o p taps taps' dropped dropped' Memory =
    EndsEarly plan left left' part o p (λ rows. ⊤) dropped dropped'

-- the run is done
abbrev pub IsDone : RunEnd → Type 0
IsDone (Done hand) = ⊤
IsDone (Refused refusal) = ⊥
IsDone Input = ⊥
IsDone Output = ⊥
IsDone (Tap place) = ⊥
IsDone Memory = ⊥

-- a failed read is told by its own end alone
abbrev pub InputCause : ℕ → ℕ → RunEnd → Type 0
InputCause before now Input = Rose before now
InputCause before now (Done hand) = now ≡ before
InputCause before now (Refused refusal) = now ≡ before
InputCause before now Output = now ≡ before
InputCause before now (Tap place) = now ≡ before
InputCause before now Memory = now ≡ before

-- no read failed, or one did
abbrev pub MayHaveFailed : ℕ → ℕ → Type 0
MayHaveFailed before now = (now ≡ before) ⊎ Rose before now

-- of several workers: a failed read is told by its own end, but if the run ends early then one may have failed before
abbrev pub SharedInputCause : ℕ → ℕ → RunEnd → Type 0
SharedInputCause before now Input = Rose before now
SharedInputCause before now (Done hand) = now ≡ before
SharedInputCause before now (Refused refusal) = now ≡ before
SharedInputCause before now Output = MayHaveFailed before now
SharedInputCause before now (Tap place) = MayHaveFailed before now
SharedInputCause before now Memory = MayHaveFailed before now

-- of the feeder among them
abbrev pub SharedFeedCause : ℕ → ℕ → Result Stop GiveStop → Type 0
SharedFeedCause before now (Ok at) = FaultCause before now at
SharedFeedCause before now (Err why) = MayHaveFailed before now

-- a run in which writing went well
abbrev pub IsWritten : RunEnd → Type 0
IsWritten (Done hand) = ⊤
IsWritten (Refused refusal) = ⊤
IsWritten Input = ⊤
IsWritten (Tap place) = ⊤
IsWritten Output = ⊥
IsWritten Memory = ⊥

-- a failed write is answered only if the count of the output's faults rose, and if writing went well it did not, unless
-- the output refuses from then on
pub record OutputCause (before now : SinkState) (end : RunEnd) : Type 0 where
  pub never_falls : before.faults ≤ now.faults
  pub never_short : before.shortages ≤ now.shortages
  pub keeps_refusing : before.refuses ≡ true → now.refuses ≡ true
  pub failed : end ≡ Output → Rose before.faults now.faults
  pub passed : IsWritten end → now.refuses ≡ false → now.faults ≡ before.faults
