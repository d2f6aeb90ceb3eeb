-- What saving a first part of an input does.
use Rattle.std.specs.Prelude.{◌≡◌, ℕ, Bool, true, false, List, ◌++◌, Option}
use Rattle.sb_engines.specs.feeds.base.records.declared.intake.Stop.{Stop}
use Rattle.sb_engines.specs.feeds.base.records.declared.intake.Stop.TheVariants.{End, Refused, Fault}
use Rattle.sb_engines.specs.feeds.base.records.declared.item.Dropped.{Dropped}
use Rattle.sb_engines.specs.feeds.base.records.Inputs.{stop_of}
use Rattle.sb_engines.specs.feeds.base.records.Streams.{dropped_of}
use Rattle.sb_engines.specs.feeds.base.pipeline.Shapes.{Shape}
use Rattle.sb_engines.specs.feeds.one_feed.Due.{AreFirstDropped}
use Rattle.sb_engines.specs.feeds.one_feed.Given.{Given, items_of, part_accepted, part_items, stop_at}
use Rattle.sb_checkpoint.specs.declared.checkpoint.Checkpoint.{Checkpoint}
use Rattle.sb_checkpoint.specs.Keeping.{IsCheckpointOf, Kept, kept_after}

-- reading stopped there: this is kept of the accepted items, and all late records that were dropped are listed
pub record Gathers (plan : Shape) (left left' : Option (List ℕ)) (kept : Kept) (stop : Stop)
    (dropped dropped' : List Dropped) : Type 0 where
  pub given : Given left left'
  pub stopped : stop ≡ stop_at plan given
  pub kept_is : kept ≡ kept_after plan (items_of plan given)
  pub listed : dropped' ≡ dropped ++ dropped_of (items_of plan given)

-- reading did not come that far: the first of the late records that were dropped are listed
pub record GathersNone (plan : Shape) (left left' : Option (List ℕ)) (dropped dropped' : List Dropped) : Type 0 where
  pub given : Given left left'
  pub late : List Dropped
  pub first_late : AreFirstDropped (items_of plan given) late
  pub listed : dropped' ≡ dropped ++ late

-- where reading a first part stopped that was read to its end, or was not: its end was answered as a fault
abbrev pub cut_stop : Bool → Stop → Stop
cut_stop whole End = End
cut_stop whole (Refused refusal) = Refused refusal
cut_stop true Fault = End
cut_stop false Fault = Fault

-- reading stopped there: this is the checkpoint of the accepted items of the part, and all late records that were
-- dropped are listed
pub record Saves (plan : Shape) (left left' : Option (List ℕ)) (checkpoint : Checkpoint) (stop : Stop)
    (dropped dropped' : List Dropped) : Type 0 where
  pub given : Given left left'
  pub stopped : stop ≡ stop_of given.ended (part_accepted plan given).refused
  pub saved : IsCheckpointOf plan (part_items plan given) checkpoint
  pub listed : dropped' ≡ dropped ++ dropped_of (part_items plan given)

-- there was no memory: the first of the late records that were dropped are listed
pub record SavesNone (plan : Shape) (left left' : Option (List ℕ)) (dropped dropped' : List Dropped) : Type 0 where
  pub given : Given left left'
  pub late : List Dropped
  pub first_late : AreFirstDropped (part_items plan given) late
  pub listed : dropped' ≡ dropped ++ late
