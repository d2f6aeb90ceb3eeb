-- How a run over a first part of an input ends.
use Rattle.std.specs.Prelude.{◌≡◌, ◌≤◌, ℕ, Bool, true, false, List, ◌++◌, Option, None, Some, ⊤}
use Rattle.sb_engines.specs.feeds.base.records.declared.intake.Refusal.{Refusal}
use Rattle.sb_engines.specs.feeds.base.records.declared.item.Dropped.{Dropped}
use Rattle.sb_engines.specs.feeds.base.records.declared.item.Record.{Record}
use Rattle.sb_engines.specs.feeds.base.records.Streams.{dropped_of}
use Rattle.sb_engines.specs.feeds.outside.Sinks.{SinkState}
use Rattle.sb_engines.specs.feeds.outside.Sources.{Rose}
use Rattle.sb_engines.specs.feeds.base.pipeline.Shapes.{Shape}
use Rattle.sb_engines.specs.feeds.one_feed.Due.{AreFirstDropped, AreFirstRows, rows_below}
use Rattle.sb_engines.specs.feeds.one_feed.Given.{Given, part_accepted, part_items}
use Rattle.sb_checkpoint.specs.Checkpoints.{low_of}
use Rattle.sb_engines.specs.alone.declared.run_end.RunEnd.{RunEnd}
use Rattle.sb_engines.specs.alone.declared.run_end.RunEnd.TheVariants as run
use Rattle.sb_engines.specs.alone.RunEnds.{MayHaveFailed}
use Rattle.sb_run.specs.declared.cut.cut_end.CutEnd.{CutEnd}
use Rattle.sb_run.specs.declared.cut.cut_end.CutEnd.TheVariants.{Done, Refused, Input, Output, Memory}

-- reading stopped there: the rows below the low watermark were written, and all late records that were dropped are
-- listed
pub record EndsCut {O : Type 0} (plan : Shape) (refused : Option Refusal) (left left' : Option (List ℕ))
    (after : O → List Record → O → Type 0) (o p : O) (dropped dropped' : List Dropped) : Type 0 where
  pub given : Given left left'
  pub refused_is : (part_accepted plan given).refused ≡ refused
  pub wrote : after o (rows_below (low_of plan (part_items plan given)) plan (part_items plan given)) p
  pub listed : dropped' ≡ dropped ++ dropped_of (part_items plan given)

-- a part of the first rows was written, and the first of the late records are listed
pub record EndsCutEarly {O : Type 0} (plan : Shape) (left left' : Option (List ℕ))
    (part : O → List Record → O → Type 0) (o p : O) (dropped dropped' : List Dropped) : Type 0 where
  pub given : Given left left'
  pub rows : List Record
  pub first : AreFirstRows plan (part_items plan given) rows
  pub wrote : part o rows p
  pub late : List Dropped
  pub first_late : AreFirstDropped (part_items plan given) late
  pub listed : dropped' ≡ dropped ++ late

-- what is so, by how the run over the part ended
abbrev pub PartEnds : {O : Type 0} → Shape → Option (List ℕ) → Option (List ℕ) → (O → List Record → O → Type 0)
    → (O → List Record → O → Type 0) → O → O → List Dropped → List Dropped → CutEnd → Type 0
PartEnds plan left left' after part o p dropped dropped' Done =
    (end : EndsCut plan None left left' after o p dropped dropped') × (end.given.ended ≡ true)
PartEnds plan left left' after part o p dropped dropped' (Refused refusal) =
    EndsCut plan (Some refusal) left left' after o p dropped dropped'
PartEnds plan left left' after part o p dropped dropped' Input =
    (end : EndsCut plan None left left' after o p dropped dropped') × (end.given.ended ≡ false)
PartEnds plan left left' after part o p dropped dropped' Output =
    EndsCutEarly plan left left' part o p dropped dropped'
PartEnds plan left left' after part o p dropped dropped' Memory =
    EndsCutEarly plan left left' part o p dropped dropped'

-- a failed read is told by its own end, but if the run ends early then one may have failed before
abbrev pub CutCause : ℕ → ℕ → CutEnd → Type 0
CutCause before now Done = now ≡ before
CutCause before now (Refused refusal) = now ≡ before
CutCause before now Input = Rose before now
CutCause before now Output = MayHaveFailed before now
CutCause before now Memory = MayHaveFailed before now

-- a run in which writing went well
abbrev pub IsCutWritten : CutEnd → Type 0
IsCutWritten Done = ⊤
IsCutWritten (Refused refusal) = ⊤
IsCutWritten Input = ⊤
IsCutWritten Output = ⊥
IsCutWritten Memory = ⊥

-- a failed write is answered only if the count of the output's faults rose, and if writing went well it did not, unless
-- the output refuses from then on
pub record CutOutputCause (before now : SinkState) (end : CutEnd) : Type 0 where
  pub never_falls : before.faults ≤ now.faults
  pub never_short : before.shortages ≤ now.shortages
  pub keeps_refusing : before.refuses ≡ true → now.refuses ≡ true
  pub failed : end ≡ Output → Rose before.faults now.faults
  pub passed : IsCutWritten end → now.refuses ≡ false → now.faults ≡ before.faults

-- how the engine's run over a part may end: it is never done, since the part has no end, and no tap fails, since there
-- is none
abbrev pub IsEndOfPart : RunEnd → Type 0
IsEndOfPart (run.Done hand) = ⊥
IsEndOfPart (run.Refused refusal) = ⊤
IsEndOfPart run.Input = ⊤
IsEndOfPart run.Output = ⊤
IsEndOfPart (run.Tap place) = ⊥
IsEndOfPart run.Memory = ⊤

-- what such an end says of a part that was read to its end, or was not
abbrev pub IsCutEnd : Bool → RunEnd → CutEnd → Type 0
IsCutEnd whole (run.Done hand) cut = ⊥
IsCutEnd whole (run.Refused refusal) cut = cut ≡ Refused refusal
IsCutEnd true run.Input cut = cut ≡ Done
IsCutEnd false run.Input cut = cut ≡ Input
IsCutEnd whole run.Output cut = cut ≡ Output
IsCutEnd whole (run.Tap place) cut = ⊥
IsCutEnd whole run.Memory cut = cut ≡ Memory
