-- How a run over two record files ends: what was written and dropped, and what the taps have seen, over the accepted
-- items of both files.
use Rattle.std.specs.Prelude.{◌≡◌, ℕ, List, ◌++◌, ⊤}
use Rattle.sb_engines.specs.feeds.base.records.declared.intake.Stop.{Stop}
use Rattle.sb_engines.specs.feeds.base.records.declared.intake.Stop.TheVariants as stop
use Rattle.sb_engines.specs.feeds.base.records.declared.item.Dropped.{Dropped}
use Rattle.sb_engines.specs.feeds.base.records.declared.item.Record.{Record}
use Rattle.sb_engines.specs.feeds.base.records.declared.item.Stream.{Stream}
use Rattle.sb_engines.specs.feeds.base.records.Streams.{dropped_of}
use Rattle.sb_engines.specs.feeds.base.pipeline.Shapes.{Shape}
use Rattle.sb_engines.specs.feeds.emit.Taps.{TapState}
use Rattle.sb_engines.specs.feeds.one_feed.Due.{AreFirstDropped, AreFirstRows, due_rows}
use Rattle.sb_engines.specs.feeds.one_feed.TapLists.{LeavesThoseThatStay, StopsIn}
use Rattle.sb_engines.specs.alone.declared.sizes.Sizes.{Sizes}
use Rattle.sb_engines.specs.alone.declared.run_end.RunEnd.{RunEnd}
use Rattle.sb_engines.specs.alone.declared.run_end.RunEnd.TheVariants as run
use Rattle.sb_engines.specs.alone.declared.two_end.TwoEnd.{TwoEnd}
use Rattle.sb_engines.specs.alone.declared.two_end.TwoEnd.TheVariants.{Done, Refused, Output, Tap, Memory}
use Rattle.sb_engines.specs.feeds.Files.{IsFirstRefused, NoneRefused, items_of_file, items_of_files}
use Rattle.sb_engines.specs.alone.RunEnds.{IsDoneHand}

-- the reading of the files stopped so: the rows that are due were written and offered, and all late records of each
-- file that were dropped are listed
pub record FilesEndAt {O : Type 0} (at : Stop) (plan : Shape) (files : Stream → List ℕ)
    (after : O → List Record → O → Type 0) (o p : O) (taps taps' : List TapState)
    (dropped dropped' : Stream → List Dropped) : Type 0 where
  pub wrote : after o (due_rows plan at (items_of_files plan files)) p
  pub offered : LeavesThoseThatStay (due_rows plan at (items_of_files plan files)) taps taps'
  pub listed : (s : Stream) → dropped' s ≡ dropped s ++ dropped_of (items_of_file plan s (files s))

-- of some first rows this was written and this was offered, and the first of the late records of each file are listed
pub record FilesEndEarly {O : Type 0} (plan : Shape) (files : Stream → List ℕ) (Wrote : O → List Record → O → Type 0)
    (o p : O) (Offered : List Record → Type 0) (dropped dropped' : Stream → List Dropped) : Type 0 where
  pub rows : List Record
  pub first : AreFirstRows plan (items_of_files plan files) rows
  pub wrote : Wrote o rows p
  pub offered : Offered rows
  pub late : Stream → List Dropped
  pub first_late : (s : Stream) → AreFirstDropped (items_of_file plan s (files s)) (late s)
  pub listed : (s : Stream) → dropped' s ≡ dropped s ++ late s

-- what is so, by how the run ended
abbrev pub TwoEnds : {O : Type 0} → Shape → Sizes → (Stream → List ℕ) → (O → List Record → O → Type 0)
    → (O → List Record → O → Type 0) → O → O → List TapState → List TapState → (Stream → List Dropped)
    → (Stream → List Dropped) → TwoEnd → Type 0
TwoEnds plan sizes files after part o p taps taps' dropped dropped' (Done hand) =
    NoneRefused plan files × FilesEndAt stop.End plan files after o p taps taps' dropped dropped'
    × IsDoneHand plan sizes (items_of_files plan files) hand
TwoEnds plan sizes files after part o p taps taps' dropped dropped' (Refused stream refusal) =
    IsFirstRefused plan files stream refusal
    × FilesEndAt (stop.Refused refusal) plan files after o p taps taps' dropped dropped'
TwoEnds plan sizes files after part o p taps taps' dropped dropped' Output =
    FilesEndEarly plan files part o p (λ rows. ⊤) dropped dropped'
TwoEnds plan sizes files after part o p taps taps' dropped dropped' (Tap place) =
    FilesEndEarly plan files after o p (λ rows. StopsIn rows place taps taps') dropped dropped'
TwoEnds plan sizes files after part o p taps taps' dropped dropped' Memory =
    FilesEndEarly plan files part o p (λ rows. ⊤) dropped dropped'

-- the end of a run over one input that it is like
abbrev pub as_run : TwoEnd → RunEnd
as_run (Done hand) = run.Done hand
as_run (Refused stream refusal) = run.Refused refusal
as_run Output = run.Output
as_run (Tap place) = run.Tap place
as_run Memory = run.Memory
