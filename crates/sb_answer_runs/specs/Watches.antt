-- What a run tells that is watched for a key.
use Rattle.std.specs.Prelude.{◌≡◌, ℕ, List, ◌++◌, Option, Result, Ok, Err}
use Rattle.sb_answers.specs.base.records.declared.item.Dropped.{Dropped}
use Rattle.sb_answers.specs.base.records.Streams.{dropped_of}
use Rattle.sb_answers.specs.base.pipeline.Shapes.{Shape}
use Rattle.sb_answers.specs.live.Lasts.{last_if_any}
use Rattle.sb_answers.specs.live.Naming.{key_named}
use Rattle.sb_answers.specs.one_feed.Due.{AreFirstDropped, due_rows}
use Rattle.sb_answers.specs.one_feed.Given.{Given, items_of, stop_at}
use Rattle.sb_answers.specs.one_feed.Reads.{FaultCause}
use Rattle.sb_answers.specs.alone.RunEnds.{MayHaveFailed}
use Rattle.sb_answer_runs.specs.declared.watched.Watched.{Watched}

-- told are where reading stopped, and the last row of the key that the text names among the rows that are due there;
-- all late records that were dropped are listed
pub record Tells (plan : Shape) (text : List ℕ) (left left' : Option (List ℕ)) (dropped dropped' : List Dropped)
    (told : Watched) : Type 0 where
  pub given : Given left left'
  pub stopped : stop_at plan given ≡ told.stop
  pub last : told.last ≡ last_if_any (key_named plan.keys text) (due_rows plan told.stop (items_of plan given))
  pub listed : dropped' ≡ dropped ++ dropped_of (items_of plan given)

-- nothing is told, and the first of the late records that were dropped are listed
pub record TellsNothing (plan : Shape) (left left' : Option (List ℕ)) (dropped dropped' : List Dropped)
    : Type 0 where
  pub given : Given left left'
  pub late : List Dropped
  pub first_late : AreFirstDropped (items_of plan given) late
  pub listed : dropped' ≡ dropped ++ late

-- what is so of a run that is watched for the key with this text, by whether it found memory
abbrev pub Watches : {E : Type 0} → Shape → List ℕ → Option (List ℕ) → Option (List ℕ) → List Dropped → List Dropped
    → Result Watched E → Type 0
Watches plan text left left' dropped dropped' (Ok told) = Tells plan text left left' dropped dropped' told
Watches plan text left left' dropped dropped' (Err e) = TellsNothing plan left left' dropped dropped'

-- a failed read is told, but if there was no memory then one may have failed before
abbrev pub WatchCause : {E : Type 0} → ℕ → ℕ → Result Watched E → Type 0
WatchCause before now (Ok told) = FaultCause before now told.stop
WatchCause before now (Err e) = MayHaveFailed before now
