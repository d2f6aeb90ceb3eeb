-- What a run has written and what its taps were offered of the same, and which of them has failed.
use Rattle.std.specs.Prelude.{◌≡◌, ◌⊎◌, ℕ, List, ◌∷◌, ◌++◌, Option, ⊤}
use Rattle.std.specs.Io.KnownBytes.{Appends}
use Rattle.sb_alone.specs.base.records.declared.intake.Stop.{Stop}
use Rattle.sb_alone.specs.base.records.declared.intake.Stop.TheVariants.{End, Refused, Fault}
use Rattle.sb_alone.specs.base.records.declared.item.Item.{Item}
use Rattle.sb_alone.specs.base.records.declared.item.Record.{Record}
use Rattle.sb_alone.specs.base.records.declared.item.Stream.{Stream}
use Rattle.sb_alone.specs.base.records.Rows.{text_of}
use Rattle.sb_alone.specs.outside.Folders.{Files}
use Rattle.sb_alone.specs.outside.Sources.{Rose}
use Rattle.sb_alone.specs.base.pipeline.Shapes.{Shape}
use Rattle.sb_alone.specs.emit.Taps.{TapState}
use Rattle.sb_alone.specs.one_feed.Due.{AreFirstRows, due_rows}
use Rattle.sb_alone.specs.one_feed.Given.{Given, items_of, stop_at}
use Rattle.sb_alone.specs.one_feed.TapLists.{LeavesThoseThatStay, SawRows, StopsIn}
use Rattle.sb_alone.specs.feeds.Files.{IsFirstRefused, NoneRefused, items_of_files}
use Rattle.sb_words.specs.Words.{Asked, Asked as ask}
use Rattle.sb_words.specs.Words.Asked.{Sum, Run, Slow, Work, Watch, Feeds, Part, Save, Resume}
use Rattle.sb_told.specs.declared.status.Status.{Status}
use Rattle.sb_told.specs.declared.status.Status.TheVariants.{Done, Words, Plan, Line, Input, Output, Folder, Memory, Tap, Audit, FileTooLong, FileLine, Checkpoint}
use Rattle.sb_answers.specs.Answers.{HasNoPlan, HasWritten, HasWrittenOfFiles}
use Rattle.sb_answers.specs.Courses.{run_course}
use Rattle.sb_answers.specs.Pipelines.{IsPlanFor}
use Rattle.sb_answers.specs.RecordFiles.{HaveBytes}

-- these first rows were written, all of them, and were offered up to the one at which the tap at this place failed
pub record StoppedAt (plan : Shape) (items : List Item) (taken taken' : Option (List ℕ)) (place : ℕ)
    (taps taps' : List TapState) : Type 0 where
  pub rows : List Record
  pub first : AreFirstRows plan items rows
  pub wrote : Appends taken taken' (text_of rows)
  pub stops : StopsIn rows place taps taps'

-- what the taps were offered, by how the run ended: the rows that are due, each one by one; nothing is said of a run in
-- which a write failed, or that was out of memory
abbrev pub HasOffered : Shape → Stop → List Item → Option (List ℕ) → Option (List ℕ)
    → List TapState → List TapState → Status → Type 0
HasOffered plan stop items taken taken' taps taps' Done =
    (stop ≡ End) × LeavesThoseThatStay (due_rows plan stop items) taps taps'
HasOffered plan stop items taken taken' taps taps' (Line refusal) =
    (stop ≡ Refused refusal) × LeavesThoseThatStay (due_rows plan stop items) taps taps'
HasOffered plan stop items taken taken' taps taps' (FileLine stream refusal) = ⊥
HasOffered plan stop items taken taken' taps taps' Input =
    (stop ≡ Fault) × LeavesThoseThatStay (due_rows plan stop items) taps taps'
HasOffered plan stop items taken taken' taps taps' (Tap place) = StoppedAt plan items taken taken' place taps taps'
HasOffered plan stop items taken taken' taps taps' Output = ⊤
HasOffered plan stop items taken taken' taps taps' Memory = ⊤
HasOffered plan stop items taken taken' taps taps' Words = ⊥
HasOffered plan stop items taken taken' taps taps' (Plan fault) = ⊥
HasOffered plan stop items taken taken' taps taps' Folder = ⊥
HasOffered plan stop items taken taken' taps taps' (Audit fault) = ⊥
HasOffered plan stop items taken taken' taps taps' FileTooLong = ⊥
HasOffered plan stop items taken taken' taps taps' (Checkpoint line) = ⊥

-- what was written of what the source gave, for a plan, and what the taps were offered of the same
pub record IsOfferedOf (plan : Shape) (left left' taken taken' : Option (List ℕ)) (taps taps' : List TapState)
    (status : Status) : Type 0 where
  pub given : Given left left'
  pub written : HasWritten (stop_at plan given) (run_course plan given).due (run_course plan given).whole
      taken taken' status
  pub offered : HasOffered plan (stop_at plan given) (items_of plan given) taken taken' taps taps' status

-- what the taps were offered of two files, by how the run ended
abbrev pub HasOfferedOfFiles : Shape → (Stream → List ℕ) → Option (List ℕ) → Option (List ℕ)
    → List TapState → List TapState → Status → Type 0
HasOfferedOfFiles plan files taken taken' taps taps' Done =
    NoneRefused plan files × LeavesThoseThatStay (due_rows plan End (items_of_files plan files)) taps taps'
HasOfferedOfFiles plan files taken taken' taps taps' (FileLine stream refusal) =
    IsFirstRefused plan files stream refusal
    × LeavesThoseThatStay (due_rows plan (Refused refusal) (items_of_files plan files)) taps taps'
HasOfferedOfFiles plan files taken taken' taps taps' (Tap place) =
    StoppedAt plan (items_of_files plan files) taken taken' place taps taps'
HasOfferedOfFiles plan files taken taken' taps taps' Output = ⊤
HasOfferedOfFiles plan files taken taken' taps taps' Memory = ⊤
HasOfferedOfFiles plan files taken taken' taps taps' Words = ⊥
HasOfferedOfFiles plan files taken taken' taps taps' (Plan fault) = ⊥
HasOfferedOfFiles plan files taken taken' taps taps' (Line refusal) = ⊥
HasOfferedOfFiles plan files taken taken' taps taps' Input = ⊥
HasOfferedOfFiles plan files taken taken' taps taps' Folder = ⊥
HasOfferedOfFiles plan files taken taken' taps taps' (Audit fault) = ⊥
HasOfferedOfFiles plan files taken taken' taps taps' FileTooLong = ⊥
HasOfferedOfFiles plan files taken taken' taps taps' (Checkpoint line) = ⊥

-- what was written of two files, for a plan, and what the taps were offered of the same
pub record IsOfferedOfBytes (plan : Shape) (files : Stream → List ℕ) (taken taken' : Option (List ℕ))
    (taps taps' : List TapState) (status : Status) : Type 0 where
  pub written : HasWrittenOfFiles plan files taken taken' status
  pub offered : HasOfferedOfFiles plan files taken taken' taps taps' status

-- what was written and offered of the files of these names, for a plan
abbrev pub IsOfferedOfFiles : Shape → Option Files → List ℕ → List ℕ → Option (List ℕ) → Option (List ℕ)
    → List TapState → List TapState → Status → Type 0
IsOfferedOfFiles plan folder file_a file_b taken taken' taps taps' status =
    (files : Stream → List ℕ) × HaveBytes folder file_a file_b files
    × IsOfferedOfBytes plan files taken taken' taps taps' status

-- what was written and offered for a plan: of what the source gave, or of two files
abbrev pub IsOfferedFor : Option Files → Asked → Shape → Option (List ℕ) → Option (List ℕ) → Option (List ℕ)
    → Option (List ℕ) → List TapState → List TapState → Status → Type 0
IsOfferedFor folder (Feeds name file_a file_b options) plan left left' taken taken' taps taps' status =
    IsOfferedOfFiles plan folder file_a file_b taken taken' taps taps' status
IsOfferedFor folder (Sum size options) plan left left' taken taken' taps taps' status =
    IsOfferedOf plan left left' taken taken' taps taps' status
IsOfferedFor folder (Run name options) plan left left' taken taken' taps taps' status =
    IsOfferedOf plan left left' taken taken' taps taps' status
IsOfferedFor folder (Slow name) plan left left' taken taken' taps taps' status =
    IsOfferedOf plan left left' taken taken' taps taps' status
IsOfferedFor folder ask.Audit plan left left' taken taken' taps taps' status =
    IsOfferedOf plan left left' taken taken' taps taps' status
IsOfferedFor folder (Work records options) plan left left' taken taken' taps taps' status =
    IsOfferedOf plan left left' taken taken' taps taps' status
IsOfferedFor folder (Watch name key options) plan left left' taken taken' taps taps' status =
    IsOfferedOf plan left left' taken taken' taps taps' status
IsOfferedFor folder (Part name options) plan left left' taken taken' taps taps' status =
    IsOfferedOf plan left left' taken taken' taps taps' status
IsOfferedFor folder (Save name) plan left left' taken taken' taps taps' status =
    IsOfferedOf plan left left' taken taken' taps taps' status
IsOfferedFor folder (Resume name checkpoint options) plan left left' taken taken' taps taps' status =
    IsOfferedOf plan left left' taken taken' taps taps' status

-- what was written and what the taps were offered where a plan is asked for: nothing if there is none
abbrev pub IsOffered : Option Files → Asked → Option (List ℕ) → Option (List ℕ) → Option (List ℕ) → Option (List ℕ)
    → List TapState → List TapState → Status → Type 0
IsOffered folder wanted left left' taken taken' taps taps' status =
    (HasNoPlan folder wanted status × (taps' ≡ taps))
    ⊎ ((plan : Shape) × IsPlanFor folder wanted plan
    × IsOfferedFor folder wanted plan left left' taken taken' taps taps' status)

-- the tap at this place of the list, as a row was offered, has failed: it is one of those that were handed in, and its
-- count is above the one that it had then
pub record BlamesTap (place : ℕ) (taps taps' : List TapState) : Type 0 where
  pub rows : List Record
  pub stops : StopsIn rows place taps taps'
  pub before : List TapState
  pub handed : TapState
  pub behind : List TapState
  pub was_there : taps ≡ before ++ handed ∷ behind
  pub saw : SawRows stops.earlier handed stops.stops.tap
  pub rose : Rose handed.faults stops.stops.refused.faults
