-- What the answers of a run that is cut in two have to do with that of one run.
use Rattle.std.specs.Prelude.{◌≡◌, ℕ, List, ◌++◌, Option, Some}
use Rattle.std.specs.Io.KnownBytes.{Appends}
use Rattle.sb_answer_runs.specs.answers.base.records.declared.intake.Stop.TheVariants.{End}
use Rattle.sb_answer_runs.specs.answers.base.records.declared.item.Dropped.{Dropped}
use Rattle.sb_answer_runs.specs.answers.base.records.Streams.{dropped_of}
use Rattle.sb_answer_runs.specs.answers.base.pipeline.Shapes.{Shape}
use Rattle.sb_answer_runs.specs.answers.checkpoint.Checkpoints.{with_comments}
use Rattle.sb_answer_runs.specs.answers.checkpoint.Laws.{AreWholeLines}
use Rattle.sb_answer_runs.specs.answers.checkpoint.Reach.{HasNoSession}
use Rattle.sb_answer_runs.specs.answers.checkpoint.Texts.{IsRead, items_text, pieces}
use Rattle.sb_answer_runs.specs.answers.one_feed.Given.{Given}
use Rattle.sb_answer_runs.specs.answers.words.declared.options.Options.{Options}
use Rattle.sb_answer_runs.specs.answers.declared.ending.Ending.{Ending}
use Rattle.sb_answer_runs.specs.answers.told.declared.late.LateRecords.TheVariants.{OfInput}
use Rattle.sb_answer_runs.specs.answers.Answers.{IsRestAnswer}
use Rattle.sb_answer_runs.specs.answers.told.Outcomes.{IsWritten}
use Rattle.sb_answer_runs.specs.answers.CheckpointFiles.{Said}
use Rattle.sb_answer_runs.specs.answers.Courses.{Course, part_course, rest_course, run_course, save_course}
use Rattle.sb_answer_runs.specs.answers.told.Statuses.{status_of}

-- a first part was read to its end, no line of it was refused, and it has ended with a line; and in the text that
-- `save` writes of it this is read
pub record IsSavedPart {left left' : Option (List ℕ)} (plan : Shape) (part : Given left left') (said : Said)
    : Type 0 where
  pub whole_lines : AreWholeLines part.bytes
  pub done : (part_course plan part).stop ≡ End
  pub saved : IsRead plan (pieces (save_course plan part).due) said.lines said.low said.items

-- one run reads the part and then more; the resumed run reads the lines of the checkpoint and then the same; and both
-- came to the end of that, or neither
pub record AreCutBehind {part_left part_left' rest_left rest_left' left left' : Option (List ℕ)} (said : Said)
    (part : Given part_left part_left') (rest : Given rest_left rest_left') (whole : Given left left') : Type 0 where
  pub more : List ℕ
  pub rest_is : rest.bytes ≡ items_text (with_comments said.lines said.items) ++ more
  pub whole_is : whole.bytes ≡ part.bytes ++ more
  pub end : rest.ended ≡ whole.ended

-- the part and the rest write what the whole writes, with the same end, and drop what it drops
pub record WriteTheWhole (part rest whole : Course) : Type 0 where
  pub stop : whole.stop ≡ rest.stop
  pub due : whole.due ≡ part.due ++ rest.due
  pub dropped : dropped_of whole.items ≡ dropped_of part.items ++ dropped_of rest.items

-- what `part` writes of a first part, and then `resume` of the rest behind the checkpoint that `save` writes, is what
-- `run` writes of the whole
abbrev pub CutRunsWriteTheWhole : Type 0
CutRunsWriteTheWhole =
    (plan : Shape) → HasNoSession plan → (part_left part_left' rest_left rest_left' left left' : Option (List ℕ))
    → (part : Given part_left part_left') (rest : Given rest_left rest_left') (whole : Given left left') (said : Said)
    → IsSavedPart plan part said → AreCutBehind said part rest whole
    → WriteTheWhole (part_course plan part) (rest_course said.low plan rest) (run_course plan whole)

-- what was written, the status and the late records that are listed are those of the whole, behind those of the part
pub record AnswersTheRest (part whole : Course) (taken taken' : Option (List ℕ)) (ending : Ending) : Type 0 where
  pub text : List ℕ
  pub due : whole.due ≡ part.due ++ text
  pub wrote : Appends taken taken' text
  pub status : ending.status ≡ status_of whole.stop
  pub late : List Dropped
  pub dropped : dropped_of whole.items ≡ dropped_of part.items ++ late
  pub listed : ending.late ≡ OfInput late

-- what `resume` answers behind a first part that was saved, over a source with these bytes, if it has written all that
-- is due, is the rest of what `run` gives of the part and what the source gave
abbrev pub ResumedAnswersAreTheRest : Type 0
ResumedAnswersAreTheRest =
    (plan : Shape) → HasNoSession plan → (part_left part_left' left' taken taken' : Option (List ℕ))
    → (part : Given part_left part_left') (said : Said) → IsSavedPart plan part said
    → (options : Options) (bytes : List ℕ) (ending : Ending)
    → IsRestAnswer plan options said (Some bytes) left' taken taken' ending → IsWritten ending.status
    → (whole : Given (Some (part.bytes ++ bytes)) left')
    × AnswersTheRest (part_course plan part) (run_course plan whole) taken taken' ending
