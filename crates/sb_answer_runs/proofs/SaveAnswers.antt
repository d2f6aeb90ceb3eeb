-- From the checkpoint of a first part of an input to its answer.
use Rattle.std.proofs.Common.{◌≡◌, ℕ, List, [], ◌++◌, Option, refl, sym, ap, subst, ◌∙◌}
use Rattle.sb_answers.specs.base.records.declared.intake.Stop.{Stop}
use Rattle.sb_answers.specs.base.records.declared.item.Dropped.{Dropped}
use Rattle.sb_answers.specs.base.records.declared.item.Item.{Item}
use Rattle.sb_answers.specs.base.pipeline.Shapes.{Shape}
use Rattle.sb_answers.specs.checkpoint.declared.checkpoint.Checkpoint.{Checkpoint}
use Rattle.sb_answers.specs.checkpoint.Keeping.{IsCheckpointOf}
use Rattle.sb_answers.specs.checkpoint.Texts.{checkpoint_text}
use Rattle.sb_run.specs.Saves.{Saves, SavesNone}
use Rattle.sb_answers.specs.one_feed.Given.{Given, part_items}
use Rattle.sb_answers.specs.words.Options.{defaults}
use Rattle.sb_answers.specs.told.declared.status.Status.{Status}
use Rattle.sb_answers.specs.told.declared.status.Status.TheVariants.{Memory}
use Rattle.sb_answers.specs.Answers.{HasWritten, IsAnswerBy, ending_of}
use Rattle.sb_answers.specs.Courses.{Course, if_ended, save_course, saved_text}
use Rattle.sb_answer_runs.specs.CutSteps.{text_in}
use Rattle.sb_answers.proofs.Answering.{nothing_printed, plain_answer}
use Rattle.sb_answers.proofs.RunAnswers.{answers_some}

-- the text of a checkpoint of these items
text_of_checkpoint : (plan : Shape) (items : List Item) (c : Checkpoint) → IsCheckpointOf plan items c → text_in c ≡ saved_text plan items
text_of_checkpoint plan items c is = (λ i. checkpoint_text (is.lines i) (is.low i) (is.saved i))

module _ (plan : Shape) (left left' : Option (List ℕ)) (dropped : List Dropped) where
  abbrev course : Given left left' → Course
  course given = save_course plan given

  pub save_answer : (c : Checkpoint) (stop : Stop) (taken taken' : Option (List ℕ)) (status : Status) → Saves plan left left' c stop [] dropped
      → HasWritten stop (if_ended stop (text_in c)) (text_in c) taken taken' status → IsAnswerBy plan defaults left left' taken taken' course (ending_of status dropped [])
  save_answer c stop taken taken' status s written =
      let is = text_of_checkpoint plan (part_items plan s.given) c s.saved in
      let as_saved = subst (λ t. HasWritten stop (if_ended stop t) t taken taken' status) is written in
      plain_answer plan defaults s.given course taken taken' status dropped refl
      (subst (λ at. HasWritten at (if_ended at (saved_text plan (part_items plan s.given))) (saved_text plan (part_items plan s.given)) taken taken' status) s.stopped as_saved) s.listed

  pub unsaved_answer : (taken : Option (List ℕ)) → SavesNone plan left left' [] dropped → IsAnswerBy plan defaults left left' taken taken course (ending_of Memory dropped [])
  unsaved_answer taken s =
      answers_some plan defaults left left' taken taken course dropped Memory tt
      (record {
        given = s.given;
        wrote = nothing_printed (course s.given).whole taken;
        first_late = record { rest = s.first_late.rest; are = s.first_late.are ∙ ap (λ l. l ++ s.first_late.rest) (sym s.listed) };
      })
