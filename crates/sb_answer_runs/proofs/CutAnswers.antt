-- From the end of a run over a first part of an input to its answer.
use Rattle.std.proofs.Common.{◌≡◌, ℕ, false, List, [], ◌++◌, Option, Some, None, Result, Ok, Err, refl, sym, ap, subst, ◌∙◌, append-nil}
use Rattle.std.specs.Io.KnownBytes.{Appends, Keeps}
use Rattle.sb_answers.specs.base.records.declared.intake.Refusal.{Refusal}
use Rattle.sb_answers.specs.base.records.declared.item.Dropped.{Dropped}
use Rattle.sb_answers.specs.base.records.declared.item.Record.{Record}
use Rattle.sb_answers.specs.base.records.Inputs.{stop_of}
use Rattle.sb_answers.specs.base.records.Rows.{text_of}
use Rattle.sb_answers.specs.outside.Lines.{lines}
use Rattle.sb_answers.specs.outside.declared.sink.SinkFault.{SinkFault}
use Rattle.sb_answers.specs.outside.declared.sink.SinkFault.TheVariants as fault
use Rattle.sb_answers.proofs.outside.Appending.{appends_kept}
use Rattle.sb_answers.specs.base.pipeline.Shapes.{Shape}
use Rattle.sb_answers.specs.checkpoint.Checkpoints.{low_of}
use Rattle.sb_answers.specs.one_feed.Due.{AreFirstRows, rows_below}
use Rattle.sb_answers.specs.one_feed.Given.{Given, part_items}
use Rattle.sb_run.specs.declared.cut.cut_end.CutEnd.{CutEnd}
use Rattle.sb_run.specs.declared.cut.cut_end.CutEnd.TheVariants as cut
use Rattle.sb_run.specs.CutEnds.{EndsCut, EndsCutEarly, PartEnds}
use Rattle.sb_answers.specs.words.declared.options.Options.{Options}
use Rattle.sb_answers.specs.told.declared.status.Status.{Status}
use Rattle.sb_answers.specs.told.declared.status.Status.TheVariants.{Output, Memory}
use Rattle.sb_answers.specs.Answers.{IsAnswerBy, Wrote, WrotePrefix, ending_of}
use Rattle.sb_answers.specs.Courses.{Course, part_course}
use Rattle.sb_answer_runs.specs.CutSteps.{status_after_cut}
use Rattle.sb_answers.specs.Told.{AreToldIf}
use Rattle.sb_answers.proofs.RunAnswers.{AnswersSome, WroteSome, answers_some, below_are_first, low_at_most, part_of_shown, prefix_kept, wrote_is_prefix}

module _ (plan : Shape) (options : Options) (left left' taken taken1 taken2 : Option (List ℕ)) (dropped : List Dropped) (no : options.diary ≡ false) (keeps : Keeps taken1 taken2) where
  abbrev W : Option (List ℕ) → List Record → Option (List ℕ) → Type 0
  W a rows b = Wrote a b rows

  abbrev P : Option (List ℕ) → List Record → Option (List ℕ) → Type 0
  P a rows b = WrotePrefix a b rows

  abbrev EndsSo : CutEnd → Type 0
  EndsSo end = PartEnds plan left left' W P taken taken1 [] dropped end

  abbrev course : Given left left' → Course
  course given = part_course plan given

  abbrev below_low : Given left left' → List Record
  below_low given = rows_below (low_of plan (part_items plan given)) plan (part_items plan given)

  are_first : (given : Given left left') → AreFirstRows plan (part_items plan given) (below_low given)
  are_first given = below_are_first plan (part_items plan given) (low_of plan (part_items plan given)) (low_at_most plan (lines false given.bytes))

  some_at : (refused : Option Refusal) → EndsCut plan refused left left' W taken taken1 [] dropped → WroteSome left left' taken taken2 course dropped
  some_at refused e =
      record {
        given = e.given;
        wrote =
            part_of_shown (λ rows. rows) (λ rows more. refl) plan (part_items plan e.given) (below_low e.given) taken taken2 (are_first e.given)
            (prefix_kept taken taken1 taken2 (below_low e.given) (wrote_is_prefix taken taken1 (below_low e.given) e.wrote) keeps);
        first_late = record { rest = []; are = sym e.listed ∙ sym (append-nil dropped) };
      }

  some_early : EndsCutEarly plan left left' P taken taken1 [] dropped → WroteSome left left' taken taken2 course dropped
  some_early e =
      record {
        given = e.given;
        wrote =
            part_of_shown (λ rows. rows) (λ rows more. refl) plan (part_items plan e.given) e.rows taken taken2 e.first
            (prefix_kept taken taken1 taken2 e.rows e.wrote keeps);
        first_late = record { rest = e.first_late.rest; are = e.first_late.are ∙ ap (λ l. l ++ e.first_late.rest) (sym e.listed) };
      }

  some : (end : CutEnd) → EndsSo end → WroteSome left left' taken taken2 course dropped
  some cut.Done e = some_at None e.0
  some (cut.Refused refusal) e = some_at (Some refusal) e
  some cut.Input e = some_at None e.0
  some cut.Output e = some_early e
  some cut.Memory e = some_early e

  some_answer : (status : Status) → AnswersSome status → WroteSome left left' taken taken2 course dropped → IsAnswerBy plan options left left' taken taken2 course (ending_of status dropped [])
  some_answer status is w = answers_some plan options left left' taken taken2 course dropped status is w

  -- the rows below the low watermark were written
  due_written : (refused : Option Refusal) (e : EndsCut plan refused left left' W taken taken1 [] dropped) → Appends taken taken2 (course e.given).due
  due_written refused e = appends_kept taken taken1 taken2 (text_of (below_low e.given)) e.wrote keeps

  pub part_answer : (end : CutEnd) (passed : Result (Unit {0}) SinkFault) → EndsSo end → IsAnswerBy plan options left left' taken taken2 course (ending_of (status_after_cut end passed) dropped [])
  part_answer end (Err fault.Failed) e = some_answer Output tt (some end e)
  part_answer end (Err fault.Memory) e = some_answer Memory tt (some end e)
  part_answer cut.Done (Ok x) e =
      record {
        given = e.0.given;
        written = ((λ i. stop_of (e.1 i) (e.0.refused_is i)), due_written None e.0);
        lists = e.0.listed;
        tells = subst (λ keep. AreToldIf keep plan options.bundle (part_items plan e.0.given) []) (sym no) refl;
      }
  part_answer (cut.Refused refusal) (Ok x) e = record { given = e.given; written = (ap (stop_of e.given.ended) e.refused_is, due_written (Some refusal) e); lists = e.listed; tells = refl }
  part_answer cut.Input (Ok x) e = record { given = e.0.given; written = ((λ i. stop_of (e.1 i) (e.0.refused_is i)), due_written None e.0); lists = e.0.listed; tells = refl }
  part_answer cut.Output (Ok x) e = some_answer Output tt (some_early e)
  part_answer cut.Memory (Ok x) e = some_answer Memory tt (some_early e)
