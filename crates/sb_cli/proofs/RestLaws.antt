-- What `resume` answers behind a saved part is the rest of what one run gives.
use Rattle.std.proofs.Common.{◌≡◌, ℕ, Bool, true, false, List, [], ◌++◌, Option, Some, None, refl, sym, ap, subst, ◌∙◌, append_assoc, append-nil, inl, inr}
use Rattle.std.specs.Io.KnownBytes.{Appends, Consumes, prepend_known}
use Rattle.std.proofs.lemmas.List.{append_cancel_right}
use Rattle.sb_answer_runs.specs.answers.base.records.declared.intake.Stop.{Stop}
use Rattle.sb_answer_runs.specs.answers.base.records.declared.intake.Stop.TheVariants.{Fault}
use Rattle.sb_answer_runs.specs.answers.base.records.declared.item.Dropped.{Dropped}
use Rattle.sb_answer_runs.specs.answers.base.records.declared.item.Item.{Item}
use Rattle.sb_answer_runs.specs.answers.base.records.Inputs.{Accepted, stop_of}
use Rattle.sb_answer_runs.specs.answers.base.records.Records.{at_least}
use Rattle.sb_answer_runs.specs.answers.base.records.Rows.{text_of}
use Rattle.sb_answer_runs.specs.answers.base.records.Streams.{dropped_of}
use Rattle.sb_answer_runs.specs.answers.outside.Lines.{lines}
use Rattle.sb_answer_runs.specs.answers.base.pipeline.Shapes.{Shape}
use Rattle.sb_answer_runs.specs.answers.checkpoint.Ahead.{AllReadOrNoneOfTheSource}
use Rattle.sb_answer_runs.specs.answers.checkpoint.Checkpoints.{low_of, with_comments}
use Rattle.sb_answer_runs.specs.answers.checkpoint.Laws.{accepted_in}
use Rattle.sb_answer_runs.specs.answers.checkpoint.Reach.{HasNoSession}
use Rattle.sb_answer_runs.specs.answers.checkpoint.Texts.{items_text}
use Rattle.sb_answer_runs.proofs.answers.checkpoint.FirstBytes.{GivesNothing, first-bytes}
use Rattle.sb_answer_runs.proofs.answers.checkpoint.LinesAhead.{none_of_both}
use Rattle.sb_answer_runs.specs.answers.one_feed.Due.{due_rows}
use Rattle.sb_answer_runs.specs.answers.one_feed.Given.{accepted_of, Given, items_of, part_items, stop_at}
use Rattle.sb_answer_runs.specs.answers.told.declared.late.LateRecords.{LateRecords}
use Rattle.sb_answer_runs.specs.answers.told.declared.late.LateRecords.TheVariants.{OfInput, OfFiles}
use Rattle.sb_answer_runs.specs.answers.told.declared.status.Status.{Status}
use Rattle.sb_answer_runs.specs.answers.told.declared.status.Status.TheVariants.{Done, Words, Plan, Line, Input, Output, Folder, Memory, Tap, Audit, FileTooLong, FileLine, Checkpoint}
use Rattle.sb_answer_runs.specs.answers.Answers.{HasWritten, ListsDropped, ListsOfInput}
use Rattle.sb_answer_runs.specs.answers.told.Outcomes.{IsWritten}
use Rattle.sb_answer_runs.specs.answers.CheckpointFiles.{Said}
use Rattle.sb_answer_runs.specs.answers.Courses.{part_course, rest_course, run_course}
use Rattle.sb_cli.specs.Laws.{IsSavedPart, ResumedAnswersAreTheRest, WriteTheWhole}
use Rattle.sb_answer_runs.specs.answers.told.Statuses.{status_of}
use Rattle.sb_cli.proofs.CutLaws.{cut_run, fine, lines_are, said_is}

-- ---- where all that is due was written
-- the status tells where reading stopped
told : (stop : Stop) (due whole : List ℕ) (taken taken' : Option (List ℕ)) (status : Status) → IsWritten status → HasWritten stop due whole taken taken' status → (status ≡ status_of stop) × Appends taken taken' due
told stop due whole taken taken' Done is h = (ap status_of (sym h.0), h.1)
told stop due whole taken taken' (Line refusal) is h = (ap status_of (sym h.0), h.1)
told stop due whole taken taken' Input is h = (ap status_of (sym h.0), h.1)
told stop due whole taken taken' (FileLine stream refusal) is h = absurd h
told stop due whole taken taken' Words is h = absurd is
told stop due whole taken taken' (Plan fault) is h = absurd is
told stop due whole taken taken' Output is h = absurd is
told stop due whole taken taken' Folder is h = absurd is
told stop due whole taken taken' Memory is h = absurd is
told stop due whole taken taken' (Tap place) is h = absurd is
told stop due whole taken taken' (Audit fault) is h = absurd is
told stop due whole taken taken' FileTooLong is h = absurd is
told stop due whole taken taken' (Checkpoint line) is h = absurd is

-- and all late records are listed
all_dropped : (items : List Item) (dropped : List Dropped) (status : Status) → IsWritten status → ListsDropped items dropped status → dropped ≡ dropped_of items
all_dropped items dropped Done is h = h
all_dropped items dropped (Line refusal) is h = h
all_dropped items dropped Input is h = h
all_dropped items dropped (FileLine stream refusal) is h = h
all_dropped items dropped Words is h = absurd is
all_dropped items dropped (Plan fault) is h = absurd is
all_dropped items dropped Output is h = absurd is
all_dropped items dropped Folder is h = absurd is
all_dropped items dropped Memory is h = absurd is
all_dropped items dropped (Tap place) is h = absurd is
all_dropped items dropped (Audit fault) is h = absurd is
all_dropped items dropped FileTooLong is h = absurd is
all_dropped items dropped (Checkpoint line) is h = absurd is

all_listed : (items : List Item) (late : LateRecords) (status : Status) → IsWritten status → ListsOfInput items late status → late ≡ OfInput (dropped_of items)
all_listed items (OfInput dropped) status is h = ap OfInput (all_dropped items dropped status is h)
all_listed items (OfFiles a b) status is h = absurd h

module _ (plan : Shape) (none : HasNoSession plan) {part_left part_left' : Option (List ℕ)} (part : Given part_left part_left') (said : Said) (is : IsSavedPart plan part said) (bytes : List ℕ) where
  -- the bytes that come before those of the source
  abbrev ahead : List ℕ
  ahead = items_text (with_comments said.lines said.items)

  -- one run of the part and what the source gave, of which the resumed run gives the rest
  abbrev pub OneRun : (left' rest_left' : Option (List ℕ)) → Given (prepend_known ahead (Some bytes)) rest_left' → Type 0
  OneRun left' rest_left' given = (whole : Given (Some (part.bytes ++ bytes)) left') × WriteTheWhole (part_course plan part) (rest_course said.low plan given) (run_course plan whole)

  -- all lines of the checkpoint were read, and then more of the source
  all_read : (rest more : List ℕ) (left' : Option (List ℕ)) (given : Given (prepend_known ahead (Some bytes)) (prepend_known rest left')) → rest ≡ [] → Consumes (Some bytes) left' more → OneRun left' (prepend_known rest left') given
  all_read rest more None given over were_left = absurd were_left
  all_read rest more (Some left) given over were_left =
      (whole, cut_run plan none part given whole said is (record { more = more; rest_is = rest_is; whole_is = refl; end = refl }))
    where
      left_is : rest ++ left ≡ left
      left_is = ap (λ r. r ++ left) over

      whole : Given (Some (part.bytes ++ bytes)) (Some left)
      whole = record {
        bytes = part.bytes ++ more;
        were_left = ap (λ b. part.bytes ++ b) were_left ∙ sym (append_assoc part.bytes more left);
        ended = given.ended;
        at_end = λ e. sym left_is ∙ given.at_end e;
      }

      rest_is : given.bytes ≡ ahead ++ more
      rest_is =
          append_cancel_right given.bytes (ahead ++ more) left
          (ap (λ l. given.bytes ++ l) (sym left_is) ∙ sym given.were_left ∙ ap (λ b. ahead ++ b) were_left ∙ sym (append_assoc ahead more left))

  -- nothing of the source was read, and the run has not come to the end of its input: of the source nothing is given
  none_read : (rest : List ℕ) (given : Given (prepend_known ahead (Some bytes)) (prepend_known rest (Some bytes))) → given.ended ≡ false → OneRun (Some bytes) (prepend_known rest (Some bytes)) given
  none_read rest given goes_on = (whole, record { stop = whole_stop ∙ sym rest_stop; due = due; dropped = dropped })
    where
      whole : Given (Some (part.bytes ++ bytes)) (Some bytes)
      whole = record { bytes = part.bytes; were_left = refl; ended = false; at_end = λ e. absurd (cc e) }

      begun : ahead ≡ given.bytes ++ rest
      begun = append_cancel_right ahead (given.bytes ++ rest) bytes (given.were_left ∙ sym (append_assoc given.bytes rest bytes))

      gives : GivesNothing plan (low_of plan (part_items plan part)) (accepted_in plan (lines false given.bytes))
      gives = first-bytes plan none (lines false part.bytes) given.bytes rest (sym (lines_are plan part said is) ∙ begun)

      accepted : accepted_of plan given ≡ accepted_in plan (lines false given.bytes)
      accepted = ap (λ e. accepted_in plan (lines e given.bytes)) goes_on

      whole_stop : stop_at plan whole ≡ Fault
      whole_stop = ap (stop_of false) (fine plan part said is)

      rest_stop : stop_at plan given ≡ Fault
      rest_stop = (λ i. stop_of (goes_on i) (accepted i).refused) ∙ ap (stop_of false) gives.refused

      rest_due : (rest_course said.low plan given).due ≡ []
      rest_due =
          (λ i. text_of (at_least (said_is plan part said is i).low (due_rows plan (rest_stop i) (accepted i).items)))
          ∙ ap text_of gives.rows

      due : (run_course plan whole).due ≡ (part_course plan part).due ++ (rest_course said.low plan given).due
      due =
          ap (λ s. text_of (due_rows plan s (part_items plan part))) whole_stop
          ∙ sym (append-nil (part_course plan part).due)
          ∙ ap (λ t. (part_course plan part).due ++ t) (sym rest_due)

      dropped : dropped_of (part_items plan part) ≡ dropped_of (part_items plan part) ++ dropped_of (items_of plan given)
      dropped =
          sym (append-nil (dropped_of (part_items plan part)))
          ∙ ap (λ d. dropped_of (part_items plan part) ++ d) (sym (ap (λ (a : Accepted). dropped_of a.items) accepted ∙ gives.dropped))

  -- nothing of the source was read
  unread : (rest : List ℕ) (given : Given (prepend_known ahead (Some bytes)) (prepend_known rest (Some bytes))) (ended : Bool) → given.ended ≡ ended → OneRun (Some bytes) (prepend_known rest (Some bytes)) given
  unread rest given true ended = all_read rest [] (Some bytes) given (none_of_both rest bytes (given.at_end ended)).0 refl
  unread rest given false goes_on = none_read rest given goes_on

  pub one_run : (rest : List ℕ) (left' : Option (List ℕ)) (given : Given (prepend_known ahead (Some bytes)) (prepend_known rest left')) → AllReadOrNoneOfTheSource rest (Some bytes) left' → OneRun left' (prepend_known rest left') given
  one_run rest left' given (inl all) = all_read rest all.1 left' given all.0 all.2
  one_run rest left' given (inr same) =
      subst (λ l. (g : Given (prepend_known ahead (Some bytes)) (prepend_known rest l)) → OneRun l (prepend_known rest l) g) (sym same) (λ g. unread rest g g.ended refl) given

pub resumed-answers_are_the_rest : ResumedAnswersAreTheRest
resumed-answers_are_the_rest plan none part_left part_left' left' taken taken' part said saved options bytes ending (rest, read, answer) written =
    let (whole, together) = one_run plan none part said saved bytes rest left' answer.given read in
    let c = rest_course said.low plan answer.given in
    let (status, wrote) = told c.stop c.due c.whole taken taken' ending.status written answer.written in (
      whole,
      record {
        text = c.due;
        due = together.due;
        wrote = wrote;
        status = status ∙ ap status_of (sym together.stop);
        late = dropped_of c.items;
        dropped = together.dropped;
        listed = all_listed c.items ending.late ending.status written answer.lists;
      },
    )
