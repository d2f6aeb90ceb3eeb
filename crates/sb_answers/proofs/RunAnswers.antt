-- From how a run of the engine ended to its answer.
use Rattle.std.proofs.Common.{◌≡◌, ◌⊎◌, inl, inr, ℕ, ◌≤◌, List, [], ◌++◌, Option, Result, Ok, Err, refl, sym, ap, subst, ◌∙◌, arith, append-nil}
use Rattle.std.specs.Io.KnownBytes.{Appends, Keeps}
use Rattle.sb_alone.specs.base.records.declared.intake.Stop.{Stop}
use Rattle.sb_alone.specs.base.records.declared.intake.Stop.TheVariants as at
use Rattle.sb_alone.specs.base.records.declared.item.Dropped.{Dropped}
use Rattle.sb_alone.specs.base.records.declared.item.Item.{Item}
use Rattle.sb_alone.specs.base.records.declared.item.Record.{Record}
use Rattle.sb_alone.specs.base.records.declared.item.TheConstants.{END_MARK}
use Rattle.sb_alone.specs.base.records.Rows.{text_of}
use Rattle.sb_alone.specs.base.records.Streams.{low_watermark}
use Rattle.sb_alone.proofs.base.records.Earlier.{sorted_before-front}
use Rattle.sb_alone.proofs.base.records.InputLemmas.{accepted-in_range, low_watermark-in_range}
use Rattle.sb_alone.specs.outside.Lines.{lines}
use Rattle.sb_alone.specs.outside.Sinks.{AppendsPrefix}
use Rattle.sb_alone.proofs.outside.Appending.{appends_kept}
use Rattle.sb_alone.specs.outside.declared.sink.SinkFault.{SinkFault}
use Rattle.sb_alone.specs.outside.declared.sink.SinkFault.TheVariants as fault
use Rattle.sb_alone.specs.base.pipeline.Results.{output_of}
use Rattle.sb_alone.specs.base.pipeline.Shapes.{Shape, streams_of}
use Rattle.sb_checkpoint.specs.Laws.{accepted_in}
use Rattle.sb_alone.specs.emit.Taps.{TapState}
use Rattle.sb_alone.specs.emit.TextLaws.{part_of_more}
use Rattle.sb_alone.specs.one_feed.Due.{AreFirstDropped, AreFirstRows, due_rows, rows_below, streams_in}
use Rattle.sb_alone.specs.one_feed.Given.{Given, items_of, stop_at}
use Rattle.sb_alone.specs.one_feed.TapLists.{LeavesThoseThatStay}
use Rattle.sb_alone.specs.declared.run_end.RunEnd.{RunEnd}
use Rattle.sb_alone.specs.declared.run_end.RunEnd.TheVariants as run
use Rattle.sb_alone.specs.RunEnds.{Ends, EndsAt, EndsEarly, InputCause}
use Rattle.sb_words.specs.declared.options.Options.{Options}
use Rattle.sb_told.specs.declared.status.Status.{Status}
use Rattle.sb_told.specs.declared.status.Status.TheVariants.{Done, Words, Plan, Line, Input, Output, Folder, Memory, Tap, Audit, FileTooLong, FileLine, Checkpoint}
use Rattle.sb_answers.specs.Answers.{IsAnswerBy, Wrote, WroteAllDue, WrotePrefix, ending_of}
use Rattle.sb_answers.specs.Courses.{Course, run_course, shown_course}
use Rattle.sb_answers.specs.Offered.{BlamesTap, IsOfferedOf}
use Rattle.sb_answers.specs.Pipelines.{all_rows}
use Rattle.sb_answers.specs.RunSteps.{CanTellAt, diaries_told, sizes_from, status_after}
use Rattle.sb_answers.proofs.Blaming.{stops_blames}
use Rattle.sb_answers.proofs.DoneHands.{can_tell_if, other_ends, told_if}

-- what was written stays
pub prefix_kept : (a b c : Option (List ℕ)) (rows : List Record) → WrotePrefix a b rows → Keeps b c → WrotePrefix a c rows
prefix_kept a b c rows w keeps = record { prefix = w.prefix; rest = w.rest; whole = w.whole; appends = appends_kept a b c w.prefix w.appends keeps }

-- the rows below a watermark come first
pub below_are_first : (plan : Shape) (items : List Item) (mark : ℕ) → mark ≤ END_MARK → AreFirstRows plan items (rows_below mark plan items)
below_are_first plan items mark le = record { rest = _; are = sorted_before-front mark END_MARK (output_of plan (streams_in items)) le }

-- the low watermark of what is accepted of some lines
pub low_at_most : (plan : Shape) (ls : List (List ℕ)) → low_watermark (streams_of plan) (accepted_in plan ls).items ≤ END_MARK
low_at_most plan ls =
    let in_time = low_watermark-in_range plan.keys (streams_of plan) (accepted_in plan ls).items (accepted-in_range (streams_of plan) plan.late plan.keys ls) in
    omega (arith, in_time)

pub low_mark : (plan : Shape) {left left' : Option (List ℕ)} (given : Given left left') → low_watermark (streams_of plan) (items_of plan given) ≤ END_MARK
low_mark plan given = low_at_most plan (lines given.ended given.bytes)

-- the rows that are due where reading stopped are the first of all rows
pub due_are_first : (plan : Shape) {left left' : Option (List ℕ)} (given : Given left left') (stop : Stop) → AreFirstRows plan (items_of plan given) (due_rows plan stop (items_of plan given))
due_are_first plan given at.End = record { rest = []; are = sym (append-nil _) }
due_are_first plan given (at.Refused refusal) = below_are_first plan (items_of plan given) _ (low_mark plan given)
due_are_first plan given at.Fault = below_are_first plan (items_of plan given) _ (low_mark plan given)

-- the whole text is a prefix of itself
pub wrote_is_prefix : (a b : Option (List ℕ)) (rows : List Record) → Wrote a b rows → WrotePrefix a b rows
wrote_is_prefix a b rows w = record { prefix = text_of rows; rest = []; whole = sym (append-nil _); appends = w }

-- an answer of which it is said that a part was written, and the first of the late records are listed
abbrev pub AnswersSome : Status → Type 0
AnswersSome Output = Unit {0}
AnswersSome Memory = Unit {0}
AnswersSome (Tap place) = Unit {0}
AnswersSome Done = ⊥
AnswersSome Words = ⊥
AnswersSome (Plan fault) = ⊥
AnswersSome (Line refusal) = ⊥
AnswersSome (FileLine stream refusal) = ⊥
AnswersSome Input = ⊥
AnswersSome Folder = ⊥
AnswersSome (Audit fault) = ⊥
AnswersSome FileTooLong = ⊥
AnswersSome (Checkpoint line) = ⊥

-- a prefix of the whole was written, and the first of the late records are listed
pub record WroteSome (left left' taken taken' : Option (List ℕ)) (course : Given left left' → Course) (dropped : List Dropped) : Type 0 where
  pub given : Given left left'
  pub wrote : AppendsPrefix taken taken' (course given).whole
  pub first_late : AreFirstDropped (course given).items dropped

pub answers_some : (plan : Shape) (options : Options) (left left' taken taken' : Option (List ℕ)) (course : Given left left' → Course) (dropped : List Dropped) (status : Status)
    → AnswersSome status → WroteSome left left' taken taken' course dropped → IsAnswerBy plan options left left' taken taken' course (ending_of status dropped [])
answers_some plan options left left' taken taken' course dropped Output is w = record { given = w.given; written = w.wrote; lists = w.first_late; tells = refl }
answers_some plan options left left' taken taken' course dropped Memory is w = record { given = w.given; written = w.wrote; lists = w.first_late; tells = refl }
answers_some plan options left left' taken taken' course dropped (Tap place) is w = record { given = w.given; written = w.wrote; lists = w.first_late; tells = refl }
answers_some plan options left left' taken taken' course dropped Done is w = absurd is
answers_some plan options left left' taken taken' course dropped Words is w = absurd is
answers_some plan options left left' taken taken' course dropped (Plan fault) is w = absurd is
answers_some plan options left left' taken taken' course dropped (Line refusal) is w = absurd is
answers_some plan options left left' taken taken' course dropped (FileLine stream refusal) is w = absurd is
answers_some plan options left left' taken taken' course dropped Input is w = absurd is
answers_some plan options left left' taken taken' course dropped Folder is w = absurd is
answers_some plan options left left' taken taken' course dropped (Audit fault) is w = absurd is
answers_some plan options left left' taken taken' course dropped FileTooLong is w = absurd is
answers_some plan options left left' taken taken' course dropped (Checkpoint line) is w = absurd is

-- of the rows those that are shown of the first are the first that are shown
abbrev pub AreShown : (List Record → List Record) → Type 0
AreShown shown = (rows more : List Record) → shown (rows ++ more) ≡ shown rows ++ shown more

-- a part of what is shown of the first rows is one of what is shown of all
pub part_of_shown : (shown : List Record → List Record) → AreShown shown → (plan : Shape) (items : List Item) (rows : List Record) (a b : Option (List ℕ)) → AreFirstRows plan items rows
    → WrotePrefix a b (shown rows) → WrotePrefix a b (shown (all_rows plan items))
part_of_shown shown are plan items rows a b first wrote =
    subst (WrotePrefix a b) (sym (ap shown first.are ∙ are rows first.rest)) (part_of_more a b (shown rows) (shown first.rest) wrote)

module _ (shown : List Record → List Record) (are : AreShown shown) (plan : Shape) (options : Options) (left left' taken taken1 taken2 : Option (List ℕ)) (taps taps' : List TapState)
    (dropped : List Dropped) (keeps : Keeps taken1 taken2) where
  abbrev W : Option (List ℕ) → List Record → Option (List ℕ) → Type 0
  W a rows b = Wrote a b (shown rows)

  abbrev P : Option (List ℕ) → List Record → Option (List ℕ) → Type 0
  P a rows b = WrotePrefix a b (shown rows)

  -- what has to be written
  abbrev course : Given left left' → Course
  course given = shown_course shown plan given

  abbrev EndsSo : RunEnd → Type 0
  EndsSo end = Ends plan (sizes_from options) left left' W P taken taken1 taps taps' [] dropped end

  some_at : (at : Stop) → EndsAt at plan left left' W taken taken1 taps taps' [] dropped → WroteSome left left' taken taken2 course dropped
  some_at at e =
      record {
        given = e.given;
        wrote =
            part_of_shown shown are plan (items_of plan e.given) (due_rows plan at (items_of plan e.given)) taken taken2 (due_are_first plan e.given at)
            (prefix_kept taken taken1 taken2 _ (wrote_is_prefix taken taken1 _ e.wrote) keeps);
        first_late = record { rest = []; are = sym e.listed ∙ sym (append-nil dropped) };
      }

  some_early : (Offered : List Record → Type 0) → EndsEarly plan left left' P taken taken1 Offered [] dropped → WroteSome left left' taken taken2 course dropped
  some_early Offered e =
      record {
        given = e.given;
        wrote = part_of_shown shown are plan (items_of plan e.given) e.rows taken taken2 e.first (prefix_kept taken taken1 taken2 (shown e.rows) e.wrote keeps);
        first_late = record { rest = e.first_late.rest; are = e.first_late.are ∙ ap (λ l. l ++ e.first_late.rest) (sym e.listed) };
      }

  -- all of some first rows were written
  all_early : (Offered : List Record → Type 0) → EndsEarly plan left left' W taken taken1 Offered [] dropped → WroteSome left left' taken taken2 course dropped
  all_early Offered e =
      some_early Offered
      (record {
        given = e.given;
        rows = e.rows;
        first = e.first;
        wrote = wrote_is_prefix taken taken1 (shown e.rows) e.wrote;
        offered = e.offered;
        late = e.late;
        first_late = e.first_late;
        listed = e.listed;
      })

  some : (end : RunEnd) → EndsSo end → WroteSome left left' taken taken2 course dropped
  some (run.Done hand) e = some_at _ e.0
  some (run.Refused refusal) e = some_at _ e
  some run.Input e = some_at _ e
  some run.Output e = some_early _ e
  some (run.Tap place) e = all_early _ e
  some run.Memory e = some_early _ e

  some_answer : (status : Status) → AnswersSome status → WroteSome left left' taken taken2 course dropped → IsAnswerBy plan options left left' taken taken2 course (ending_of status dropped [])
  some_answer status is w = answers_some plan options left left' taken taken2 course dropped status is w

  -- the rows that are due were written
  pub due_written : (at : Stop) (e : EndsAt at plan left left' W taken taken1 taps taps' [] dropped) → Appends taken taken2 (course e.given).due
  due_written at e =
      subst (λ s. Appends taken taken2 (text_of (shown (due_rows plan s (items_of plan e.given))))) (sym e.stopped)
      (appends_kept taken taken1 taken2 (text_of (shown (due_rows plan at (items_of plan e.given)))) e.wrote keeps)

  pub run_answer : (end : RunEnd) (passed : Result (Unit {0}) SinkFault) → EndsSo end
      → IsAnswerBy plan options left left' taken taken2 course (ending_of (status_after end passed) dropped (diaries_told options.diary end (status_after end passed)))
  run_answer end (Err fault.Failed) e = some_answer Output tt (some end e)
  run_answer end (Err fault.Memory) e = some_answer Memory tt (some end e)
  run_answer (run.Done hand) (Ok x) e =
      record { given = e.0.given; written = (e.0.stopped, due_written _ e.0); lists = e.0.listed; tells = told_if plan options options.diary _ hand e.1 }
  run_answer (run.Refused refusal) (Ok x) e = record { given = e.given; written = (e.stopped, due_written _ e); lists = e.listed; tells = refl }
  run_answer run.Input (Ok x) e = record { given = e.given; written = (e.stopped, due_written _ e); lists = e.listed; tells = refl }
  run_answer run.Output (Ok x) e = some_answer Output tt (some_early _ e)
  run_answer (run.Tap place) (Ok x) e = some_answer (Tap place) tt (all_early _ e)
  run_answer run.Memory (Ok x) e = some_answer Memory tt (some_early _ e)

  -- one worker is told of a failed write before a read fails, or once all that was due there was written
  pub output_alone : (reads reads' : ℕ) (end : RunEnd) (passed : Result (Unit {0}) SinkFault) → InputCause reads reads' end → EndsSo end → status_after end passed ≡ Output
      → (reads' ≡ reads) ⊎ WroteAllDue left left' taken taken2 course
  output_alone reads reads' (run.Done hand) passed cause e is = inl cause
  output_alone reads reads' (run.Refused refusal) passed cause e is = inl cause
  output_alone reads reads' run.Output passed cause e is = inl cause
  output_alone reads reads' (run.Tap place) passed cause e is = inl cause
  output_alone reads reads' run.Memory passed cause e is = inl cause
  output_alone reads reads' run.Input (Err fault.Failed) cause e is = inr (record { given = e.given; failed = e.stopped; wrote = due_written _ e })
  output_alone reads reads' run.Input (Err fault.Memory) cause e is = cc is
  output_alone reads reads' run.Input (Ok x) cause e is = cc is

-- of a run past taps
module _ (plan : Shape) (options : Options) (left left' taken taken1 taken2 : Option (List ℕ)) (taps taps' : List TapState) (dropped : List Dropped)
    (keeps : Keeps taken1 taken2) where
  abbrev Whole : Option (List ℕ) → List Record → Option (List ℕ) → Type 0
  Whole a rows b = Wrote a b rows

  abbrev Some_of : Option (List ℕ) → List Record → Option (List ℕ) → Type 0
  Some_of a rows b = WrotePrefix a b rows

  abbrev EndsPast : RunEnd → Type 0
  EndsPast end = Ends plan (sizes_from options) left left' Whole Some_of taken taken1 taps taps' [] dropped end

  -- what the run answers with all its rows
  answer : (end : RunEnd) (passed : Result (Unit {0}) SinkFault) → EndsPast end
      → IsAnswerBy plan options left left' taken taken2 (λ given. run_course plan given) (ending_of (status_after end passed) dropped (diaries_told options.diary end (status_after end passed)))
  answer end passed e = run_answer (λ rows. rows) (λ rows more. refl) plan options left left' taken taken1 taken2 taps taps' dropped keeps end passed e

  all_due : (at : Stop) (e : EndsAt at plan left left' Whole taken taken1 taps taps' [] dropped) → Appends taken taken2 (run_course plan e.given).due
  all_due at e = due_written (λ rows. rows) (λ rows more. refl) plan options left left' taken taken1 taken2 taps taps' dropped keeps at e

  some_rows : (Offered : List Record → Type 0) (e : EndsEarly plan left left' Some_of taken taken1 Offered [] dropped) → AppendsPrefix taken taken2 (run_course plan e.given).whole
  some_rows Offered e =
      part_of_shown (λ rows. rows) (λ rows more. refl) plan (items_of plan e.given) e.rows taken taken2 e.first (prefix_kept taken taken1 taken2 e.rows e.wrote keeps)

  due_offered : (at : Stop) (e : EndsAt at plan left left' Whole taken taken1 taps taps' [] dropped) → LeavesThoseThatStay (due_rows plan (stop_at plan e.given) (items_of plan e.given)) taps taps'
  due_offered at e = subst (λ s. LeavesThoseThatStay (due_rows plan s (items_of plan e.given)) taps taps') (sym e.stopped) e.offered

  pub run_offered : (end : RunEnd) (passed : Result (Unit {0}) SinkFault) → EndsPast end → IsOfferedOf plan left left' taken taken2 taps taps' (status_after end passed)
  run_offered end (Err fault.Failed) e = let a = answer end (Err fault.Failed) e in record { given = a.given; written = a.written; offered = tt }
  run_offered end (Err fault.Memory) e = let a = answer end (Err fault.Memory) e in record { given = a.given; written = a.written; offered = tt }
  run_offered (run.Done hand) (Ok x) e = record { given = e.0.given; written = (e.0.stopped, all_due _ e.0); offered = (e.0.stopped, due_offered _ e.0) }
  run_offered (run.Refused refusal) (Ok x) e = record { given = e.given; written = (e.stopped, all_due _ e); offered = (e.stopped, due_offered _ e) }
  run_offered run.Input (Ok x) e = record { given = e.given; written = (e.stopped, all_due _ e); offered = (e.stopped, due_offered _ e) }
  run_offered run.Output (Ok x) e = record { given = e.given; written = some_rows _ e; offered = tt }
  run_offered (run.Tap place) (Ok x) e =
      let wrote = appends_kept taken taken1 taken2 (text_of e.rows) e.wrote keeps in
      record {
        given = e.given;
        written = part_of_shown (λ rows. rows) (λ rows more. refl) plan (items_of plan e.given) e.rows taken taken2 e.first (wrote_is_prefix taken taken2 e.rows wrote);
        offered = record { rows = e.rows; first = e.first; wrote = wrote; stops = e.offered };
      }
  run_offered run.Memory (Ok x) e = record { given = e.given; written = some_rows _ e; offered = tt }

  pub run_blames : (end : RunEnd) (passed : Result (Unit {0}) SinkFault) (place : ℕ) → EndsPast end → status_after end passed ≡ Tap place → BlamesTap place taps taps'
  run_blames end (Err fault.Failed) place e is = cc is
  run_blames end (Err fault.Memory) place e is = cc is
  run_blames (run.Done hand) (Ok x) place e is = cc is
  run_blames (run.Refused refusal) (Ok x) place e is = cc is
  run_blames run.Input (Ok x) place e is = cc is
  run_blames run.Output (Ok x) place e is = cc is
  run_blames (run.Tap p) (Ok x) place e is = let same : p ≡ place = cc is in subst (λ n. BlamesTap n taps taps') same (stops_blames e.rows p taps taps' e.offered)
  run_blames run.Memory (Ok x) place e is = cc is

  pub run_can_tell : (end : RunEnd) → EndsPast end → CanTellAt options.diary end
  run_can_tell (run.Done hand) e = can_tell_if plan options options.diary refl _ hand e.1
  run_can_tell (run.Refused refusal) e = other_ends options.diary _ (λ h is. cc is)
  run_can_tell run.Input e = other_ends options.diary _ (λ h is. cc is)
  run_can_tell run.Output e = other_ends options.diary _ (λ h is. cc is)
  run_can_tell (run.Tap place) e = other_ends options.diary _ (λ h is. cc is)
  run_can_tell run.Memory e = other_ends options.diary _ (λ h is. cc is)
