-- From how a run over two files ended to its answer.
use Rattle.std.proofs.Common.{◌≡◌, ◌≤◌, ℕ, true, List, [], Option, Result, Ok, Err, refl, sym, ap, subst, ◌∙◌, arith, append-nil, ◌++◌}
use Rattle.std.specs.Io.KnownBytes.{Keeps}
use Rattle.sb_answers.specs.base.records.declared.intake.Stop.{Stop}
use Rattle.sb_answers.specs.base.records.declared.intake.Stop.TheVariants as at
use Rattle.sb_answers.specs.base.records.declared.item.Dropped.{Dropped}
use Rattle.sb_answers.specs.base.records.declared.item.Item.{Item}
use Rattle.sb_answers.specs.base.records.declared.item.Record.{Record}
use Rattle.sb_answers.specs.base.records.declared.item.Stream.{Stream}
use Rattle.sb_answers.specs.base.records.declared.item.Stream.TheVariants.{A, B}
use Rattle.sb_answers.specs.base.records.declared.item.TheConstants.{END_MARK}
use Rattle.sb_answers.specs.base.records.Lines.{IsItemInRange}
use Rattle.sb_answers.specs.base.records.Rows.{text_of}
use Rattle.sb_answers.specs.base.records.Streams.{dropped_of, low_watermark}
use Rattle.sb_answers.proofs.base.records.Elements.{All-join}
use Rattle.sb_answers.proofs.base.records.InputLemmas.{accepted-in_range, low_watermark-in_range}
use Rattle.sb_answers.specs.outside.Lines.{lines}
use Rattle.sb_answers.proofs.outside.Appending.{appends_kept}
use Rattle.sb_answers.specs.outside.declared.sink.SinkFault.{SinkFault}
use Rattle.sb_answers.specs.outside.declared.sink.SinkFault.TheVariants as fault
use Rattle.sb_answers.specs.base.pipeline.Shapes.{Shape, streams_of}
use Rattle.sb_answers.specs.emit.Taps.{TapState}
use Rattle.sb_answers.specs.emit.TextLaws.{part_of_more}
use Rattle.sb_answers.specs.one_feed.Due.{AreFirstDropped, AreFirstRows, due_rows}
use Rattle.sb_answers.specs.alone.declared.two_end.TwoEnd.{TwoEnd}
use Rattle.sb_answers.specs.alone.declared.two_end.TwoEnd.TheVariants as two
use Rattle.sb_answers.specs.alone.feeds.Files.{items_of_file, items_of_files, stream_alone}
use Rattle.sb_answers.specs.base.Inputs.{by_stream}
use Rattle.sb_run.specs.TwoEnds.{FilesEndAt, FilesEndEarly, TwoEnds, as_run}
use Rattle.sb_answers.specs.words.declared.options.Options.{Options}
use Rattle.sb_answers.specs.told.declared.late.LateRecords.TheVariants.{OfFiles}
use Rattle.sb_answers.specs.told.declared.status.Status.TheVariants.{Tap}
use Rattle.sb_answers.specs.Answers.{IsAnswerToTwo, Wrote, WrotePrefix, ending_with}
use Rattle.sb_answers.specs.told.Outcomes.{IsRead}
use Rattle.sb_answers.specs.FileSteps.{status_after_two}
use Rattle.sb_answers.specs.Offered.{BlamesTap, HasOfferedOfFiles, IsOfferedOfBytes}
use Rattle.sb_answers.specs.Pipelines.{all_rows}
use Rattle.sb_answers.specs.RunSteps.{CanTellAt, diaries_told, sizes_from}
use Rattle.sb_answers.proofs.Blaming.{stops_blames}
use Rattle.sb_answers.proofs.DoneHands.{can_tell_if, other_ends, told_if}
use Rattle.sb_answers.proofs.RunAnswers.{below_are_first, prefix_kept, wrote_is_prefix}

-- the low watermark of both files comes before the end
low_of_files : (plan : Shape) (files : Stream → List ℕ) → low_watermark (streams_of plan) (items_of_files plan files) ≤ END_MARK
low_of_files plan files =
    let of_file : (s : Stream) → _ = λ s. accepted-in_range (stream_alone s (streams_of plan)) plan.late plan.keys (lines true (files s)) in
    let both = All-join (IsItemInRange plan.keys) (items_of_file plan A (files A)) (items_of_file plan B (files B)) (of_file A) (of_file B) in
    let in_time = low_watermark-in_range plan.keys (streams_of plan) (items_of_files plan files) both in
    omega (arith, in_time)

-- the rows that are due where the reading of both stopped are the first of all rows
due_are_first : (plan : Shape) (files : Stream → List ℕ) (stop : Stop) → AreFirstRows plan (items_of_files plan files) (due_rows plan stop (items_of_files plan files))
due_are_first plan files at.End = record { rest = []; are = sym (append-nil _) }
due_are_first plan files (at.Refused refusal) = below_are_first plan (items_of_files plan files) _ (low_of_files plan files)
due_are_first plan files at.Fault = below_are_first plan (items_of_files plan files) _ (low_of_files plan files)

module _ (plan : Shape) (options : Options) (files : Stream → List ℕ) (taken taken1 taken2 : Option (List ℕ)) (taps taps' : List TapState) (a b : List Dropped) (keeps : Keeps taken1 taken2) where
  abbrev W : Option (List ℕ) → List Record → Option (List ℕ) → Type 0
  W o rows p = Wrote o p rows

  abbrev P : Option (List ℕ) → List Record → Option (List ℕ) → Type 0
  P o rows p = WrotePrefix o p rows

  abbrev items : List Item
  items = items_of_files plan files

  abbrev EndsAt : Stop → Type 0
  EndsAt stop = FilesEndAt stop plan files W taken taken1 taps taps' (by_stream [] []) (by_stream a b)

  abbrev EndsEarly : (Option (List ℕ) → List Record → Option (List ℕ) → Type 0) → (List Record → Type 0) → Type 0
  EndsEarly Said Offered = FilesEndEarly plan files Said taken taken1 Offered (by_stream [] []) (by_stream a b)

  abbrev EndsSo : TwoEnd → Type 0
  EndsSo end = TwoEnds plan (sizes_from options) files W P taken taken1 taps taps' (by_stream [] []) (by_stream a b) end

  -- a prefix of all rows was written, and the first of the late records of each file are listed
  record HasSome : Type 0 where
    pub wrote : WrotePrefix taken taken2 (all_rows plan items)
    pub late_a : AreFirstDropped (items_of_file plan A (files A)) a
    pub late_b : AreFirstDropped (items_of_file plan B (files B)) b

  -- a part of the first rows is one of all
  part_of_all : (rows : List Record) → AreFirstRows plan items rows → WrotePrefix taken taken2 rows → WrotePrefix taken taken2 (all_rows plan items)
  part_of_all rows first wrote = subst (WrotePrefix taken taken2) (sym first.are) (part_of_more taken taken2 rows first.rest wrote)

  -- all of the late records are the first
  all_first : (own : List Item) (dropped : List Dropped) → dropped ≡ dropped_of own → AreFirstDropped own dropped
  all_first own dropped listed = record { rest = []; are = sym listed ∙ sym (append-nil dropped) }

  some_first : (own : List Item) (dropped late : List Dropped) → AreFirstDropped own late → dropped ≡ late → AreFirstDropped own dropped
  some_first own dropped late first listed = record { rest = first.rest; are = first.are ∙ ap (λ l. l ++ first.rest) (sym listed) }

  some_at : (stop : Stop) → EndsAt stop → HasSome
  some_at stop e = record {
    wrote = part_of_all (due_rows plan stop items) (due_are_first plan files stop) (prefix_kept taken taken1 taken2 _ (wrote_is_prefix taken taken1 _ e.wrote) keeps);
    late_a = all_first (items_of_file plan A (files A)) a (e.listed A);
    late_b = all_first (items_of_file plan B (files B)) b (e.listed B);
  }

  some_early : (Offered : List Record → Type 0) → EndsEarly P Offered → HasSome
  some_early Offered e = record {
    wrote = part_of_all e.rows e.first (prefix_kept taken taken1 taken2 e.rows e.wrote keeps);
    late_a = some_first (items_of_file plan A (files A)) a (e.late A) (e.first_late A) (e.listed A);
    late_b = some_first (items_of_file plan B (files B)) b (e.late B) (e.first_late B) (e.listed B);
  }

  -- all of some first rows were written
  all_early : (Offered : List Record → Type 0) → EndsEarly W Offered → HasSome
  all_early Offered e =
      some_early Offered
      (record {
        rows = e.rows;
        first = e.first;
        wrote = wrote_is_prefix taken taken1 e.rows e.wrote;
        offered = e.offered;
        late = e.late;
        first_late = e.first_late;
        listed = e.listed;
      })

  some : (end : TwoEnd) → EndsSo end → HasSome
  some (two.Done hand) e = some_at at.End e.1
  some (two.Refused stream refusal) e = some_at (at.Refused refusal) e.1
  some two.Output e = some_early _ e
  some (two.Tap place) e = all_early _ e
  some two.Memory e = some_early _ e

  -- the rows that are due stay written
  due_kept : (stop : Stop) → EndsAt stop → Wrote taken taken2 (due_rows plan stop items)
  due_kept stop e = appends_kept taken taken1 taken2 (text_of (due_rows plan stop items)) e.wrote keeps

  pub files_answer : (end : TwoEnd) (passed : Result (Unit {0}) SinkFault) → EndsSo end
      → IsAnswerToTwo plan options files taken taken2 (ending_with (status_after_two end passed) (OfFiles a b) (diaries_told options.diary (as_run end) (status_after_two end passed)))
  files_answer end (Err fault.Failed) e = let s = some end e in record { written = s.wrote; lists = (s.late_a, s.late_b); tells = refl }
  files_answer end (Err fault.Memory) e = let s = some end e in record { written = s.wrote; lists = (s.late_a, s.late_b); tells = refl }
  files_answer (two.Done hand) (Ok x) e = record {
    written = (e.0, due_kept at.End e.1);
    lists = (e.1.listed A, e.1.listed B);
    tells = told_if plan options options.diary items hand e.2;
  }
  files_answer (two.Refused stream refusal) (Ok x) e = record {
    written = (e.0, due_kept (at.Refused refusal) e.1);
    lists = (e.1.listed A, e.1.listed B);
    tells = refl;
  }
  files_answer two.Output (Ok x) e = let s = some_early _ e in record { written = s.wrote; lists = (s.late_a, s.late_b); tells = refl }
  files_answer (two.Tap place) (Ok x) e = let s = all_early _ e in record { written = s.wrote; lists = (s.late_a, s.late_b); tells = refl }
  files_answer two.Memory (Ok x) e = let s = some_early _ e in record { written = s.wrote; lists = (s.late_a, s.late_b); tells = refl }

  files_offered : (end : TwoEnd) (passed : Result (Unit {0}) SinkFault) → EndsSo end → HasOfferedOfFiles plan files taken taken2 taps taps' (status_after_two end passed)
  files_offered end (Err fault.Failed) e = tt
  files_offered end (Err fault.Memory) e = tt
  files_offered (two.Done hand) (Ok x) e = (e.0, e.1.offered)
  files_offered (two.Refused stream refusal) (Ok x) e = (e.0, e.1.offered)
  files_offered two.Output (Ok x) e = tt
  files_offered (two.Tap place) (Ok x) e = record { rows = e.rows; first = e.first; wrote = appends_kept taken taken1 taken2 (text_of e.rows) e.wrote keeps; stops = e.offered }
  files_offered two.Memory (Ok x) e = tt

  pub files_written_and_offered : (end : TwoEnd) (passed : Result (Unit {0}) SinkFault) → EndsSo end → IsOfferedOfBytes plan files taken taken2 taps taps' (status_after_two end passed)
  files_written_and_offered end passed e = record { written = (files_answer end passed e).written; offered = files_offered end passed e }

  pub files_blame : (end : TwoEnd) (passed : Result (Unit {0}) SinkFault) (place : ℕ) → EndsSo end → status_after_two end passed ≡ Tap place → BlamesTap place taps taps'
  files_blame end (Err fault.Failed) place e is = cc is
  files_blame end (Err fault.Memory) place e is = cc is
  files_blame (two.Done hand) (Ok x) place e is = cc is
  files_blame (two.Refused stream refusal) (Ok x) place e is = cc is
  files_blame two.Output (Ok x) place e is = cc is
  files_blame (two.Tap p) (Ok x) place e is = let same : p ≡ place = cc is in subst (λ n. BlamesTap n taps taps') same (stops_blames e.rows p taps taps' e.offered)
  files_blame two.Memory (Ok x) place e is = cc is

  pub files_can_tell : (end : TwoEnd) → EndsSo end → CanTellAt options.diary (as_run end)
  files_can_tell (two.Done hand) e = can_tell_if plan options options.diary refl items hand e.2
  files_can_tell (two.Refused stream refusal) e = other_ends options.diary _ (λ h is. cc is)
  files_can_tell two.Output e = other_ends options.diary _ (λ h is. cc is)
  files_can_tell (two.Tap place) e = other_ends options.diary _ (λ h is. cc is)
  files_can_tell two.Memory e = other_ends options.diary _ (λ h is. cc is)

pub files_read : (end : TwoEnd) (passed : Result (Unit {0}) SinkFault) → IsRead (status_after_two end passed)
files_read end (Err fault.Failed) = tt
files_read end (Err fault.Memory) = tt
files_read (two.Done hand) (Ok x) = tt
files_read (two.Refused stream refusal) (Ok x) = tt
files_read two.Output (Ok x) = tt
files_read (two.Tap place) (Ok x) = tt
files_read two.Memory (Ok x) = tt
