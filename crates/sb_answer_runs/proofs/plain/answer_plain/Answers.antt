use Rattle.std.proofs.Common.{◌≡◌, ◌≤◌, refl, ap, subst, ◌∙◌}
use Rattle.std.proofs.lemmas.List.Concat.{flat_map-append}
use Rattle.std.proofs.lemmas.List.Elements.{All-from_recursion, All-same}
use Rattle.sb_answers.specs.base.records.declared.item.Record.{Record}
use Rattle.sb_answers.specs.base.records.declared.item.Stream.TheVariants.{A, B}
use Rattle.sb_answers.specs.base.records.declared.item.TheConstants.{MAX_TIME}
use Rattle.sb_answers.specs.base.records.Streams.{records_of}
use Rattle.sb_answers.proofs.base.records.InputLemmas.{accepted-in_range, records-in_range}
use Rattle.sb_answers.specs.outside.Lines.{lines}
use Rattle.sb_answers.specs.base.pipeline.Shapes.{streams_of}
use Rattle.sb_answers.specs.one_feed.Due.{due_rows}
use Rattle.sb_answers.specs.one_feed.Given.{items_of, stop_at}
use Rattle.sb_answers.specs.words.Options.{defaults}
use Rattle.sb_answers.specs.base.records.Rows.{row_text, text_of}
use Rattle.sb_answers.specs.Answers.{HasWritten}
use Rattle.sb_answers.specs.Courses.{run_course}
use Rattle.sb_answers.specs.Pipelines.{all_rows}
use Rattle.sb_answers.proofs.Answering.{due_written, memory_answer, nothing_written, plain_answer, rows_are_due}
use Rattle.sb_answers.proofs.RunAnswers.{due_are_first}
use Rattle.sb_answer_runs.proofs.plain.answer_plain.Goals as goal
use Rattle.sb_answer_runs.proofs.plain.answer_plain.Goals.{in-Ok-rows_of_streams, in-Err}

pub returns-in_default-clause-answer : goal.returns-in_default-clause-answer
returns-in_default-clause-answer g c =
    memory_answer c.args.plan.now defaults (g.S.Source.left c.args.source.now) (g.S.Source.left c.read_input.new.source) (g.K.Sink.taken c.args.out.now)
    c.of.result c.in_default.ensures.reads c.of.ensures.status c.of.ensures.dropped c.of.ensures.diaries

pub rows_of_streams-requires : goal.rows_of_streams-requires
rows_of_streams-requires g c =
    let plan = c.args.plan.now in
    let (given, is) = c.in-Ok.ensures.reads in
    let in_range = accepted-in_range (streams_of plan) plan.late plan.keys (lines given.ended given.bytes) in
    record {
      times = (
        All-same (λ (r : Record). r.time ≤ MAX_TIME) _ _ (c.into_vec.ensures ∙ is.kept.a)
            (All-from_recursion (λ r. r.time ≤ MAX_TIME) (records_of A (items_of plan given)) (records-in_range plan.keys A (items_of plan given) in_range)),
        All-same (λ (r : Record). r.time ≤ MAX_TIME) _ _ (c.into_vec-2.ensures ∙ is.kept.b)
            (All-from_recursion (λ r. r.time ≤ MAX_TIME) (records_of B (items_of plan given)) (records-in_range plan.keys B (items_of plan given) in_range)),
      );
    }

pub returns-clause-answer : goal.returns-clause-answer
returns-clause-answer g c =
    let plan = c.args.plan.now in
    let input = c.in-Ok.input in
    let (given, is) = c.in-Ok.ensures.reads in
    let items = items_of plan given in
    let taken = g.K.Sink.taken c.args.out.now in
    let taken' = g.K.Sink.taken c.match-rows_of_streams.out in
    let status = c.match-rows_of_streams.status in
    let due = due_rows plan (stop_at plan given) items in
    let written : HasWritten (stop_at plan given) (text_of due) (text_of due) taken taken' status = elim c.match-rows_of_streams.branch [
      | in-Ok-rows_of_streams w ↦
          let are : w.deref.result.now ≡ due_rows plan input.stop items =
          w.deref.ensures.value
          ∙ rows_are_due plan c.due_mark-below.result input.low input.stop items c.into_vec.result.items c.into_vec-2.result.items w.in-Ok-rows_of_streams.rows.items w.in-Ok-rows_of_streams.ensures.rows
          (c.into_vec.ensures ∙ is.kept.a) (c.into_vec-2.ensures ∙ is.kept.b) c.due_mark-below.ensures is.low in
          rw (w.out-is, w.status-is)
          (subst (λ s. HasWritten s (text_of (due_rows plan s items)) (text_of (due_rows plan s items)) taken (g.K.Sink.taken w.write_due-status.new.out) w.write_due-status.result) is.stop (rw are at w.write_due-status.ensures.written))
      | in-Err w ↦ rw (w.out-is, w.status-is) (nothing_written taken due)
    ] in
    let first = due_are_first plan given (stop_at plan given) in
    rw c.none.ensures
    (plain_answer plan defaults given (λ given. run_course plan given) taken taken' status input.kept.dropped refl
    (due_written (stop_at plan given) (text_of due) (text_of (all_rows plan items)) (text_of first.rest) taken taken' status
    (ap text_of first.are ∙ flat_map-append row_text due first.rest) written)
    is.kept.dropped)
