use Rattle.std.specs.Prelude.{◌++◌}
use Rattle.std.proofs.KnownBytes.{Appends-trans}
use Rattle.sb_answer_runs.specs.answers.diary.Texts.{diary_text}
use Rattle.sb_answer_runs.proofs.answers.outside.Appending.{prefix_later, prefix_of_more, writes_err}
use Rattle.sb_answer_runs.specs.answers.told.Statuses.{late_text, note_text, notes_text}
use Rattle.sb_answer_runs.proofs.answers.told.Printing.{written_behind}
use Rattle.sb_cli.proofs.command.write_notes.Goals as goal

pub returns-in_err-write-clause-bytes : goal.returns-in_err-write-clause-bytes
returns-in_err-write-clause-bytes g c =
    let ending = c.args.ending.now in
    let taken = g.N.Sink.taken c.args.notes.now in
    let taken' = g.N.Sink.taken c.write.new.notes in
    let late = late_text ending.late in
    writes_err taken taken' (notes_text ending.late ending.diaries ending.status) c.from_residual.result c.from_residual.ensures.0
    (prefix_of_more taken taken' (late ++ diary_text ending.diaries) (note_text ending.status)
    (prefix_of_more taken taken' late (diary_text ending.diaries) c.in_err-write.ensures.bytes))

pub returns-in_err-write-2-clause-bytes : goal.returns-in_err-write-2-clause-bytes
returns-in_err-write-2-clause-bytes g c =
    let ending = c.args.ending.now in
    let taken = g.N.Sink.taken c.args.notes.now in
    let taken1 = g.N.Sink.taken c.write.new.notes in
    let taken2 = g.N.Sink.taken c.write-2.new.notes in
    let late = late_text ending.late in
    writes_err taken taken2 (notes_text ending.late ending.diaries ending.status) c.from_residual-in_err-write-2.result c.from_residual-in_err-write-2.ensures.0
    (prefix_of_more taken taken2 (late ++ diary_text ending.diaries) (note_text ending.status)
    (prefix_later taken taken1 taken2 late (diary_text ending.diaries) c.in_ok-write.ensures.bytes c.in_err-write-2.ensures.bytes))

pub returns-clause-bytes : goal.returns-clause-bytes
returns-clause-bytes g c =
    let ending = c.args.ending.now in
    let taken = g.N.Sink.taken in
    let late = late_text ending.late in
    written_behind (taken c.args.notes.now) (taken c.write-2.new.notes) (taken c.write_all_of.new.sink) (late ++ diary_text ending.diaries) (note_text ending.status) c.write_all_of.result
    (Appends-trans (taken c.args.notes.now) (taken c.write.new.notes) (taken c.write-2.new.notes) late (diary_text ending.diaries)
    c.in_ok-write.ensures.bytes c.in_ok-write-2.ensures.bytes)
    (rw (c.as_slice.ensures.bytes, c.note_of.ensures) at c.write_all_of.ensures.bytes)
