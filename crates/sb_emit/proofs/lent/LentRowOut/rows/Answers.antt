use Rattle.std.proofs.Common.{List, ◌∙◌, ap, take, arith}
use Rattle.std.proofs.lemmas.List.{length-drop, take_rest}
use Rattle.sb_record.specs.declared.item.Record.{Record}
use Rattle.sb_record.specs.Rows.{text_of}
use Rattle.sb_outside.proofs.SinkCauses.{calls_then}
use Rattle.sb_emit.proofs.Writing.{writes_more}
use Rattle.sb_emit.proofs.Batches.{batch_written, batch_failed}
use Rattle.sb_emit.proofs.lent.LentRowOut.rows.Goals as goal

pub writes-preserved : goal.writes-preserved
writes-preserved g c = record {
  named = c.writes.invariant.named;
  writing = writes_more _ _ _ c.as_slice-text.result.now c.writes.written c.in-Ok.taken _ _ _ c.writes.invariant.writing c.in-Ok.ensures.bound c.in-Ok.ensures.bytes.1 c.in-Ok.ensures.cause;
}

pub returns-in-Err-clause-rows : goal.returns-in-Err-clause-rows
returns-in-Err-clause-rows g c =
    let rows = c.args.rows.now in
    let count = c.gather-count.result in
    let is = c.as_slice-text.ensures.bytes ∙ c.gather-count.ensures.text ∙ ap (λ (l : List Record). text_of (take count l)) (take_rest rows c.batches.done) in
    (c.writes.invariant.named ∙ c.batches.invariant.named, batch_failed _ _ _ _ rows c.batches.done count c.writes.written c.as_slice-text.result.now is c.batches.invariant.taken c.writes.invariant.writing.taken c.in-Err.ensures.bytes)

pub batches-preserved : goal.batches-preserved
batches-preserved g c =
    let rows = c.args.rows.now in
    let count = c.gather-count.result in
    let done = c.batches.done in
    let is = c.as_slice-text.ensures.bytes ∙ c.gather-count.ensures.text ∙ ap (λ (l : List Record). text_of (take count l)) (take_rest rows done) in record {
      named = c.writes.invariant.named ∙ c.batches.invariant.named;
      within = omega (arith, c.gather-count.ensures.within, c.batches.invariant.within, length-drop done rows);
      taken = batch_written _ _ _ rows done count c.writes.written c.as_slice-text.result.now is c.writes-test.false c.batches.invariant.taken c.writes.invariant.writing.taken;
      cause = calls_then _ _ _ 0 _ c.batches.invariant.cause c.writes.invariant.writing.cause;
    }
