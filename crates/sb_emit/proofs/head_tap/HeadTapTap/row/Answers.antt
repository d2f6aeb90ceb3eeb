use Rattle.std.proofs.Common.{ℕ, List, ◌∙◌, subst}
use Rattle.sb_outside.specs.Sinks.{AppendsPrefix}
use Rattle.sb_outside.proofs.Appending.{wrote_prefix}
use Rattle.sb_emit.proofs.Writing.{writes_more}
use Rattle.sb_emit.proofs.head_tap.HeadTapTap.row.Goals as goal

pub writes-preserved : goal.writes-preserved
writes-preserved g c = record {
  writing = writes_more _ _ _ c.as_slice-bytes.result.now c.writes.written c.in-Ok.taken _ _ _ c.writes.invariant.writing c.in-Ok.ensures.bound c.in-Ok.ensures.bytes.1 c.in-Ok.ensures.cause;
  head = c.writes.invariant.head;
}

pub returns-in-Err-clause-bytes : goal.returns-in-Err-clause-bytes
returns-in-Err-clause-bytes g c =
    rw (← c.self.view_is)
    (subst (λ (l : List ℕ). AppendsPrefix (g.K.Sink.taken c.self.inside.sink) (g.K.Sink.taken c.write.new.self) l) (c.as_slice-bytes.ensures.bytes ∙ c.row_bytes-text.ensures.text)
    (wrote_prefix _ _ _ c.as_slice-bytes.result.now c.writes.written c.writes.invariant.writing.taken c.in-Err.ensures.bytes))
