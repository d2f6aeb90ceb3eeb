use Rattle.std.proofs.Common.{ℕ, arith, rules}
use Rattle.std.proofs.lemmas.List.{length-drop, take_rest}
use Rattle.sb_outside.proofs.Appending.{wrote_more, wrote_prefix, writes_err}
use Rattle.sb_outside.proofs.SinkCauses.{no_call, calls_then, whatever_given, whatever_refused}
use Rattle.sb_outside.proofs.sink.write_all_of.Goals as goal

pub writes-init : goal.writes-init
writes-init g c = record { within = search rules; taken = search rules; cause = no_call (g.K.Sink.sink_state c.args.sink.now) }

pub writes-preserved : goal.writes-preserved
writes-preserved g c =
    let count = c.in_ok-done.field-0 in
    let done = c.writes.done in
    let bytes = c.args.bytes.now in record {
      within = omega (arith, c.in_ok-done.ensures.bound, c.writes.invariant.within, length-drop done bytes);
      taken = wrote_more _ _ _ bytes done count c.writes.invariant.taken (rw (take_rest bytes done) at c.in_ok-done.ensures.bytes.1);
      cause = whatever_given _ _ count 0 (calls_then _ _ _ 0 _ c.writes.invariant.cause c.in_ok-done.ensures.cause);
    }

pub returns-in_err-done-clause-bytes : goal.returns-in_err-done-clause-bytes
returns-in_err-done-clause-bytes g c = writes_err _ _ _ c.from_residual.result c.from_residual.ensures.0 (wrote_prefix _ _ _ c.args.bytes.now c.writes.done c.writes.invariant.taken c.in_err-done.ensures.bytes)

pub returns-in_err-done-clause-cause : goal.returns-in_err-done-clause-cause
returns-in_err-done-clause-cause g c = whatever_refused {S = ℕ} _ _ c.in_err-done.field-0.0 _ (calls_then _ _ _ 0 _ c.writes.invariant.cause c.in_err-done.ensures.cause) (search (rules, c.from_residual.ensures.1))

pub returns-clause-cause : goal.returns-clause-cause
returns-clause-cause g c = whatever_given _ _ 0 _ c.writes.invariant.cause
