use Rattle.std.proofs.Common.{◌≡◌, sym, ap, subst, ◌∙◌}
use Rattle.sb_answers.specs.base.records.Records.{at_least}
use Rattle.sb_answers.specs.alone.RunEnds.{OutputCause}
use Rattle.sb_run.proofs.Through.{ends_through, in_ends}
use Rattle.sb_answers.specs.Answers.{Wrote, WrotePrefix}
use Rattle.sb_answer_runs.proofs.resuming.rest_to.Goals as goal

pub returns-clause-ends : goal.returns-clause-ends
returns-clause-ends g c =
    let taken = g.K.Sink.taken in
    let low = c.args.checkpoint.low in
    let same = c.into_out-sink.ensures in
    let (rest, read, ends) = rw c.new-rows.ensures at c.run_rest-end.ensures.ends in
    let named = in_ends _ _ _ _ (λ l h. h.out.0) (λ l h. h.out.0) _ _ _ _ _ _ _ _ _ ends in
    let back = c.out-1.given.1 (sym (ap (λ l. l.sink.ghost_name) same ∙ named)) in
    let is : c.run_rest-end.new.out.out.sink.now ≡ c.out-1.given.0 = ap (λ l. l.sink.now) (sym same) ∙ sym back in
    let through = ends_through _ _ (λ a l b. Wrote a b (at_least low l)) (λ a l b. WrotePrefix a b (at_least low l)) _ _ (taken c.args.out.now) (taken c.run_rest-end.new.out.out.sink.now)
    (λ l h. h.out.1) (λ l h. h.out.1) _ _ _ _ _ _ _ _ _ ends in
    (rest, read, rw (← is) through)

pub returns-clause-output : goal.returns-clause-output
returns-clause-output g c =
    let same = c.into_out-sink.ensures in
    let (rest, read, ends) = rw c.new-rows.ensures at c.run_rest-end.ensures.ends in
    let named = in_ends _ _ _ _ (λ l h. h.out.0) (λ l h. h.out.0) _ _ _ _ _ _ _ _ _ ends in
    let back = c.out-1.given.1 (sym (ap (λ l. l.sink.ghost_name) same ∙ named)) in
    let is : c.run_rest-end.new.out.out.sink.now ≡ c.out-1.given.0 = ap (λ l. l.sink.now) (sym same) ∙ sym back in
    let output = rw c.new-rows.ensures at c.run_rest-end.ensures.output in
    subst (λ k. OutputCause (g.K.Sink.sink_state c.args.out.now) (g.K.Sink.sink_state k) c.run_rest-end.result) is output
