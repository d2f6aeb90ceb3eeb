use Rattle.std.proofs.Common.{◌≡◌, sym, subst}
use Rattle.sb_run.specs.CutEnds.{CutOutputCause}
use Rattle.sb_answers.specs.Answers.{Wrote, WrotePrefix}
use Rattle.sb_answer_runs.proofs.CutThrough.{in_part, part_through}
use Rattle.sb_answer_runs.proofs.cutting.part_to.Goals as goal

pub returns-clause-ends : goal.returns-clause-ends
returns-clause-ends g c =
    let taken = g.K.Sink.taken in
    let is : c.run_part.new.out.sink.now ≡ c.out-1.given.0 =
    sym (c.out-1.given.1 (sym (in_part _ _ _ _ (λ l h. h.0) (λ l h. h.0) _ _ _ _ _ _ c.run_part.ensures.ends))) in
    let ends = part_through _ _ (λ a l b. Wrote a b l) (λ a l b. WrotePrefix a b l) _ _ (taken c.args.out.now) (taken c.run_part.new.out.sink.now) (λ l h. h.1) (λ l h. h.1) _ _ _ _ _ _ c.run_part.ensures.ends in
    rw (← is) ends

pub returns-clause-output : goal.returns-clause-output
returns-clause-output g c =
    let is : c.run_part.new.out.sink.now ≡ c.out-1.given.0 =
    sym (c.out-1.given.1 (sym (in_part _ _ _ _ (λ l h. h.0) (λ l h. h.0) _ _ _ _ _ _ c.run_part.ensures.ends))) in
    subst (λ k. CutOutputCause (g.K.Sink.sink_state c.args.out.now) (g.K.Sink.sink_state k) c.run_part.result) is c.run_part.ensures.output
