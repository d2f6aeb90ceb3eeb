use Rattle.std.proofs.Common.{◌≡◌, sym, subst}
use Rattle.sb_answers.specs.alone.RunEnds.{OutputCause}
use Rattle.sb_answers.specs.base.Inputs.{by_stream}
use Rattle.sb_run.specs.TwoEnds.{as_run}
use Rattle.sb_answers.specs.Answers.{Wrote, WrotePrefix}
use Rattle.sb_answer_runs.proofs.FilesThrough.{files_through, in_files}
use Rattle.sb_answer_runs.proofs.feeds.files_to.Goals as goal

pub returns-clause-ends : goal.returns-clause-ends
returns-clause-ends g c =
    let taken = g.K.Sink.taken in
    let files = by_stream c.args.files.a.items c.args.files.b.items in
    let dropped = by_stream c.args.dropped.now.a.items c.args.dropped.now.b.items in
    let dropped' = by_stream c.execute_two.new.dropped.a.items c.execute_two.new.dropped.b.items in
    let is : c.execute_two.new.out.sink.now ≡ c.out-1.given.0 =
    sym (c.out-1.given.1 (sym (in_files _ _ _ _ (λ l h. h.0) (λ l h. h.0) c.args.plan files _ _ dropped dropped' c.args.sizes c.execute_two.result c.execute_two.ensures.ends))) in
    let ends = files_through _ _ (λ a l b. Wrote a b l) (λ a l b. WrotePrefix a b l) _ _ (taken c.args.out.now) (taken c.execute_two.new.out.sink.now) (λ l h. h.1) (λ l h. h.1)
    c.args.plan files _ _ dropped dropped' c.args.sizes c.execute_two.result c.execute_two.ensures.ends in
    rw (← is) ends

pub returns-clause-output : goal.returns-clause-output
returns-clause-output g c =
    let files = by_stream c.args.files.a.items c.args.files.b.items in
    let dropped = by_stream c.args.dropped.now.a.items c.args.dropped.now.b.items in
    let dropped' = by_stream c.execute_two.new.dropped.a.items c.execute_two.new.dropped.b.items in
    let is : c.execute_two.new.out.sink.now ≡ c.out-1.given.0 =
    sym (c.out-1.given.1 (sym (in_files _ _ _ _ (λ l h. h.0) (λ l h. h.0) c.args.plan files _ _ dropped dropped' c.args.sizes c.execute_two.result c.execute_two.ensures.ends))) in
    subst (λ k. OutputCause (g.K.Sink.sink_state c.args.out.now) (g.K.Sink.sink_state k) (as_run c.execute_two.result)) is c.execute_two.ensures.output
