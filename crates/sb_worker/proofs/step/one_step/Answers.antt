use Rattle.std.proofs.Common.{List, [], ◌∷◌, ap, length}
use Rattle.sb_cascade.specs.turn.declared.turns.Entry.{Entry}
use Rattle.sb_cascade.specs.turn.declared.turns.Entry.TheVariants.{Saw}
use Rattle.sb_cascade.specs.turn.Reasons.{number_of}
use Rattle.sb_cascade.specs.shared.declared.telling.Change.{Change}
use Rattle.sb_worker.specs.Entries.{Gained}
use Rattle.sb_worker.proofs.Doing.{seen-first}
use Rattle.sb_worker.proofs.Gaining.{gained-then}
use Rattle.sb_worker.proofs.step.one_step.Goals as goal

pub returns-in-Ok-clause-done : goal.returns-in-Ok-clause-done
returns-in-Ok-clause-done g c =
    let sink = length c.args.cascade.now.setting.plan.steps in
    let p = c.args.pass.now in
    let q = c.reason.new.pass in
    let first : List (Entry Change) = Saw (number_of c.reason.result) ∷ [] in
    let seen : Gained p q first = ap (λ v. v.trace) c.reason.ensures.word in
    let done = c.in-Ok.ensures.done.1 in (
      _,
      gained-then p q c.do_next.new.pass first done.0 seen done.1,
      seen-first sink (number_of c.reason.result) c.in-Ok.did done.0 done.2,
    )
