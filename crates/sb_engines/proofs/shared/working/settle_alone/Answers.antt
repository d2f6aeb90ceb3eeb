use Rattle.std.proofs.lemmas.Result.{on_ok_weaker}
use Rattle.sb_worker.proofs.cascade.leavings.Handing.{empty-still}
use Rattle.sb_engines.proofs.FedMore.{fed-stepped}
use Rattle.sb_engines.proofs.shared.working.settle_alone.Goals as goal

pub returns-in-Running-clause-feeder : goal.returns-in-Running-clause-feeder
returns-in-Running-clause-feeder g c =
    let p = c.args.pass.now in
    let q = c.reason.new.pass in
    let seen = c.reason.ensures.pass in
    on_ok_weaker c.settle_each.result (λ settled f rows h. settled f rows
    (fed-stepped c.args.common.now.cascade.now p q f rows h seen.0 (empty-still p q seen.2 c.requires.pass.1) seen.1)) c.settle_each.ensures.feeder
