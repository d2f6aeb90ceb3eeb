use Rattle.sb_worker.proofs.cascade.leavings.Handing.{same-then}
use Rattle.sb_engines.proofs.FedMore.{fed-stepped}
use Rattle.sb_engines.proofs.PassesHeld.{first-stepped}
use Rattle.sb_engines.proofs.shared.handing.empty_shelf.Goals as goal

pub returns-in-None-claim-clause-fed : goal.returns-in-None-claim-clause-fed
returns-in-None-claim-clause-fed g c = λ f rows h.
    let claimed = c.in-None-claim.ensures in
    fed-stepped c.args.cascade.now c.loop.pass c.claim.new.pass f rows (c.loop.invariant.fed f rows h) claimed.pass.0 claimed.none.0 claimed.pass.1

pub loop-preserved : goal.loop-preserved
loop-preserved g c =
    let cascade = c.args.cascade.now in
    let p = c.loop.pass in
    let r = c.work_off.new.pass in
    let worked = c.in-Ok.ensures in
    let same = same-then p c.claim.new.pass r c.claim.ensures.pass.1 worked.pass.1 in
    record {
      first = first-stepped cascade p r 0 worked.pass.0 worked.done.0 same c.loop.invariant.first;
      fed = λ f rows h. fed-stepped cascade p r f rows (c.loop.invariant.fed f rows h) worked.pass.0 worked.done.0 same;
    }
