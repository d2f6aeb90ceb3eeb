use Rattle.sb_engines.specs.EngineLaws.{still_then}
use Rattle.sb_engines.proofs.FedMore.{fed-stepped, still-stepped}
use Rattle.sb_engines.proofs.shared.working.settle_each.Goals as goal

pub nodes-preserved : goal.nodes-preserved
nodes-preserved g c =
    let cascade = c.args.common.now.cascade.now in
    let p = c.args.pass.now in
    let q = c.nodes.pass in
    let r = c.settle_node.new.pass in
    let inv = c.nodes.invariant in
    let done = c.settle_node.ensures in
    let settled = c.in-Ok.ensures.settled.0 in
    record {
      same = still_then cascade p q r inv.same (still-stepped cascade q r done.pass.0 done.pass.1);
      empty = settled;
      feeder = λ f rows h. fed-stepped cascade q r f rows (inv.feeder f rows h) done.pass.0 settled done.pass.1;
    }

pub returns-in-Ok-clause-feeder : goal.returns-in-Ok-clause-feeder
returns-in-Ok-clause-feeder g c = λ f rows h.
    let done = c.settle_node.ensures in
    fed-stepped c.args.common.now.cascade.now c.nodes.pass c.settle_node.new.pass f rows (c.nodes.invariant.feeder f rows h) done.pass.0 c.in-Ok.ensures.settled.0 done.pass.1
