use Rattle.std.proofs.Common.{◌-◌, arith, length, subst}
use Rattle.std.specs.Prelude.{MatchBool}
use Rattle.sb_cascade.proofs.leavings.Handing.{same-then}
use Rattle.sb_cascade.specs.Calls.{plan_of}
use Rattle.sb_worker.specs.Entries.{Does, Gains, is_not_yet_of}
use Rattle.sb_worker.specs.Steps.{IsNotYet, IsNotYetAt}
use Rattle.sb_worker.proofs.Gaining.{gains-so, gains-then}
use Rattle.sb_worker.proofs.Looping.{HasFrom, from-before}
use Rattle.sb_worker.proofs.closing.close_any.Goals as goal

pub loop-node-preserved : goal.loop-node-preserved
loop-node-preserved g c =
    let sink = length (plan_of c.args.cascade.now).steps in
    let p = c.args.pass.now in
    let q = c.loop-node.pass in
    let r = c.close_node.new.pass in
    let n = c.loop-node.node in
    let inv = c.loop-node.invariant in
    let none : Gains (IsNotYetAt (n - 1)) q r = subst (λ b. MatchBool b (Gains (Does 0 1) q r) (Gains (IsNotYetAt (n - 1)) q r)) c.if-branch.false c.in_ok-close_node.ensures.trace in (
      (c.close_node.ensures.pass.0, same-then p q r inv.0.1 c.close_node.ensures.pass.1),
      c.in_ok-close_node.ensures.empty,
      gains-then p q r (HasFrom is_not_yet_of sink n) (IsNotYetAt (n - 1)) (HasFrom is_not_yet_of sink (n - 1)) (from-before is_not_yet_of sink n c.loop-node-test.true) inv.2 none,
    )

pub returns-clause-trace : goal.returns-clause-trace
returns-clause-trace g c =
    let sink = length (plan_of c.args.cascade.now).steps in
    let n = c.loop-node.node in
    gains-so c.args.pass.now c.loop-node.pass (HasFrom is_not_yet_of sink n) (IsNotYet sink) (λ l x. (x.0, λ k le. x.1 k (omega (arith, c.loop-node-test.false)) le)) c.loop-node.invariant.2
