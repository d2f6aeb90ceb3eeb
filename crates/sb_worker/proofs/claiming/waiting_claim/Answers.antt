use Rattle.std.proofs.Common.{◌-◌, arith, length}
use Rattle.sb_cascade.proofs.leavings.Handing.{same-then}
use Rattle.sb_cascade.specs.Calls.{plan_of}
use Rattle.sb_worker.specs.Entries.{is_idle_of}
use Rattle.sb_worker.specs.Steps.{IsClaiming, IsIdle, IsIdleAt}
use Rattle.sb_worker.proofs.Claims.{claiming-after}
use Rattle.sb_worker.proofs.Gaining.{gains-so, gains-then}
use Rattle.sb_worker.proofs.Looping.{HasFrom, from-before}
use Rattle.sb_worker.proofs.claiming.waiting_claim.Goals as goal

pub returns-in-Some-clause-some : goal.returns-in-Some-clause-some
returns-in-Some-clause-some g c =
    let sink = length (plan_of c.args.cascade.now).steps in
    let s = c.in-Some.ensures.some in (
      s.0,
      s.1,
      gains-then c.args.pass.now c.loop-node.pass c.claim_at.new.pass (HasFrom is_idle_of sink c.loop-node.node) IsClaiming IsClaiming (λ a b x y. claiming-after a b x.0 y) c.loop-node.invariant.2 s.2,
    )

pub loop-node-preserved : goal.loop-node-preserved
loop-node-preserved g c =
    let sink = length (plan_of c.args.cascade.now).steps in
    let p = c.args.pass.now in
    let q = c.loop-node.pass in
    let r = c.claim_at.new.pass in
    let n = c.loop-node.node in
    let inv = c.loop-node.invariant in
    let none = c.in_default.ensures.none in (
      (c.claim_at.ensures.pass.0, same-then p q r inv.0.1 c.claim_at.ensures.pass.1),
      none.0,
      gains-then p q r (HasFrom is_idle_of sink n) (IsIdleAt (n - 1)) (HasFrom is_idle_of sink (n - 1)) (from-before is_idle_of sink n c.loop-node-test.true) inv.2 none.1,
    )

pub returns-clause-none : goal.returns-clause-none
returns-clause-none g c =
    let sink = length (plan_of c.args.cascade.now).steps in
    let n = c.loop-node.node in
    let inv = c.loop-node.invariant in (
      inv.1,
      gains-so c.args.pass.now c.loop-node.pass (HasFrom is_idle_of sink n) (IsIdle sink) (λ l x. (x.0, λ k le. x.1 k (omega (arith, c.loop-node-test.false)) le)) inv.2,
    )
