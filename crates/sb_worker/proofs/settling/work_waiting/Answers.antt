use Rattle.sb_cascade.proofs.leavings.Handing.{empty-still, same-then}
use Rattle.sb_worker.proofs.Gaining.{gains-after, grows-then}
use Rattle.sb_worker.proofs.Leaving.{idle-left, left-grows}
use Rattle.sb_worker.proofs.settling.work_waiting.Goals as goal

pub loop-preserved : goal.loop-preserved
loop-preserved g c =
    let p = c.args.pass.now in
    let q = c.loop.pass in
    let r = c.take.new.pass in
    let s = c.work_off.new.pass in
    let inv = c.loop.invariant in
    let worked = c.work_off.ensures in
    let done = c.in_ok-work_off.ensures.done in
    let taken = c.in-Some-take.ensures.some in (
      (worked.pass.0, same-then p q s inv.0.1 (same-then q r s c.take.ensures.pass.1 worked.pass.1)),
      done.0,
      grows-then p q s inv.2 (grows-then q r s (left-grows c.args.node _ q r taken.3) (done.1.0, done.1.1)),
    )

pub returns-in_default-clause-idle : goal.returns-in_default-clause-idle
returns-in_default-clause-idle g c =
    let p = c.args.pass.now in
    let q = c.loop.pass in
    let r = c.take.new.pass in
    let none = c.in_default.ensures.none in
    (empty-still q r none.0 c.loop.invariant.1, gains-after _ p q r c.loop.invariant.2 (idle-left c.args.node q r none.1))
