use Rattle.std.proofs.Common.{◌≡◌, ◌+◌, ap, ◌∙◌, Some, arith}
use Rattle.sb_containers.specs.declared.container.Cont.{Cont}
use Rattle.sb_lane.specs.Placed.{conts_of}
use Rattle.sb_lane.specs.Unfinished.{unfinished_of}
use Rattle.sb_lane.proofs.Counts.{unfinished-in_epoch}
use Rattle.sb_lane.proofs.KeepingMarks.{one-sealed}
use Rattle.sb_lane.proofs.lane.Lane.seal.Goals as goal

pub invariant_of-self-2 : goal.invariant_of-self-2
invariant_of-self-2 c =
    let s = c.self.inside in
    let n : unfinished_of (conts_of c.seal_at.new.containers) ≡ unfinished_of (conts_of c.self.inside.containers) + 0 =
    ap unfinished_of c.in_ok-seal_at.ensures.ok.conts ∙ unfinished-in_epoch _ _ 0 (λ (x : Cont). record x { mark = Some c.args.mark }) (λ x. omega arith) (conts_of c.self.inside.containers) in
    (omega (arith, c.self.invariant.0, n), c.self.invariant.1, rw (c.push_back_reserved.ensures.items, c.reserve.ensures.items, c.with.ensures) (one-sealed s.marks s.sealed s.ended s.last_mark s.closed_mark s.open_marks.items c.self.invariant.2 c.args.mark))
