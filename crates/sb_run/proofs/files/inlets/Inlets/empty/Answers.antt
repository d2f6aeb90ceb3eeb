use Rattle.std.proofs.Common.{◌∙◌}
use Rattle.sb_run.specs.Pops.{values_of}
use Rattle.sb_run.proofs.InletPops.{came_then}
use Rattle.sb_run.proofs.files.inlets.Inlets.empty.Goals as goal

pub loop-preserved-then-is_none : goal.loop-preserved-then-is_none
loop-preserved-then-is_none g c =
    let before = c.loop.invariant in
    let came = c.pop.ensures in
    record {
      ring_a = came.ring_a ∙ before.ring_a;
      ring_b = came.ring_b ∙ before.ring_b;
      grows = λ s. came_then (values_of c.args.self.now s) (values_of c.loop.self s) (values_of c.pop.new.self s) (before.grows s) (came.grows s);
    }

pub loop-preserved : goal.loop-preserved
loop-preserved g c =
    let before = c.loop.invariant in
    let came = c.pop.ensures in
    record {
      ring_a = came.ring_a ∙ before.ring_a;
      ring_b = came.ring_b ∙ before.ring_b;
      grows = λ s. came_then (values_of c.args.self.now s) (values_of c.loop.self s) (values_of c.pop.new.self s) (before.grows s) (came.grows s);
    }
