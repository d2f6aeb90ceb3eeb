use Rattle.std.proofs.Common.{◌∙◌}
use Rattle.sb_alone.specs.Rested.{HasSameSetting}
use Rattle.sb_alone.specs.SettingLaws.{same_then}
use Rattle.sb_alone.proofs.Settings.{same_spent, same_unspent}
use Rattle.sb_alone.proofs.Settling.{earlier-kept}
use Rattle.sb_alone.proofs.Standing.{whole-stepped}
use Rattle.sb_alone.proofs.working.settle_node.Goals as goal

pub steps-preserved : goal.steps-preserved
steps-preserved c =
    let stepped = c.in-Ok-Bundle.ensures in
    let same : HasSameSetting c.steps.hand c.step.new.self = same_unspent c.steps.hand c.step.new.self stepped.plan stepped.bundle stepped.pending stepped.was stepped.settings in
    record {
      same = same_then c.args.hand.now c.steps.hand c.step.new.self c.steps.invariant.same same;
      whole = λ f rows w. whole-stepped c.steps.hand c.step.new.self c.args.node c.in-Ok-Bundle.field-0 f rows stepped.steps stepped.is same (c.steps.invariant.whole f rows w);
      earlier = λ k lt. earlier-kept c.steps.hand.plan c.steps.hand.bundle c.args.node c.steps.hand.nodes c.step.new.self.nodes c.steps.hand.tray c.step.new.self.tray c.in-Ok-Bundle.field-0 stepped.steps k lt ∙ c.steps.invariant.earlier k lt;
    }

pub returns-in-Err-clause-same : goal.returns-in-Err-clause-same
returns-in-Err-clause-same c =
    let stepped = c.in-Err.ensures in
    same_then c.args.hand.now c.steps.hand c.step.new.self c.steps.invariant.same (same_spent c.steps.hand c.step.new.self stepped.plan stepped.bundle stepped.pending stepped.spent)
