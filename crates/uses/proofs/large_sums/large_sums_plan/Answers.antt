use Rattle.std.proofs.Common.{to_z, of_z, w64}
use Rattle.uses.proofs.LargeSums.{steps_are_plan}
use Rattle.uses.proofs.large_sums.large_sums_plan.Goals as goal

pub unwrap-requires : goal.unwrap-requires
unwrap-requires c =
    c.new.ensures.valid.1 (steps_are_plan (to_z w64 (of_z w64 c.args.least)) c.args.size c.in_ok-steps.steps.items c.requires.some_size c.requires.most_size c.in_ok-steps.ensures)
