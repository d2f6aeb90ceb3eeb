use Rattle.std.proofs.Common.{rules}
use Rattle.std.specs.List.{slice_get}
use Rattle.sb_hand.specs.base.pipeline.Operators.{operator_at}
use Rattle.model_tests.proofs.Parts.{part_of_output, from_zero}
use Rattle.model_tests.proofs.kept.take.Goals as goal

pub absorb-requires : goal.absorb-requires
absorb-requires c =
    record {
      takes = λ unspent. (
        c.args.claim.lane,
        c.args.claim.bundle.records,
        record {
          operator = operator_at (slice_get c.args.plan.now.steps c.args.claim.node);
          made = c.requires.made;
          is_lane = search rules;
          is_part = part_of_output (operator_at (slice_get c.args.plan.now.steps c.args.claim.node)) c.args.claim.lane c.args.claim.bundle.records c.in-Part.part (rw c.in-Part.is at c.in_ok-output.ensures.output);
          in_time = search rules;
          from = from_zero _ c.args.claim.lane c.args.claim.bundle.records c.requires.closed;
        },
      );
    }
