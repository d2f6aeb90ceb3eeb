use Rattle.std.proofs.Common.{subst, ◌∙◌, rules}
use Rattle.std.specs.List.{slice_get}
use Rattle.sb_hand.specs.base.pipeline.Operators.{operator_at}
use Rattle.sb_hand.specs.work.Processing.{IsPart}
use Rattle.sb_hand.proofs.lane.Results.{on_ok}
use Rattle.model_tests.proofs.Parts.{part_of_output, from_zero}
use Rattle.model_tests.proofs.node.absorb.Goals as goal

pub absorb-requires-clause-takes : goal.absorb-requires-clause-takes
absorb-requires-clause-takes c unspent =
    let operator = operator_at (slice_get c.args.plan.now.steps c.args.claim.node) in (
      c.args.claim.bundle.records,
      record {
        operator = operator;
        made = c.requires.made;
        is_lane = search rules;
        is_part = subst (λ n. IsPart operator n c.args.claim.bundle.records c.in-Part.part) c.if-claim-ne0.false
            (part_of_output operator c.args.claim.lane c.args.claim.bundle.records c.in-Part.part (rw c.in-Part.is at c.in_ok-claim.ensures.output));
        in_time = search rules;
        from = from_zero _ 0 c.args.claim.bundle.records c.requires.closed;
      },
    )

pub returns : goal.returns
returns c =
    let at = c.has_one_lane.ensures c.if-not-has_one_lane.false in
    on_ok c.absorb.result (λ absorbs. (absorbs at.0 at.1).closed ∙ c.requires.closed) c.absorb.ensures.absorbs
