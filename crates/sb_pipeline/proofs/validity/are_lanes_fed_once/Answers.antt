use Rattle.std.proofs.Common.{◌≡◌, ap, arith, inl, inr, ◌∙◌}
use Rattle.std.proofs.lemmas.Bool.{cases_lt}
use Rattle.sb_pipeline.specs.Shapes.{feeds, shape_of}
use Rattle.sb_pipeline.proofs.validity.are_lanes_fed_once.Goals as goal

pub loop-lane-preserved : goal.loop-lane-preserved
loop-lane-preserved c = λ lane low. elim (cases_lt lane c.loop-lane.lane) [
  | inl before ↦ c.loop-lane.invariant lane before
  | inr after ↦
      let same : lane ≡ c.loop-lane.lane = omega arith in
      ap (λ l. feeds (shape_of c.args.steps.now c.args.source_a c.args.source_b) (record { node = c.args.node; lane = l })) same ∙ omega arith
]
