use Rattle.std.proofs.Common.{◌≡◌, ◌<◌}
use Rattle.sb_pipeline.specs.declared.transform.Down.{Down}
use Rattle.sb_pipeline.specs.Plans.{IsPlace}
use Rattle.sb_pipeline.specs.Shapes.{feeds, shape_of}
use Rattle.sb_pipeline.proofs.validity.are_fed_once.Given as goal

abbrev pub invariant-loop-node : goal.invariant-loop-node
invariant-loop-node l = (place : Down) → place.node < l.node → IsPlace l.steps place → feeds (shape_of l.steps l.source_a l.source_b) place ≡ 1
