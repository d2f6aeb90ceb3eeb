use Rattle.std.proofs.Common.{◌≡◌, ◌<◌, ℕ}
use Rattle.sb_pipeline.specs.Shapes.{feeds, shape_of}
use Rattle.sb_pipeline.proofs.validity.are_lanes_fed_once.Given as goal

abbrev pub invariant-loop-lane : goal.invariant-loop-lane
invariant-loop-lane l = (lane : ℕ) → lane < l.lane → feeds (shape_of l.steps l.source_a l.source_b) (record { node = l.node; lane = lane }) ≡ 1
