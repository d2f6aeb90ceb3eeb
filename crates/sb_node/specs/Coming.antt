-- A bundle that comes back from a lane.
use Rattle.std.specs.Prelude.{◌≡◌, ◌≤◌}
use Rattle.sb_work.specs.base.bundle.declared.bundle.Bundle.{Bundle}
use Rattle.sb_lane.specs.declared.answers.ArriveStop.{ArriveStop}
use Rattle.sb_lane.specs.declared.answers.ArriveStop.TheVariants.{Full, Memory}
use Rattle.sb_lane.specs.LaneView.{LaneView}
use Rattle.sb_lane.specs.Placed.{conts_of}
use Rattle.sb_lane.specs.Unfinished.{unfinished_of}

-- the bundle comes back; the lane is full only where as many as its limit are waiting or out
abbrev pub IsBackFrom : LaneView → Bundle → ArriveStop → Type 0
IsBackFrom lane bundle (Full back) = (back ≡ bundle) × (lane.pending ≤ unfinished_of (conts_of lane.containers))
IsBackFrom lane bundle (Memory back) = back ≡ bundle
