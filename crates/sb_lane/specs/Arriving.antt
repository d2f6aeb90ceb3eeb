-- Why a bundle was refused.
use Rattle.std.specs.Prelude.{◌≡◌, ◌≤◌, ◌<◌}
use Rattle.sb_containers.specs.base.bundle.declared.bundle.Bundle.{Bundle}
use Rattle.sb_lane.specs.declared.answers.ArriveStop.{ArriveStop}
use Rattle.sb_lane.specs.declared.answers.ArriveStop.TheVariants.{Full, Memory}
use Rattle.sb_lane.specs.LaneView.{LaneView, lane_of}
use Rattle.sb_lane.specs.Unfinished.{unfinished_of}

-- the bundle comes back; the lane is full just where at least as many bundles as the limit are unfinished
abbrev pub IsRefused : LaneView → Bundle → ArriveStop → Type 0
IsRefused s bundle (Full back) = (back ≡ bundle) × (s.pending ≤ unfinished_of (lane_of s).conts)
IsRefused s bundle (Memory back) = (back ≡ bundle) × (unfinished_of (lane_of s).conts < s.pending)
