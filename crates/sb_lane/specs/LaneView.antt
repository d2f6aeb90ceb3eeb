-- What contracts see of a lane.
use Rattle.std.specs.Prelude.{ℕ, ◌+◌, ◌-◌, ◌^◌, List, [], min, Option}
use Rattle.sb_containers.specs.declared.container.CoreLane.{CoreLane}
use Rattle.sb_lane.specs.Placed.{Placed, conts_of}
use Rattle.sb_lane.specs.Links.{Link, links_of, link_in}

-- beside what the core's lane has: places, links and rooms of the containers, the limit of unfinished bundles for
-- arrivals, and how often the container of an epoch was looked for
pub record LaneView : Type 0 where
  pub containers : List Placed
  pub arrived : ℕ
  pub marks : List ℕ
  pub ended : ℕ
  pub pending : ℕ
  pub searches : ℕ

-- a lane in which nothing has arrived
abbrev pub empty_lane : ℕ → LaneView
empty_lane pending = record { containers = []; arrived = 0; marks = []; ended = 0; pending = pending; searches = 0 }

-- the lane as the core has it
abbrev pub lane_of : LaneView → CoreLane
lane_of s = record { conts = conts_of s.containers; arrived = s.arrived; marks = s.marks; ended = s.ended }

-- the link of an epoch
abbrev pub link_at : ℕ → LaneView → Option Link
link_at epoch s = link_in epoch (links_of s.containers)

-- one search more; the number stays at its greatest value
abbrev pub one_search_more : ℕ → ℕ
one_search_more n = min (n + 1) (2 ^ 64 - 1)
