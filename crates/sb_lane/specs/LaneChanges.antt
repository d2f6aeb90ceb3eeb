-- What becomes of a lane at a call.
use Rattle.std.specs.Prelude.{◌≡◌, ℕ, ◌+◌, List, drop}
use Rattle.sb_containers.specs.base.bundle.declared.bundle.Bundle.{Bundle}
use Rattle.sb_containers.specs.declared.container.Cont.{Cont}
use Rattle.sb_containers.specs.declared.container.CoreLane.{CoreLane}
use Rattle.sb_containers.specs.Lanes.{with_arrival, with_seal}
use Rattle.sb_lane.specs.Placed.{conts_of}
use Rattle.sb_lane.specs.Links.{links_of, with_place}
use Rattle.sb_lane.specs.LaneView.{LaneView, lane_of}

-- the core's lane is this one, and the limit is as before
pub record Becomes (later : CoreLane) (old new : LaneView) : Type 0 where
  pub lane : lane_of new ≡ later
  pub pending : new.pending ≡ old.pending

-- a bundle is numbered and waits in the container of its epoch
abbrev pub Admits : Bundle → LaneView → LaneView → Type 0
Admits bundle old new = Becomes (with_arrival bundle.epoch bundle.floor bundle.records (lane_of old)) old new

-- the next epoch is sealed with a mark
abbrev pub Seals : ℕ → LaneView → LaneView → Type 0
Seals mark old new = Becomes (with_seal mark (lane_of old)) old new

-- the lane has these containers, and is else as before
abbrev pub HasContainers : List Cont → LaneView → LaneView → Type 0
HasContainers conts old new = Becomes (record (lane_of old) { conts = conts }) old new

-- the oldest container has ended: it is gone
abbrev pub EndsOldest : LaneView → LaneView → Type 0
EndsOldest old new =
    Becomes (record (lane_of old) { conts = drop 1 (conts_of old.containers); ended = old.ended + 1 }) old new

-- nothing but rooms has changed
pub record IsUnchanged (old new : LaneView) : Type 0 where
  pub lane : lane_of new ≡ lane_of old
  pub links : links_of new.containers ≡ links_of old.containers
  pub pending : new.pending ≡ old.pending
  pub searches : new.searches ≡ old.searches

-- the epoch has a container, at a place that it got now or had before, and all other links stay
pub record GivesPlace (epoch : ℕ) (old new : LaneView) : Type 0 where
  pub place : ℕ
  pub links : links_of new.containers ≡ with_place epoch place (links_of old.containers)
