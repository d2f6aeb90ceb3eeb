-- What becomes of a single lane in a step.
use Rattle.std.specs.Prelude.{◌≡◌, ℕ, ◌-◌, ◌^◌, nat_lt, List, Option, Some, None}
use Rattle.sb_containers.specs.base.records.declared.item.Record.{Record}
use Rattle.sb_containers.specs.base.records.Reading.{◌>>=◌}
use Rattle.sb_containers.specs.base.bundle.declared.bundle.Bundle.{Bundle}
use Rattle.sb_containers.specs.base.pipeline.declared.transform.Down.{Down}
use Rattle.sb_containers.specs.declared.container.CoreLane.{CoreLane}
use Rattle.sb_core.specs.declared.moment.Moment.{Moment}
use Rattle.sb_containers.specs.Choices.{only_if}
use Rattle.sb_containers.specs.Lanes.{take_from, with_arrival, with_seal}
use Rattle.sb_core.specs.Moments.{lane_at, with_lane}

-- the waiting bundle of the number is out, or there is none and the lane is as before
abbrev pub TakesOut : ℕ → CoreLane → CoreLane → Option Bundle → Type 0
TakesOut number old new (Some bundle) =
    (take_from number old.conts ≡ Some (bundle, new.conts)) × (new ≡ record old { conts = new.conts })
TakesOut number old new None = (take_from number old.conts ≡ None) × (new ≡ old)

-- the moment with the next epoch of a lane sealed
abbrev pub sealed_at : Down → ℕ → Moment → Option Moment
sealed_at d mark m = lane_at m d >>= λ lane. with_lane d (with_seal mark lane) m

-- the moment with a bundle in an epoch of a lane
abbrev pub arrived_at : Down → ℕ → ℕ → List Record → Moment → Option Moment
arrived_at d epoch floor records m =
    lane_at m d >>= λ lane.
    only_if (nat_lt lane.arrived (2 ^ 64 - 1)) (with_lane d (with_arrival epoch floor records lane) m)
