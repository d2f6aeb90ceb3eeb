-- The laws of lanes: each change keeps the order in a lane, and each is one of the core's.
use Rattle.std.specs.Prelude.{◌≡◌, ℕ, ◌+◌, ◌≤◌, ◌<◌, true, List, length, drop, Some, Ok}
use Rattle.std.specs.List.{AllByRecursion}
use Rattle.sb_containers.specs.base.records.declared.item.Record.{Record}
use Rattle.sb_containers.specs.base.bundle.declared.bundle.Bundle.{Bundle}
use Rattle.sb_containers.specs.declared.container.Cont.{Cont}
use Rattle.sb_containers.specs.declared.container.CoreLane.{CoreLane}
use Rattle.sb_containers.specs.LaneOrder.{IsLane, IsWithin}
use Rattle.sb_containers.specs.Lanes.{in_epoch, next_epoch, next_floor, with_arrival, with_seal, with_first_closing, take_from, finish_in, closable}
use Rattle.sb_containers.specs.Marks.{first_is_closing, last_of_first}
use Rattle.sb_lane.specs.declared.answers.LaneClose.{LaneClose}
use Rattle.sb_lane.specs.Looks.{look_of}
use Rattle.sb_lane.specs.Taking.{take_first, finish_first}

-- an epoch has one floor, and floors do not fall from epoch to epoch
abbrev pub FitsBeside : ℕ → ℕ → Cont → Type 0
FitsBeside epoch floor c =
    (c.epoch < epoch → c.floor ≤ floor) × (epoch < c.epoch → floor ≤ c.floor) × (c.epoch ≡ epoch → c.floor ≡ floor)

-- a floor fits an epoch that is not sealed: the next epoch has the last mark for its floor
pub record FitsEpoch (epoch floor : ℕ) (lane : CoreLane) : Type 0 where
  pub from : next_epoch lane ≤ epoch
  pub above : next_floor lane ≤ floor
  pub next_is : epoch ≡ next_epoch lane → floor ≡ next_floor lane
  pub beside : AllByRecursion (FitsBeside epoch floor) lane.conts

-- a mark of an epoch is at most the floors of later epochs, and that of the next one
abbrev pub FitsBelow : ℕ → ℕ → Cont → Type 0
FitsBelow epoch mark c = epoch < c.epoch → (mark ≤ c.floor) × (c.epoch ≡ epoch + 1 → c.floor ≡ mark)

-- a mark fits the next epoch
pub record FitsNext (mark : ℕ) (lane : CoreLane) : Type 0 where
  pub above : next_floor lane ≤ mark
  pub below : AllByRecursion (FitsBelow (next_epoch lane) mark) lane.conts

-- a bundle comes, with times from the floor on
abbrev pub ArrivalsKeepOrder : Type 0
ArrivalsKeepOrder =
    (bound epoch floor : ℕ) (records : List Record) (lane : CoreLane)
    → IsLane bound lane → FitsEpoch epoch floor lane → IsWithin floor bound records
    → IsLane bound (with_arrival epoch floor records lane)

-- bundles of the next epoch, with its floor, may always come
abbrev pub NextEpochFits : Type 0
NextEpochFits = (bound : ℕ) (lane : CoreLane) → IsLane bound lane → FitsEpoch (next_epoch lane) (next_floor lane) lane

-- a container is made
abbrev pub PlacesKeepOrder : Type 0
PlacesKeepOrder =
    (bound epoch floor : ℕ) (lane : CoreLane)
    → IsLane bound lane → FitsEpoch epoch floor lane
    → IsLane bound (record lane { conts = in_epoch epoch floor (λ c. c) lane.conts })

-- the next epoch is sealed
abbrev pub SealsKeepOrder : Type 0
SealsKeepOrder =
    (bound mark : ℕ) (lane : CoreLane)
    → IsLane bound lane → FitsNext mark lane → IsLane bound (with_seal mark lane)

-- a bundle is taken
abbrev pub TakesKeepOrder : Type 0
TakesKeepOrder =
    (bound : ℕ) (lane : CoreLane) (bundle : Bundle) (later : List Cont)
    → IsLane bound lane → take_first lane.conts ≡ Some (bundle, later) → IsLane bound (record lane { conts = later })

-- a bundle is finished
abbrev pub FinishesKeepOrder : Type 0
FinishesKeepOrder =
    (bound epoch number : ℕ) (lane : CoreLane)
    → IsLane bound lane → IsLane bound (record lane { conts = finish_first epoch number lane.conts })

-- a closing begins
abbrev pub BeginsKeepOrder : Type 0
BeginsKeepOrder =
    (bound : ℕ) (lane : CoreLane) (close : LaneClose)
    → IsLane bound lane → look_of lane.conts ≡ Ok close
    → IsLane bound (record lane { conts = with_first_closing lane.conts })

-- the oldest container ends
abbrev pub EndsKeepOrder : Type 0
EndsKeepOrder =
    (bound : ℕ) (lane : CoreLane)
    → IsLane bound lane → first_is_closing lane.conts ≡ true
    → (lane.ended < length lane.marks)
    × IsLane bound (record lane { conts = drop 1 lane.conts; ended = lane.ended + 1 })

-- what is taken is what the core takes by its number
abbrev pub TakesAreTheCores : Type 0
TakesAreTheCores =
    (conts : List Cont) (bundle : Bundle) (later : List Cont)
    → take_first conts ≡ Some (bundle, later) → take_from bundle.number conts ≡ Some (bundle, later)

-- what is finished is what the core finishes
abbrev pub FinishesAreTheCores : Type 0
FinishesAreTheCores =
    (bound epoch number : ℕ) (lane : CoreLane)
    → IsLane bound lane → finish_first epoch number lane.conts ≡ finish_in epoch number lane.conts

-- the closing of a container that the core lets close: that of the first epoch that has not ended, with its mark
pub record IsNextClosing (lane : CoreLane) (close : LaneClose) : Type 0 where
  pub first : Cont
  pub may_close : closable lane.ended lane.conts ≡ Some first
  pub epoch_is : close.epoch ≡ lane.ended
  pub mark_is : close.mark ≡ last_of_first (lane.ended + 1) lane.marks
  pub sealed : lane.ended < length lane.marks

-- what may close is what the core lets close
abbrev pub ClosingsAreTheCores : Type 0
ClosingsAreTheCores =
    (bound : ℕ) (lane : CoreLane) (close : LaneClose)
    → IsLane bound lane → look_of lane.conts ≡ Ok close → IsNextClosing lane close
