-- Lanes, and what becomes of one: a lane's containers stand in order of epoch.
use Rattle.std.specs.Prelude.{ℕ, ◌+◌, ◌-◌, ◌==◌, nat_lt, true, false, not, ◌&&◌, if◌then◌else◌, List, [], ◌∷◌, ◌++◌}
use Rattle.std.specs.Prelude.{length, map, filter, Option, Some, None, is_some, slice_index}
use Rattle.std.specs.List.{list_any}
use Rattle.sb_base.specs.records.declared.item.Record.{Record}
use Rattle.sb_base.specs.records.Reading.{◌>>=◌}
use Rattle.sb_base.specs.bundle.declared.bundle.Bundle.{Bundle}
use Rattle.sb_containers.specs.declared.container.Cont.{Cont}
use Rattle.sb_containers.specs.declared.container.CoreLane.{CoreLane}
use Rattle.sb_containers.specs.Choices.{only_if, is_empty, first_and_rest}

-- the next epoch is the first that is not sealed
abbrev pub next_epoch : CoreLane → ℕ
next_epoch lane = length lane.marks

-- its floor is the last mark, or 0
abbrev pub next_floor : CoreLane → ℕ
next_floor lane = slice_index lane.marks (length lane.marks - 1)

-- an empty container
abbrev pub fresh : ℕ → ℕ → Cont
fresh epoch floor = record { epoch = epoch; floor = floor; waiting = []; out = []; mark = None; closing = false }

-- a change to the container of an epoch, which is made, in order of epoch, where it is not there
abbrev pub in_epoch : ℕ → ℕ → (Cont → Cont) → List Cont → List Cont
in_epoch epoch floor change [] = change (fresh epoch floor) ∷ []
in_epoch epoch floor change (c ∷ cs) =
    if c.epoch == epoch
    then change c ∷ cs
    else if nat_lt epoch c.epoch then change (fresh epoch floor) ∷ c ∷ cs else c ∷ in_epoch epoch floor change cs

-- the container with one more bundle waiting
abbrev pub with_bundle : Bundle → Cont → Cont
with_bundle b c = record c { waiting = c.waiting ++ b ∷ [] }

-- the lane with one more bundle in an epoch; bundles are numbered from 1 in order of arrival
abbrev pub with_arrival : ℕ → ℕ → List Record → CoreLane → CoreLane
with_arrival epoch floor records lane =
    let bundle : Bundle = record { number = lane.arrived + 1; epoch = epoch; floor = floor; records = records } in
    record lane { conts = in_epoch epoch floor (with_bundle bundle) lane.conts; arrived = lane.arrived + 1 }

-- the lane with its next epoch sealed
abbrev pub with_seal : ℕ → CoreLane → CoreLane
with_seal mark lane =
    record lane {
      conts = in_epoch (next_epoch lane) (next_floor lane) (λ c. record c { mark = Some mark }) lane.conts;
      marks = lane.marks ++ mark ∷ [];
    }

-- the waiting bundle of a number, and the containers with that bundle out
abbrev pub take_from : ℕ → List Cont → Option (Bundle × List Cont)
take_from number [] = None
take_from number (c ∷ cs) =
    if list_any (λ b. b.number == number) c.waiting
    then (first_and_rest (λ b. b.number == number) c.waiting >>= λ q.
    Some (q.0, record c { waiting = q.1; out = c.out ++ number ∷ [] } ∷ cs))
    else (take_from number cs >>= λ q. Some (q.0, c ∷ q.1))

-- the containers with a bundle of an epoch no longer out
abbrev pub finish_in : ℕ → ℕ → List Cont → List Cont
finish_in epoch number conts =
    map {A = Cont} {B = Cont}
    (λ c. if c.epoch == epoch then record c { out = filter (λ n. not (n == number)) c.out } else c) conts

-- the first container, where it may close: it is of the epoch, sealed, and no bundle of it is waiting or out
abbrev pub closable : ℕ → List Cont → Option Cont
closable epoch [] = None
closable epoch (c ∷ cs) =
    only_if ((c.epoch == epoch) && (is_some c.mark && (is_empty c.waiting && is_empty c.out))) (Some c)

abbrev pub with_first_closing : List Cont → List Cont
with_first_closing [] = []
with_first_closing (c ∷ cs) = record c { closing = true } ∷ cs
