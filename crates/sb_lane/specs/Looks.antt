-- What the oldest container answers to a closing.
use Rattle.std.specs.Prelude.{ℕ, Bool, true, false, List, [], ◌∷◌, length, Option, Some, None, Result, Ok, Err}
use Rattle.sb_containers.specs.base.bundle.declared.bundle.Bundle.{Bundle}
use Rattle.sb_containers.specs.declared.container.Cont.{Cont}
use Rattle.sb_lane.specs.declared.answers.LaneClose.{LaneClose}
use Rattle.sb_lane.specs.declared.answers.NotYet.{NotYet}
use Rattle.sb_lane.specs.declared.answers.NotYet.TheVariants.{NoContainer, Closing, Unsealed, Waiting, Out}

-- of one that is not closing, by its mark, what waits and what is out
abbrev pub look_marked : Cont → Option ℕ → List Bundle → List ℕ → Result LaneClose NotYet
look_marked c None waiting out = Err (Unsealed c.epoch)
look_marked c (Some mark) (b ∷ bs) out = Err (Waiting c.epoch (length (b ∷ bs)))
look_marked c (Some mark) [] (n ∷ ns) = Err (Out c.epoch (length (n ∷ ns)))
look_marked c (Some mark) [] [] = Ok (record { epoch = c.epoch; mark = mark })

-- by whether it is closing
abbrev pub look_closing : Cont → Bool → Result LaneClose NotYet
look_closing c true = Err (Closing c.epoch)
look_closing c false = look_marked c c.mark c.waiting c.out

-- the first in this order that holds of the oldest container, or that it may close
abbrev pub look_of : List Cont → Result LaneClose NotYet
look_of [] = Err NoContainer
look_of (c ∷ cs) = look_closing c c.closing
