-- Where a container stands in a list of containers.
use Rattle.std.specs.Prelude.{◌≡◌, ℕ, ◌<◌, List, [], length, slice_index_or}
use Rattle.sb_containers.specs.declared.container.Cont.{Cont}
use Rattle.sb_lane.specs.Placed.{Placed, conts_of}

-- the containers before the index are of lower epochs
abbrev pub LowerBefore : ℕ → ℕ → List Cont → Type 0
LowerBefore epoch i cs = (k : ℕ) (d : Cont) → k < i → (slice_index_or cs k d).epoch < epoch

-- the containers before the index are of other epochs
abbrev pub OthersBefore : ℕ → ℕ → List Cont → Type 0
OthersBefore epoch i cs = (k : ℕ) (d : Cont) → k < i → (slice_index_or cs k d).epoch ≡ epoch → ⊥

-- no bundle waits in the containers before the index
abbrev pub NoneWaitsBefore : ℕ → List Cont → Type 0
NoneWaitsBefore i cs = (k : ℕ) (d : Cont) → k < i → (slice_index_or cs k d).waiting ≡ []

-- the container at the index is of the epoch
abbrev pub IsOfEpoch : ℕ → ℕ → List Cont → Type 0
IsOfEpoch epoch i cs = (d : Cont) → (slice_index_or cs i d).epoch ≡ epoch

-- a container at the index is of a higher epoch
abbrev pub IsHigherAt : ℕ → ℕ → List Placed → Type 0
IsHigherAt epoch i xs = i < length xs → (d : Cont) → epoch < (slice_index_or (conts_of xs) i d).epoch
