-- Where the container of an epoch is, and where a waiting bundle.
use Rattle.std.specs.Prelude.{◌≡◌, ◌<◌, ◌≤◌, ℕ, ◌∷◌, [], ◌++◌, List, length, insert, remove, slice_get, slice_set}
use Rattle.std.specs.Prelude.{Option, Some, None, Result, Ok, Err}
use Rattle.sb_slow.specs.base.bundle.declared.bundle.Bundle.{Bundle}
use Rattle.sb_core.specs.containers.declared.container.Cont.{Cont}
use Rattle.sb_core.specs.containers.Lanes.{fresh, in_epoch, take_from}

-- the container of the epoch is at the place; or a fresh one is to be put there
abbrev pub IsPlaceOf : ℕ → List Cont → Result ℕ ℕ → Type 0
IsPlaceOf epoch conts (Ok at) =
    (c : Cont) × (at < length conts) × (slice_get conts at ≡ Some c)
    × ((floor : ℕ) (change : Cont → Cont) → in_epoch epoch floor change conts ≡ slice_set conts at (change c))
IsPlaceOf epoch conts (Err at) =
    (at ≤ length conts)
    × ((floor : ℕ) (change : Cont → Cont)
    → in_epoch epoch floor change conts ≡ insert conts at (change (fresh epoch floor)))

-- the container without the waiting bundle at the place, which is out
abbrev pub without : ℕ → ℕ → Cont → Cont
without number place c = record c { waiting = remove c.waiting place; out = c.out ++ number ∷ [] }

-- the waiting bundle of the number is at the place in a container; or there is none
abbrev pub IsWaitingAt : ℕ → List Cont → Option (ℕ × ℕ) → Type 0
IsWaitingAt number conts (Some p) =
    (c : Cont) × (b : Bundle) × (p.0 < length conts) × (slice_get conts p.0 ≡ Some c)
    × (p.1 < length c.waiting) × (slice_get c.waiting p.1 ≡ Some b)
    × (take_from number conts ≡ Some (b, slice_set conts p.0 (without number p.1 c)))
IsWaitingAt number conts None = take_from number conts ≡ None
