-- A floor that fits an epoch.
use Rattle.std.specs.Prelude.{◌≡◌, ℕ, ◌≤◌, ◌<◌, List}
use Rattle.std.specs.List.{AllByRecursion}
use Rattle.sb_containers.specs.declared.container.Cont.{Cont}

-- the floor fits an epoch, beside the containers that are there
abbrev pub Fits : ℕ → ℕ → List Cont → Type 0
Fits epoch floor cs = AllByRecursion (λ c. (c.epoch < epoch → c.floor ≤ floor) × (epoch < c.epoch → floor ≤ c.floor) × (c.epoch ≡ epoch → c.floor ≡ floor)) cs
