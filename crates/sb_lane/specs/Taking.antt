-- The first waiting bundle of the oldest container that has one; and the first container of an epoch.
use Rattle.std.specs.Prelude.{ℕ, List, [], ◌∷◌, ◌++◌, Option, Some, None, filter, not, ◌==◌, if◌then◌else◌}
use Rattle.sb_containers.specs.base.bundle.declared.bundle.Bundle.{Bundle}
use Rattle.sb_containers.specs.base.records.Reading.{◌>>=◌}
use Rattle.sb_containers.specs.declared.container.Cont.{Cont}

-- by the bundles that wait in a container, and by what is taken from later ones
abbrev pub first_taken : List Bundle → Cont → List Cont → Option (Bundle × List Cont) → Option (Bundle × List Cont)
first_taken [] c cs later = later >>= λ q. Some (q.0, c ∷ q.1)
first_taken (b ∷ bs) c cs later = Some (b, record c { waiting = bs; out = c.out ++ b.number ∷ [] } ∷ cs)

-- the bundle, and the containers with it out
abbrev pub take_first : List Cont → Option (Bundle × List Cont)
take_first [] = None
take_first (c ∷ cs) = first_taken c.waiting c cs (take_first cs)

-- the container with a bundle no longer out
abbrev pub with_finished : ℕ → Cont → Cont
with_finished number c = record c { out = filter (λ n. not (n == number)) c.out }

-- the containers with the first of an epoch changed
abbrev pub at_epoch : ℕ → (Cont → Cont) → List Cont → List Cont
at_epoch epoch change [] = []
at_epoch epoch change (c ∷ cs) = if c.epoch == epoch then change c ∷ cs else c ∷ at_epoch epoch change cs

-- the containers with a bundle of the first container of an epoch finished
abbrev pub finish_first : ℕ → ℕ → List Cont → List Cont
finish_first epoch number [] = []
finish_first epoch number (c ∷ cs) =
    if c.epoch == epoch then with_finished number c ∷ cs else c ∷ finish_first epoch number cs
