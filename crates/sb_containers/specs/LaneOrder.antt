-- The order in a lane: of its marks, its containers and their floors.
use Rattle.std.specs.Prelude.{◌≡◌, ℕ, ◌+◌, ◌≤◌, true, false, List, [], ◌∷◌, length, drop, ◌==◌, if◌then◌else◌, Option}
use Rattle.std.specs.Prelude.{Some, None}
use Rattle.std.specs.List.{AllByRecursion}
use Rattle.sb_base.specs.records.declared.item.Record.{Record}
use Rattle.sb_base.specs.bundle.declared.bundle.Bundle.{Bundle}
use Rattle.sb_containers.specs.declared.container.Cont.{Cont}
use Rattle.sb_containers.specs.declared.container.CoreLane.{CoreLane}
use Rattle.sb_containers.specs.Marks.{last_of_first}

-- the marks never fall, from low on
abbrev pub NeverFalls : ℕ → List ℕ → Type 0
NeverFalls low [] = Unit {0}
NeverFalls low (m ∷ ms) = (low ≤ m) × NeverFalls m ms

-- the times lie from the floor to the bound
abbrev pub IsWithin : ℕ → ℕ → List Record → Type 0
IsWithin floor bound l = AllByRecursion (λ r. (floor ≤ r.time) × (r.time ≤ bound)) l

-- a bundle has the epoch and the floor of its container, and its times lie from there to the bound
pub record IsBundleOf (bound : ℕ) (c : Cont) (b : Bundle) : Type 0 where
  pub epoch : b.epoch ≡ c.epoch
  pub floor : b.floor ≡ c.floor
  pub times : IsWithin c.floor bound b.records

-- the container of a sealed epoch
pub record IsSealed (bound epoch floor mark : ℕ) (c : Cont) : Type 0 where
  pub epoch_is : c.epoch ≡ epoch
  pub floor_is : c.floor ≡ floor
  pub mark_is : c.mark ≡ Some mark
  pub bundles : AllByRecursion (IsBundleOf bound c) c.waiting

-- the container of an epoch that is not sealed; the next epoch has the floor next_floor
pub record IsOpen (bound next next_floor epoch floor : ℕ) (c : Cont) : Type 0 where
  pub epoch_from : epoch ≤ c.epoch
  pub floor_from : floor ≤ c.floor
  pub next_is : c.epoch ≡ next → c.floor ≡ next_floor
  pub no_mark : c.mark ≡ None
  pub not_closing : c.closing ≡ false
  pub bundles : AllByRecursion (IsBundleOf bound c) c.waiting

-- the containers of later epochs, in order
abbrev pub AreOpen : ℕ → ℕ → ℕ → ℕ → ℕ → List Cont → Type 0
AreOpen bound next next_floor epoch floor [] = Unit {0}
AreOpen bound next next_floor epoch floor (c ∷ cs) =
    IsOpen bound next next_floor epoch floor c × AreOpen bound next next_floor (c.epoch + 1) c.floor cs

-- the containers from an epoch and its floor on: those of the sealed epochs, with these marks, and then later ones
abbrev pub AreContainers : ℕ → ℕ → ℕ → List ℕ → List Cont → Type 0
AreContainers bound epoch floor [] cs = AreOpen bound epoch floor epoch floor cs
AreContainers bound epoch floor (m ∷ ms) [] = ⊥
AreContainers bound epoch floor (m ∷ ms) (c ∷ cs) =
    IsSealed bound epoch floor m c × AreContainers bound (epoch + 1) m ms cs

-- where the first container is closing, nothing of it waits or is out
abbrev pub IsReady : List Cont → Type 0
IsReady [] = Unit {0}
IsReady (c ∷ cs) = c.closing ≡ true → (c.waiting ≡ []) × (c.out ≡ [])

-- the container of an epoch
abbrev pub cont_at : ℕ → List Cont → Option Cont
cont_at epoch [] = None
cont_at epoch (c ∷ cs) = if c.epoch == epoch then Some c else cont_at epoch cs

-- the marks and the containers of a lane are in order, and only the first container may be closing, with nothing
-- waiting or out
pub record IsLane (bound : ℕ) (lane : CoreLane) : Type 0 where
  pub ended_in : lane.ended ≤ length lane.marks
  pub rising : NeverFalls 0 lane.marks
  pub containers : AreContainers bound lane.ended (last_of_first lane.ended lane.marks) (drop lane.ended lane.marks)
      lane.conts
  pub ready : IsReady lane.conts
  pub others : AllByRecursion (λ c. c.closing ≡ false) (drop 1 lane.conts)
