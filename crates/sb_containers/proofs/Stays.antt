-- What a change of a lane leaves as it was.
use Rattle.std.proofs.Common.{◌≡◌, ℕ, ◌+◌, ◌-◌, true, cond, eqb, Some}
use Rattle.std.specs.List.{list_any}
use Rattle.sb_containers.specs.declared.container.Cont.{Cont}
use Rattle.sb_containers.specs.declared.container.CoreLane.{CoreLane}
use Rattle.sb_containers.specs.Marks.{begun_count, last_of_first, first_is_closing}
use Rattle.sb_containers.specs.LaneOrder.{cont_at}
use Rattle.sb_containers.proofs.Begun.{begun_mark}

-- the lane has the same marks, ends and closing, and each bundle that was out of a container is out of it
pub record IsKept (lane with : CoreLane) : Type 0 where
  pub marks : with.marks ≡ lane.marks
  pub ended : with.ended ≡ lane.ended
  pub closing : first_is_closing with.conts ≡ first_is_closing lane.conts
  pub out : (epoch number : ℕ) (c : Cont) → cont_at epoch lane.conts ≡ Some c → list_any (λ n. eqb n number) c.out ≡ true
      → (d : Cont) × (cont_at epoch with.conts ≡ Some d) × (d.floor ≡ c.floor) × (list_any (λ n. eqb n number) d.out ≡ true)

-- so it begins the same marks
pub begun-kept : {lane with : CoreLane} → IsKept lane with → begun_count with ≡ begun_count lane
begun-kept kept = λ i. cond (kept.closing i) (kept.ended i + 1) (kept.ended i)

pub mark-kept : {lane with : CoreLane} → IsKept lane with → begun_mark with ≡ begun_mark lane
mark-kept kept = λ i. last_of_first (begun-kept kept i) (kept.marks i)

-- a container of the epoch, with the floor and the number out
abbrev pub IsOutAt : ℕ → ℕ → ℕ → CoreLane → Type 0
IsOutAt epoch floor number lane = (c : Cont) × (cont_at epoch lane.conts ≡ Some c) × (c.floor ≡ floor) × (list_any (λ n. eqb n number) c.out ≡ true)
