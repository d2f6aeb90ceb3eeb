-- What holds of each bundle that is given.
use Rattle.std.specs.Prelude.{◌≡◌, ◌≤◌, length, All}
use Rattle.sb_bundle.specs.declared.bundle.Bundle.{Bundle}
use Rattle.sb_bundle.specs.Cutting.{Cutting}

-- a bundle of the cutter's epoch: it has 1 to `size` records, none of which has a time below the floor
pub record IsBundleOf (c : Cutting) (b : Bundle) : Type 0 where
  pub epoch : b.epoch ≡ c.epoch
  pub floor : b.floor ≡ c.floor
  pub some : 1 ≤ length b.records
  pub most : length b.records ≤ c.size
  pub timely : All (λ r. b.floor ≤ r.time) b.records
