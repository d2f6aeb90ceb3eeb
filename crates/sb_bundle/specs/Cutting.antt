-- What a cutter has.
use Rattle.std.specs.Prelude.{ℕ, ◌≤◌, ◌<◌, List, length, All}
use Rattle.sb_record.specs.declared.item.Record.{Record}
use Rattle.sb_bundle.specs.declared.bundle.TheConstants.{MAX_BUNDLE}

-- how many records fill a bundle, how many watermarks there were, the last of them, 0 before the first, and the records
-- that fill no bundle yet
pub record Cutting : Type 0 where
  pub size : ℕ
  pub epoch : ℕ
  pub floor : ℕ
  pub held : List Record

-- the size is one of a bundle, the records held do not fill one, and none of them has a time below the floor
pub record IsCutting (c : Cutting) : Type 0 where
  pub some_size : 1 ≤ c.size
  pub most_size : c.size ≤ MAX_BUNDLE
  pub fewer : length c.held < c.size
  pub timely : All (λ r. c.floor ≤ r.time) c.held
