-- The limits of runs as numbers.
use Rattle.std.specs.Prelude.{◌≡◌}
use Rattle.sb_engines.specs.feeds.declared.limits.TheConstants.{MAX_FILE_LENGTH}
use Rattle.sb_engines.specs.alone.declared.sizes.TheConstants.{MAX_WORKERS}

-- the most workers, and the most bytes of a record file
pub record Limits : Type 0 where
  pub workers : MAX_WORKERS ≡ 64
  pub file_length : MAX_FILE_LENGTH ≡ 268435456
