-- The ranges and the defaults of options as numbers.
use Rattle.std.specs.Prelude.{◌≡◌}
use Rattle.sb_words.specs.declared.options.TheConstants.{MAX_WORKERS, MAX_PENDING, DEFAULT_WORKERS, DEFAULT_BUNDLE, DEFAULT_PENDING}

-- the greatest values, and those of options that are not given
pub record Limits : Type 0 where
  pub workers : MAX_WORKERS ≡ 64
  pub pending : MAX_PENDING ≡ 1024
  pub default_workers : DEFAULT_WORKERS ≡ 1
  pub default_bundle : DEFAULT_BUNDLE ≡ 1024
  pub default_pending : DEFAULT_PENDING ≡ 256
