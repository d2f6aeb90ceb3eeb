-- The limit of a hand as a number.
use Rattle.std.specs.Prelude.{◌≡◌}
use Rattle.sb_hand.specs.declared.hand.TheConstants.{MAX_PENDING}

-- the most bundles of a stream that may be waiting or out
pub record Limits : Type 0 where
  pub pending : MAX_PENDING ≡ 1024
