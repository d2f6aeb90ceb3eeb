-- The limit of a ring as a number.
use Rattle.std.specs.Prelude.{◌≡◌}
use Rattle.sb_feeds.specs.declared.ring.TheConstants.{RING_PLACES}

-- the places of a ring
pub record Limits : Type 0 where
  pub places : RING_PLACES ≡ 256
