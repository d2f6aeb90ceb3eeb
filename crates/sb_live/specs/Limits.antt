-- The limit of a live table as a number.
use Rattle.std.specs.Prelude.{◌≡◌}
use Rattle.sb_live.specs.declared.writer.TheConstants.{MAX_READERS}

-- the most readers that a table is made with
pub record Limits : Type 0 where
  pub readers : MAX_READERS ≡ 64
