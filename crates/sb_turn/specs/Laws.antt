-- The limits of turns and of the shelf as numbers.
use Rattle.std.specs.Prelude.{◌≡◌, ◌^◌}
use Rattle.sb_turn.specs.declared.keep.TheConstants.{MAX_STATE_LINES}
use Rattle.sb_turn.specs.declared.life.TheConstants.{MAX_NODES}
use Rattle.sb_turn.specs.declared.shelf.TheConstants.{PLACES}

-- the places of the shelf, the most nodes, and the most lines of a state
pub record Limits : Type 0 where
  pub places : PLACES ≡ 64
  pub nodes : MAX_NODES ≡ 13
  pub lines : MAX_STATE_LINES ≡ 2 ^ 60
