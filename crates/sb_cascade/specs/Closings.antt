-- Why a closing did not begin.
use Rattle.std.specs.Prelude.{ℕ, ◌⊎◌}
use Rattle.sb_cascade.specs.declared.closings.CloseStop.{CloseStop}
use Rattle.sb_cascade.specs.declared.closings.CloseStop.TheVariants.{NotYet, Memory}
use Rattle.sb_cascade.specs.declared.pass.CascadePass.{CascadePass}
use Rattle.sb_shared.specs.declared.telling.Change.TheVariants as change
use Rattle.sb_cascade.specs.Calls.{LeftBy, LeftSpent}
use Rattle.sb_cascade.specs.Told.{Is}

-- a look under the node's turn said that no closing could begin; or there was no memory, and nothing has changed or
-- what the node keeps is unknown
abbrev pub StopsBy : ℕ → CascadePass → CascadePass → CloseStop → Type 0
StopsBy node p q (NotYet why) = LeftBy node (Is (change.NotYet why)) p q
StopsBy node p q Memory = LeftBy node (Is change.Nothing) p q ⊎ LeftSpent node p q
