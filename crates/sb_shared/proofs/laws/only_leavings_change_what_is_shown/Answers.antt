use Rattle.sb_shared.proofs.lives.OnlyLeavings.{only_leavings}
use Rattle.sb_shared.proofs.laws.only_leavings_change_what_is_shown.Goals as goal

pub returns : goal.returns
returns c = only_leavings
