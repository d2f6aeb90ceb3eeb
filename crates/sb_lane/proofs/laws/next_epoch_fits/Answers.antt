use Rattle.sb_lane.proofs.OrderKept.{next-fits}
use Rattle.sb_lane.proofs.laws.next_epoch_fits.Goals as goal

pub returns : goal.returns
returns c = next-fits
