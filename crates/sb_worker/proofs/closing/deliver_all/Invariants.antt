use Rattle.std.proofs.Common.{◌≡◌, ◌+◌, false, [], cond, length}
use Rattle.sb_cascade.specs.Calls.{HasClosing, IsReady, IsSame, rows_left}
use Rattle.sb_worker.specs.Entries.{Does, Gains}
use Rattle.sb_worker.proofs.closing.deliver_all.Given as goal

abbrev pub invariant-loop-more : goal.invariant-loop-more
invariant-loop-more g l = (IsReady l.cascade l.pass × IsSame l.fn.pass l.pass) × HasClosing l.closing false l.pass × Gains (Does 0 0) l.fn.pass l.pass × (l.more ≡ false → rows_left l.closing l.pass ≡ [])

abbrev pub decreases-loop-more : goal.decreases-loop-more
decreases-loop-more g l = length (rows_left l.closing l.pass) + cond l.more 1 0
