use Rattle.std.proofs.Common.{◌++◌}
use Rattle.sb_alone.specs.Rested.{IsRested}
use Rattle.sb_alone.proofs.Flowing.{rests, rows-in-time}
use Rattle.sb_alone.proofs.SoFar.{rested_so_far}
use Rattle.sb_alone.proofs.working.work_off.Goals as goal

pub returns-in-Ok-clause-rests : goal.returns-in-Ok-clause-rests
returns-in-Ok-clause-rests c = λ f before whole.
    let settled = c.in-Ok.ensures in
    let rested : IsRested c.drain.new.self f (before ++ c.drain.result.items) =
    rests c.args.hand.now c.settle.new.hand c.drain.new.self f before c.drain.result.items settled.same settled.idle (settled.whole f before whole) c.drain.ensures.rows c.drain.ensures.rest in
    record { rested = rested; so_far = rested_so_far c.drain.new.self f (before ++ c.drain.result.items) rested }

pub returns-in-Ok-clause-times : goal.returns-in-Ok-clause-times
returns-in-Ok-clause-times c =
    let settled = c.in-Ok.ensures in
    let w = c.requires.whole in
    rows-in-time c.args.hand.now c.settle.new.hand w.0 w.1 c.drain.result.items settled.same settled.idle (settled.whole w.0 w.1 w.2) c.drain.ensures.rows
