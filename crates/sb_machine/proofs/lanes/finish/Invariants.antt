use Rattle.std.proofs.Common.{◌≡◌, ◌++◌, take, drop}
use Rattle.sb_core.specs.containers.Lanes.{finish_in}
use Rattle.sb_machine.proofs.lanes.finish.Given as goal

abbrev pub invariant-loop-cont : goal.invariant-loop-cont
invariant-loop-cont l =
    l.cont-items ≡ finish_in l.epoch l.number (take l.cont-index l.fn.lane.conts) ++ drop l.cont-index l.fn.lane.conts
