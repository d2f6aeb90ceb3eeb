use denote.Param.Send.{arg_send, mut_send, param_send}
use Rattle.std.proofs.Common.{◌≡◌, rules}
use Rattle.std.proofs.Crossing.{Vec-send}
use Rattle.sb_engines.proofs.worker.Crossing.{Bound-lent, Cascade-lent, Heap-lent, Mut-lent, Pass-send}
use Rattle.sb_run.proofs.FilesCrossing.{Files-send, Six-send}
use Rattle.sb_run.proofs.files.executing.work.Given.{Over}
use Rattle.sb_run.proofs.files.executing.work.Goals as goal

pub join_mut-requires-send-F : goal.join_mut-requires-send-F
join_mut-requires-send-F g c κs within =
    search (param_send, arg_send, mut_send, Vec-send, Six-send, Files-send, Bound-lent, Heap-lent, Cascade-lent, Mut-lent, Pass-send, c.type_bounds.sync-W, c.type_bounds.sync-G) depth 20

-- what the feeder left is what is there behind the join
same-out : (g : Over) (c : goal.After-dropped-1 g) → c.out-1.given.0 ≡ c.join_mut.new.g.7.now
same-out g c = search rules

same-taps : (g : Over) (c : goal.After-dropped-1 g) → c.taps-1.given.0 ≡ c.join_mut.new.g.8.now
same-taps g c = search rules

same-dropped : (g : Over) (c : goal.After-dropped-1 g) → c.dropped-1.given.0 ≡ c.join_mut.new.g.9.now
same-dropped g c = search rules

pub returns-clause-feeds : goal.returns-clause-feeds
returns-clause-feeds g c =
    rw (same-out g c)
    (rw (same-taps g c)
    (rw (same-dropped g c)
    c.join_mut.ensures.1.met.1.1.1.1.0))
