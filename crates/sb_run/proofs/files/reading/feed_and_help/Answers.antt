use denote.Param.Send.{arg_send, mut_send, param_send}
use Rattle.std.proofs.Crossing.{Vec-send}
use Rattle.sb_engines.proofs.worker.Crossing.{Bound-lent, Cascade-lent, Five-send, Heap-lent, Mut-lent, Pass-send}
use Rattle.sb_run.proofs.files.reading.feed_and_help.Goals as goal

pub join_mut-requires-send-F : goal.join_mut-requires-send-F
join_mut-requires-send-F g c κs within =
    search (param_send, arg_send, mut_send, Vec-send, Five-send, Bound-lent, Heap-lent, Cascade-lent, Mut-lent, Pass-send, c.type_bounds.sync-W, c.type_bounds.sync-G) depth 20
