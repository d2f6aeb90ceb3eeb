use denote.Param.Send.{arg_send, mut_send, param_send}
use Rattle.std.proofs.Crossing.{Vec-send}
use Rattle.sb_engines.proofs.worker.Crossing.{Bound-lent, Cascade-lent, Heap-lent, Mut-lent, Pass-send}
use Rattle.sb_run.proofs.InputCrossing.{Ahead-lent, Dropped-send, Out-send, Signals-lent, Size-lent, Ten-send}
use Rattle.sb_run.proofs.working.work_apart.Goals as goal

pub join_mut-requires-send-F : goal.join_mut-requires-send-F
join_mut-requires-send-F g c κs within =
    search
    (param_send, arg_send, mut_send, Vec-send, Ten-send, Ahead-lent, Dropped-send, Out-send, Signals-lent, Size-lent, Bound-lent, Heap-lent, Cascade-lent, Mut-lent, Pass-send, c.type_bounds.sync-W, c.type_bounds.sync-G)
    depth 24
