use denote.Param.Send.{arg_send, mut_send, param_send}
use Rattle.std.proofs.Crossing.{Vec-send}
use Rattle.sb_engines.proofs.feeds.rows.sending.RowsSender.TheSendSync as sender_crossing
use Rattle.sb_engines.proofs.worker.Crossing.{Bound-lent, Cascade-lent, Heap-lent, Mut-lent}
use Rattle.sb_run.proofs.InputCrossing.{Ahead-lent, Dropped-send, Passes-send, Signals-lent, Size-lent, Ten-send}
use Rattle.sb_run.proofs.printing.work_beside_printer.Goals as goal

pub join_mut-requires-send-F : goal.join_mut-requires-send-F
join_mut-requires-send-F g c κs within =
    search
    (param_send, arg_send, mut_send, Vec-send, Ten-send, Ahead-lent, Passes-send, Dropped-send, sender_crossing.the_send, Signals-lent, Size-lent, Bound-lent, Heap-lent, Cascade-lent, Mut-lent, c.type_bounds.sync-W, c.type_bounds.sync-G)
    depth 24
