-- The output that shows rows in a live table may be sent to a thread. What stands on a trail, which is in a cycle of
-- types, has no such proof from rattle.
use denote.RattleType.{RattleType}
use denote.Param.Send.{IsSend, IsSync, sendable}
use Rattle.std.proofs.Crossing.{crosses}
use Rattle.std.proofs.MapsCrossing.{crosses as maps}
use Rattle.left_right.proofs.part.Part.TheSendSync as part_crossing
use Rattle.left_right.proofs.part.Deed.TheSendSync as deed_crossing
use Rattle.atomic_table.proofs.send_lease.SendLease.TheSendSync as lease_crossing
use Rattle.atomic_table.proofs.shared.Seat.TheSendSync as seat_crossing
use Rattle.atomic_table.proofs.shared.Shared.TheSendSync as shared_crossing
use Rattle.sb_emit.proofs.records.Crossing.{Trail-send, Trail-sync}
use Rattle.sb_emit.proofs.records.item.Record.TheSendSync as record_crossing
use Rattle.sb_emit.proofs.records.key.Key.TheSendSync as key_crossing
use Rattle.sb_live.proofs.change.Change.TheSendSync as change_crossing
use Rattle.sb_live.specs.contracts.table.Table as table
use Rattle.sb_live.specs.contracts.writer.LiveOut as out
use Rattle.sb_live.specs.contracts.rows.LiveRows as rows

Table-send : IsSend table.the_row
Table-send =
    search
    (sendable, crosses, maps, Trail-send, record_crossing.the_send, key_crossing.the_send, change_crossing.the_send)
    depth 60 fits 50000

Table-sync : IsSync table.the_row
Table-sync =
    search
    (sendable, crosses, maps, Trail-sync, record_crossing.the_sync, key_crossing.the_sync, change_crossing.the_sync)
    depth 60 fits 50000

Out-send : (R : RattleType) → IsSend R → IsSend (out.the_row R)
Out-send R s =
    search
    (sendable, crosses, Table-send, Table-sync, change_crossing.the_send, part_crossing.the_send, part_crossing.the_sync, deed_crossing.the_send, lease_crossing.the_send, lease_crossing.the_sync, seat_crossing.the_send, shared_crossing.the_send, shared_crossing.the_sync)
    depth 80 fits 400000

pub LiveRows-send : (R : RattleType) → IsSend R → IsSend (rows.the_row R)
LiveRows-send R s = search (sendable, Out-send) depth 60 fits 50000
