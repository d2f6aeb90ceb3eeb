-- A pass may be sent to a thread, and a cascade shared by threads. What stands on a trail, which is in a cycle of types,
-- has no such proof from rattle.
use mathlib.Core.List.{List, [], ◌∷◌}
use Prim.Native.Nat.{ℕ}
use mir.Syntax.{Sym}
use denote.Builtin.{One, u64}
use denote.Hole.{as_row}
use denote.Param.{param}
use denote.Param.Send.{AllSend, IsSend, IsSync, sendable}
use denote.Param.SendFields.{FieldsHave, as_row_send, declared_send, declared_sync, variants_send, variants_sync}
use denote.RattleType.{RattleType}
use denote.Ref.{NamedLft}
use denote.Struct.Field.{mut_ref_field, row_field, shr_ref_field}
use denote.Struct.Tuple.{TupleAt, parts, type_at}
use Rattle.std.specs.contracts.alloc.Global as heap
use Rattle.std.specs.contracts.option.Option as option
use Rattle.std.proofs.Crossing.{crosses, Box-send, Box-sync, Vec-send, Vec-sync, send as heap-send, sync as heap-sync}
use Rattle.std.proofs.MapsCrossing.{crosses as maps}
use Rattle.atomic_table.proofs.shared.Seat.TheSendSync as seat_crossing
use Rattle.sb_cascade.specs.base.records.contracts.item.Record as record_row
use Rattle.sb_cascade.proofs.base.records.Crossing.{Trail-send, Trail-sync}
use Rattle.sb_cascade.proofs.base.records.item.Record.TheSendSync as record_crossing
use Rattle.sb_cascade.proofs.base.window.windows.Windows.TheSendSync as windows_crossing
use Rattle.sb_cascade.specs.work.aggregate.contracts.grouping.Aggregate as aggregate
use Rattle.sb_cascade.proofs.work.aggregate.partials.KeptPartials.TheSendSync as partials_crossing
use Rattle.sb_cascade.proofs.session.session.Session.TheSendSync as session_crossing
use Rattle.sb_cascade.proofs.work.join.kept.JoinKept.TheSendSync as join_crossing
use Rattle.sb_cascade.proofs.sink.sink.SinkKept.TheSendSync as sink_crossing
use Rattle.sb_cascade.specs.work.contracts.claim.Claim as claim
use Rattle.sb_cascade.proofs.work.claim.Claim.TheSendSync as claim_crossing
use Rattle.sb_cascade.specs.lane.contracts.lane.Lane as lane
use Rattle.sb_cascade.proofs.lane.arena.Arena.TheSendSync as arena_crossing
use Rattle.sb_cascade.specs.diary.contracts.diary.Diary as diary
use Rattle.sb_cascade.proofs.diary.event.DiaryEvent.TheSendSync as event_crossing
use Rattle.sb_cascade.specs.node.contracts.kept.Kept as kept
use Rattle.sb_cascade.specs.node.contracts.state.NodeState as node
use Rattle.sb_cascade.specs.turn.contracts.turns.Slot as slot
use Rattle.sb_cascade.proofs.turn.turns.Slot.TheSendSync as slot_crossing
use Rattle.sb_cascade.proofs.turn.turns.Turns.TheSendSync as turns_crossing
use Rattle.sb_cascade.specs.shared.contracts.shared_node.SharedNode as shared
use Rattle.sb_cascade.specs.shared.contracts.shared_node.SharedNode.TheInside as inside
use Rattle.sb_cascade.specs.shared.contracts.telling.Piece as piece
use Rattle.sb_cascade.proofs.shared.telling.Piece.TheSendSync as piece_crossing
use Rattle.sb_cascade.proofs.shared.telling.Setting.TheSendSync as setting_crossing
use Rattle.sb_cascade.specs.contracts.pass.CascadePass as pass
use Rattle.sb_cascade.specs.contracts.cascade.Cascade as cascade

-- the state of a node may be sent
Lane-send : IsSend lane.the_row
Lane-send = search (sendable, crosses, Trail-send, arena_crossing.the_send) depth 60 fits 50000

Diary-send : IsSend diary.the_row
Diary-send = search (sendable, crosses, Trail-send, event_crossing.the_send) depth 60

Aggregate-send : IsSend aggregate.the_row
Aggregate-send =
    search
    (sendable, crosses, maps, Trail-send, record_crossing.the_send, partials_crossing.the_send, windows_crossing.the_send)
    depth 60 fits 50000

Kept-send : IsSend kept.the_row
Kept-send =
    variants_send
    kept.enum
    ((heap-send, (search sendable, tt)), ((Aggregate-send, tt), ((session_crossing.the_send, tt), ((join_crossing.the_send, tt), ((sink_crossing.the_send, tt), tt)))))

Node-send : IsSend node.the_row
Node-send = declared_send node.the_type (Vec-send lane.the_row Lane-send, (Kept-send, (search sendable, (Diary-send, tt))))

-- it may be shared
Lane-sync : IsSync lane.the_row
Lane-sync = search (sendable, crosses, Trail-sync, arena_crossing.the_sync) depth 60 fits 50000

Diary-sync : IsSync diary.the_row
Diary-sync = search (sendable, crosses, Trail-sync, event_crossing.the_sync) depth 60

Aggregate-sync : IsSync aggregate.the_row
Aggregate-sync =
    search
    (sendable, crosses, maps, Trail-sync, record_crossing.the_sync, partials_crossing.the_sync, windows_crossing.the_sync)
    depth 60 fits 50000

Kept-sync : IsSync kept.the_row
Kept-sync =
    variants_sync
    kept.enum
    ((heap-sync, (search sendable, tt)), ((Aggregate-sync, tt), ((session_crossing.the_sync, tt), ((join_crossing.the_sync, tt), ((sink_crossing.the_sync, tt), tt)))))

Node-sync : IsSync node.the_row
Node-sync = declared_sync node.the_type (Vec-sync lane.the_row Lane-sync, (Kept-sync, (search sendable, (Diary-sync, tt))))

-- what lies under a turn
Inside-send : IsSend inside.the_row
Inside-send =
    declared_send inside.the_type (Box-send node.the_row Node-send, (Vec-send record_row.the_row record_crossing.the_send, (search sendable, (search sendable, tt))))

Shared-send : IsSend shared.the_row
Shared-send = search (sendable, Inside-send)

Inside-sync : IsSync inside.the_row
Inside-sync =
    declared_sync inside.the_type (Box-sync node.the_row Node-sync, (Vec-sync record_row.the_row record_crossing.the_sync, (search sendable, (search sendable, tt))))

Shared-sync : IsSync shared.the_row
Shared-sync = search (sendable, Inside-sync)

-- a pass may be sent
Slot-send : IsSend (slot.the_row shared.the_row piece.the_row)
Slot-send = slot_crossing.the_send shared.the_row piece.the_row Shared-send piece_crossing.the_send

Number-send : IsSend (as_row (option.the_field u64))
Number-send = search sendable depth 20

Claim-send : IsSend (as_row (option.the_field claim.the_row))
Claim-send = search (sendable, claim_crossing.the_send) depth 20

pub Pass-send : IsSend pass.the_row
Pass-send = declared_send pass.the_type (seat_crossing.the_send _ _ Slot-send, (Number-send, (search sendable, (Claim-send, (Number-send, tt)))))

-- a cascade may be shared
Cascade-sync : IsSync cascade.the_row
Cascade-sync =
    declared_sync
    cascade.the_type
    (heap-sync, (search (sendable, crosses, turns_crossing.the_sync, Shared-send, Shared-sync, piece_crossing.the_send), (setting_crossing.the_sync, (Vec-sync node.the_row Node-sync, tt))))

-- what is lent may be sent
pub Bound-lent : (ℓ : NamedLft) (i : ℕ) (R : RattleType) → IsSync (param i R) → IsSend (shr_ref_field ℓ (param i R) tt).row
Bound-lent ℓ i R shared = search sendable depth 20

pub Mut-lent : (ℓ : NamedLft) (T : RattleType) (one : One T.mir) → IsSend T → IsSend (mut_ref_field ℓ T one).row
Mut-lent ℓ T one sent = search sendable depth 20

pub Heap-lent : (ℓ : NamedLft) → IsSend (shr_ref_field ℓ heap.the_row tt).row
Heap-lent ℓ = search (sendable, heap-sync) depth 20

pub Cascade-lent : (ℓ : NamedLft) → IsSend (shr_ref_field ℓ cascade.the_row tt).row
Cascade-lent ℓ = search (sendable, Cascade-sync) depth 20

-- a closure may be sent if what it captures may
captured : (Ts : List RattleType) → AllSend Ts → FieldsHave IsSend (parts Ts)
captured [] all = tt
captured (T ∷ Ts) all = (as_row_send (row_field T) all.0, captured Ts all.1)

Closure-send : (ν : Sym) (Ts : List RattleType) → AllSend Ts → IsSend (TupleAt ν Ts)
Closure-send ν Ts all = declared_send (type_at ν Ts) (captured Ts all)

pub Five-send : (ν : Sym) (A B C D E : RattleType) → IsSend A → IsSend B → IsSend C → IsSend D → IsSend E → IsSend (TupleAt ν (A ∷ B ∷ C ∷ D ∷ E ∷ []))
Five-send ν A B C D E a b c d e = Closure-send ν (A ∷ B ∷ C ∷ D ∷ E ∷ []) (a, (b, (c, (d, (e, tt)))))
