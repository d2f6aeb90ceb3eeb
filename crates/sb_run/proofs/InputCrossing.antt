-- What reads an input and helps, in one closure, may be sent to a thread.
use mathlib.Core.List.{[], ◌∷◌}
use mir.Syntax.{Sym}
use denote.Param.Send.{IsSend, IsSync, sendable}
use denote.Param.SendFields.{declared_send}
use denote.RattleType.{RattleType}
use denote.Ref.{NamedLft}
use denote.Struct.Field.{shr_ref_field}
use denote.Struct.Tuple.{TupleAt, type_at}
use denote.Builtin.{u32}
use Rattle.sb_engines.specs.feeds.base.records.contracts.item.Dropped as dropped_row
use Rattle.sb_engines.proofs.feeds.base.records.item.Dropped.TheSendSync as dropped_crossing
use Rattle.sb_engines.specs.feeds.contracts.input.ends.InputOut as outward
use Rattle.sb_engines.proofs.feeds.input.ends.InputOut.TheSendSync as outward_crossing
use Rattle.sb_engines.specs.feeds.contracts.input.signals.Signals as signals
use Rattle.sb_engines.proofs.feeds.input.signals.Signals.TheSendSync as signals_crossing
use Rattle.sb_run.specs.contracts.ahead.Ahead as ahead
use Rattle.sb_run.proofs.ahead.Ahead.TheSendSync as ahead_crossing
use Rattle.sb_engines.specs.contracts.shared.common.Passes as passes
use Rattle.sb_run.proofs.FilesCrossing.{captured}
use Rattle.sb_engines.specs.worker.cascade.contracts.pass.CascadePass as pass
use Rattle.sb_engines.proofs.worker.Crossing.{Pass-send}
use Rattle.std.proofs.Crossing.{Vec-send}

pub Out-send : IsSend outward.the_row
Out-send = outward_crossing.the_send

pub Signals-lent : (ℓ : NamedLft) → IsSend (shr_ref_field ℓ signals.the_row tt).row
Signals-lent ℓ = search (sendable, signals_crossing.the_sync) depth 20

pub Size-lent : (ℓ : NamedLft) → IsSend (shr_ref_field ℓ u32 tt).row
Size-lent ℓ = search sendable depth 20

pub Dropped-send : IsSend dropped_row.the_row
Dropped-send = dropped_crossing.the_send

pub Ten-send : (ν : Sym) (A B C D E F G H I J : RattleType) → IsSend A → IsSend B → IsSend C → IsSend D → IsSend E → IsSend F → IsSend G → IsSend H → IsSend I → IsSend J
    → IsSend (TupleAt ν (A ∷ B ∷ C ∷ D ∷ E ∷ F ∷ G ∷ H ∷ I ∷ J ∷ []))
Ten-send ν A B C D E F G H I J a b c d e f g h i j =
    declared_send (type_at ν (A ∷ B ∷ C ∷ D ∷ E ∷ F ∷ G ∷ H ∷ I ∷ J ∷ []))
    (captured (A ∷ B ∷ C ∷ D ∷ E ∷ F ∷ G ∷ H ∷ I ∷ J ∷ []) (a, (b, (c, (d, (e, (f, (g, (h, (i, (j, tt)))))))))))

pub Ahead-sync : (α : NamedLft) (R : RattleType) → IsSync R → IsSync (ahead.the_row α R)
Ahead-sync α R shared = ahead_crossing.the_sync α R shared

pub Ahead-lent : (ℓ α : NamedLft) (R : RattleType) → IsSync R → IsSend (shr_ref_field ℓ (ahead.the_row α R) tt).row
Ahead-lent ℓ α R shared = search (sendable, Ahead-sync) depth 20

-- the passes of all workers
pub Passes-send : IsSend passes.the_row
Passes-send = declared_send passes.the_type (Pass-send, (Vec-send pass.the_row Pass-send, tt))
