-- What reads files and helps, in one closure, may be sent to a thread.
use mathlib.Core.List.{List, [], ◌∷◌}
use mir.Syntax.{Sym}
use denote.Hole.{as_row}
use denote.Param.Send.{AllSend, IsSend, sendable}
use denote.Param.SendFields.{FieldsHave, as_row_send, declared_send}
use denote.RattleType.{RattleType}
use denote.Struct.Field.{row_field}
use denote.Struct.Tuple.{TupleAt, parts, type_at}
use Rattle.std.specs.contracts.option.Option as option
use Rattle.sb_run.specs.contracts.files.reading.Files as files
use Rattle.sb_run.proofs.files.reading.Files.TheSendSync as files_crossing

pub Files-send : IsSend (as_row (option.the_field files.the_row))
Files-send = search (sendable, files_crossing.the_send) depth 20

pub captured : (Ts : List RattleType) → AllSend Ts → FieldsHave IsSend (parts Ts)
captured [] all = tt
captured (T ∷ Ts) all = (as_row_send (row_field T) all.0, captured Ts all.1)

pub Six-send : (ν : Sym) (A B C D E F : RattleType) → IsSend A → IsSend B → IsSend C → IsSend D → IsSend E → IsSend F
    → IsSend (TupleAt ν (A ∷ B ∷ C ∷ D ∷ E ∷ F ∷ []))
Six-send ν A B C D E F a b c d e f =
    declared_send (type_at ν (A ∷ B ∷ C ∷ D ∷ E ∷ F ∷ [])) (captured (A ∷ B ∷ C ∷ D ∷ E ∷ F ∷ []) (a, (b, (c, (d, (e, (f, tt)))))))
