use Rattle.std.proofs.Common.{◌≡◌, Err, sym, ap, ◌∙◌, arith}
use Rattle.std.proofs.lemmas.Result.{err_from_is_err_and}
use Rattle.sb_checkpoint.specs.declared.reading.CheckpointStop.TheVariants.{Fault}
use Rattle.sb_checkpoint.specs.Saved.{items_in}
use Rattle.sb_checkpoint.specs.Texts.{pieces}
use Rattle.sb_checkpoint.proofs.ReadItems.{room-read}
use Rattle.sb_checkpoint.proofs.ReadStep.{fault-at}
use Rattle.sb_checkpoint.proofs.reading.read_checkpoint.Goals as goal

pub returns-in_err-read_items-clause-fault : goal.returns-in_err-read_items-clause-fault
returns-in_err-read_items-clause-fault c = λ line is.
    let p = err_from_is_err_and c.from_residual.result c.from_residual.ensures.1 in
    let both = sym p.1 ∙ is in
    let stop : p.0 ≡ Fault line = cc in
    fault-at c.args.plan.now c.in-Some-read_head.lines c.in-Some-read_head.low line c.args.text.now c.in-Some.head.now c.in-Some.rest.now c.in-Some.ensures.some c.in-Some-read_head.ensures.some
    (c.in_err-read_items.ensures.fault line (ap Err (sym p.2 ∙ stop)))

pub returns-clause-room : goal.returns-clause-room
returns-clause-room c =
    let room = room-read c.args.plan.now c.in-Some-read_head.lines c.in-Some-read_head.low (pieces c.in-Some.rest.now) (items_in c.read_items.new.checkpoint) c.in_ok-read_items.ensures.read in
    omega (arith, room, c.in_ok-read_items.ensures.lines)
