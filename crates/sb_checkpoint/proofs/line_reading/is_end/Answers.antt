use Rattle.sb_checkpoint.proofs.Heads.{end-told, end-none}
use Rattle.sb_checkpoint.proofs.line_reading.is_end.Goals as goal

pub returns-in-Some : goal.returns-in-Some
returns-in-Some c = end-told c.args.line.now c.in-Some.digits.now c.args.count c.is_number.result c.in-Some.ensures.some c.is_number.ensures

pub returns-in-None : goal.returns-in-None
returns-in-None c = end-none c.args.line.now c.args.count c.in-None.ensures.none
