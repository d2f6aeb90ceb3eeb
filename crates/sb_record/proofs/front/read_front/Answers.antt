use Rattle.std.proofs.Common.{sym, arith}
use Rattle.sb_record.proofs.FrontLines.{front_exact, no_front, rest_is_shorter}
use Rattle.sb_record.proofs.front.read_front.Goals as goal

pub overflow_sub-result : goal.overflow_sub-result
overflow_sub-result c = omega (arith, rest_is_shorter c.args.keys c.args.bytes.now c.in-Some.item c.in-Some.rest.now (sym c.in-Some.ensures))

pub overflow_sub-result-in-Some : goal.overflow_sub-result-in-Some
overflow_sub-result-in-Some c = omega (arith, rest_is_shorter c.args.keys c.args.bytes.now c.in-Some.item c.in-Some.rest.now (sym c.in-Some.ensures))

pub returns-in-Some : goal.returns-in-Some
returns-in-Some c = λ f. front_exact c.args.keys c.args.bytes.now c.in-Some.rest.now c.in-Some.item f (sym c.in-Some.ensures)

pub returns-in-None : goal.returns-in-None
returns-in-None c = λ f. no_front c.args.keys c.args.bytes.now f (sym c.in-None.ensures)
