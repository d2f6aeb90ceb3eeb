use Rattle.std.proofs.Common.{take, sym}
use Rattle.sb_checkpoint.proofs.LinesAhead.{given_of_all}
use Rattle.sb_checkpoint.proofs.ahead.Ahead.give.Goals as goal

pub returns-clause-given : goal.returns-clause-given
returns-clause-given c =
    given_of_all c.args.self.now c.begin_line.new.self c.give_line.new.self (take c.give_line.result c.give_line.new.buf) (sym c.begin_line.ensures.same) c.give_line.ensures.given c.give_line.ensures.behind
