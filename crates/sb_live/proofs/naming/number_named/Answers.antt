use Rattle.sb_live.proofs.Named.{number_is}
use Rattle.sb_live.proofs.naming.number_named.Goals as goal

pub returns : goal.returns
returns c = number_is c.args.text.now c.read_number.result c.read_number.ensures.exact
