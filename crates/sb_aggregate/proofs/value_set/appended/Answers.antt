use Rattle.sb_aggregate.proofs.Unions.{distinct-inserted}
use Rattle.sb_aggregate.proofs.value_set.appended.Goals as goal

pub returns : goal.returns
returns c = distinct-inserted c.args.set c.append.new.self c.args.more.keys c.in_ok-append.ensures.inserts_all
