use Rattle.std.proofs.Common.{arith, rules}
use Rattle.sb_generator.proofs.LaterText.{next_given}
use Rattle.sb_generator.proofs.source.GenSource.give.Goals as goal

pub returns-clause-bytes : goal.returns-clause-bytes
returns-clause-bytes c =
    let s = c.self.inside in
    next_given s.next s.records _ s.held c.hold.new.self _ c.give-2.new.self c.self.view_is (search rules) (omega arith) c.hold.ensures c.give-2.ensures.bytes
