use Rattle.sb_outside.proofs.Ranges.{range_later}
use Rattle.sb_outside.proofs.buffer.Buffer.take.Goals as goal

pub returns-clause-held : goal.returns-clause-held
returns-clause-held c = let b = c.args.self.now in range_later b.bytes b.start c.args.count b.end
