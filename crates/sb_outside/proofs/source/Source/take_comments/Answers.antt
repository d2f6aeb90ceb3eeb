use Rattle.std.proofs.KnownBytes.{Consumes-nil}
use Rattle.sb_outside.proofs.source.Source.take_comments.Goals as goal

pub returns-clause-comments : goal.returns-clause-comments
returns-clause-comments g c = Consumes-nil (g.Self.Source.left c.args.self.now)
