use Rattle.std.proofs.Common.{drop}
use Rattle.sb_outside.proofs.MemoryReads.{left_by_read}
use Rattle.sb_generator.proofs.held.Held.give.Goals as goal

pub returns-clause-bytes : goal.returns-clause-bytes
returns-clause-bytes c =
    let count = c.min-count.result in
    let rest = drop count c.args.buf.now in
    left_by_read _ _ _ c.copy_from_slice.new.self rest c.self.inside.given count _ c.as_slice.ensures.bytes c.self.view_is c.copy_from_slice.ensures.after c.min-count.ensures
