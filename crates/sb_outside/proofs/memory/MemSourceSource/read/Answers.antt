use Rattle.std.proofs.Common.{ap, drop}
use Rattle.sb_outside.specs.MemoryForms.{MemReading}
use Rattle.sb_outside.proofs.MemoryReads.{left_by_read, ends_at_none}
use Rattle.sb_outside.proofs.memory.MemSourceSource.read.Goals as goal

pub returns-clause-bytes : goal.returns-clause-bytes
returns-clause-bytes c =
    let count = c.min-count.result in
    let left = ap (λ (m : MemReading). m.left) c.self.view_is in
    let rest = drop count c.args.buf.now in (
      left_by_read _ _ _ c.copy_from_slice.new.self rest c.self.inside.given count c.in-Some.most c.deref.ensures.value left c.copy_from_slice.ensures.after c.min-count.ensures,
      λ none room. ends_at_none _ _ _ c.copy_from_slice.new.self rest c.self.inside.given count c.in-Some.most c.deref.ensures.value left c.copy_from_slice.ensures.after c.min-count.ensures c.in-Some.ensures.within.0 none,
    )
