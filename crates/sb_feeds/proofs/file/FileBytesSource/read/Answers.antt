use Rattle.std.proofs.Common.{drop, length}
use Rattle.sb_feed.proofs.outside.MemoryReads.{ends_at_none, left_by_read}
use Rattle.sb_feeds.proofs.file.FileBytesSource.read.Goals as goal

pub returns-clause-bytes : goal.returns-clause-bytes
returns-clause-bytes c =
    let count = c.min-count.result in
    let most = length c.args.buf.now in
    let rest = drop count c.args.buf.now in (
      left_by_read _ _ _ c.copy_from_slice.new.self rest c.self.inside.given count most c.deref.ensures.value c.self.view_is c.copy_from_slice.ensures.after c.min-count.ensures,
      λ none room. ends_at_none _ _ _ c.copy_from_slice.new.self rest c.self.inside.given count most c.deref.ensures.value c.self.view_is c.copy_from_slice.ensures.after c.min-count.ensures c.requires none,
    )
