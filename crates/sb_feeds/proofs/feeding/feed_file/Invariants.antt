use Rattle.std.proofs.Common.{◌+◌, ◌-◌}
use Rattle.rtrb.specs.Ring.{SameProducer, sent}
use Rattle.sb_feed.specs.base.records.declared.intake.TheConstants.{MAX_LINES}
use Rattle.sb_feeds.proofs.FileSoFar.{FileSoFar}
use Rattle.sb_feeds.proofs.feeding.feed_file.Given as goal

abbrev pub invariant-items : goal.invariant-items
invariant-items g l =
    record {
      so_far : FileSoFar l.fn.intake l.fn.bytes.items l.source l.lines l.intake (sent l.producer);
      ring : SameProducer l.fn.out.producer l.producer;
    }

abbrev pub decreases-items : goal.decreases-items
decreases-items g l = MAX_LINES + 1 - l.intake.lines
