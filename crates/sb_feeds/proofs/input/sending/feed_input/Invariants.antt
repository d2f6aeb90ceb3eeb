use Rattle.std.proofs.Common.{◌≡◌, ◌≤◌, ◌+◌, ◌-◌, Some}
use Rattle.sb_feed.specs.base.records.declared.intake.TheConstants.{MAX_LINES}
use Rattle.sb_feed.specs.outside.declared.lines.Halt.TheVariants as halt
use Rattle.sb_feeds.specs.InputEnds.{ring_out, values_sent}
use Rattle.sb_feeds.proofs.SentSoFar.{SentSoFar}
use Rattle.sb_feeds.proofs.input.sending.feed_input.Given as goal

abbrev pub invariant-items : goal.invariant-items
invariant-items g l =
    record {
      sent : SentSoFar l.fn.plan l.fn.size (g.S.Source.left l.fn.input) (g.S.Source.left l.input) l.lines l.intake l.cutters (g.S.Source.faults l.fn.input) (g.S.Source.faults l.input) (values_sent l.out) l.fn.dropped.items l.dropped.items;
      ring : ring_out l.out ≡ ring_out l.fn.out;
      ends : l.lines.halt ≡ Some halt.End → g.S.Source.has_ended l.input;
      name : g.S.Source.name l.input ≡ g.S.Source.name l.fn.input;
      room : l.intake.lines ≤ MAX_LINES;
    }

abbrev pub decreases-items : goal.decreases-items
decreases-items g l = MAX_LINES + 1 - l.intake.lines
