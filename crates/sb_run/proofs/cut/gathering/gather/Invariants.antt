use Rattle.std.proofs.Common.{◌≡◌, ◌≤◌, ◌+◌, ◌-◌, Some}
use Rattle.sb_engines.specs.feeds.base.records.declared.intake.TheConstants.{MAX_LINES}
use Rattle.sb_engines.specs.feeds.outside.declared.lines.Halt.TheVariants as halt
use Rattle.sb_run.proofs.GatheredItems.{GatheredSoFar}
use Rattle.sb_run.proofs.cut.gathering.gather.Given as goal

abbrev pub invariant-items : goal.invariant-items
invariant-items g l =
    record {
      so_far : GatheredSoFar l.fn.plan (g.S.Source.left l.fn.source) (g.S.Source.left l.source) l.lines l.intake (g.S.Source.faults l.fn.source) (g.S.Source.faults l.source)
          l.keeper l.fn.dropped.items l.dropped.items;
      ends : l.lines.halt ≡ Some halt.End → g.S.Source.has_ended l.source;
      name : g.S.Source.name l.source ≡ g.S.Source.name l.fn.source;
      room : l.intake.lines ≤ MAX_LINES;
    }

abbrev pub decreases-items : goal.decreases-items
decreases-items g l = MAX_LINES + 1 - l.intake.lines
