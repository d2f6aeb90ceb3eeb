use Rattle.std.proofs.Common.{◌≡◌, ◌-◌, List, Some}
use Rattle.sb_feed.specs.outside.declared.lines.Halt.TheVariants as halt
use Rattle.sb_feed.specs.base.records.declared.item.Item.{Item}
use Rattle.sb_feed.proofs.ReadSoFar.{ReadSoFar}
use Rattle.sb_told.specs.Keeping.{AreKept}
use Rattle.sb_told.proofs.input.read_input.Given as goal

abbrev pub invariant-items : goal.invariant-items
invariant-items g l =
    record {
      items : List Item;
      read : ReadSoFar l.fn.plan (g.S.Source.left l.initial.source) (g.S.Source.left l.source) l.lines l.intake items (g.S.Source.faults l.initial.source) (g.S.Source.faults l.source);
      kept : AreKept l.kept items;
      ends : l.lines.halt ≡ Some halt.End → g.S.Source.has_ended l.source;
    }

abbrev pub decreases-items : goal.decreases-items
decreases-items g l = 4294967296 - l.intake.lines
