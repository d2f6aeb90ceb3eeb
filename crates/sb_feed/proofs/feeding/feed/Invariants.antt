use Rattle.std.proofs.Common.{◌≡◌, ◌≤◌, ◌+◌, ◌-◌, Ok, Some, length, map}
use Rattle.sb_base.specs.records.declared.intake.TheConstants.{MAX_LINES}
use Rattle.sb_outside.specs.declared.lines.Halt.TheVariants as halt
use Rattle.sb_feed.specs.GiveCauses.{GiveCause}
use Rattle.sb_feed.proofs.FedSoFar.{FedSoFar}
use Rattle.sb_feed.proofs.feeding.feed.Given as goal

abbrev pub invariant-items : goal.invariant-items
invariant-items g l =
    record {
      fed : FedSoFar g.S.Source.left g.S.Source.faults g.R.RowOut.after (g.E.Engine.plan l.fn.engine) l.fn.size (g.E.Engine.stands l.engine)
          (record { source = l.fn.input; out = l.fn.out; taps = map (λ t. (goal.Tap-dyn g (t.vtable, t.value)).tap_state t.value) l.fn.taps.items; dropped = l.fn.dropped.items })
          (record { source = l.input; out = l.out; taps = map (λ t. (goal.Tap-dyn g (t.vtable, t.value)).tap_state t.value) l.taps.items; dropped = l.dropped.items })
          l.lines l.intake l.cutters;
      same : g.E.Engine.same l.fn.engine l.engine;
      cause : GiveCause {T = Unit {0}} (g.R.RowOut.row_state l.fn.out) (g.R.RowOut.row_state l.out) (Ok tt);
      fewer : length l.taps.items ≤ length l.fn.taps.items;
      ends : l.lines.halt ≡ Some halt.End → g.S.Source.has_ended l.input;
      name : g.S.Source.name l.input ≡ g.S.Source.name l.fn.input;
      room : l.intake.lines ≤ MAX_LINES;
    }

abbrev pub decreases-items : goal.decreases-items
decreases-items g l = MAX_LINES + 1 - l.intake.lines
