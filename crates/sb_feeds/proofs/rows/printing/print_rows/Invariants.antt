use Rattle.std.proofs.Common.{◌≡◌, ◌≤◌, Ok, length, map}
use Rattle.sb_feed.specs.GiveCauses.{GiveCause}
use Rattle.sb_feeds.specs.RowsEnds.{row_ring_in, rows_received}
use Rattle.sb_feeds.specs.RowsSends.{GivenInTurn}
use Rattle.sb_feeds.proofs.rows.printing.print_rows.Given as goal

abbrev pub invariant-loop : goal.invariant-loop
invariant-loop g l =
    record {
      given : GivenInTurn g.R.RowOut.after l.fn.out (map (λ t. (goal.Tap-dyn g (t.vtable, t.value)).tap_state t.value) l.fn.taps.items) (rows_received l.inward)
          l.out (map (λ t. (goal.Tap-dyn g (t.vtable, t.value)).tap_state t.value) l.taps.items);
      ring : row_ring_in l.inward ≡ row_ring_in l.fn.inward;
      cause : GiveCause {T = Unit {0}} (g.R.RowOut.row_state l.fn.out) (g.R.RowOut.row_state l.out) (Ok tt);
      fewer : length l.taps.items ≤ length l.fn.taps.items;
    }
