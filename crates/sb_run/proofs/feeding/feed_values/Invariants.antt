use Rattle.std.proofs.Common.{◌≡◌, ◌≤◌, Ok, length, map}
use Rattle.sb_engines.specs.worker.cascade.Calls.{plan_of, setting_of}
use Rattle.sb_engines.specs.feeds.one_feed.GiveCauses.{GiveCause}
use Rattle.sb_engines.specs.feeds.InputEnds.{ring_in, values_received}
use Rattle.sb_engines.specs.Feeders.{HasFed, IsStill}
use Rattle.sb_run.proofs.PoppedSoFar.{PoppedSoFar}
use Rattle.sb_run.proofs.feeding.feed_values.Given as goal

abbrev pub invariant-loop : goal.invariant-loop
invariant-loop g l =
    record {
      fed : PoppedSoFar g.R.RowOut.after (plan_of l.common.cascade.now) (setting_of l.common.cascade.now).bundle (HasFed l.common.cascade.now l.pass)
          (record { out = l.fn.out; taps = map (λ t. (goal.Tap-dyn g (t.vtable, t.value)).tap_state t.value) l.fn.taps.items })
          (record { out = l.out; taps = map (λ t. (goal.Tap-dyn g (t.vtable, t.value)).tap_state t.value) l.taps.items })
          (values_received l.inward);
      ring : ring_in l.inward ≡ ring_in l.fn.inward;
      same : IsStill l.common.cascade.now l.fn.pass l.pass;
      cause : GiveCause {T = Unit {0}} (g.R.RowOut.row_state l.fn.out) (g.R.RowOut.row_state l.out) (Ok tt);
      fewer : length l.taps.items ≤ length l.fn.taps.items;
    }
