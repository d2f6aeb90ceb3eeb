use Rattle.std.proofs.Common.{◌≡◌, ◌≤◌, Ok, length, map}
use Rattle.sb_engines.specs.feeds.base.pipeline.Shapes.{streams_of}
use Rattle.sb_engines.specs.worker.cascade.Calls.{plan_of, setting_of}
use Rattle.sb_engines.specs.feeds.one_feed.GiveCauses.{GiveCause}
use Rattle.sb_engines.specs.feeds.Ends.{ring_in}
use Rattle.sb_engines.specs.Feeders.{HasFed, IsStill}
use Rattle.sb_engines.specs.feeds.base.Inputs.{by_stream}
use Rattle.sb_run.specs.Pops.{AreInlets, values_of}
use Rattle.sb_run.proofs.FilesSoFar.{FilesSoFar}
use Rattle.sb_run.proofs.files.feeding.feed_values.Given as goal

abbrev pub invariant-loop : goal.invariant-loop
invariant-loop g l =
    record {
      fed : FilesSoFar g.R.RowOut.after (plan_of l.common.cascade.now) (setting_of l.common.cascade.now).bundle (HasFed l.common.cascade.now l.pass)
          (record { out = l.fn.out; taps = map (λ t. (goal.Tap-dyn g (t.vtable, t.value)).tap_state t.value) l.fn.taps.items; dropped = by_stream l.fn.dropped.a.items l.fn.dropped.b.items })
          (record { out = l.out; taps = map (λ t. (goal.Tap-dyn g (t.vtable, t.value)).tap_state t.value) l.taps.items; dropped = by_stream l.dropped.a.items l.dropped.b.items })
          (values_of l.inlets) l.cutters;
      inlets_are : AreInlets (streams_of (plan_of l.common.cascade.now)) l.inlets;
      ring_a : ring_in l.inlets.a.inward ≡ ring_in l.fn.inlets.a.inward;
      ring_b : ring_in l.inlets.b.inward ≡ ring_in l.fn.inlets.b.inward;
      same : IsStill l.common.cascade.now l.fn.pass l.pass;
      cause : GiveCause {T = Unit {0}} (g.R.RowOut.row_state l.fn.out) (g.R.RowOut.row_state l.out) (Ok tt);
      fewer : length l.taps.items ≤ length l.fn.taps.items;
    }
