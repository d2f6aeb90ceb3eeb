use Rattle.std.proofs.Common.{◌≡◌}
use Rattle.sb_feeds.specs.Ends.{ring_in}
use Rattle.feed_tests.proofs.feeds.receive.Given as goal

abbrev pub invariant-loop : goal.invariant-loop
invariant-loop g l = ring_in l.inward ≡ ring_in l.initial.inward
