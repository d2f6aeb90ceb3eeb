use Rattle.std.proofs.Common.{◌≡◌, ◌≤◌, ℕ, List, drop}
use Rattle.sb_base.specs.pipeline.Flow.{Sent, arrivals_at, from_streams, sent_from}
use Rattle.sb_base.specs.pipeline.Results.{output_at}
use Rattle.sb_base.proofs.pipeline.Times.{AreTimely}
use Rattle.sb_base.specs.Inputs.{by_stream}
use Rattle.sb_slow.proofs.flow.output_of.Given as goal

abbrev pub invariant-loop-node : goal.invariant-loop-node
invariant-loop-node l =
    record {
      all : List Sent;
      sent : sent_from (output_at l.plan) l.node (drop l.node l.plan.steps) all ≡ sent_from (output_at l.plan) 0 l.plan.steps (from_streams l.plan (by_stream l.fn.a.items l.fn.b.items));
      timely : AreTimely all;
      left : (k : ℕ) → l.node ≤ k → arrivals_at k l.sent.items ≡ arrivals_at k all;
    }
