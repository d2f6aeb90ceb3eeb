use Rattle.std.proofs.Common.{[]}
use Rattle.stream_tests.proofs.aggregations.rows_of_steps.Goals as goal

pub absorb_records-requires-3-clause-like : goal.absorb_records-requires-3-clause-like
absorb_records-requires-3-clause-like c =
    c.in_ok-rows.ensures.fits (record { agg = c.args.agg; windows = c.args.windows.now; records = [] })
    c.in_ok-absorb_records-2.ensures.like
