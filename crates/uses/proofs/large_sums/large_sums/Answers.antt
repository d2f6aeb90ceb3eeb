use Rattle.std.proofs.Common.{◌≡◌, ℤ, to_z, of_z, w64, ap, ◌∙◌}
use Rattle.std.proofs.lemmas.Int.{to_z-of_z}
use Rattle.std.proofs.lemmas.Result.{IfOk-weaker}
use Rattle.sb_cli.specs.base.records.declared.item.Stream.TheVariants.{A, B}
use Rattle.sb_cli.specs.base.records.Streams.{records_of}
use Rattle.sb_cli.specs.base.pipeline.Results.{all_rows}
use Rattle.sb_cli.specs.base.pipeline.Shapes.{Shape}
use Rattle.uses.specs.LargeSums.{large_sums}
use Rattle.uses.proofs.LargeSums.{in_time, rows_are_sums}
use Rattle.uses.proofs.large_sums.large_sums.Goals as goal

pub slow_rows-requires : goal.slow_rows-requires
slow_rows-requires c = record { times = (in_time A c.args.items.now c.requires.range, in_time B c.args.items.now c.requires.range) }

pub returns-clause-sums : goal.returns-clause-sums
returns-clause-sums c =
    let items = c.args.items.now in
    let same : to_z w64 (of_z w64 c.args.least) ≡ c.args.least = to_z-of_z w64 c.args.least c.ranges.least in
    let sums : all_rows c.in_ok-plan.plan (λ s. records_of s items) ≡ large_sums c.args.least c.args.size items =
    ap (λ (plan : Shape). all_rows plan (λ s. records_of s items)) c.in_ok-plan.ensures
    ∙ rows_are_sums (to_z w64 (of_z w64 c.args.least)) c.args.size items ∙ ap (λ (z : ℤ). large_sums z c.args.size items) same in
    IfOk-weaker c.slow_rows.result (λ rows. rows.items ≡ all_rows c.in_ok-plan.plan (λ s. records_of s items)) (λ rows. rows.items ≡ large_sums c.args.least c.args.size items)
    (λ rows is. is ∙ sums) c.slow_rows.ensures.rows
