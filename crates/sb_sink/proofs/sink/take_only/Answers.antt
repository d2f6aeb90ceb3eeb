use Rattle.std.proofs.Common.{rules, ◌≡◌, length, ◌∙◌}
use Rattle.sb_window.specs.records.Records.{before}
use Rattle.sb_sink.proofs.Runs.{only-rows}
use Rattle.sb_sink.proofs.sink.take_only.Goals as goal

pub returns-clause-rows : goal.returns-clause-rows
returns-clause-rows c =
    let runs = c.args.runs.now.items in
    let only = c.in_ok-pop.field-0 in
    let alone : length runs ≡ 1 = search rules in
    let low : only ≡ before c.args.mark only = search rules in
    c.into_rows.ensures.items ∙ only-rows c.args.mark runs c.pop.new.self.items only alone c.in_ok-pop.ensures.items low c.into_rows.ensures.ordered
