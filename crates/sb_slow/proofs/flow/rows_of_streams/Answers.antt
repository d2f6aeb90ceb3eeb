use Rattle.std.proofs.Common.{◌<◌}
use Rattle.std.proofs.lemmas.List.Elements.{All-same}
use Rattle.sb_base.specs.records.declared.item.Record.{Record}
use Rattle.sb_base.specs.records.declared.item.TheConstants.{END_MARK}
use Rattle.sb_slow.proofs.Times.{sorted_before-times}
use Rattle.sb_slow.proofs.flow.rows_of_streams.Goals as goal

pub returns-clause-times : goal.returns-clause-times
returns-clause-times c = All-same (λ (r : Record). r.time < END_MARK) _ _ c.in_ok-sort_below.ensures.ok (sorted_before-times c.args.below c.in_ok-rows.rows.items c.in_ok-rows.ensures.times)
