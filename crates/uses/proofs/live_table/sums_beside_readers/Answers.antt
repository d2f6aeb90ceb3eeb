use Rattle.std.proofs.Common.{Some, ap}
use Rattle.uses.proofs.LiveTable.{made_told}
use Rattle.uses.proofs.live_table.sums_beside_readers.Goals as goal

pub returns-in-true-clause-told : goal.returns-in-true-clause-told
returns-in-true-clause-told g c =
    made_told c.args.size c.args.records c.args.key c.in_ok-plan.plan _ c.in_ok-told.told.last c.requires.most_records c.in_ok-plan.ensures (ap (λ l. Some l) c.new-input.ensures)
    (c.in_ok-told.ensures.told c.in-true.is)
