use Rattle.std.proofs.Common.{Some, ◌++◌}
use Rattle.uses.proofs.end_to_end.answer_to_both.Goals as goal

pub returns : goal.returns
returns g c = λ size options is.
    c.answer_to_source.ensures size options (c.args.first.items ++ c.args.second.items) is (λ i. Some ((c.new-3.ensures i).left ++ (c.new-6.ensures i).left))
