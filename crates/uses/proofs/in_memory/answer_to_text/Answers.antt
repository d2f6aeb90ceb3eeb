use Rattle.std.proofs.Common.{Some, ap}
use Rattle.uses.proofs.in_memory.answer_to_text.Goals as goal

pub returns : goal.returns
returns g c = λ size options is. c.answer_to_source.ensures size options c.args.text.items is (ap (λ m. Some m.left) c.new-input.ensures)
