use Rattle.std.proofs.Common.{◌∙◌}
use Rattle.model_tests.proofs.Examples.{may-arrive, next-arrived}
use Rattle.model_tests.proofs.hand.arrive.Goals as goal

pub arrive-requires : goal.arrive-requires
arrive-requires c = λ unspent.
    may-arrive c.args.hand.now c.args.epoch c.args.floor c.requires.next _ c.new.result (c.new.ensures ∙ c.in-Ok.ensures.items) c.requires.time.0 c.requires.time.1

pub returns-in-Ok-arrive : goal.returns-in-Ok-arrive
returns-in-Ok-arrive c =
    next-arrived c.args.hand.now c.args.epoch c.args.floor c.requires.next c.arrive.new.self c.in-Ok-arrive.ensures.rest c.new.result c.in-Ok-arrive.ensures.arrives
