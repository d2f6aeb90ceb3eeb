use Rattle.model_tests.proofs.Examples.{may-seal, next-sealed}
use Rattle.model_tests.proofs.hand.seal.Goals as goal

pub seal-requires : goal.seal-requires
seal-requires c = λ unspent. may-seal c.args.hand.now c.args.epoch c.args.floor c.requires.next c.args.mark c.requires.mark.0 c.requires.mark.1

pub returns-in-Ok : goal.returns-in-Ok
returns-in-Ok c =
    next-sealed c.args.hand.now c.args.epoch c.args.floor c.requires.next c.seal.new.self c.in-Ok.ensures.rest c.args.mark c.in-Ok.ensures.seals
