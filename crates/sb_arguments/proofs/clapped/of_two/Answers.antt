use Rattle.std.specs.Prelude.{codes}
use Rattle.sb_arguments.specs.Clapped as spec
use Rattle.sb_arguments.proofs.Building.{required, ruled}
use Rattle.sb_arguments.proofs.clapped.of_two.Goals as goal

pub returns : goal.returns
returns c =
    let app = spec.of_one c.args.name.now in
    ruled c.with_argument.result app _ _ (required c.new.result c.required-second.result (codes "second") c.required-second.ensures c.new.ensures.rule)
    (c.with_argument.ensures app c.of_one.ensures)
