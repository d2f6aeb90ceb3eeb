use Rattle.std.specs.Prelude.{codes}
use Rattle.clap.specs.Words.{new_app}
use Rattle.sb_arguments.proofs.Building.{built, required, ruled}
use Rattle.sb_arguments.proofs.clapped.of_one.Goals as goal

pub returns : goal.returns
returns c =
    let app = new_app c.args.name.now in
    ruled c.with_argument.result app _ _ (required c.new.result c.required-argument.result (codes "argument") c.required-argument.ensures c.new.ensures.rule)
    (c.with_argument.ensures app (built c.new-2.result app c.new-2.ensures.app c.new-2.ensures.local))
