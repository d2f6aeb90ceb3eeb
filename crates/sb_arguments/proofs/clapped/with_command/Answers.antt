use Rattle.std.proofs.lemmas.Result.{IfOk-weaker}
use Rattle.sb_arguments.specs.Clapped.{IsAs}
use Rattle.sb_arguments.proofs.Building.{adds_subcommand}
use Rattle.sb_arguments.proofs.clapped.with_command.Goals as goal

pub returns : goal.returns
returns c app sub built below =
    let is : IsAs c.in_ok-command.command app = rw c.in_ok-command.was at built.is in
    let is_below : IsAs c.in_ok-inner.inner sub = rw c.in_ok-inner.was at below.is in
    record { is = IfOk-weaker c.subcommand.result _ _ (λ changed added. adds_subcommand _ c.in_ok-inner.inner changed app sub is is_below added) c.subcommand.ensures }
