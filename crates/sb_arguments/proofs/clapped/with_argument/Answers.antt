use Rattle.std.proofs.Common.{refl}
use Rattle.std.proofs.lemmas.Result.{IfOk-weaker}
use Rattle.clap.specs.Words.{rule_of}
use Rattle.sb_arguments.specs.Clapped.{IsAs}
use Rattle.sb_arguments.proofs.Building.{adds_argument}
use Rattle.sb_arguments.proofs.clapped.with_argument.Goals as goal

pub returns : goal.returns
returns c app built =
    let is : IsAs c.in_ok-command.command app = rw c.in_ok-command.was at built.is in
    record { is = IfOk-weaker c.arg.result _ _ (λ changed added. adds_argument _ changed c.args.argument app (rule_of c.args.argument) is refl c.requires added) c.arg.ensures }
