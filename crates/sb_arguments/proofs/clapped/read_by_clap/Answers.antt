use Rattle.std.proofs.Common.{◌≡◌, true, ap, subst, sym, ◌∙◌}
use Rattle.std.proofs.lemmas.Result.{IfOk-weaker}
use Rattle.clap.specs.Words.{App, app_of, is_simple, subcommand_of, takes}
use Rattle.sb_arguments.specs.Readings.{IsReadAs}
use Rattle.sb_words.specs.Texts.{texts}
use Rattle.sb_arguments.proofs.Entering.{command_read, command_taken}
use Rattle.sb_arguments.proofs.clapped.read_by_clap.Goals as goal

pub returns-in-Ok : goal.returns-in-Ok
returns-in-Ok c wanted is =
    let words = texts c.args.words.now in
    let built = c.in_ok-command.ensures.is in
    let simple : is_simple (app_of c.in_ok-command.command) ≡ true = ap is_simple built in
    let rows = (c.in-Ok.ensures.matches simple).1 ∙ ap (λ (app : App). subcommand_of app words) built in
    c.request_of.ensures wanted (subst (IsReadAs wanted) (sym rows) (command_read wanted words is))

pub returns-in-Err : goal.returns-in-Err
returns-in-Err c =
    let words = texts c.args.words.now in
    let built = c.in_ok-command.ensures.is in
    IfOk-weaker c.refusal.result _ _
    (λ read other wanted is. absurd (other (c.in-Err.ensures.passes (ap (λ (app : App). takes app words) built ∙ command_taken wanted words is))))
    c.refusal.ensures.other
