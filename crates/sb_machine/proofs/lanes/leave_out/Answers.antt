use Rattle.std.proofs.Common.{◌==◌, not, rules, tests}
use Rattle.std.proofs.lemmas.Fn.{filter_same}
use Rattle.sb_machine.proofs.lanes.leave_out.Goals as goal

pub returns : goal.returns
returns c = filter_same _ (λ n. not (n == c.args.number)) _ (λ x b q k. search (rules, tests)) _ _ c.retain.ensures.filtered
