use Rattle.std.proofs.Common.{ℕ, ◌==◌, rules, tests}
use Rattle.std.specs.Prelude.{not}
use Rattle.std.proofs.lemmas.Fn.{filter_same}
use Rattle.sb_lane.proofs.filling.leave_out.Goals as goal

pub returns-clause-items : goal.returns-clause-items
returns-clause-items c = filter_same _ (λ (n : ℕ). not (n == c.args.number)) _ (λ x b f' k. search (rules, tests)) _ c.retain.new.self.items c.retain.ensures.filtered
