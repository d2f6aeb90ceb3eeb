use Rattle.std.proofs.Common.{rules}
use Rattle.std.specs.Prelude.{nat_lt, not}
use Rattle.std.proofs.lemmas.Fn.{filter_same}
use Rattle.sb_slow.specs.base.records.declared.item.Record.{Record}
use Rattle.sb_machine.proofs.operate.keep_from.Goals as goal

pub returns : goal.returns
returns c = filter_same _ (λ (r : Record). not (nat_lt r.time c.args.floor)) _ (λ x b f t. search rules) c.args.rows.now.items c.retain.new.self.items c.retain.ensures.filtered
