use Rattle.std.proofs.Common.{rules}
use Rattle.std.specs.Prelude.{nat_lt}
use Rattle.std.proofs.lemmas.Fn.{filter_same}
use Rattle.sb_base.specs.records.declared.item.Record.{Record}
use Rattle.sb_slow.proofs.rows.keep_below.Goals as goal

pub returns : goal.returns
returns c = filter_same _ (λ (r : Record). nat_lt r.time c.args.mark) _ (λ x b f t. search rules) c.args.rows.now.items c.retain.new.self.items c.retain.ensures.filtered
