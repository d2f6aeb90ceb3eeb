use Rattle.std.proofs.Common.{rules}
use Rattle.std.specs.Prelude.{nat_lt, not}
use Rattle.std.proofs.lemmas.Fn.{filter_same}
use Rattle.sb_checkpoint.specs.declared.checkpoint.StreamRec.{StreamRec}
use Rattle.sb_checkpoint.proofs.keeper.keep_from.Goals as goal

pub returns : goal.returns
returns c = filter_same _ (λ (r : StreamRec). not (nat_lt r.rec.time c.args.from)) _ (λ x b f t. search rules) c.args.records.now.items c.retain.new.self.items c.retain.ensures.filtered
