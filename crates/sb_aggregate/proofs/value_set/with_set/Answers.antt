use Rattle.std.proofs.Common.{◌≡◌, ℤ, BTreeSet, IfOk, subst}
use Rattle.sb_windowed.specs.declared.aggregate.Agg.TheVariants.{Distinct}
use Rattle.sb_aggregate.proofs.PartialValues.{join_values-swapped}
use Rattle.sb_aggregate.proofs.value_set.with_set.Goals as goal

pub returns-then-len : goal.returns-then-len
returns-then-len c = subst (λ l. IfOk c.appended.result (λ (all : BTreeSet ℤ). all.keys ≡ l)) (join_values-swapped Distinct c.args.more.keys c.args.set.keys) c.appended.ensures
