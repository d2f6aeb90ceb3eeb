use Rattle.sb_aggregate.proofs.PartialValues.{join_values-grouped}
use Rattle.sb_aggregate.proofs.partials.Partials.spread.Goals as goal

pub spread-requires-clause-groups : goal.spread-requires-clause-groups
spread-requires-clause-groups c = join_values-grouped c.in-Single-Some.joiner

pub spread-requires-in_default-clause-groups : goal.spread-requires-in_default-clause-groups
spread-requires-in_default-clause-groups c = join_values-grouped c.args.agg
