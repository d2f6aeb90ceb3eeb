use Rattle.std.proofs.Common.{◌≡◌, rules, ap, ◌∙◌}
use Rattle.std.specs.List.{sum_by}
use Rattle.std.proofs.lemmas.List.Sorted.{sum_by-IsPermutation}
use Rattle.sb_join.specs.Entries.{combined_values}
use Rattle.sb_join.proofs.rows.pair_up.Goals as goal

pub returns : goal.returns
returns c f =
    let all : c.pair_values.new.into.items ≡ combined_values c.args.combine c.args.both.now = search rules in
    sum_by-IsPermutation f c.pair_values.new.into.items c.sort_unstable.new.self.items c.sort_unstable.ensures.permutation ∙ ap (sum_by f) all
