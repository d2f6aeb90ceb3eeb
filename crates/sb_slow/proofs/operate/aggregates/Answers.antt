use Rattle.std.proofs.Common.{rules, ◌≡◌, List, IfOk, subst}
use Rattle.std.specs.BTreeMap.{get}
use Rattle.sb_base.specs.records.declared.item.Record.{Record}
use Rattle.sb_base.specs.window.declared.keyed_window.KeyedWindow.{KeyedWindow}
use Rattle.sb_base.specs.window.Windows.{keyed_window_cmp}
use Rattle.sb_base.proofs.window.Gathering.{rows_of_entries-gathered}
use Rattle.sb_base.specs.windowed.Aggregates.{aggregate_values}
use Rattle.sb_slow.specs.Gathered.{values_at}
use Rattle.sb_slow.proofs.operate.aggregates.Goals as goal

pub returns : goal.returns
returns c =
    let at : (q : KeyedWindow) → get keyed_window_cmp c.in_ok-values.values q ≡ values_at c.args.windows.now c.args.records.items q = search rules in
    subst (λ (l : List Record). IfOk c.aggregates_of.result (λ rows. rows.items ≡ l))
    (rows_of_entries-gathered (λ vs. vs) (aggregate_values c.args.agg) c.args.windows.now c.args.records.items c.in_ok-values.values c.aggregates_of.ensures.ordered at) c.aggregates_of.ensures.rows
