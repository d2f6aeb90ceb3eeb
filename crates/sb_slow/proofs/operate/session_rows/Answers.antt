use Rattle.std.proofs.Common.{rules, ◌≡◌, List, IfOk, subst}
use Rattle.std.specs.BTreeMap.{get}
use Rattle.sb_base.specs.records.declared.item.Record.{Record}
use Rattle.sb_base.specs.window.declared.keyed_window.KeyedWindow.{KeyedWindow}
use Rattle.sb_base.specs.window.Windows.{keyed_window_cmp}
use Rattle.sb_slow.specs.Gathered.{session_values_at}
use Rattle.sb_slow.proofs.BySession.{rows_of_entries-sessions}
use Rattle.sb_slow.proofs.operate.session_rows.Goals as goal

pub returns : goal.returns
returns c =
    let at : (q : KeyedWindow) → get keyed_window_cmp c.in_ok-values.values q ≡ session_values_at c.args.gap c.args.records.now c.args.records.now q = search rules in
    subst (λ (l : List Record). IfOk c.aggregates_of.result (λ rows. rows.items ≡ l))
    (rows_of_entries-sessions c.args.agg c.args.gap c.args.records.now c.in_ok-values.values c.aggregates_of.ensures.ordered at) c.aggregates_of.ensures.rows
