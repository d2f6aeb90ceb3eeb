use Rattle.std.proofs.Common.{rules, ◌≡◌, List, IfOk, subst}
use Rattle.std.specs.BTreeMap.{get}
use Rattle.sb_base.specs.records.declared.item.Record.{Record}
use Rattle.sb_base.specs.window.declared.keyed_window.KeyedWindow.{KeyedWindow}
use Rattle.sb_base.specs.window.Windows.{keyed_window_cmp}
use Rattle.sb_slow.specs.Gathered.{values_at}
use Rattle.sb_slow.proofs.Pairs.{rows_of_pairs-gathered}
use Rattle.sb_slow.proofs.operate.pairs.Goals as goal

pub returns : goal.returns
returns c =
    let at : (q : KeyedWindow) → get keyed_window_cmp c.in_ok-left_values.left_values q ≡ values_at c.args.windows.now c.args.left.items q = search rules in
    let there : (q : KeyedWindow) → get keyed_window_cmp c.in_ok-right_values.right_values q ≡ values_at c.args.windows.now c.args.right.items q = search rules in
    subst (λ (l : List Record). IfOk c.pairs_of.result (λ rows. rows.items ≡ l))
    (rows_of_pairs-gathered c.args.combine c.args.windows.now c.args.left.items c.args.right.items c.in_ok-left_values.left_values c.in_ok-right_values.right_values c.pairs_of.ensures.ordered at there) c.pairs_of.ensures.rows
