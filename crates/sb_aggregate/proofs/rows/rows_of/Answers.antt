use Rattle.std.proofs.Common.{◌≡◌, ◌∷◌, ◌++◌, map, append_assoc, sym, ap, ◌∙◌}
use Rattle.std.specs.Option.{option_to_list}
use Rattle.sb_runs.specs.Merged.{merged}
use Rattle.sb_runs.specs.window.Gatherings.{rows_of_entries}
use Rattle.sb_runs.proofs.Merging.{with-rest}
use Rattle.sb_aggregate.specs.Partials.{final_values, join_values, rows_of_values}
use Rattle.sb_aggregate.proofs.rows.rows_of.Goals as goal

pub windows-preserved : goal.windows-preserved
windows-preserved c =
    let agg = c.args.joiner.now.agg in
    let left = merged (join_values agg) c.windows.left.0 c.windows.left.1 in
    let rest = merged (join_values agg) c.next.new.self.0 c.next.new.self.1 in
    let whole : (c.in-Some.window, c.in-Some.partial) ∷ rest ≡ left =
    ap (λ o. map (λ e. e) (option_to_list o) ++ rest) (sym c.in-Some.is) ∙ with-rest left (map (λ e. e) (option_to_list c.in_ok-window.field-0)) rest c.in_ok-window.ensures.first c.in_ok-window.ensures.rest in
    ap (λ rs. rs ++ rows_of_entries (final_values agg) rest) c.in_ok-push_rows.ensures
    ∙ append_assoc c.windows.rows.items (rows_of_values c.in-Some.window (final_values agg c.in-Some.partial)) (rows_of_entries (final_values agg) rest)
    ∙ ap (λ es. c.windows.rows.items ++ rows_of_entries (final_values agg) es) whole
    ∙ c.windows.invariant
