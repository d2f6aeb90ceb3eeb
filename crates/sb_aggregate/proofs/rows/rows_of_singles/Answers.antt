use Rattle.std.proofs.Common.{◌≡◌, [], ◌∷◌, ◌++◌, SFits, w64, rules, map, append_assoc, sym, ap, ◌∙◌}
use Rattle.std.proofs.lemmas.Int.{to_z-of_z}
use Rattle.std.specs.Option.{option_to_list}
use Rattle.sb_runs.specs.Merged.{merged}
use Rattle.sb_runs.specs.window.Gatherings.{rows_of_entries}
use Rattle.sb_runs.proofs.Merging.{with-rest}
use Rattle.sb_aggregate.specs.Partials.{final_values, join_values, rows_of_values}
use Rattle.sb_aggregate.specs.Numbers.{single_entry}
use Rattle.sb_aggregate.proofs.Singles.{final-is-single}
use Rattle.sb_aggregate.proofs.rows.rows_of_singles.Goals as goal

pub windows-preserved : goal.windows-preserved
windows-preserved c =
    let agg = c.args.joiner.now in
    let left = merged (join_values agg) c.windows.left.0 c.windows.left.1 in
    let rest = merged (join_values agg) c.next.new.self.0 c.next.new.self.1 in
    let whole : single_entry c.in-Some.single ∷ rest ≡ left =
    ap (λ o. map single_entry (option_to_list o) ++ rest) (sym c.in-Some.is) ∙ with-rest left (map single_entry (option_to_list c.in_ok-single.field-0)) rest c.in_ok-single.ensures.first c.in_ok-single.ensures.rest in
    let fits : SFits w64 c.in-Some.single.value = search rules in
    let pushed : c.push_row.new.rows.items ≡ c.windows.rows.items ++ rows_of_values (single_entry c.in-Some.single).0 (final_values agg (single_entry c.in-Some.single).1) =
    c.in_ok-push_row.ensures
    ∙ (λ i. c.windows.rows.items ++ rows_of_values (c.window.ensures i) (to_z-of_z w64 c.in-Some.single.value fits i ∷ []))
    ∙ ap (λ vs. c.windows.rows.items ++ rows_of_values (single_entry c.in-Some.single).0 vs) (sym (final-is-single agg c.requires (c.in-Some.single.value ∷ []))) in
    ap (λ rs. rs ++ rows_of_entries (final_values agg) rest) pushed
    ∙ append_assoc c.windows.rows.items (rows_of_values (single_entry c.in-Some.single).0 (final_values agg (single_entry c.in-Some.single).1)) (rows_of_entries (final_values agg) rest)
    ∙ ap (λ es. c.windows.rows.items ++ rows_of_entries (final_values agg) es) whole
    ∙ c.windows.invariant
