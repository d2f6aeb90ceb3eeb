use Rattle.std.proofs.Common.{◌≡◌, [], ◌∷◌, ◌++◌, map, append-nil, append_assoc, refl, sym, ap, ◌∙◌}
use Rattle.std.specs.List.{sum_by}
use Rattle.std.specs.Option.{option_to_list}
use Rattle.sb_runs.specs.Merged.{merged}
use Rattle.sb_runs.specs.records.Records.{record_cmp, sorted_records}
use Rattle.sb_runs.proofs.records.Sorting.{records_total, in_order-ascending, sorted-unique, IsReordered-in_order}
use Rattle.sb_runs.proofs.records.Sums.{IsReordered-append, IsReordered-map}
use Rattle.sb_runs.specs.window.Gatherings.{rows_of_entries}
use Rattle.sb_runs.proofs.window.Rows.{row}
use Rattle.sb_runs.proofs.Merging.{none-left, with-rest}
use Rattle.sb_join.specs.Entries.{combined_values}
use Rattle.sb_join.proofs.rows.rows_of.Goals as goal

pub windows-preserved : goal.windows-preserved
windows-preserved c f =
    let left = merged (λ v w. v ++ w) c.windows.waiting.0 c.windows.waiting.1 in
    let more = merged (λ v w. v ++ w) c.next.new.self.0 c.next.new.self.1 in
    let whole : (c.in-Some.window, c.in-Some.both) ∷ more ≡ left =
    ap (λ o. map (λ e. e) (option_to_list o) ++ more) (sym c.in-Some.is) ∙ with-rest left (map (λ e. e) (option_to_list c.in_ok-window.field-0)) more c.in_ok-window.ensures.first c.in_ok-window.ensures.rest in
    let rest = rows_of_entries (combined_values c.args.combine) more in
    let made = map (row c.in-Some.window) c.pair_up.new.pairs.items in
    let pushed : c.push_rows.new.rows.items ≡ c.windows.rows.items ++ map (row c.in-Some.window) c.pair_up.new.pairs.items =
    c.in_ok-push_rows.ensures ∙ ap (λ vs. c.windows.rows.items ++ map (row c.in-Some.window) vs) c.deref.ensures.value in
    ap (λ rs. sum_by f (rs ++ rest)) pushed
    ∙ ap (sum_by f) (append_assoc c.windows.rows.items made rest)
    ∙ IsReordered-append c.windows.rows.items c.windows.rows.items (made ++ rest) (map (row c.in-Some.window) (combined_values c.args.combine c.in-Some.both) ++ rest) (λ g. refl)
    (IsReordered-append made (map (row c.in-Some.window) (combined_values c.args.combine c.in-Some.both)) rest rest
    (IsReordered-map (row c.in-Some.window) c.pair_up.new.pairs.items (combined_values c.args.combine c.in-Some.both) c.in_ok-pair_up.ensures) (λ g. refl)) f
    ∙ ap (λ es. sum_by f (c.windows.rows.items ++ rows_of_entries (combined_values c.args.combine) es)) whole
    ∙ c.windows.invariant f

pub returns : goal.returns
returns c =
    let left = merged (λ v w. v ++ w) c.windows.waiting.0 c.windows.waiting.1 in
    let none : left ≡ [] = none-left left (sym c.in_ok-window.ensures.first ∙ ap (λ o. map (λ e. e) (option_to_list o)) c.in_default.is) in
    let all = rows_of_entries (combined_values c.args.combine) (merged (λ v w. v ++ w) c.args.closed.0 c.args.closed.1) in
    c.sort_rows.ensures
    ∙ sorted-unique (sorted_records c.windows.rows.items) all (in_order-ascending records_total c.windows.rows.items)
    (λ f. IsReordered-in_order record_cmp c.windows.rows.items f
    ∙ ap (sum_by f) (sym (append-nil c.windows.rows.items) ∙ ap (λ es. c.windows.rows.items ++ rows_of_entries (combined_values c.args.combine) es) (sym none))
    ∙ c.windows.invariant f)
