use Rattle.std.proofs.Common.{◌≡◌, [], ◌∷◌, get_or, SFits, w64, pos, rules, map, take, sym, ap, ◌∙◌, arith}
use Rattle.std.proofs.lemmas.Int.{to_z-of_z}
use Rattle.std.proofs.lemmas.List.{take_more, map-append}
use Rattle.sb_runs.specs.window.Gatherings.{joined_value}
use Rattle.sb_aggregate.specs.Partials.{join_values, joining, partial_values}
use Rattle.sb_runs.specs.Placed.{placed_value}
use Rattle.sb_aggregate.specs.Numbers.{numbered_entry}
use Rattle.sb_runs.specs.Runs.{found}
use Rattle.sb_aggregate.specs.declared.placing.Numbered.{Numbered}
use Rattle.sb_aggregate.proofs.PartialValues.{both-kept}
use Rattle.sb_runs.proofs.Placed.{placed-more}
use Rattle.sb_aggregate.proofs.placing.run_of_numbers.Goals as goal

pub loop-entry-preserved : goal.loop-entry-preserved
loop-entry-preserved c q =
    let agg = c.args.agg in
    let made = partial_values (joining agg) in
    let i = c.loop-entry.entry-index in
    let numbers = c.args.numbers.now in
    let none : Numbered = record { end = 0; key = 0; value = pos 0 } in
    let n : Numbered = get_or numbers i none in
    let fits : SFits w64 n.value = search rules in
    let one : c.of_one-partial.result ≡ made (n.value ∷ []) = c.of_one-partial.ensures ∙ (λ j. partial_values (c.joining_of.ensures j) (to_z-of_z w64 n.value fits j ∷ [])) in
    c.in_ok-add.ensures q
    ∙ (λ j. joined_value (join_values agg) (c.loop-entry.invariant q j) (found ((c.window.ensures j, one j) ∷ []) q))
    ∙ sym (placed-more made (join_values agg) (λ v w vs ws. both-kept agg (v ∷ vs) (w ∷ ws)) (map numbered_entry (take i numbers)) (numbered_entry n).0 n.value q)
    ∙ ap (λ l. placed_value made l q) (sym (map-append numbered_entry (take i numbers) (n ∷ [])))
    ∙ ap (λ l. placed_value made (map numbered_entry l) q) (sym (take_more numbers i none (omega arith)))
