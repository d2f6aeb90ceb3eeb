use Rattle.std.proofs.Common.{◌≡◌, ℤ, [], ◌∷◌, ◌++◌, SFits, w64, rules, take, sym, ap, ◌∙◌, arith}
use Rattle.std.proofs.lemmas.Int.{to_z-of_z}
use Rattle.std.proofs.lemmas.List.{take_more}
use Rattle.sb_runs.specs.window.declared.keyed_window.KeyedWindow.{KeyedWindow}
use Rattle.sb_runs.specs.window.Gatherings.{joined_value}
use Rattle.sb_aggregate.specs.Partials.{join_values, joining, partial_values}
use Rattle.sb_runs.specs.Placed.{placed_value}
use Rattle.sb_runs.specs.Runs.{found}
use Rattle.sb_aggregate.proofs.PartialValues.{both-kept}
use Rattle.sb_runs.proofs.Placed.{placed-more}
use Rattle.sb_aggregate.proofs.placing.run_of_words.Goals as goal

pub loop-entry-preserved : goal.loop-entry-preserved
loop-entry-preserved c q =
    let agg = c.args.agg in
    let i = c.loop-entry.entry-index in
    let words = c.args.words.now in
    let x : KeyedWindow × ℤ = c.entry-item.result in
    let fits : SFits w64 c.entry-item.result.1 = search rules in
    let one : c.of_one-partial.result ≡ partial_values (joining c.args.agg) (c.entry-item.result.1 ∷ []) = c.of_one-partial.ensures ∙ (λ j. partial_values (c.joining_of.ensures j) (to_z-of_z w64 c.entry-item.result.1 fits j ∷ [])) in
    c.in_ok-add.ensures q
    ∙ (λ j. joined_value (join_values agg) (c.loop-entry.invariant q j) (found ((x.0, one j) ∷ []) q))
    ∙ sym (placed-more (partial_values (joining agg)) (join_values agg) (λ v w vs ws. both-kept agg (v ∷ vs) (w ∷ ws)) (take i words) x.0 x.1 q)
    ∙ ap (λ y. placed_value (partial_values (joining agg)) (take i words ++ y ∷ []) q) c.entry-item.is
    ∙ ap (λ l. placed_value (partial_values (joining agg)) l q) (sym (take_more words i x (omega arith)))
