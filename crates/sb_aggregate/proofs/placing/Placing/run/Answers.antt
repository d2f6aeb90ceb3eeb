use Rattle.std.proofs.Common.{◌≡◌, [], ◌∷◌, ◌++◌, map, append-nil, sym, ap, ◌∙◌, arith}
use Rattle.std.proofs.lemmas.Bool.{eqb-true}
use Rattle.std.proofs.lemmas.List.{nil_from_length}
use Rattle.sb_runs.proofs.records.Sums.{IsReordered-map}
use Rattle.sb_runs.specs.window.declared.keyed_window.KeyedWindow.{KeyedWindow}
use Rattle.sb_runs.specs.window.Gatherings.{joined_value}
use Rattle.sb_aggregate.specs.Partials.{join_values, joining, partial_values}
use Rattle.sb_runs.specs.Placed.{placed_value}
use Rattle.sb_aggregate.specs.Numbers.{numbered_entry}
use Rattle.sb_runs.specs.Runs.{found}
use Rattle.sb_aggregate.proofs.PartialValues.{both-kept, partials-orderless}
use Rattle.sb_runs.proofs.Placed.{placed-append, placed-reordered}
use Rattle.sb_aggregate.proofs.placing.Placing.run.Goals as goal

pub returns : goal.returns
returns c =
    let agg = c.args.agg in
    let made = partial_values (joining agg) in
    let ignores = partials-orderless (joining agg) in
    let numbers = c.self.inside.numbers.items in
    let words = c.self.inside.words.items in
    let first : (q : KeyedWindow) → found c.in_ok-numbers.numbers q ≡ placed_value made (map numbered_entry numbers) q = λ q.
    c.in_ok-numbers.ensures q
    ∙ ap (λ l. placed_value made (map numbered_entry l) q) c.deref-2.ensures.value
    ∙ placed-reordered made ignores (map numbered_entry c.sort_numbers.new.numbers.items) (map numbered_entry numbers) (IsReordered-map numbered_entry c.sort_numbers.new.numbers.items numbers c.in_ok-sort_numbers.ensures) q in
    let others : (q : KeyedWindow) → found c.in_ok-words.words q ≡ placed_value made words q = λ q.
    c.in_ok-words.ensures q
    ∙ ap (λ l. placed_value made l q) c.deref-3.ensures.value
    ∙ placed-reordered made ignores c.sort_words.new.words.items words c.sort_words.ensures q in
    λ q.
    c.in_ok-merged.ensures q
    ∙ (λ i. joined_value (join_values agg) (first q i) (others q i))
    ∙ sym (placed-append made (join_values agg) (λ v w vs ws. both-kept agg (v ∷ vs) (w ∷ ws)) (map numbered_entry numbers) words q)
    ∙ ap (λ l. placed_value made l q) c.self.view_is

pub returns-in-Some : goal.returns-in-Some
returns-in-Some c q =
    let agg = c.args.agg in
    let made = partial_values (joining agg) in
    let numbers = c.self.inside.numbers.items in
    let words = c.self.inside.words.items in
    let none : words ≡ [] = nil_from_length words (omega (arith, eqb-true c.self.inside.words.len 0 (sym c.is_empty.ensures ∙ c.if-is_empty.true), c.self.inside.words.ok.0)) in
    c.in_ok-run.ensures q
    ∙ ap (λ l. placed_value made (map numbered_entry l) q) c.deref.ensures.value
    ∙ placed-reordered made (partials-orderless (joining agg)) (map numbered_entry c.sort_numbers.new.numbers.items) (map numbered_entry numbers) (IsReordered-map numbered_entry c.sort_numbers.new.numbers.items numbers c.in_ok-sort_numbers.ensures) q
    ∙ ap (λ l. placed_value made l q) (sym (append-nil (map numbered_entry numbers)) ∙ ap (λ l. map numbered_entry numbers ++ l) (sym none) ∙ c.self.view_is)
