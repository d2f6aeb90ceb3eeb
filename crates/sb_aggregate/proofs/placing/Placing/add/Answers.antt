use Rattle.std.proofs.Common.{◌≡◌, ℤ, [], ◌∷◌, ◌++◌, IsTrue, SFits, w64, rules, to_z, of_z, map, append_assoc, sym, ap, ◌∙◌}
use Rattle.std.proofs.lemmas.Int.{to_z-of_z}
use Rattle.std.proofs.lemmas.List.{map-append}
use Rattle.sb_runs.specs.window.declared.keyed_window.KeyedWindow.{KeyedWindow}
use Rattle.sb_runs.specs.window.Gatherings.{joined_value}
use Rattle.sb_aggregate.specs.Partials.{join_values, joining, partial_values}
use Rattle.sb_runs.specs.Placed.{placed_value}
use Rattle.sb_aggregate.specs.Numbers.{numbered_entry}
use Rattle.sb_aggregate.specs.declared.placing.Numbered.{Numbered}
use Rattle.sb_aggregate.proofs.PartialValues.{both-kept, partials-orderless}
use Rattle.sb_runs.proofs.Placed.{placed-append}
use Rattle.sb_aggregate.proofs.InPlace.{placed-before, placed-before_others}
use Rattle.sb_aggregate.proofs.placing.Placing.add.Goals as goal

pub returns-in_default : goal.returns-in_default
returns-in_default c q =
    let agg = c.args.agg in
    let made = partial_values (joining agg) in
    let fits : SFits w64 c.args.value = search rules in
    let numbers = map numbered_entry c.self.inside.numbers.items in
    let words = c.self.inside.words.items in
    let e : KeyedWindow × ℤ = (c.args.window, c.args.value) in
    ap (λ l. placed_value made (numbers ++ l) q) (c.in_ok-push.ensures.items ∙ ap (λ v. words ++ (c.args.window, v) ∷ []) (to_z-of_z w64 c.args.value fits))
    ∙ ap (λ l. placed_value made l q) (sym (append_assoc numbers words (e ∷ [])))
    ∙ placed-append made (join_values agg) (λ v w vs ws. both-kept agg (v ∷ vs) (w ∷ ws)) (numbers ++ words) (e ∷ []) q
    ∙ ap (λ l. joined_value (join_values agg) (placed_value made l q) (placed_value made (e ∷ []) q)) c.self.view_is

pub returns-then-join_at : goal.returns-then-join_at
returns-then-join_at c q =
    let agg = c.args.agg in
    let made = partial_values (joining agg) in
    let fits : SFits w64 c.args.value = search rules in
    let numbers = c.self.inside.numbers.items in
    let words = c.self.inside.words.items in
    let e : KeyedWindow × ℤ = (c.args.window, c.args.value) in
    let n : Numbered = record { end = c.args.window.end; key = c.in-Number.key; value = to_z w64 (of_z w64 c.args.value) } in
    let is : numbered_entry n ≡ e = λ i. (record { end = c.args.window.end; key = sym c.in-Number.is i }, to_z-of_z w64 c.args.value fits i) in
    let yes : IsTrue c.join_at.result = search rules in
    placed-before_others made (join_values agg) (λ v w vs ws. both-kept agg (v ∷ vs) (w ∷ ws)) (partials-orderless (joining agg)) (map numbered_entry numbers) (map numbered_entry c.join_at.new.numbers.items) words
    (numbered_entry n) q (c.join_at.ensures.joined yes q)
    ∙ (λ i. joined_value (join_values agg) (placed_value made (c.self.view_is i) q) (placed_value made (is i ∷ []) q))

pub returns : goal.returns
returns c q =
    let agg = c.args.agg in
    let made = partial_values (joining agg) in
    let fits : SFits w64 c.args.value = search rules in
    let numbers = c.self.inside.numbers.items in
    let words = c.self.inside.words.items in
    let e : KeyedWindow × ℤ = (c.args.window, c.args.value) in
    let n : Numbered = record { end = c.args.window.end; key = c.in-Number.key; value = to_z w64 (of_z w64 c.args.value) } in
    let is : numbered_entry n ≡ e = λ i. (record { end = c.args.window.end; key = sym c.in-Number.is i }, to_z-of_z w64 c.args.value fits i) in
    ap (λ l. placed_value made (map numbered_entry l ++ words) q) (c.in_ok-push-2.ensures.items ∙ ap (λ l. l ++ n ∷ []) (c.join_at.ensures.left c.if-join_at.false))
    ∙ ap (λ l. placed_value made (l ++ words) q) (map-append numbered_entry numbers (n ∷ []))
    ∙ placed-before made (join_values agg) (λ v w vs ws. both-kept agg (v ∷ vs) (w ∷ ws)) (partials-orderless (joining agg)) (map numbered_entry numbers) words (numbered_entry n) q
    ∙ (λ i. joined_value (join_values agg) (placed_value made (c.self.view_is i) q) (placed_value made (is i ∷ []) q))
