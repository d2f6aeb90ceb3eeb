use Rattle.std.proofs.Common.{◌≡◌, ◌<◌, ℤ, [], ◌∷◌, SFits, w64, rules, map, set, get_or, length, sym, ap, ◌∙◌, arith}
use Rattle.std.proofs.lemmas.Int.{to_z-of_z}
use Rattle.std.proofs.lemmas.List.{map-set, get_or-map, length-map}
use Rattle.sb_runs.specs.records.declared.key.Key.TheVariants.{Number}
use Rattle.sb_runs.specs.window.declared.keyed_window.KeyedWindow.{KeyedWindow}
use Rattle.sb_runs.specs.window.Gatherings.{joined_value}
use Rattle.sb_aggregate.specs.Partials.{join_values, joining, partial_values}
use Rattle.sb_runs.specs.Placed.{placed_value}
use Rattle.sb_aggregate.specs.Numbers.{numbered_entry}
use Rattle.sb_aggregate.specs.declared.placing.Numbered.{Numbered}
use Rattle.sb_aggregate.proofs.PartialValues.{both-kept, one-kept, partials-orderless}
use Rattle.sb_aggregate.proofs.InPlace.{placed-in_place}
use Rattle.sb_aggregate.proofs.placing.join_at.Goals as goal

pub returns-clause-joined : goal.returns-clause-joined
returns-clause-joined c _ q =
    let agg = c.args.agg in
    let made = partial_values (joining agg) in
    let items = c.args.numbers.now.items in
    let held : Numbered = c.index.result.now in
    let entry : Numbered = c.args.entry.now in
    let joined = c.in-Some.joined in
    let fits_joined : SFits w64 c.in-Some.joined = search rules in
    let fits_held : SFits w64 c.index.result.now.value = search rules in
    let fits_entry : SFits w64 c.args.entry.now.value = search rules in
    let window : KeyedWindow = record { end = held.end; key = Number held.key } in
    let new : ℤ → Numbered = λ v. record { end = held.end; key = held.key; value = v } in
    let inside : c.args.at < length c.args.numbers.now.items = omega (arith, c.if-at-len.false, c.len.ensures, c.args.numbers.now.ok.0) in
    let within : c.args.at < length (map numbered_entry c.args.numbers.now.items) = omega (arith, inside, length-map c.args.numbers.now.items numbered_entry) in
    let at : get_or (map numbered_entry items) c.args.at (numbered_entry held) ≡ (window, held.value) = get_or-map numbered_entry items c.args.at held (numbered_entry held) inside ∙ ap numbered_entry (sym c.index.ensures) in
    let is : joined ∷ [] ≡ join_values agg (held.value ∷ []) (entry.value ∷ []) = c.in-Some.ensures.joined ∙ (λ i. join_values agg (to_z-of_z w64 held.value fits_held i ∷ []) (to_z-of_z w64 entry.value fits_entry i ∷ [])) in
    ap (λ v. placed_value made (map numbered_entry (set items c.args.at (new v))) q) (to_z-of_z w64 joined fits_joined)
    ∙ ap (λ l. placed_value made l q) (map-set numbered_entry items c.args.at (new joined))
    ∙ placed-in_place made (join_values agg) (λ v w vs ws. both-kept agg (v ∷ vs) (w ∷ ws)) (partials-orderless (joining agg)) (map numbered_entry items) c.args.at window joined held.value entry.value (numbered_entry held) q
    within at (one-kept agg joined held.value entry.value is)
    ∙ (λ i. joined_value (join_values agg) (placed_value made (map numbered_entry items) q) (placed_value made ((record { end = c.if-end-entry.false i; key = Number (c.if-key-entry.false i) }, entry.value) ∷ []) q))
