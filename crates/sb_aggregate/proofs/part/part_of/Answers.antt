use Rattle.std.proofs.Common.{◌<◌, List, ◌∷◌, [], ◌++◌, SFits, ℤ, w64, rules, take, refl, sym, ap, ◌∙◌, arith}
use Rattle.std.specs.List.{flat_map}
use Rattle.std.proofs.lemmas.Int.{to_z-of_z}
use Rattle.std.proofs.lemmas.List.{take_more, flat_map_more}
use Rattle.std.proofs.lemmas.List.Elements.{recursion_from_All}
use Rattle.sb_runs.specs.records.declared.item.Record.{Record}
use Rattle.sb_runs.specs.records.declared.item.TheConstants.{END_MARK}
use Rattle.sb_runs.specs.window.declared.keyed_window.KeyedWindow.{KeyedWindow}
use Rattle.sb_runs.specs.window.Gatherings.{joined_value}
use Rattle.sb_aggregate.specs.Held.{run_of}
use Rattle.sb_aggregate.specs.Partials.{join_values, partial_values, partial_at}
use Rattle.sb_runs.specs.Placed.{placed_first, placed_value}
use Rattle.sb_aggregate.proofs.PartialValues.{partials-joined}
use Rattle.sb_runs.proofs.Placed.{placed-append}
use Rattle.sb_runs.proofs.Spreading.{All-take}
use Rattle.sb_aggregate.proofs.Panes.{part-room, part-spread}
use Rattle.sb_aggregate.proofs.part.part_of.Goals as goal

pub loop-record-preserved : goal.loop-record-preserved
loop-record-preserved c =
    let agg = c.args.agg in
    let i = c.loop-record.record-index in
    let records = c.args.records.now in
    let place = placed_first c.args.windows.now in
    let r : Record = c.record-item.result in
    let fits : SFits w64 c.record-item.result.value = search rules in
    record {
      placed = λ q. c.in_ok-place.ensures q
          ∙ ap (λ x. joined_value (join_values agg) x (placed_value (partial_values agg) (place r) q)) (c.loop-record.invariant.placed q)
          ∙ sym (placed-append (partial_values agg) (join_values agg) (λ v w vs ws. partials-joined agg (v ∷ vs) (w ∷ ws)) (flat_map place (take i records)) (place r) q)
          ∙ ap (λ l. placed_value (partial_values agg) l q) (
          flat_map_more place [] (take i records) r
          ∙ ap (λ x. flat_map place (take i records ++ x ∷ [])) c.record-item.is
          ∙ ap (flat_map place) (sym (take_more records i r (omega arith))));
      grouped = c.with-grouped.ensures ∙ ap (λ v. c.loop-record.grouped ++ record { time = r.time; key = r.key; value = v } ∷ []) (to_z-of_z w64 r.value fits)
          ∙ ap (λ l. l ++ r ∷ []) c.loop-record.invariant.grouped ∙ ap (λ x. take i records ++ x ∷ []) c.record-item.is ∙ sym (take_more records i r (omega arith));
    }

pub spread-requires-clause-ends : goal.spread-requires-clause-ends
spread-requires-clause-ends c =
    let records = take c.loop-record.record-index c.args.records.now in
    let placed : List (KeyedWindow × ℤ) = flat_map (placed_first c.args.windows.now) records in
    part-room c.args.agg c.args.windows.now c.size.ensures.sound records placed placed (λ f. refl) refl (run_of c.in_ok-panes.panes) (λ q. c.in_ok-panes.ensures q ∙ c.loop-record.invariant.placed q)
    c.size.result c.every-every.result c.size.ensures.value c.every-every.ensures.value
    (All-take (λ r. r.time < END_MARK) c.loop-record.record-index c.args.records.now (recursion_from_All (λ r. r.time < END_MARK) c.args.records.now c.requires.times))

pub invariant_of-result : goal.invariant_of-result
invariant_of-result c q =
    let records = take c.loop-record.record-index c.args.records.now in
    let placed : List (KeyedWindow × ℤ) = flat_map (placed_first c.args.windows.now) records in
    c.in_ok-partials.ensures q
    ∙ part-spread c.args.agg c.args.windows.now c.size.ensures.sound records placed placed (λ f. refl) refl (run_of c.in_ok-panes.panes) (λ q. c.in_ok-panes.ensures q ∙ c.loop-record.invariant.placed q)
    c.size.result c.every-every.result c.size.ensures.value c.every-every.ensures.value q
    ∙ ap (λ l. partial_at c.args.agg c.args.windows.now l q) (sym c.loop-record.invariant.grouped)
