use Rattle.std.proofs.Common.{List, ◌∷◌, [], ◌++◌, SFits, w64, rules, take, sym, ap, subst, ◌∙◌, arith}
use Rattle.std.specs.List.{flat_map}
use Rattle.std.proofs.lemmas.Int.{to_z-of_z}
use Rattle.std.proofs.lemmas.List.{take_more, flat_map_more}
use Rattle.sb_runs.specs.Placed.{placed_first, placed_value}
use Rattle.sb_runs.specs.records.declared.item.Record.{Record}
use Rattle.sb_join.specs.Entries.{HasPart}
use Rattle.sb_join.proofs.PartValues.{has-part}
use Rattle.sb_join.proofs.Sides.{on_side}
use Rattle.sb_join.proofs.part.join_part_of.Goals as goal

pub loop-record-preserved : goal.loop-record-preserved
loop-record-preserved c =
    let i = c.loop-record.record-index in
    let records = c.args.records.now in
    let place = placed_first c.args.windows.now in
    let r : Record = c.record-item.result in
    let fits : SFits w64 c.record-item.result.value = search rules in
    record {
      placed = c.in_ok-place.ensures
          ∙ ap (λ l. l ++ place r) c.loop-record.invariant.placed
          ∙ flat_map_more place [] (take i records) r
          ∙ ap (λ x. flat_map place (take i records ++ x ∷ [])) c.record-item.is
          ∙ ap (flat_map place) (sym (take_more records i r (omega arith)));
      came = c.with-came.ensures ∙ ap (λ v. c.loop-record.came ++ record { time = r.time; key = r.key; value = v } ∷ []) (to_z-of_z w64 r.value fits)
          ∙ ap (λ l. l ++ r ∷ []) c.loop-record.invariant.came ∙ ap (λ x. take i records ++ x ∷ []) c.record-item.is ∙ sym (take_more records i r (omega arith));
    }

pub invariant_of-result : goal.invariant_of-result
invariant_of-result c =
    let records = take c.loop-record.record-index c.args.records.now in
    subst (λ (l : List Record). HasPart c.args.windows.now c.args.side l c.in_ok-values.values) (sym c.loop-record.invariant.came)
    (has-part c.args.windows.now c.requires.fixed c.args.side records c.sort_placed.new.placed.items c.loop-record.placed.items c.sort_placed.ensures c.loop-record.invariant.placed c.in_ok-values.values
    (λ q. c.in_ok-values.ensures q ∙ ap (λ ps. placed_value (on_side c.args.side) ps q) c.deref.ensures.value))
