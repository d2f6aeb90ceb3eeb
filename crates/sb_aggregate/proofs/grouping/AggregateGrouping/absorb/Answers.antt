use Rattle.std.proofs.Common.{◌≡◌, true, false, List, ◌++◌, subst, sym, ap, ◌∙◌}
use Rattle.std.specs.Prelude.{sum_by, ◌≤◌}
use Rattle.std.specs.List.{flat_map}
use Rattle.sb_runs.specs.records.declared.item.Record.{Record}
use Rattle.sb_runs.specs.records.Elements.{all_records}
use Rattle.sb_runs.specs.records.Records.{at_least}
use Rattle.sb_runs.specs.records.Reorderings.{IsReordered}
use Rattle.sb_runs.proofs.records.OnLanes.{All-all_records}
use Rattle.sb_runs.specs.window.Groupings.{IsFrom}
use Rattle.sb_runs.specs.window.Spacing.{Spacing}
use Rattle.sb_windowed.specs.declared.aggregate.Agg.{Agg}
use Rattle.sb_windowed.specs.Aggregates.{aggregate_rows}
use Rattle.sb_aggregate.specs.Groups.{Absorbed, Grouped, HasPartials, HasPartialsFrom, given}
use Rattle.sb_aggregate.specs.Held.{run_of, runs_of}
use Rattle.sb_aggregate.proofs.Absorbing.{flat-more, late-reordered, partials-absorbed, rows-absorbed}
use Rattle.sb_aggregate.proofs.grouping.AggregateGrouping.absorb.Goals as goal

pub invariant_of-self-2 : goal.invariant_of-self-2
invariant_of-self-2 c _ =
    let g = c.self.inside in
    let p = c.part.inside in
    let not_spent : c.args.self.now.spent ≡ true → ⊥ = λ e. let k : true ≡ false = sym e ∙ sym (ap (λ (x : Absorbed). x.spent) c.self.view_is) ∙ c.if-self.false in cc in
    let like = c.requires.fits not_spent in
    let from = c.requires.from not_spent in
    let agg : c.part.inside.agg ≡ c.self.inside.agg = ap (λ (x : Grouped). x.agg) c.part.view_is ∙ like.agg ∙ sym (ap (λ (x : Absorbed). x.agg) c.self.view_is) in
    let windows : c.part.inside.windows ≡ c.self.inside.windows = ap (λ (x : Grouped). x.windows) c.part.view_is ∙ like.windows ∙ sym (ap (λ (x : Absorbed). x.windows) c.self.view_is) in
    let has_more : HasPartials c.self.inside.agg c.self.inside.windows c.part.inside.records (run_of c.part.inside.partials) =
    subst (λ (w : Spacing). HasPartials c.self.inside.agg w c.part.inside.records (run_of c.part.inside.partials)) windows (subst (λ (a : Agg). HasPartials a c.part.inside.windows c.part.inside.records (run_of c.part.inside.partials)) agg c.part.invariant) in
    let same : IsReordered c.part.inside.records (all_records from.0) = subst (λ (x : Grouped). IsReordered x.records (all_records from.0)) (sym c.part.view_is) from.1 in
    let late : IsFrom c.self.inside.closed from.0 = subst (λ (x : Absorbed). IsFrom x.closed from.0) (sym c.self.view_is) from.2 in
    subst (λ (l : List Record). HasPartialsFrom c.self.inside.closed c.self.inside.agg c.self.inside.windows l (runs_of c.push.new.self))
    (sym (ap (flat_map (λ l. l)) c.with.ensures ∙ flat-more g.absorbed p.records))
    (partials-absorbed g.agg g.windows g.closed (flat_map (λ l. l) g.absorbed) p.records (runs_of g.partials) (runs_of c.push.new.self) (run_of p.partials) (c.self.invariant c.if-self.false) has_more
    (late-reordered g.closed p.records (all_records from.0) same (All-all_records (λ r. c.self.inside.closed ≤ r.time) from.0 late)) c.in_ok-push.ensures)

pub returns-clause-adds : goal.returns-clause-adds
returns-clause-adds c es stands from l late f =
    let g = c.self.inside in
    let p = c.part.inside in
    let same : IsReordered c.part.inside.records (all_records es) = subst (λ (x : Grouped). IsReordered x.records (all_records es)) (sym c.part.view_is) stands in
    ap (λ rs. sum_by f (at_least g.closed (aggregate_rows g.agg g.windows (rs ++ all_records l)))) (ap (flat_map (λ l. l)) c.with.ensures ∙ flat-more g.absorbed p.records)
    ∙ ap (sum_by f) (rows-absorbed g.agg g.windows g.closed (flat_map (λ l. l) g.absorbed) p.records es l same)
    ∙ ap (λ (x : Absorbed). sum_by f (given x (es ++ l))) c.self.view_is
