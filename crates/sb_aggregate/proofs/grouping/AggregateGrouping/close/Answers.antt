use Rattle.std.proofs.Common.{◌≡◌, ◌≤◌, ◌++◌, true, false, subst, sym, ap, ◌∙◌}
use Rattle.std.specs.List.{flat_map}
use Rattle.sb_runs.specs.records.Elements.{all_records}
use Rattle.sb_runs.specs.records.Records.{at_least}
use Rattle.sb_runs.specs.window.Groupings.{Closes}
use Rattle.sb_windowed.specs.Aggregates.{aggregate_rows}
use Rattle.sb_aggregate.specs.Groups.{Absorbed, given}
use Rattle.sb_aggregate.specs.Held.{runs_of}
use Rattle.sb_aggregate.proofs.Absorbing.{partials-left, closes-with}
use Rattle.sb_aggregate.proofs.grouping.AggregateGrouping.close.Goals as goal

pub invariant_of-self-2 : goal.invariant_of-self-2
invariant_of-self-2 c _ =
    let g = c.self.inside in
    let not_spent : c.args.self.now.spent ≡ true → ⊥ = λ e. let k : true ≡ false = sym e ∙ sym (ap (λ (x : Absorbed). x.spent) c.self.view_is) ∙ c.if-self.false in cc in
    let within : c.self.inside.closed ≤ c.args.mark = subst (λ (x : Absorbed). x.closed ≤ c.args.mark) (sym c.self.view_is) (c.requires.from not_spent) in
    partials-left g.agg g.windows g.closed c.args.mark within (flat_map (λ l. l) g.absorbed) (runs_of g.partials) (c.self.invariant c.if-self.false) (runs_of c.close.new.self) c.in_ok-rows.ensures.opened

pub returns-clause-closes : goal.returns-clause-closes
returns-clause-closes c =
    let g = c.self.inside in
    let not_spent : c.args.self.now.spent ≡ true → ⊥ = λ e. let k : true ≡ false = sym e ∙ sym (ap (λ (x : Absorbed). x.spent) c.self.view_is) ∙ c.if-self.false in cc in
    let within : c.self.inside.closed ≤ c.args.mark = subst (λ (x : Absorbed). x.closed ≤ c.args.mark) (sym c.self.view_is) (c.requires.from not_spent) in
    subst (λ (x : Absorbed). Closes c.args.mark (given x) c.in_ok-rows.rows.items (λ l. at_least c.args.mark (aggregate_rows g.agg g.windows (flat_map (λ l. l) g.absorbed ++ all_records l)))) c.self.view_is
    (closes-with g.agg g.windows g.closed c.args.mark within (flat_map (λ l. l) g.absorbed) (runs_of g.partials) (c.self.invariant c.if-self.false) c.in_ok-rows.ensures.closed.0
    c.in_ok-rows.rows.items c.in_ok-rows.ensures.closed.1 c.in_ok-rows.ensures.closed.2 c.in_ok-rows.ensures.closed.3)
