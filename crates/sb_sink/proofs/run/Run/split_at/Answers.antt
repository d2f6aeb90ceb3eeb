use Rattle.std.proofs.Common.{sym, ap, ◌∙◌}
use Rattle.sb_window.specs.records.Records.{before, at_least}
use Rattle.sb_sink.proofs.Runs.{cut-below-up, cut-rest-up, cut-below, cut-rest}
use Rattle.sb_sink.proofs.run.Run.split_at.Goals as goal

pub invariant_of-result : goal.invariant_of-result
invariant_of-result c =
    cut-below-up c.args.mark c.self.inside.rows.items c.rows.below.items c.rows.rest.items (sym c.is_first_before.ensures ∙ c.rows-test.false) c.self.invariant c.rows.invariant

pub invariant_of-result-2 : goal.invariant_of-result-2
invariant_of-result-2 c =
    cut-rest-up c.args.mark c.self.inside.rows.items c.rows.below.items c.rows.rest.items (sym c.is_first_before.ensures ∙ c.rows-test.false) c.self.invariant c.rows.invariant

pub returns-clause-below : goal.returns-clause-below
returns-clause-below c =
    cut-below c.args.mark c.self.inside.rows.items c.rows.below.items c.rows.rest.items (sym c.is_first_before.ensures ∙ c.rows-test.false) c.self.invariant c.rows.invariant
    ∙ ap (before c.args.mark) c.self.view_is

pub returns-clause-rest : goal.returns-clause-rest
returns-clause-rest c =
    cut-rest c.args.mark c.self.inside.rows.items c.rows.below.items c.rows.rest.items (sym c.is_first_before.ensures ∙ c.rows-test.false) c.self.invariant c.rows.invariant
    ∙ ap (at_least c.args.mark) c.self.view_is
