use Rattle.std.proofs.Common.{◌≡◌, ◌-◌, List, [], get_or, subst, sym, ap, ◌∙◌}
use Rattle.sb_window.specs.records.declared.item.Record.{Record}
use Rattle.sb_window.specs.records.Records.{before, at_least}
use Rattle.sb_window.proofs.Marks.{before-all, at_least-none}
use Rattle.sb_sink.proofs.Runs.{ends-before}
use Rattle.sb_sink.proofs.run.Run.ends_before.Goals as goal

pub returns-in-Some-clause-all : goal.returns-in-Some-clause-all
returns-in-Some-clause-all c h =
    let l = c.self.inside.rows.items in
    let last = c.in-Some.last.now in
    let low = ends-before c.args.mark l last (c.in-Some.ensures.lookup ∙ ap (λ n. get_or l (n - 1) last) c.self.inside.rows.ok.0) h c.self.invariant in
    subst (λ (x : List Record). x ≡ before c.args.mark x) c.self.view_is (sym (before-all c.args.mark l low))

pub returns-in-Some-clause-none : goal.returns-in-Some-clause-none
returns-in-Some-clause-none c h =
    let l = c.self.inside.rows.items in
    let last = c.in-Some.last.now in
    let low = ends-before c.args.mark l last (c.in-Some.ensures.lookup ∙ ap (λ n. get_or l (n - 1) last) c.self.inside.rows.ok.0) h c.self.invariant in
    subst (λ (x : List Record). [] ≡ at_least c.args.mark x) c.self.view_is (sym (at_least-none c.args.mark l low))
