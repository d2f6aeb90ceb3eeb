use Rattle.std.proofs.Common.{◌++◌, ◌-◌, get_or, List, subst, sym, ap, ◌∙◌}
use Rattle.sb_window.specs.records.declared.item.Record.{Record}
use Rattle.sb_window.specs.records.Orders.{IsAscending}
use Rattle.sb_window.specs.records.Records.{record_cmp}
use Rattle.std.specs.Ordering.{is_ge}
use Rattle.sb_sink.proofs.Runs.{leads}
use Rattle.sb_sink.proofs.run.Run.leads_to.Goals as goal

pub returns-in-Some-Some : goal.returns-in-Some-Some
returns-in-Some-Some c h =
    let l = c.self.inside.rows.items in
    let m = c.later.inside.rows.items in
    let last = c.in-Some-Some.last.now in
    let first = c.in-Some-Some.first.now in
    subst (λ (x : List Record). IsAscending record_cmp x) (λ i. c.self.view_is i ++ c.later.view_is i)
    (leads l m last first (c.in-Some-Some.ensures.lookup ∙ ap (λ n. get_or l (n - 1) last) c.self.inside.rows.ok.0) c.in-Some-Some.ensures'.lookup c.self.invariant c.later.invariant
    (ap is_ge (sym c.cmp.ensures) ∙ sym c.is_ge.ensures ∙ h))
