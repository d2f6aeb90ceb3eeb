use Rattle.std.proofs.Common.{◌≡◌, ◌≤◌, ◌++◌, cond, None, subst, sym, ap, ◌∙◌}
use Rattle.std.specs.Prelude.{nat_lt}
use Rattle.sb_runs.specs.Merged.{merged}
use Rattle.sb_runs.specs.Runs.{found}
use Rattle.sb_runs.specs.window.declared.keyed_window.KeyedWindow.{KeyedWindow}
use Rattle.sb_runs.specs.window.Groupings.{Closes}
use Rattle.sb_join.specs.Entries.{entries_of}
use Rattle.sb_join.specs.Kept.{JoinState, gives}
use Rattle.sb_join.proofs.KeptLaws.{gives_of, closes, stays-kept, rising-mark}
use Rattle.sb_join.proofs.KeptValues.{entries-run, entries-found, entries-open}
use Rattle.sb_join.proofs.Sides.{append-grouped}
use Rattle.sb_join.proofs.kept.JoinKeptGrouping.close.Goals as goal

pub close-requires : goal.close-requires
close-requires c = append-grouped

pub invariant_of-self-2 : goal.invariant_of-self-2
invariant_of-self-2 c = (c.self.invariant.0, λ _. stays-kept c.self.inside.windows c.self.inside.closed c.args.mark c.self.inside.values c.close.new.self (c.self.invariant.1 c.if-self.false) c.in_ok-closed.ensures.opened)

pub returns-clause-closes : goal.returns-clause-closes
returns-clause-closes c =
    let s = c.self.inside in
    let rising : s.closed ≤ c.args.mark = rising-mark _ c.args.self.now c.args.mark c.self.view_is c.if-self.false c.requires.from in
    let closed = merged (λ v w. v ++ w) c.in_ok-closed.closed.0 c.in_ok-closed.closed.1 in
    let at_closed : (q : KeyedWindow) → found closed q ≡ cond (nat_lt c.args.mark q.end) None (found (entries_of c.self.inside.values) q) =
    λ q. c.in_ok-closed.ensures.closed q ∙ ap (λ o. cond (nat_lt c.args.mark q.end) None o) (sym (entries-found c.self.inside.values q)) in
    let at_open : (q : KeyedWindow) → found (entries_of c.close.new.self) q ≡ cond (nat_lt c.args.mark q.end) (found (entries_of c.self.inside.values) q) None =
    λ q. entries-found c.close.new.self q ∙ c.in_ok-closed.ensures.opened q ∙ ap (λ o. cond (nat_lt c.args.mark q.end) o None) (sym (entries-found c.self.inside.values q)) in
    subst (λ (x : JoinState). Closes c.args.mark (gives x) c.in_ok-rows.rows.items (gives_of s.combine s.windows c.self.invariant.0 c.args.mark (entries_of c.close.new.self))) c.self.view_is
    (closes s.combine s.windows c.self.invariant.0 s.closed c.args.mark rising (entries_of s.values) (entries_of c.close.new.self) closed c.in_ok-rows.rows.items
    (entries-run s.values) (entries-open s.windows s.closed s.values (c.self.invariant.1 c.if-self.false)) (entries-run c.close.new.self) c.in_ok-closed.ensures.run at_closed at_open c.in_ok-rows.ensures)
