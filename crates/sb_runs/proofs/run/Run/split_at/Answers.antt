use Rattle.std.proofs.Common.{◌≡◌, cond, List, [], ◌++◌, take, None, append-nil, refl, sym, subst, ap, ◌∙◌}
use Rattle.std.specs.Prelude.{nat_lt}
use Rattle.sb_window.specs.declared.keyed_window.KeyedWindow.{KeyedWindow}
use Rattle.sb_runs.specs.Runs.{found}
use Rattle.sb_runs.proofs.Splitting.{Splitting, splitting-more, split-closed-run, split-opened-run, split-closed, split-opened}
use Rattle.sb_runs.proofs.run.Run.split_at.Goals as goal

pub invariant_of-result : goal.invariant_of-result
invariant_of-result g c =
    split-closed-run c.args.mark c.self.inside.entries c.entries.closed c.entries.open (sym c.is_first_closed.ensures ∙ c.entries-test.false) c.self.invariant c.entries.invariant

pub invariant_of-result-2 : goal.invariant_of-result-2
invariant_of-result-2 g c =
    split-opened-run c.args.mark c.self.inside.entries c.entries.closed c.entries.open (sym c.is_first_closed.ensures ∙ c.entries-test.false) c.self.invariant c.entries.invariant

pub returns-clause-closed : goal.returns-clause-closed
returns-clause-closed g c q =
    split-closed c.args.mark c.self.inside.entries c.entries.closed c.entries.open (sym c.is_first_closed.ensures ∙ c.entries-test.false) c.self.invariant c.entries.invariant q
    ∙ ap (λ (es : List (KeyedWindow × g.row.J-Value.Denot)). cond (nat_lt c.args.mark q.end) None (found es q)) c.self.view_is

pub returns-clause-opened : goal.returns-clause-opened
returns-clause-opened g c q =
    split-opened c.args.mark c.self.inside.entries c.entries.closed c.entries.open (sym c.is_first_closed.ensures ∙ c.entries-test.false) c.self.invariant c.entries.invariant q
    ∙ ap (λ (es : List (KeyedWindow × g.row.J-Value.Denot)). cond (nat_lt c.args.mark q.end) (found es q) None) c.self.view_is

pub entries-preserved : goal.entries-preserved
entries-preserved g c =
    let whole = c.self.inside.entries in
    let closed = c.entries.closed in
    let left = c.entries.open in
    subst (λ (l : List (KeyedWindow × g.row.J-Value.Denot)). Splitting c.args.mark whole l c.move_first.new.from) (sym c.in_ok-move_first.ensures.into)
    (subst (λ (l : List (KeyedWindow × g.row.J-Value.Denot)). Splitting c.args.mark whole (closed ++ take 1 left) l) (sym c.in_ok-move_first.ensures.from)
    (splitting-more c.args.mark whole closed left (sym c.is_first_closed.ensures ∙ c.entries-test.true) c.entries.invariant))

pub returns-then-ends_by-clause-closed : goal.returns-then-ends_by-clause-closed
returns-then-ends_by-clause-closed g c q =
    let whole = c.self.inside.entries in
    let all : Splitting c.args.mark whole whole [] = record { parts = append-nil whole; low = c.ends_by.ensures c.if-ends_by.true } in
    subst (λ (l : List (KeyedWindow × g.row.J-Value.Denot)). found l q ≡ cond (nat_lt c.args.mark q.end) None (found l q)) c.self.view_is
    (split-closed c.args.mark whole whole [] refl c.self.invariant all q)

pub returns-then-ends_by-clause-opened : goal.returns-then-ends_by-clause-opened
returns-then-ends_by-clause-opened g c q =
    let whole = c.self.inside.entries in
    let all : Splitting c.args.mark whole whole [] = record { parts = append-nil whole; low = c.ends_by.ensures c.if-ends_by.true } in
    ap (λ (l : List (KeyedWindow × g.row.J-Value.Denot)). found l q) c.new.ensures
    ∙ split-opened c.args.mark whole whole [] refl c.self.invariant all q
    ∙ ap (λ (l : List (KeyedWindow × g.row.J-Value.Denot)). cond (nat_lt c.args.mark q.end) (found l q) None) c.self.view_is
