use Rattle.std.proofs.Common.{rules, ◌≡◌, Some, subst}
use Rattle.sb_windowed.specs.window.Groupings.{Closes}
use Rattle.sb_session.specs.Kept.{kept_of}
use Rattle.sb_session.specs.SessionStates.{SessionState, gives}
use Rattle.sb_session.proofs.Giving.{gives_of, open-closes}
use Rattle.sb_session.proofs.session.SessionGrouping.close.Goals as goal

pub returns-clause-closes : goal.returns-clause-closes
returns-clause-closes c =
    let s = c.self.inside in
    let before = c.in_ok-kept.kept in
    let rows = c.in_ok-closed.closed.rows.items in
    let later = kept_of c.in_ok-closed.closed.left.times.entries in
    let was : c.self.inside.kept ≡ Some before = search rules in
    let gap : before.gap ≡ c.self.inside.gap = search (rules, c.self.invariant.1) in
    subst (λ (x : SessionState). Closes c.args.mark (gives x) rows (gives_of s.agg s.gap later)) c.self.view_is
    (open-closes s.agg s.gap c.args.mark s.kept before later rows was gap before.gap_is.0 c.in_ok-closed.ensures.rows c.in_ok-closed.ensures.in_order c.in_ok-closed.ensures.left)
