use Rattle.std.proofs.Common.{◌≤◌, ℕ}
use Rattle.std.specs.List.{AllByRecursion}
use Rattle.sb_session.specs.Kept.{kept_of, AreFull}
use Rattle.sb_session.specs.Candidates.{AreDue}
use Rattle.sb_session.proofs.Going.{IsGoing}
use Rattle.sb_session.proofs.close.close_due.Given as goal

abbrev pub invariant-loop-session : goal.invariant-loop-session
invariant-loop-session l = record {
  fits : AllByRecursion (λ q. l.gap ≤ q.end) l.session-iterator.rest.items;
  going : (mark : ℕ) → AreDue l.gap mark (kept_of l.fn.times.entries) l.fn.due.items → AreFull l.fn.times → IsGoing l.agg l.gap mark (kept_of l.fn.times.entries) l.fn.due.items l.rows.items l.session-iterator.rest.items l.times;
  full : AreFull l.fn.times → AreFull l.times;
}
