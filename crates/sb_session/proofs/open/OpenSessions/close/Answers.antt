use Rattle.std.proofs.Common.{◌≤◌, List, sym, subst, ◌∙◌, arith}
use Rattle.std.specs.List.{AllByRecursion}
use Rattle.std.proofs.lemmas.List.Elements.{recursion_from_All, All-from_recursion}
use Rattle.sb_windowed.specs.records.declared.item.Record.{Record}
use Rattle.sb_windowed.specs.records.Orders.{IsAscending}
use Rattle.sb_windowed.specs.records.Records.{record_cmp}
use Rattle.sb_windowed.proofs.records.Elements.{every}
use Rattle.sb_windowed.specs.window.declared.keyed_window.KeyedWindow.{KeyedWindow}
use Rattle.sb_windowed.specs.Sessions.{values_in_session}
use Rattle.sb_session.specs.Kept.{kept_of}
use Rattle.sb_session.specs.Candidates.{AreDue}
use Rattle.sb_session.specs.Closings.{IsClosed}
use Rattle.sb_session.proofs.Ascending.{rows-ascend, one-row}
use Rattle.sb_session.proofs.Candidates.{are-due, candidates-close}
use Rattle.sb_session.proofs.Going.{rows_in}
use Rattle.sb_session.proofs.Rows.{closed-rows}
use Rattle.sb_session.proofs.Sets.{both-parts, after-stays}
use Rattle.sb_session.proofs.open.OpenSessions.close.Goals as goal

pub invariant_of-result : goal.invariant_of-result
invariant_of-result c =
    let gap = c.args.self.gap in
    let kept = kept_of c.args.self.times.entries in
    let due = c.args.self.due.keys in
    let ended = c.in_ok-ended.ended.items in
    let left = c.take_due.new.due.keys in
    let are : AreDue gap c.args.mark kept ended = are-due gap c.args.mark kept due ended left c.args.self.held.candidates c.in_ok-ended.ensures.split c.in_ok-ended.ensures.by_mark c.in_ok-ended.ensures.after c.in_ok-ended.ensures.in_order in
    let closed : IsClosed c.args.agg gap c.args.mark kept ended c.in_ok-rows.rows.items (kept_of c.close_due.new.times.entries) = c.in_ok-rows.ensures.closed c.args.mark are c.args.self.held.full in
    record {
      gap_is = c.args.self.gap_is;
      held = record {
        full = c.in_ok-rows.ensures.full c.args.self.held.full;
        candidates = candidates-close gap c.args.mark kept (kept_of c.close_due.new.times.entries) due left closed.left_are
            (after-stays c.args.mark due ended left c.in_ok-ended.ensures.split (recursion_from_All (λ (q : KeyedWindow). q.end ≤ c.args.mark) ended c.in_ok-ended.ensures.by_mark)) c.args.self.held.candidates;
        whole = All-from_recursion (λ (q : KeyedWindow). gap ≤ q.end) left (both-parts (λ q. gap ≤ q.end) due ended left c.in_ok-ended.ensures.split c.args.self.held.whole).1;
      };
    }

pub returns-clause-rows : goal.returns-clause-rows
returns-clause-rows c =
    let gap = c.args.self.gap in
    let kept = kept_of c.args.self.times.entries in
    let ended = c.in_ok-ended.ended.items in
    let are : AreDue gap c.args.mark kept ended = are-due gap c.args.mark kept c.args.self.due.keys ended c.take_due.new.due.keys c.args.self.held.candidates c.in_ok-ended.ensures.split c.in_ok-ended.ensures.by_mark c.in_ok-ended.ensures.after c.in_ok-ended.ensures.in_order in
    (c.in_ok-rows.ensures.closed c.args.mark are c.args.self.held.full).rows_are ∙ closed-rows c.args.agg gap kept c.args.mark ended c.args.self.gap_is.0 are

pub returns-clause-in_order : goal.returns-clause-in_order
returns-clause-in_order c =
    let gap = c.args.self.gap in
    let kept = kept_of c.args.self.times.entries in
    let ended = c.in_ok-ended.ended.items in
    let are : AreDue gap c.args.mark kept ended = are-due gap c.args.mark kept c.args.self.due.keys ended c.take_due.new.due.keys c.args.self.held.candidates c.in_ok-ended.ensures.split c.in_ok-ended.ensures.by_mark c.in_ok-ended.ensures.after c.in_ok-ended.ensures.in_order in
    let whole : AllByRecursion (λ q. gap ≤ q.end) ended = (both-parts (λ q. gap ≤ q.end) c.args.self.due.keys ended c.take_due.new.due.keys c.in_ok-ended.ensures.split c.args.self.held.whole).0 in
    subst (λ (rows : List Record). IsAscending record_cmp rows) (sym (c.in_ok-rows.ensures.closed c.args.mark are c.args.self.held.full).rows_are)
    (rows-ascend (rows_in c.args.agg gap kept) (λ q. one-row c.args.agg c.requires.one q (values_in_session gap kept q)) ended c.in_ok-ended.ensures.in_order
    (every (λ q h. omega (arith, c.args.self.gap_is.0, h)) ended whole))

pub returns-clause-left : goal.returns-clause-left
returns-clause-left c =
    let gap = c.args.self.gap in
    let kept = kept_of c.args.self.times.entries in
    let ended = c.in_ok-ended.ended.items in
    let are : AreDue gap c.args.mark kept ended = are-due gap c.args.mark kept c.args.self.due.keys ended c.take_due.new.due.keys c.args.self.held.candidates c.in_ok-ended.ensures.split c.in_ok-ended.ensures.by_mark c.in_ok-ended.ensures.after c.in_ok-ended.ensures.in_order in
    (c.in_ok-rows.ensures.closed c.args.mark are c.args.self.held.full).left_are
