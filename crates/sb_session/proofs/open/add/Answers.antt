use Rattle.std.proofs.Common.{◌+◌, ◌≤◌, sym, subst, arith}
use Rattle.std.specs.Prelude.{All}
use Rattle.std.proofs.lemmas.Map.Views.{All-insert_key}
use Rattle.sb_windowed.specs.window.declared.keyed_window.KeyedWindow.{KeyedWindow}
use Rattle.sb_windowed.specs.window.Windows.{keyed_window_cmp}
use Rattle.sb_session.specs.Kept.{kept_of}
use Rattle.sb_session.proofs.Candidates.{candidates-add}
use Rattle.sb_session.proofs.Sets.{inserted-there, inserted-stays}
use Rattle.sb_session.proofs.open.add.Goals as goal

pub returns-clause-held : goal.returns-clause-held
returns-clause-held c = λ held.
    let gap = c.args.gap in
    let r = c.args.record.now in
    let due = c.args.due.now in
    let more = c.insert.new.self in
    let q : KeyedWindow = record { end = r.time + gap; key = r.key } in
    record {
      full = c.in_ok-add_value.ensures.full held.full;
      candidates = candidates-add gap (kept_of c.args.times.now.entries) (kept_of c.add_value.new.times.entries) r due.keys more.keys c.in_ok-add_value.ensures.kept
          (inserted-stays q due more c.in_ok-insert.ensures.updates) (inserted-there (r.time + gap) r.key due more c.in_ok-insert.ensures.updates) held.candidates;
      whole = subst (All (λ (q : KeyedWindow). gap ≤ q.end)) (sym c.in_ok-insert.ensures.keys) (All-insert_key keyed_window_cmp q (λ q. gap ≤ q.end) due.keys held.whole (omega arith));
    }
