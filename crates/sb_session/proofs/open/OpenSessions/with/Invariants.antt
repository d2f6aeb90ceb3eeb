use Rattle.std.proofs.Common.{◌++◌, take}
use Rattle.sb_windowed.specs.records.Reorderings.{IsReordered}
use Rattle.sb_session.specs.Kept.{kept_of}
use Rattle.sb_session.specs.Candidates.{IsHeld}
use Rattle.sb_session.proofs.open.OpenSessions.with.Given as goal

abbrev pub invariant-loop-record : goal.invariant-loop-record
invariant-loop-record l = record {
  kept : IsReordered (kept_of l.times.entries) (kept_of l.fn.self.times.entries ++ take l.record-index l.part);
  held : IsHeld l.gap l.times l.due.keys;
}
