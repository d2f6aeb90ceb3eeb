use Rattle.std.proofs.Common.{◌≡◌, filter, take}
use Rattle.sb_slow.specs.base.windowed.Sessions.{is_session_open}
use Rattle.sb_slow.specs.base.records.Elements.{all_records}
use Rattle.sb_machine.proofs.operate.in_open_sessions.Given as goal

abbrev pub invariant-loop-place : goal.invariant-loop-place
invariant-loop-place l = l.left.items ≡ filter (λ e. is_session_open l.gap l.mark (all_records l.kept) e.rec) (take l.place l.kept)
