use Rattle.std.proofs.Common.{◌∙◌, ◌+◌, ap, arith, List, ℕ, Some, ◌≡◌, ◌≤◌, length, take, refl}
use Rattle.std.specs.List.{slice_range}
use Rattle.std.proofs.lemmas.List.{length-take}
use Rattle.sb_outside.specs.Buffers.{pending_bytes}
use Rattle.sb_outside.specs.Readings.{Reading, reading}
use Rattle.sb_outside.specs.declared.lines.Halt.TheVariants as halt
use Rattle.sb_outside.specs.declared.lines.Step.TheVariants as step
use Rattle.sb_outside.proofs.Searches.{line_part, advances, whole_line, last_line_given}
use Rattle.sb_outside.proofs.lines.LineBuffer.advance.Goals as goal

pub returns-in-Line-clause-advances : goal.returns-in-Line-clause-advances
returns-in-Line-clause-advances g c =
    let says = c.in-Line.ensures.says in
    let b = c.search.new.buffer in
    let len = c.in-Line.len in
    let shown : List ℕ = slice_range c.take.new.self.bytes b.start (b.start + len) in
    let line : shown ≡ take len (pending_bytes b) = ap (λ (l : List ℕ). slice_range l b.start (b.start + len)) c.take.ensures.bytes ∙ line_part b.bytes b.start b.end len (omega (arith, says.2, says.3)) in
    let short : length shown ≤ 128 = omega (arith, ap length line, length-take len (pending_bytes b), says.1) in
    let new : Reading g.row.S.Denot = record { source = c.search.new.source; at_hand = pending_bytes c.take.new.self; line = shown; halt = c.self.inside.halt } in
    advances g.S.Source.left g.S.Source.faults _ (reading c.args.source.now c.args.self.now) new step.Line (ap (reading c.args.source.now) c.self.view_is) c.in_default.is (pending_bytes b) c.in-Line.ensures.bytes
    (whole_line _ _ (pending_bytes b) _ _ _ shown c.in_default.is says.0 line c.take.ensures.held short, says.4) c.in-Line.ensures.unread

pub returns-in-Last-clause-advances : goal.returns-in-Last-clause-advances
returns-in-Last-clause-advances g c =
    let says = c.in-Last.ensures.says in
    let b = c.search.new.buffer in
    let len = c.in-Last.len in
    let shown : List ℕ = slice_range c.clear.new.self.bytes b.start (b.start + len) in
    let line : shown ≡ take len (pending_bytes b) = ap (λ (l : List ℕ). slice_range l b.start (b.start + len)) c.clear.ensures.bytes ∙ line_part b.bytes b.start b.end len says.2 in
    let short : length shown ≤ 128 = omega (arith, ap length line, length-take len (pending_bytes b), says.1) in
    let new : Reading g.row.S.Denot = record { source = c.search.new.source; at_hand = pending_bytes c.clear.new.self; line = shown; halt = Some halt.End } in
    advances g.S.Source.left g.S.Source.faults _ (reading c.args.source.now c.args.self.now) new step.Line (ap (reading c.args.source.now) c.self.view_is) c.in_default.is (pending_bytes b) c.in-Last.ensures.bytes
    (last_line_given _ (pending_bytes b) _ _ shown says.0 line short says.3, says.4) c.in-Last.ensures.unread

pub returns-in-TooLong-clause-advances : goal.returns-in-TooLong-clause-advances
returns-in-TooLong-clause-advances g c =
    let says = c.in-TooLong.ensures.says in
    advances g.S.Source.left g.S.Source.faults _ (reading c.args.source.now c.args.self.now) _ step.TooLong (ap (reading c.args.source.now) c.self.view_is) c.in_default.is (pending_bytes c.search.new.buffer) c.in-TooLong.ensures.bytes
    (says.0, refl, says.1) c.in-TooLong.ensures.unread
