use Rattle.std.proofs.Common.{arith, ◌∙◌, ap, ◌++◌, List, ℕ}
use Rattle.sb_outside.proofs.Ranges.{range_grows, same_range, fills_err}
use Rattle.sb_outside.proofs.buffer.Buffer.fill.Goals as goal

pub returns-in_err-count-clause-bytes : goal.returns-in_err-count-clause-bytes
returns-in_err-count-clause-bytes g c =
    let b = c.make_room.new.self in
    let said = c.in_err-count.ensures.bytes in
    fills_err _ _ _ _ c.from_residual.result c.from_residual.ensures.0 (same_range b.bytes c.read_behind.new.bytes b.start b.end said.0 ∙ c.make_room.ensures.held) said.1

pub returns-clause-bytes : goal.returns-clause-bytes
returns-clause-bytes g c =
    let b = c.make_room.new.self in
    let (more, is, size, given, ends) = c.in_ok-count.ensures.bytes in
    (more, range_grows b.bytes c.read_behind.new.bytes more b.start b.end _ b.ordered (omega (arith, b.within, b.full)) is ∙ ap (λ (l : List ℕ). l ++ more) c.make_room.ensures.held, size, given, ends)
