use Rattle.sb_checkpoint.specs.Ahead.{bytes}
use Rattle.sb_checkpoint.proofs.LinesAhead.{nothing_left, read_behind, source_read}
use Rattle.sb_checkpoint.proofs.resumed.ResumedSource.read.Goals as goal

pub invariant_of-self : goal.invariant_of-self
invariant_of-self g c =
    let before = bytes c.self.inside.ahead in
    let now = bytes c.give.new.self in
    let over = nothing_left before now c.give.result c.give.new.buf c.in-0.is (c.give.ensures.end c.in-0.is) c.give.ensures.given in
    source_read before now (g.S.Source.left c.self.inside.begun.value) (g.S.Source.left c.self.inside.source) (g.S.Source.left c.read.new.self) c.read.result c.read.new.buf over c.self.invariant c.read.ensures.bytes

pub returns-in-0-clause-bytes : goal.returns-in-0-clause-bytes
returns-in-0-clause-bytes g c =
    rw (← c.self.view_is)
    (read_behind (bytes c.self.inside.ahead) (bytes c.give.new.self) c.give.result c.give.new.buf (g.S.Source.left c.self.inside.source) (g.S.Source.left c.read.new.self) c.read.result c.read.new.buf c.in-0.is c.give.ensures.end c.give.ensures.given c.read.ensures.bytes)
