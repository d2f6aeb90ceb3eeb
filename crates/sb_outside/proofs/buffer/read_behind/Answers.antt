use Rattle.std.proofs.Common.{arith, length, ◌≡◌, ◌-◌}
use Rattle.sb_outside.proofs.Ranges.{reads_behind}
use Rattle.sb_outside.proofs.buffer.read_behind.Goals as goal

pub returns-clause-bytes : goal.returns-clause-bytes
returns-clause-bytes g c =
    let size : length c.read.new.buf ≡ length c.args.bytes.now - c.args.end = grind (arith, c.read.auto.buf) in
    reads_behind _ _ c.args.bytes.now c.read.new.buf c.args.end c.read.result (omega arith) size c.read.ensures.bound c.read.ensures.bytes (omega (arith, size, c.requires))
