use Rattle.std.proofs.Common.{arith}
use Rattle.std.proofs.lemmas.Fmt.{length-decimal-le}
use Rattle.sb_record.proofs.row.end_bytes.Goals as goal

pub returns-clause-length : goal.returns-clause-length
returns-clause-length c = rw (c.push_number.ensures.text, c.new-text.ensures) (length-decimal-le 16 c.args.end (omega arith) (omega arith) (omega arith))
