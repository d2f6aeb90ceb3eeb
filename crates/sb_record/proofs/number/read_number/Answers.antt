use Rattle.std.proofs.Common.{arith}
use Rattle.sb_record.proofs.Numbers.{whole_number_exact}
use Rattle.sb_record.proofs.number.read_number.Goals as goal

pub returns : goal.returns
returns c = record { exact = λ n. rw c.whole_number.ensures (whole_number_exact c.args.most c.args.text.now n (omega arith)) }
