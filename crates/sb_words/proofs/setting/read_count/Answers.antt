use Rattle.std.proofs.Common.{arith, refl, rules}
use Rattle.sb_words.proofs.Numbers.{is_count}
use Rattle.sb_words.proofs.setting.read_count.Goals as goal

pub overflow_cast-result : goal.overflow_cast-result
overflow_cast-result c = omega (arith, ((c.in_ok-number.ensures.exact c.in_ok-number.number).0 refl).0, c.ranges.most.fits)

pub returns-else-number-eq0 : goal.returns-else-number-eq0
returns-else-number-eq0 c = is_count c.in_ok-number.number c.args.most c.from.result c.as_bytes.result.now c.args.word.now c.if-number-eq0.false (search rules) c.as_bytes.ensures.value c.in_ok-number.ensures.exact
