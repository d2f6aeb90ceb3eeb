use Rattle.std.proofs.Common.{refl}
use Rattle.sb_words.proofs.Numbers.{is_count}
use Rattle.sb_words.proofs.request.read_amount.Goals as goal

pub returns-else-number-eq0 : goal.returns-else-number-eq0
returns-else-number-eq0 c = is_count c.in_ok-number.number c.args.most c.args.most c.args.text.now c.args.text.now c.if-number-eq0.false refl refl c.in_ok-number.ensures.exact
