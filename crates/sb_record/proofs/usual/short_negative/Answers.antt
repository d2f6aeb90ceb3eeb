use Rattle.std.proofs.Common.{rules, arith, ◌∙◌}
use Rattle.sb_record.proofs.ShortNumbers.{short_negative}
use Rattle.sb_record.proofs.usual.short_negative.Goals as goal

pub returns : goal.returns
returns c =
    short_negative c.args.end c.in_ok-size.size c.args.bytes.now c.in_ok-size.rest.now c.in_ok-size.ensures.read (omega arith) c.in_ok-size.ensures.small
    ∙ search rules
