use Rattle.std.proofs.Common.{arith}
use Rattle.std.proofs.lemmas.List.{length-take}
use Rattle.sb_outside.proofs.Ends.{len_within}
use Rattle.sb_outside.proofs.Windows.{shows_too_long, shows_line, shows_more}
use Rattle.sb_outside.proofs.look.look_at.Goals as goal

pub slice_bounds-len_without_cr-end : goal.slice_bounds-len_without_cr-end
slice_bounds-len_without_cr-end c = omega (arith, length-take c.end_of_line-at.result c.args.bytes.now, len_within c.args.bytes.now)

pub returns-then-len-gt-LONGEST_LINE : goal.returns-then-len-gt-LONGEST_LINE
returns-then-len-gt-LONGEST_LINE c = shows_too_long c.args.bytes.now c.end_of_line-at.result c.len_without_cr-len.result c.end_of_line-at.ensures c.len_without_cr-len.ensures.len c.if-len-gt-LONGEST_LINE.true

pub returns-then-at-bytes : goal.returns-then-at-bytes
returns-then-at-bytes c =
    let said = c.len_without_cr-len.ensures in
    shows_line c.args.bytes.now c.end_of_line-at.result c.len_without_cr-len.result c.end_of_line-at.ensures said.bytes said.within said.near c.if-len-gt-LONGEST_LINE.false c.if-at-bytes.true

pub returns : goal.returns
returns c =
    let said = c.len_without_cr-len.ensures in
    shows_more c.args.bytes.now c.end_of_line-at.result c.len_without_cr-len.result c.end_of_line-at.ensures said.bytes said.within said.near c.if-len-gt-LONGEST_LINE.false c.if-at-bytes.false
