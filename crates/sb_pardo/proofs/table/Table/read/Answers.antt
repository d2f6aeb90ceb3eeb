use Rattle.std.proofs.Common.{◌≡◌, ◌∙◌, arith}
use Rattle.sb_pardo.proofs.TableEntries.{goes_on, rows_over, stop_answers, too_many}
use Rattle.sb_pardo.proofs.table.Table.read.Goals as goal

pub returns-in_err-take_row : goal.returns-in_err-take_row
returns-in_err-take_row c =
    let (rows, had, same) = c.loop-number.invariant in
    stop_answers c.args.keys c.from_residual.result _ _ _ rows _ _ _ c.from_residual.ensures.1 same (c.in_err-take_row.ensures rows had)

pub returns-then-not-branch : goal.returns-then-not-branch
returns-then-not-branch c =
    let (rows, had, same) = c.loop-number.invariant in
    same ∙ rw c.if-not-branch.true at c.in_ok-take_row.ensures rows had

pub loop-number-preserved : goal.loop-number-preserved
loop-number-preserved c =
    let (rows, had, same) = c.loop-number.invariant in
    goes_on _ _ _ rows _ _ _ _ c.if-not-branch.false same (c.in_ok-take_row.ensures rows had)

pub returns-then-is_more : goal.returns-then-is_more
returns-then-is_more c =
    let (rows, had, same) = c.loop-number.invariant in
    let (rest, is, more) = rw c.if-is_more.true at c.in-Ok.ensures rows had in
    let last : c.loop-number.number ≡ 100001 = omega arith in
    rw last at same ∙ too_many _ 100001 _ rows _ rest (omega arith) is

pub returns : goal.returns
returns c =
    let (rows, had, same) = c.loop-number.invariant in
    same ∙ rows_over _ _ _ rows (rw c.if-is_more.false at c.in-Ok.ensures rows had)
