use Rattle.std.proofs.Common.{◌<◌, ◌^◌}
use Rattle.sb_diary.proofs.Spelling.{no_first, big_first, no_others, with_first, cast-Some, cast-None}
use Rattle.sb_diary.proofs.reading.fields.Goals as goal

pub returns-in_err-first-clause-none : goal.returns-in_err-first-clause-none
returns-in_err-first-clause-none g c =
    rw c.from_residual.ensures (no_first g.row.N c.args.bytes.now c.in_err-first.ensures.none)

pub returns-in_err-first-2-clause-none : goal.returns-in_err-first-2-clause-none
returns-in_err-first-2-clause-none g c =
    let big = cast-None c.try_from.result (c.in_ok-first.first < 2 ^ 32) c.in_ok-first.first c.in_err-first-2.ensures.value c.try_from.ensures in
    rw c.from_residual-in_err-first-2.ensures (big_first g.row.N c.args.bytes.now c.in_ok-first.first c.in_ok-first.rest.now c.in_ok-first.ensures.some big)

pub returns-in_err-others-clause-none : goal.returns-in_err-others-clause-none
returns-in_err-others-clause-none g c =
    rw c.from_residual-in_err-others.ensures
    (no_others g.row.N c.args.bytes.now c.in_ok-first.first c.in_ok-first.rest.now c.in_ok-first.ensures.some c.in_err-others.ensures.none)

pub returns-clause-some : goal.returns-clause-some
returns-clause-some g c =
    let small = cast-Some c.try_from.result (c.in_ok-first.first < 2 ^ 32) c.in_ok-first.first c.in_ok-first-2.first c.in_ok-first-2.ensures.value c.try_from.ensures in
    with_first g.row.N c.args.bytes.now c.in_ok-first.first c.in_ok-first-2.first c.in_ok-first.rest.now c.in_ok-others.others c.in_ok-first.ensures.some small c.in_ok-others.ensures.some
