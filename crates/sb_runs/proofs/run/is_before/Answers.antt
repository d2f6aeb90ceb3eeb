use Rattle.std.proofs.Common.{◌<◌, length, IsTrue, refl, subst, ap, ◌∙◌, arith}
use Rattle.std.specs.Ordering.{is_lt}
use Rattle.sb_runs.proofs.Found.{run-behind}
use Rattle.sb_runs.proofs.run.is_before.Goals as goal

pub returns-in-Some-Some : goal.returns-in-Some-Some
returns-in-Some-Some g c before =
    let some : 0 < length c.args.ones.now = c.in-Some-Some.ensures.variant.0 refl in
    let some_behind : 0 < length c.args.others.now = c.in-Some-Some.ensures'.variant.0 refl in
    let last = g.J.Joiner.seen c.in-Some-Some.one.now in
    let first = g.J.Joiner.seen c.in-Some-Some.other.now in
    run-behind c.args.ones.now c.args.others.now (length c.args.ones.now) last first refl some c.in-Some-Some.ensures.lookup
    c.in-Some-Some.ensures'.lookup (omega (arith, some_behind)) (subst IsTrue (c.is_lt.ensures ∙ ap is_lt c.compare.ensures) before) c.requires.ones c.requires.others
