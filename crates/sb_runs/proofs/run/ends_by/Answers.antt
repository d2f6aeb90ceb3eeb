use Rattle.std.proofs.Common.{◌<◌, ◌≤◌, length, refl, subst}
use Rattle.std.proofs.lemmas.Bool.{leb-true}
use Rattle.sb_runs.proofs.Splitting.{all-low-by-last}
use Rattle.sb_runs.proofs.run.ends_by.Goals as goal

pub returns-in-Some : goal.returns-in-Some
returns-in-Some g c low =
    let some : 0 < length c.args.entries.now = c.in-Some.ensures.variant.0 refl in
    let last = g.J.Joiner.seen c.in-Some.last.now in
    let ends : last.0.end ≤ c.args.mark = subst (λ n. n ≤ c.args.mark) c.end.ensures (leb-true c.end.result c.args.mark low) in
    all-low-by-last c.args.mark c.args.entries.now (length c.args.entries.now) last refl some c.in-Some.ensures.lookup ends c.requires
