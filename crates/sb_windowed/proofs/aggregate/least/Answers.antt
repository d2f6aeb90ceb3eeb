use Rattle.std.proofs.Common.{◌≡◌, false, All, Contains, IfSome, rules}
use Rattle.std.specs.Ordering.{int_cmp, is_lt}
use Rattle.std.proofs.lemmas.Option.{IfSome_then}
use Rattle.sb_windowed.proofs.Orderless.{least_first}
use Rattle.sb_windowed.proofs.aggregate.least.Goals as goal

pub returns-clause-first : goal.returns-clause-first
returns-clause-first c =
    let vs = c.args.values.now in
    let h : IfSome c.min.result (λ m. Contains vs m × All (λ v. is_lt (int_cmp v m) ≡ false) vs) = search rules in
    IfSome_then c.min.result h (λ m k. least_first m vs k.0 k.1)
