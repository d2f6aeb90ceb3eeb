use Rattle.std.proofs.Common.{◌≡◌, false, All, Contains, IfSome, rules}
use Rattle.std.specs.Ordering.{int_cmp, is_gt}
use Rattle.std.proofs.lemmas.Option.{IfSome_then}
use Rattle.sb_windowed.proofs.Orderless.{greatest_first_of}
use Rattle.sb_windowed.proofs.aggregate.greatest.Goals as goal

pub returns-clause-first : goal.returns-clause-first
returns-clause-first c =
    let vs = c.args.values.now in
    let h : IfSome c.max.result (λ m. Contains vs m × All (λ v. is_gt (int_cmp v m) ≡ false) vs) = search rules in
    IfSome_then c.max.result h (λ m k. greatest_first_of m vs k.0 k.1)
