use Rattle.std.proofs.Common.{◌==◌, rules, tests, subst, sym}
use Rattle.std.proofs.lemmas.Iterator.{YieldsList-from_slice}
use Rattle.std.proofs.lemmas.Iterator.Search.{position_from_yields_List}
use Rattle.sb_slow.specs.base.bundle.declared.bundle.Bundle.{Bundle}
use Rattle.sb_core.specs.Finding.{IsFirst}
use Rattle.sb_machine.proofs.FirstPlace.{place-first}
use Rattle.sb_machine.proofs.lanes.find_bundle.Goals as goal

pub returns : goal.returns
returns c =
    let xs = c.args.bundles.now in
    let of_number = λ (b : Bundle). b.number == c.args.number in
    let it = position_from_yields_List of_number _ _ c.position.result c.position.ensures.ran (YieldsList-from_slice xs cc) (λ x b q k. search (rules, tests)) in
    subst (IsFirst of_number xs) (sym it) (place-first of_number xs)
