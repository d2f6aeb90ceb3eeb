use Rattle.std.proofs.Common.{rules, subst, sym}
use Rattle.std.proofs.lemmas.Iterator.{YieldsList-from_slice}
use Rattle.std.proofs.lemmas.Iterator.Search.{position_from_yields_List}
use borrow.Author.Tests.{tests}
use Rattle.sb_core.specs.Finding.{IsFirst}
use Rattle.sb_core.specs.Moments as spec
use Rattle.sb_machine.proofs.FirstPlace.{place-first}
use Rattle.sb_machine.proofs.hold.find_work.Goals as goal

pub returns : goal.returns
returns c =
    subst (IsFirst (spec.is_work c.args.node c.args.lane c.args.number) c.args.held.now)
    (sym (position_from_yields_List (spec.is_work c.args.node c.args.lane c.args.number) _ _ c.position.result c.position.ensures.ran (YieldsList-from_slice c.args.held.now cc) (λ x b q k. search (rules, tests))))
    (place-first (spec.is_work c.args.node c.args.lane c.args.number) c.args.held.now)
