use Rattle.sb_arguments.proofs.Building.{built}
use Rattle.sb_arguments.proofs.clapped.program.Goals as goal

pub returns : goal.returns
returns c =
    let bare = built c.bare.result _ c.bare.ensures.is c.bare.ensures.local in
    let numbers = c.with_numbers-numbers.ensures _ bare in
    let plans = c.with_plans-plans.ensures _ numbers in
    let parts = c.with_parts-parts.ensures _ plans in
    (c.with_command.ensures _ _ parts (built c.new.result _ c.new.ensures.app c.new.ensures.local)).is
