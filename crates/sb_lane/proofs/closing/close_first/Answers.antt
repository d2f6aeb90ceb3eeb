use Rattle.std.proofs.Common.{ap, ◌∙◌, arith, get_or, true}
use Rattle.std.proofs.lemmas.List.{length-map}
use Rattle.sb_containers.specs.Lanes.{fresh}
use Rattle.sb_lane.specs.Unfinished.{unfinished_of}
use Rattle.sb_lane.specs.Placed.{Placed, conts_of}
use Rattle.sb_lane.proofs.Firsts.{first-closing, self-get}
use Rattle.sb_lane.proofs.Counts.{unfinished-set}
use Rattle.sb_lane.proofs.closing.close_first.Goals as goal

pub returns-clause-list : goal.returns-clause-list
returns-clause-list c =
    c.close.ensures.conts (fresh 0 0) ∙ first-closing (conts_of c.args.containers.now) (fresh 0 0) (omega (arith, c.requires, length-map c.args.containers.now (λ (x : Placed). x.cont)))

pub returns-clause-unfinished : goal.returns-clause-unfinished
returns-clause-unfinished c =
    let cs = conts_of c.args.containers.now in
    let x = get_or cs 0 (fresh 0 0) in
    let set_is = ap unfinished_of (c.close.ensures.conts (fresh 0 0)) in
    omega (arith, set_is, unfinished-set cs 0 x (record x { closing = true }) (omega (arith, c.requires, length-map c.args.containers.now (λ (x : Placed). x.cont))) (self-get cs 0 (fresh 0 0) (omega (arith, c.requires, length-map c.args.containers.now (λ (x : Placed). x.cont)))))
