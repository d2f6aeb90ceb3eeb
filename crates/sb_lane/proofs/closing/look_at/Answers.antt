use Rattle.std.proofs.Common.{sym, ap, ◌∙◌, arith, drop}
use Rattle.std.proofs.lemmas.List.{length-map}
use Rattle.sb_containers.specs.Lanes.{fresh}
use Rattle.sb_lane.specs.Looks.{look_of}
use Rattle.sb_lane.specs.Placed.{Placed, conts_of, cont_of}
use Rattle.sb_lane.proofs.Firsts.{head-is}
use Rattle.sb_lane.proofs.closing.look_at.Goals as goal

pub returns : goal.returns
returns c =
    let cs = conts_of c.args.containers.now in
    c.look_in.ensures (drop 1 cs) ∙ ap look_of (sym (head-is cs (cont_of c.get.result.now) (fresh 0 0) (omega (arith, length-map c.args.containers.now (λ (x : Placed). x.cont))) (c.get.ensures.cont (fresh 0 0))))
