use Rattle.std.proofs.Common.{sym, ap, ◌∙◌, arith, get_or, filter, not, ◌==◌}
use Rattle.std.proofs.lemmas.List.{length-map}
use Rattle.sb_containers.specs.Lanes.{fresh}
use Rattle.sb_lane.specs.Unfinished.{unfinished_of}
use Rattle.sb_lane.specs.Placed.{Placed, conts_of}
use Rattle.sb_lane.proofs.Firsts.{finish_first-at, finish_first-none, self-get}
use Rattle.sb_lane.proofs.Counts.{unfinished-set}
use Rattle.sb_lane.proofs.taking.finish_at.Goals as goal

pub returns-in_default-clause-list : goal.returns-in_default-clause-list
returns-in_default-clause-list c =
    let cs = conts_of c.args.containers.now in
    sym (finish_first-none c.args.epoch c.args.number cs (λ k d h. c.in_default.ensures.none k d (omega (arith, h, length-map c.args.containers.now (λ (x : Placed). x.cont)))))

pub returns-clause-list : goal.returns-clause-list
returns-clause-list c =
    let cs = conts_of c.args.containers.now in
    let x = get_or cs c.in-Some.at (fresh 0 0) in
    c.finish.ensures.cont.conts (fresh 0 0)
    ∙ sym (finish_first-at c.args.epoch c.args.number cs c.in-Some.at x (omega (arith, c.in-Some.ensures.within, length-map c.args.containers.now (λ (x : Placed). x.cont)))
    (self-get cs c.in-Some.at (fresh 0 0) (omega (arith, c.in-Some.ensures.within, length-map c.args.containers.now (λ (x : Placed). x.cont)))) c.in-Some.ensures.before (c.in-Some.ensures.here (fresh 0 0)))

pub returns-clause-gone : goal.returns-clause-gone
returns-clause-gone c =
    let cs = conts_of c.args.containers.now in
    let x = get_or cs c.in-Some.at (fresh 0 0) in
    let set_is = ap unfinished_of (c.finish.ensures.cont.conts (fresh 0 0)) in
    omega (arith, set_is, c.finish.ensures.gone (fresh 0 0), unfinished-set cs c.in-Some.at x (record x { out = filter (λ n. not (n == c.args.number)) x.out }) (omega (arith, c.in-Some.ensures.within, length-map c.args.containers.now (λ (x : Placed). x.cont))) (self-get cs c.in-Some.at (fresh 0 0) (omega (arith, c.in-Some.ensures.within, length-map c.args.containers.now (λ (x : Placed). x.cont)))))
