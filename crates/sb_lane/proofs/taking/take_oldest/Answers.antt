use Rattle.std.proofs.Common.{◌≡◌, None, Some, length, get_or, sym, ap, ◌∙◌, rules, arith}
use Rattle.std.proofs.lemmas.List.{length-map}
use Rattle.sb_containers.specs.Lanes.{fresh}
use Rattle.sb_lane.specs.Unfinished.{unfinished_of}
use Rattle.sb_lane.specs.Taking.{take_first}
use Rattle.sb_lane.specs.Placed.{Placed, conts_of}
use Rattle.sb_lane.proofs.Results.{if_some, if_none, by_option}
use Rattle.sb_lane.proofs.Firsts.{take_first-at, take_first-none, self-get}
use Rattle.sb_lane.proofs.Counts.{unfinished-taken}
use Rattle.sb_lane.proofs.taking.take_oldest.Goals as goal

pub returns-in_err-at-clause-none : goal.returns-in_err-at-clause-none
returns-in_err-at-clause-none c =
    let e : take_first (conts_of c.args.containers.now) ≡ None = take_first-none (conts_of c.args.containers.now) (λ k d h. c.in_err-at.ensures.none k d (omega (arith, h, length-map c.args.containers.now (λ (x : Placed). x.cont)))) in
    search rules

pub returns-clause-taken : goal.returns-clause-taken
returns-clause-taken c =
    let cs = conts_of c.args.containers.now in
    let x = get_or cs c.in_ok-at.at (fresh 0 0) in
    if_some c.take.result (λ b s. take_first-at cs c.in_ok-at.at x b s.0 (omega (arith, c.in_ok-at.ensures.within, length-map c.args.containers.now (λ (x : Placed). x.cont))) (self-get cs c.in_ok-at.at (fresh 0 0) (omega (arith, c.in_ok-at.ensures.within, length-map c.args.containers.now (λ (x : Placed). x.cont)))) c.in_ok-at.ensures.before (s.1 (fresh 0 0)) ∙ ap (λ l. Some (b, l)) (sym (s.2.conts (fresh 0 0)))) c.take.ensures.some

pub returns-clause-unfinished : goal.returns-clause-unfinished
returns-clause-unfinished c =
    by_option c.take.result (λ b s. unfinished-taken (conts_of c.args.containers.now) (conts_of c.take.new.self) c.in_ok-at.at b s.0 (omega (arith, c.in_ok-at.ensures.within, length-map c.args.containers.now (λ (x : Placed). x.cont))) s.1 s.2.conts) (λ s. ap unfinished_of s.conts) c.take.ensures.some c.take.ensures.same

pub returns-clause-none : goal.returns-clause-none
returns-clause-none c =
    if_none c.take.result (λ none. let e = ap length (none (fresh 0 0)) in absurd (omega (arith, e, c.in_ok-at.ensures.waits (fresh 0 0)))) c.take.ensures.none
