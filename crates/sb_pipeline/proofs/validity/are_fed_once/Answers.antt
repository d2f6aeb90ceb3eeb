use Rattle.std.proofs.Common.{◌≡◌, false, IsTrue, arith, rules, subst}
use Rattle.sb_pipeline.proofs.validity.are_fed_once.Goals as goal

pub returns-then-not-are_lanes_fed_once : goal.returns-then-not-are_lanes_fed_once
returns-then-not-are_lanes_fed_once c =
    let untrue : c.are_lanes_fed_once.result ≡ false = search rules in
    (λ never. search rules, λ once. subst (λ b. IsTrue b) untrue (c.are_lanes_fed_once.ensures.1 (λ lane low. once (record { node = c.loop-node.node; lane = lane }) (omega arith, low))))
