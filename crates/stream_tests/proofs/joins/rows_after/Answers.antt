use Rattle.std.proofs.Common.{◌≤◌, subst, sym, refl, arith}
use Rattle.sb_base.specs.records.Elements.{on_lane}
use Rattle.sb_base.specs.window.Groupings.{IsFrom}
use Rattle.sb_join.specs.Kept.{OneSided, lane_of}
use Rattle.stream_tests.proofs.joins.rows_after.Goals as goal

pub absorb-requires-clause-from : goal.absorb-requires-clause-from
absorb-requires-clause-from c _ =
    let made = c.in_ok-join_part_of-in-Arrives in
    let part : OneSided = made.field-0 in
    let late : c.loop-step.join.closed ≤ c.in-Arrives.time = omega (arith, c.loop-step.invariant.1) in
    (on_lane (lane_of part.side) part.records, λ f. refl, subst (λ (p : OneSided). IsFrom c.loop-step.join.closed (on_lane (lane_of p.side) p.records)) (sym made.ensures) (late, tt))
