use Rattle.std.proofs.Common.{◌≡◌, ◌-◌, ◌*◌, ◌/◌, ◌≤◌, ◌^◌, sym, ap, ◌∙◌, arith}
use Rattle.std.proofs.lemmas.Result.{IfOk-weaker}
use Rattle.sb_window.specs.Gatherings.{joined_value}
use Rattle.sb_window.proofs.Gathering.{joined_none}
use Rattle.sb_runs.specs.Runs.{found, spread_value}
use Rattle.sb_runs.proofs.Doubling.{spread-empty, spread-doubled, room-fewer, room-steps, room-doubled, first-step, two-steps, steps-fewer, half-steps, last-steps}
use Rattle.sb_runs.proofs.Spreading.{spread-first}
use Rattle.sb_runs.proofs.panes.spread.Goals as goal
use Rattle.sb_runs.proofs.panes.spread.Goals.{then-count-eq1-via-then-count-eq1, then-count-eq1-via-else-count-eq1+then-len-eq0}

pub returns-then-count-eq1 : goal.returns-then-count-eq1
returns-then-count-eq1 g c q =
    let join = g.J.Joiner.joined c.args.joiner.now in
    let panes = c.args.panes in
    elim c.then-count-eq1.branch [
      | then-count-eq1-via-then-count-eq1 w ↦
          spread-first join c.args.every panes q ∙ ap (λ n. spread_value join c.args.every n panes q) (sym w.if-count-eq1.true)
      | then-count-eq1-via-else-count-eq1+then-len-eq0 w ↦
          spread-empty join c.args.every c.args.count panes (sym w.len.ensures ∙ w.if-len-eq0.true) q
    ]

pub doubled-init : goal.doubled-init
doubled-init g c =
    let join = g.J.Joiner.joined c.args.joiner.now in
    let panes = c.args.panes in
    record {
      some = c.requires.some;
      width = room-steps (c.args.count * c.args.every) (2 ^ 64) panes (λ none. c.if-len-eq0.false (c.len.ensures ∙ none)) c.requires.ends;
      ends = room-fewer ((c.args.count - 1) * c.args.every) (c.args.count * c.args.every) (2 ^ 64) (steps-fewer c.args.count c.args.every) panes c.requires.ends;
      same = λ q.
          ap (λ es. joined_value join (spread_value join c.args.every c.args.count panes q) (found es q)) c.new-behind.ensures
          ∙ joined_none join (spread_value join c.args.every c.args.count panes q);
    }

pub with_odd-requires-clause-width : goal.with_odd-requires-clause-width
with_odd-requires-clause-width g c = c.doubled.invariant.width

pub with_odd-requires-clause-ends : goal.with_odd-requires-clause-ends
with_odd-requires-clause-ends g c = c.doubled.invariant.ends

pub doubled-requires : goal.doubled-requires
doubled-requires g c =
    room-fewer c.doubled.step ((c.doubled.rest - 1) * c.doubled.step) (2 ^ 64) (first-step c.doubled.rest c.doubled.step c.doubled-test.true) c.doubled.run c.doubled.invariant.ends

pub overflow_mul-step : goal.overflow_mul-step
overflow_mul-step g c = let all = two-steps c.doubled.rest c.doubled.step c.doubled-test.true in omega (arith, all, c.doubled.invariant.width)

pub doubled-preserved : goal.doubled-preserved
doubled-preserved g c =
    let join = g.J.Joiner.joined c.args.joiner.now in
    let step = c.doubled.step in
    let rest = c.doubled.rest in
    let more = c.doubled-test.true in
    let both = c.in_ok-run.run' in
    let half : rest / 2 * (step * 2) ≤ rest * step = half-steps rest step in
    record {
      some = omega (arith, more);
      width = omega (arith, half, c.doubled.invariant.width);
      ends = room-doubled join step ((rest / 2 - 1) * (step * 2)) ((rest - 1) * step) (2 ^ 64) (last-steps rest step more) c.doubled.run both c.in_ok-run.ensures c.doubled.invariant.ends;
      same = λ q.
          ap (λ o. joined_value join o (found c.in_ok-behind.behind q)) (spread-doubled join c.requires.groups step c.doubled.run both c.in_ok-run.ensures (rest / 2) q)
          ∙ c.in_ok-behind.ensures q
          ∙ c.doubled.invariant.same q;
    }

pub returns : goal.returns
returns g c =
    let join = g.J.Joiner.joined c.args.joiner.now in
    let one : 1 ≡ c.doubled.rest = omega (arith, c.doubled-test.false, c.doubled.invariant.some) in
    IfOk-weaker c.merged.result _ _
    (λ run h q.
    h q
    ∙ ap (λ o. joined_value join o (found c.doubled.behind q))
    (spread-first join c.doubled.step c.doubled.run q ∙ ap (λ n. spread_value join c.doubled.step n c.doubled.run q) one)
    ∙ c.doubled.invariant.same q)
    c.merged.ensures
