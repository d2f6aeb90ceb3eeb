use Rattle.std.proofs.Common.{◌≡◌, ◌≤◌, ◌-◌, length, arith}
use Rattle.std.proofs.lemmas.Grind.{common_steps}
use Rattle.sb_generator.proofs.LaterText.{given_behind}
use Rattle.sb_generator.proofs.source.GenSourceSource.read.Goals as goal

pub records-preserved : goal.records-preserved
records-preserved c =
    let part = c.give-count.new.buf in
    let size : length part ≡ length c.records.buf - c.records.filled = grind (arith, c.give-count.auto.buf) in
    let fits : c.give-count.result ≤ length part = grind (arith, c.give-count.ensures.bound, c.give-count.auto.buf) in (
      given_behind _ c.records.self c.give-count.new.self c.records.buf part c.records.filled _ c.records.invariant.1 size fits c.records.invariant.0 c.give-count.ensures.bytes,
      grind (arith, common_steps),
    )
