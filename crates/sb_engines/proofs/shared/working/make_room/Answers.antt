use Rattle.std.proofs.lemmas.Result.{on_ok_weaker}
use Rattle.sb_engines.proofs.shared.working.make_room.Goals as goal

pub returns-in-Ok-clause-feeder : goal.returns-in-Ok-clause-feeder
returns-in-Ok-clause-feeder g c =
    on_ok_weaker c.step_or_yield.result (λ steps f rows h. steps f rows (c.in-Ok.ensures.feeder f rows h)) c.step_or_yield.ensures.feeder
