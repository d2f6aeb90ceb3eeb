use Rattle.sb_engines.proofs.shared.working.try_there.Goals as goal

pub returns-in-Got-clause-some : goal.returns-in-Got-clause-some
returns-in-Got-clause-some c =
    let got = c.try_take.ensures.got c.in-Got.claim c.in-Got.is in
    (got.1, got.2)
