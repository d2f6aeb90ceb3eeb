use Rattle.std.proofs.Common.{◌++◌, append-nil, subst, sym}
use Rattle.sb_alone.specs.feeds.one_feed.Feeds.{with_bundle}
use Rattle.sb_engines.specs.Feeders.{HasFed}
use Rattle.sb_engines.proofs.shared.feeder.FeederEngine.arrive.Goals as goal

pub take_out-requires : goal.take_out-requires
take_out-requires g c =
    let (f, rows, h, may) = c.requires.may in
    record { feeder = (with_bundle c.args.stream c.args.bundle f, rows, c.in-Ok-true.ensures.feeder f rows h may) }

pub returns-in-Ok-true-clause-gives : goal.returns-in-Ok-true-clause-gives
returns-in-Ok-true-clause-gives g c = λ f rows h may.
    c.take_out.ensures.feeder (with_bundle c.args.stream c.args.bundle f) rows (c.in-Ok-true.ensures.feeder f rows h may)

pub returns-in-Ok-false-clause-gives : goal.returns-in-Ok-false-clause-gives
returns-in-Ok-false-clause-gives g c = λ f rows h may.
    let stands = HasFed c.args.self.now.common.now.cascade.now c.bring.new.pass (with_bundle c.args.stream c.args.bundle f) in
    subst (λ l. stands (rows ++ l)) (sym c.new.ensures.items)
    (subst stands (sym (append-nil rows)) (c.in-Ok-false.ensures.feeder f rows h may))
