use Rattle.sb_alone.specs.feeds.one_feed.Feeds.{with_mark}
use Rattle.sb_engines.proofs.FedMore.{fed-sealed, may-mark}
use Rattle.sb_engines.proofs.shared.feeder.FeederEngine.seal.Goals as goal

pub seal-requires-clause-mark : goal.seal-requires-clause-mark
seal-requires-clause-mark g c =
    let (f, rows, h, may) = c.requires.may in
    may-mark c.args.self.now.common.now.cascade.now c.args.self.now.pass.now f rows h c.args.stream c.args.mark may

pub take_out-requires : goal.take_out-requires
take_out-requires g c =
    let (f, rows, h, may) = c.requires.may in
    let pass = c.seal.ensures.pass in
    let then = with_mark c.args.stream c.args.mark f in
    let fed = fed-sealed c.args.self.now.common.now.cascade.now c.args.self.now.pass.now c.seal.new.pass f rows h c.args.stream c.args.mark pass.0 pass.1 pass.2 c.in_ok-seal.ensures.fed may in
    record { feeder = (then, rows, c.in_ok-keep_up.ensures.feeder then rows fed) }

pub returns-clause-gives : goal.returns-clause-gives
returns-clause-gives g c = λ f rows h may.
    let pass = c.seal.ensures.pass in
    let then = with_mark c.args.stream c.args.mark f in
    let fed = fed-sealed c.args.self.now.common.now.cascade.now c.args.self.now.pass.now c.seal.new.pass f rows h c.args.stream c.args.mark pass.0 pass.1 pass.2 c.in_ok-seal.ensures.fed may in
    c.take_out.ensures.feeder then rows (c.in_ok-keep_up.ensures.feeder then rows fed)
