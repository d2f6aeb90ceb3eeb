use Rattle.std.proofs.Common.{ap}
use Rattle.sb_containers.specs.declared.container.Cont.{Cont}
use Rattle.sb_lane.proofs.Views.{put-new}
use Rattle.sb_lane.proofs.putting.seal_new.Goals as goal

pub returns-in-Ok-clause-ok : goal.returns-in-Ok-clause-ok
returns-in-Ok-clause-ok c =
    put-new c.args.epoch c.args.floor _ c.args.containers.now c.args.at c.requires.before c.requires.within c.requires.above c.insert.new.self _ c.in-Ok.ensures.ok c.empty.ensures.cont (ap (λ (x : Cont). x.epoch) c.empty.ensures.cont) c.empty.ensures.down
