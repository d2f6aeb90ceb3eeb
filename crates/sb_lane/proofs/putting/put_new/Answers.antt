use Rattle.std.proofs.Common.{refl}
use Rattle.sb_containers.specs.Lanes.{with_bundle}
use Rattle.sb_lane.proofs.Views.{put-new}
use Rattle.sb_lane.proofs.putting.put_new.Goals as goal

pub returns-in-Ok-clause-ok : goal.returns-in-Ok-clause-ok
returns-in-Ok-clause-ok c =
    let e = c.in-Ok.ensures.ok in
    put-new c.args.bundle.epoch c.args.bundle.floor (with_bundle c.args.bundle) c.args.containers.now c.args.at c.requires.before c.requires.within c.requires.above c.insert_bundle.new.self _ e.1 refl refl refl
