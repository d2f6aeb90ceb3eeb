use Rattle.sb_lane.proofs.Views.{put-there}
use Rattle.sb_lane.proofs.putting.seal_found.Goals as goal

pub returns : goal.returns
returns c =
    put-there c.args.epoch c.args.floor _ c.args.containers.now c.args.at c.requires.before c.requires.within c.requires.here c.seal.new.self c.seal.ensures
