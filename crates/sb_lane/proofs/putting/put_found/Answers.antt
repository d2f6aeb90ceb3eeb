use Rattle.sb_containers.specs.Lanes.{with_bundle}
use Rattle.sb_lane.proofs.Results.{on_ok}
use Rattle.sb_lane.proofs.Views.{put-there}
use Rattle.sb_lane.proofs.putting.put_found.Goals as goal

pub returns-clause-ok : goal.returns-clause-ok
returns-clause-ok c =
    on_ok c.put.result (λ e. put-there c.args.bundle.epoch c.args.bundle.floor (with_bundle c.args.bundle) c.args.containers.now c.args.at c.requires.before c.requires.within c.requires.here c.put.new.self e) c.put.ensures.ok
