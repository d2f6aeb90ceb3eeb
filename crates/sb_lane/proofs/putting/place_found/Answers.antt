use Rattle.std.proofs.Common.{refl}
use Rattle.sb_lane.proofs.Views.{put-same}
use Rattle.sb_lane.proofs.Firsts.{place-there}
use Rattle.sb_lane.proofs.putting.place_found.Goals as goal

pub returns-in-Ok-clause-put : goal.returns-in-Ok-clause-put
returns-in-Ok-clause-put c =
    put-same c.args.epoch c.args.floor (λ x. x) c.args.containers.now c.args.at c.requires.before c.requires.within c.requires.here c.make_room.new.self (λ x. refl) c.in-Ok.ensures.same

pub returns-in-Err-clause-put : goal.returns-in-Err-clause-put
returns-in-Err-clause-put c =
    put-same c.args.epoch c.args.floor (λ x. x) c.args.containers.now c.args.at c.requires.before c.requires.within c.requires.here c.make_room.new.self (λ x. refl) c.in-Err.ensures.same

pub returns-in-Ok-clause-at : goal.returns-in-Ok-clause-at
returns-in-Ok-clause-at c =
    place-there c.args.epoch c.args.containers.now c.make_room.new.self c.args.at c.place.result c.in-Ok.ensures.same.conts c.requires.before c.requires.within c.requires.here c.place.ensures c.in-Ok.ensures.room
