use Rattle.std.proofs.Common.{ap, ◌∙◌}
use Rattle.sb_containers.specs.declared.container.Cont.{Cont}
use Rattle.sb_lane.proofs.Results.{ok-some, ok-map}
use Rattle.sb_lane.proofs.Views.{put-new}
use Rattle.sb_lane.proofs.Firsts.{place-new}
use Rattle.sb_lane.specs.Placed.{placed_at}
use Rattle.sb_lane.proofs.putting.place_new.Goals as goal

pub returns-in-Ok-clause-ok : goal.returns-in-Ok-clause-ok
returns-in-Ok-clause-ok c =
    let made = c.in-Ok.ensures.cont ∙ c.empty-made.ensures.cont in
    ok-some c.insert.result (λ p e. put-new c.args.epoch c.args.floor (λ x. x) c.args.containers.now c.args.at c.requires.before c.requires.within c.requires.above c.insert.new.self _ e made (ap (λ (x : Cont). x.epoch) made) (c.in-Ok.ensures.down ∙ c.empty-made.ensures.down)) c.insert.ensures.ok

pub returns-in-Ok-clause-at : goal.returns-in-Ok-clause-at
returns-in-Ok-clause-at c =
    let made = c.in-Ok.ensures.cont ∙ c.empty-made.ensures.cont in
    ok-map c.insert.result (λ p e. place-new c.args.epoch (placed_at p c.make_room.new.c) (ap (λ (x : Cont). x.epoch) made) c.args.containers.now c.insert.new.self c.args.at e c.requires.before c.requires.within c.in-Ok.ensures.room) c.insert.ensures.ok
