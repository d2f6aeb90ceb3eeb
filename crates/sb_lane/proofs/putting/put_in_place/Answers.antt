use Rattle.std.proofs.Common.{ap, ◌∙◌, arith}
use Rattle.std.specs.Prelude.{Result, Ok, Err, OnOk, OnErr}
use Rattle.sb_lane.specs.Links.{Link}
use Rattle.sb_lane.proofs.Results.{on_ok}
use Rattle.sb_lane.proofs.Firsts.{room_in-first}
use Rattle.sb_lane.proofs.Linking.{found-link, put-linked}
use Rattle.sb_lane.proofs.putting.put_in_place.Goals as goal

pub put_at_place-requires : goal.put_at_place-requires
put_at_place-requires c =
    let r = c.requires in
    let f = found-link c.args.bundle.epoch c.args.containers.now r.link r.there in
    (f.at, f.within, λ d. ap (λ (k : Link). k.place) (f.link d) ∙ r.place_is)

pub returns-clause-ok : goal.returns-clause-ok
returns-clause-ok c =
    let r = c.requires in
    let f = found-link c.args.bundle.epoch c.args.containers.now r.link r.there in
    on_ok c.put_at_place.result (λ e. (put-linked c.args.bundle c.args.containers.now c.put_at_place.new.self r.link f (e f.at f.within (λ d. ap (λ (k : Link). k.place) (f.link d) ∙ r.place_is))).0) c.put_at_place.ensures.ok

pub returns-clause-unfinished : goal.returns-clause-unfinished
returns-clause-unfinished c =
    let r = c.requires in
    let f = found-link c.args.bundle.epoch c.args.containers.now r.link r.there in
    on_ok c.put_at_place.result (λ e. (put-linked c.args.bundle c.args.containers.now c.put_at_place.new.self r.link f (e f.at f.within (λ d. ap (λ (k : Link). k.place) (f.link d) ∙ r.place_is))).1) c.put_at_place.ensures.ok

either : {T E : Type 0} (r : Result T E) {P Q R : Type 0} → (P → R) → (Q → R) → OnOk r P → OnErr r Q → R
either (Ok x) f g p q = f p
either (Err e) f g p q = g q

pub returns-clause-links : goal.returns-clause-links
returns-clause-links c =
    let r = c.requires in
    let f = found-link c.args.bundle.epoch c.args.containers.now r.link r.there in
    either c.put_at_place.result (λ e. (e f.at f.within (λ d. ap (λ (k : Link). k.place) (f.link d) ∙ r.place_is)).links) (λ s. s.links) c.put_at_place.ensures.ok c.put_at_place.ensures.same

pub returns-clause-succeeds : goal.returns-clause-succeeds
returns-clause-succeeds c = λ room.
    let r = c.requires in
    let f = found-link c.args.bundle.epoch c.args.containers.now r.link r.there in
    c.put_at_place.ensures.succeeds f.at f.within (λ d. ap (λ (k : Link). k.place) (f.link d) ∙ r.place_is) (λ d. omega (arith, room, room_in-first c.args.bundle.epoch c.args.containers.now f.at d f.others f.within f.here))
