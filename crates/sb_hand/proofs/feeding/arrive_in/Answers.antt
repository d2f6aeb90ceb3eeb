use Rattle.std.proofs.Common.{ℕ, length, refl, set, subst}
use Rattle.sb_shown.specs.core.containers.Lanes.{with_arrival}
use Rattle.sb_shown.specs.diary.declared.event.DiaryEvent.TheVariants as line
use Rattle.sb_shown.specs.lane.LaneView.{lane_of}
use Rattle.sb_shown.proofs.lane.Results.{ok-some, on_err}
use Rattle.sb_shown.specs.node.LinkChanges.{GetsPlace, LinksStay}
use Rattle.sb_shown.specs.Sets.{Turns}
use Rattle.sb_hand.proofs.Answering.{from-both, from-three}
use Rattle.sb_hand.proofs.AtNodes.{goes, has-lane, same-goes, shows-all, stays, turns}
use Rattle.sb_hand.proofs.feeding.arrive_in.Goals as goal

pub arrive-requires-clause-lane : goal.arrive-requires-clause-lane
arrive-requires-clause-lane c = let at = c.requires.0 in let h = c.requires.1 in (at, (has-lane c.args.nodes.now.items c.args.place.node c.args.place.lane c.index_mut-own.result.now at h c.index_mut-own.ensures.value))

pub returns-in-Ok-clause-ok : goal.returns-in-Ok-clause-ok
returns-in-Ok-clause-ok c = from-three c.arrive.result (λ n numbered fewer came at h.
    let there = (has-lane c.args.nodes.now.items c.args.place.node c.args.place.lane c.index_mut-own.result.now at h c.index_mut-own.ensures.value) in
    record {
      numbered = numbered at there;
      room = (came at there).0;
      fewer = fewer at there;
      turns = subst (λ (m : ℕ). Turns c.args.place.node c.args.place.lane c.args.nodes.now.items (set c.args.nodes.now.items c.args.place.node c.arrive.new.self) at (with_arrival c.args.bundle.epoch c.args.bundle.floor c.args.bundle.records (lane_of at)) (line.Arrive c.args.place.lane c.args.bundle.epoch m (length c.args.bundle.records))) (numbered at there)
          (turns c.args.nodes.now.items c.args.place.node c.args.place.lane c.index_mut-own.result.now at h c.index_mut-own.ensures.value c.reserve.new.self _ c.in-Ok.ensures.ok _ (with_arrival c.args.bundle.epoch c.args.bundle.floor c.args.bundle.records (lane_of at)) (GetsPlace c.args.bundle.epoch) (line.Arrive c.args.place.lane c.args.bundle.epoch n (length c.args.bundle.records)) (came at there).1);
    }) c.arrive.ensures.number c.arrive.ensures.fewer c.arrive.ensures.arrives

pub returns-in-Ok-clause-err : goal.returns-in-Ok-clause-err
returns-in-Ok-clause-err c = from-both c.arrive.result (λ stop back same at h. record {
  back = back at (has-lane c.args.nodes.now.items c.args.place.node c.args.place.lane c.index_mut-own.result.now at h c.index_mut-own.ensures.value);
  stays = stays c.args.nodes.now.items c.args.place.node c.args.place.lane c.index_mut-own.result.now at h c.index_mut-own.ensures.value c.reserve.new.self _ c.in-Ok.ensures.ok _ (same at (has-lane c.args.nodes.now.items c.args.place.node c.args.place.lane c.index_mut-own.result.now at h c.index_mut-own.ensures.value));
}) c.arrive.ensures.back c.arrive.ensures.same

pub returns-in-Ok-clause-links : goal.returns-in-Ok-clause-links
returns-in-Ok-clause-links c = ok-some c.arrive.result (λ n came. goes c.args.nodes.now.items c.args.place.node c.args.place.lane c.index_mut-own.result.now _ c.index_mut-own.ensures.value (GetsPlace c.args.bundle.epoch) (λ at there. let t = (came at there).1 in (t.now, t.sets.lanes, t.linked))) c.arrive.ensures.arrives

pub returns-in-Ok-clause-stays : goal.returns-in-Ok-clause-stays
returns-in-Ok-clause-stays c = on_err c.arrive.result (λ same. goes c.args.nodes.now.items c.args.place.node c.args.place.lane c.index_mut-own.result.now _ c.index_mut-own.ensures.value LinksStay (λ at there. let t = same at there in (t.now, t.lanes, t.linked))) c.arrive.ensures.same

pub returns-in-Err-clause-err : goal.returns-in-Err-clause-err
returns-in-Err-clause-err c = λ at h. record { back = refl; stays = shows-all c.args.nodes.now.items c.args.place.node c.args.place.lane c.index_mut-own.result.now at h c.index_mut-own.ensures.value c.reserve.new.self c.in-Err.ensures.err }

pub returns-in-Err-clause-stays : goal.returns-in-Err-clause-stays
returns-in-Err-clause-stays c = same-goes c.args.nodes.now.items c.args.place.node c.args.place.lane c.index_mut-own.result.now _ c.index_mut-own.ensures.value refl
