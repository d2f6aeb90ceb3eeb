use Rattle.std.proofs.Common.{length, refl}
use Rattle.sb_shown.specs.core.containers.Lanes.{next_epoch, with_seal}
use Rattle.sb_shown.specs.diary.declared.event.DiaryEvent.TheVariants as line
use Rattle.sb_shown.specs.lane.LaneView.{lane_of}
use Rattle.sb_shown.proofs.lane.Results.{on_err, on_ok}
use Rattle.sb_shown.specs.node.LinkChanges.{GetsPlace, LinksStay}
use Rattle.sb_hand.proofs.Answering.{so-on_err}
use Rattle.sb_hand.proofs.AtNodes.{goes, has-lane, same-goes, shows-all, stays, turns}
use Rattle.sb_hand.proofs.feeding.seal_in.Goals as goal

pub seal-requires-clause-lane : goal.seal-requires-clause-lane
seal-requires-clause-lane c = let at = c.requires.0 in let h = c.requires.1 in (at, (has-lane c.args.nodes.now.items c.args.place.node c.args.place.lane c.index_mut-own.result.now at h c.index_mut-own.ensures.value))

pub returns-clause-ok : goal.returns-clause-ok
returns-clause-ok c = on_ok c.seal.result (λ seals at h. turns c.args.nodes.now.items c.args.place.node c.args.place.lane c.index_mut-own.result.now at h c.index_mut-own.ensures.value c.reserve.new.self _ c.in_ok-reserve.ensures.ok _ (with_seal c.args.mark (lane_of at)) (GetsPlace (length at.marks)) (line.Seal c.args.place.lane (next_epoch (lane_of at)) c.args.mark) (seals at (has-lane c.args.nodes.now.items c.args.place.node c.args.place.lane c.index_mut-own.result.now at h c.index_mut-own.ensures.value))) c.seal.ensures.seals

pub returns-clause-err : goal.returns-clause-err
returns-clause-err c = on_err c.seal.result (λ same at h. stays c.args.nodes.now.items c.args.place.node c.args.place.lane c.index_mut-own.result.now at h c.index_mut-own.ensures.value c.reserve.new.self _ c.in_ok-reserve.ensures.ok _ (same at (has-lane c.args.nodes.now.items c.args.place.node c.args.place.lane c.index_mut-own.result.now at h c.index_mut-own.ensures.value))) c.seal.ensures.same

pub returns-clause-links : goal.returns-clause-links
returns-clause-links c = on_ok c.seal.result (λ seals. goes c.args.nodes.now.items c.args.place.node c.args.place.lane c.index_mut-own.result.now _ c.index_mut-own.ensures.value (λ was. GetsPlace (length was.marks) was) (λ at there. let t = seals at there in (t.now, t.sets.lanes, t.linked))) c.seal.ensures.seals

pub returns-clause-stays : goal.returns-clause-stays
returns-clause-stays c = on_err c.seal.result (λ same. goes c.args.nodes.now.items c.args.place.node c.args.place.lane c.index_mut-own.result.now _ c.index_mut-own.ensures.value LinksStay (λ at there. let t = same at there in (t.now, t.lanes, t.linked))) c.seal.ensures.same

pub returns-in_err-reserve-clause-err : goal.returns-in_err-reserve-clause-err
returns-in_err-reserve-clause-err c = so-on_err c.from_residual.result (λ at h. shows-all c.args.nodes.now.items c.args.place.node c.args.place.lane c.index_mut-own.result.now at h c.index_mut-own.ensures.value c.reserve.new.self c.in_err-reserve.ensures.err)

pub returns-in_err-reserve-clause-stays : goal.returns-in_err-reserve-clause-stays
returns-in_err-reserve-clause-stays c = so-on_err c.from_residual.result (same-goes c.args.nodes.now.items c.args.place.node c.args.place.lane c.index_mut-own.result.now _ c.index_mut-own.ensures.value refl)
