use Rattle.std.proofs.Common.{ap, sym, ◌∙◌, refl, subst}
use Rattle.sb_alone.specs.feeds.base.bundle.declared.bundle.Bundle.{Bundle}
use Rattle.sb_alone.specs.feeds.one_feed.Feeds.{MayArrive}
use Rattle.sb_worker.specs.cascade.shared.declared.telling.Hands.{Hands}
use Rattle.sb_worker.specs.cascade.Calls.{hands}
use Rattle.sb_worker.specs.cascade.shared.Views as view
use Rattle.sb_engines.specs.EngineLaws.{still_here, still_then}
use Rattle.sb_engines.proofs.FedMore.{fed-arrived, fed-still, may-bring}
use Rattle.sb_engines.proofs.shared.working.bring.Goals as goal

pub loop-init : goal.loop-init
loop-init g c =
    let (f, rows, h, may) = c.requires.may in
    record {
      feeder = λ f rows h. h;
      same = still_here c.args.common.now.cascade.now c.args.pass.now h.ready;
      bundle = refl;
    }

pub arrive-requires-clause-pass : goal.arrive-requires-clause-pass
arrive-requires-clause-pass g c =
    let (f, rows, h, may) = c.requires.may in
    let now = c.loop.invariant.feeder f rows h in
    (now.ready, now.feeder, now.empty)

pub arrive-requires-clause-bundle : goal.arrive-requires-clause-bundle
arrive-requires-clause-bundle g c =
    let (f, rows, h, may) = c.requires.may in
    may-bring c.args.common.now.cascade.now c.loop.pass f rows (c.loop.invariant.feeder f rows h) c.args.stream c.loop.waiting
    (subst (λ (b : Bundle). MayArrive c.args.common.now.cascade.now.setting.plan c.args.common.now.cascade.now.setting.bundle f c.args.stream b) (sym c.loop.invariant.bundle) may)

pub returns-in-Ok-clause-feeder : goal.returns-in-Ok-clause-feeder
returns-in-Ok-clause-feeder g c = λ f rows h may.
    let pass = c.arrive.ensures.pass in
    let knows = c.in-Ok.ensures.fed ∙ ap (λ (b : Bundle). record (hands c.loop.pass) { feed = view.with_bundle c.args.stream b.records (hands c.loop.pass).feed }) c.loop.invariant.bundle in
    fed-arrived c.args.common.now.cascade.now c.loop.pass c.arrive.new.pass f rows (c.loop.invariant.feeder f rows h) c.args.stream c.args.bundle pass.0 pass.1 pass.2 knows may

pub loop-preserved : goal.loop-preserved
loop-preserved g c =
    let cascade = c.args.common.now.cascade.now in
    let pass = c.arrive.ensures.pass in
    let inv = c.loop.invariant in
    let full = c.in-Err-Full.ensures in
    let room = c.in-Ok-make_room.ensures in
    record {
      feeder = λ f rows h.
          let now = inv.feeder f rows h in
          room.feeder f rows (fed-still cascade c.loop.pass c.arrive.new.pass f rows now pass.0 pass.2 (pass.1.0 ∙ sym now.feeder.0) (ap (λ (w : Hands). w.feed) full.same.0));
      same = still_then cascade c.args.pass.now c.loop.pass c.make_room.new.pass inv.same
          (still_then cascade c.loop.pass c.arrive.new.pass c.make_room.new.pass (record { ready = pass.0; out = c.arrive.ensures.out; feeder = λ f. pass.1 }) room.same);
      bundle = (rw c.in-Err-Full.field-0-is at full.back).0 ∙ inv.bundle;
    }
