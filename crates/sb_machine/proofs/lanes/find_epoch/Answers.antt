use Rattle.std.proofs.Common.{◌<◌, length, arith, refl, ap, sym, subst, ◌∙◌}
use Rattle.std.proofs.lemmas.Option.{slice_get_read}
use Rattle.sb_core.specs.containers.declared.container.Cont.{Cont}
use Rattle.sb_core.proofs.containers.Placing.{in_epoch-there, in_epoch-new, in_epoch-last}
use Rattle.sb_machine.proofs.lanes.find_epoch.Goals as goal

pub returns-then-there-epoch : goal.returns-then-there-epoch
returns-then-there-epoch c =
    let conts = c.args.conts.now in
    let here = slice_get_read conts (length conts) c.loop-place.place c.index-conts-place.result refl c.loop-place-test.true c.index-conts-place.is in
    (c.index-conts-place.result, c.loop-place-test.true, here, λ floor change. in_epoch-there c.args.epoch floor change conts c.loop-place.place c.index-conts-place.result c.loop-place.invariant here (ap (λ (c : Cont). c.epoch) c.index-conts-place.is ∙ c.if-there-epoch.true))

pub returns-then-epoch-there : goal.returns-then-epoch-there
returns-then-epoch-there c =
    let conts = c.args.conts.now in
    let here = slice_get_read conts (length conts) c.loop-place.place c.index-conts-place.result refl c.loop-place-test.true c.index-conts-place.is in
    (omega (arith, c.loop-place-test.true), λ floor change. in_epoch-new c.args.epoch floor change conts c.loop-place.place c.index-conts-place.result c.loop-place.invariant here (subst (λ n. c.args.epoch < n) (sym (ap (λ (c : Cont). c.epoch) c.index-conts-place.is)) c.if-epoch-there.true))

pub returns : goal.returns
returns c =
    let conts = c.args.conts.now in
    (omega arith, λ floor change. in_epoch-last c.args.epoch floor change conts (λ k d h. c.loop-place.invariant k d (omega (arith, h, c.loop-place-test.false))))
