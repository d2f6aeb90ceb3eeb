use Rattle.std.proofs.Common.{◌≡◌, Some, length, arith, refl, ap, sym, subst, ◌∙◌}
use Rattle.std.specs.Prelude.{remove}
use Rattle.std.proofs.lemmas.Option.{slice_get_read}
use Rattle.sb_core.specs.containers.declared.container.Cont.{Cont}
use Rattle.sb_core.specs.Finding.{IsFirst}
use Rattle.sb_core.proofs.containers.Placing.{of_number, take_from-at, take_from-none}
use Rattle.sb_machine.proofs.lanes.find_waiting.Goals as goal

pub returns-in-Some : goal.returns-in-Some
returns-in-Some c =
    let conts = c.args.conts.now in
    let cont : Cont = c.index-conts-at.result in
    let here = slice_get_read conts (length conts) c.loop-at.at cont refl c.loop-at-test.true c.index-conts-at.is in
    let waiting : c.as_slice.result.now ≡ cont.waiting = c.as_slice.ensures ∙ ap (λ (c : Cont). c.waiting) (sym c.index-conts-at.is) in
    let found = subst (λ l. IsFirst (of_number c.args.number) l (Some c.in-Some.place)) waiting c.in-Some.ensures in (
      cont,
      found.0,
      c.loop-at-test.true,
      here,
      found.1,
      found.2,
      take_from-at c.args.number conts c.loop-at.at cont (found.0, remove cont.waiting c.in-Some.place) c.loop-at.invariant here found.3,
    )

pub returns : goal.returns
returns c =
    let conts = c.args.conts.now in
    take_from-none c.args.number conts (λ k d h. c.loop-at.invariant k d (omega (arith, h, c.loop-at-test.false)))
