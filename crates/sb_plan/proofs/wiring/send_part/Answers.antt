use Rattle.std.proofs.Common.{◌∙◌, ap, sym}
use Rattle.std.specs.List.{position}
use Rattle.std.proofs.lemmas.Result.{err_from_is_err_and}
use Rattle.sb_plan.proofs.Sending.{has_name, parts_with_down-none, parts_with_down-passed, parts_with_down-refused}
use Rattle.sb_plan.proofs.wiring.send_part.Goals as goal

pub returns-in_default : goal.returns-in_default
returns-in_default c =
    parts_with_down-none c.args.key c.args.input.now c.args.place c.args.parts.now
    (ap (λ ps. position (has_name c.args.input.now) ps) (sym c.as_slice.ensures) ∙ sym c.position_of.ensures ∙ c.in_default.is)

pub returns-in_err-down : goal.returns-in_err-down
returns-in_err-down c =
    let p = err_from_is_err_and c.from_residual.result c.from_residual.ensures.1 in
    let found = ap (λ ps. position (has_name c.args.input.now) ps) (sym c.as_slice.ensures) ∙ sym c.position_of.ensures ∙ c.in-Some.is in
    rw (p.1, p.2)
    (parts_with_down-refused c.args.key c.args.input.now c.args.place c.args.parts.now c.parts.inside.items.items c.in-Some.at c.index.result.now c.in_err-down.field-0.0
    found c.parts.view_is c.index.ensures c.in_err-down.ensures)

pub returns : goal.returns
returns c =
    let found = ap (λ ps. position (has_name c.args.input.now) ps) (sym c.as_slice.ensures) ∙ sym c.position_of.ensures ∙ c.in-Some.is in
    parts_with_down-passed c.args.key c.args.input.now c.args.place c.args.parts.now c.parts.inside.items.items c.in-Some.at c.index.result.now c.index_mut.result.now c.in_ok-down.down
    found c.parts.view_is c.index.ensures c.index_mut.ensures.value c.in_ok-down.ensures
