use Rattle.std.proofs.Common.{nat_lt, cond, [], ◌∷◌, ◌++◌, filter, take, sym, ap, ◌∙◌}
use Rattle.std.specs.List.{list_any}
use Rattle.std.proofs.lemmas.List.{take_more}
use Rattle.std.proofs.lemmas.List.Elements.{filter-append}
use Rattle.sb_slow.specs.base.records.declared.element.KeptRec.{KeptRec}
use Rattle.sb_slow.specs.base.window.Windows.{window_ends}
use Rattle.sb_machine.proofs.operate.still_open.Goals as goal

pub loop-element-preserved : goal.loop-element-preserved
loop-element-preserved c =
    let kept = c.args.kept.now in
    let i = c.loop-element.element-index in
    let e : KeptRec = c.element-item.result in
    let test = λ (x : KeptRec). list_any (λ end. nat_lt c.args.mark end) (window_ends c.args.windows.now x.rec.time) in
    c.in_ok-push_if.ensures
    ∙ (λ z. c.loop-element.invariant z ++ cond (c.is_open.ensures z) (e ∷ []) [])
    ∙ sym (filter-append test (take i kept) (e ∷ []))
    ∙ ap (λ x. filter test (take i kept ++ x ∷ [])) c.element-item.is
    ∙ ap (filter test) (sym (take_more kept i e c.loop-element-test.true))
