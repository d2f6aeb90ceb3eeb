use Rattle.std.proofs.Common.{◌+◌, ◌∙◌, ap, subst, sym, arith, rules, drop, get_or}
use Rattle.toml.specs.View.{items_view, view}
use Rattle.sb_outside.specs.Folders.{without}
use Rattle.sb_plan.specs.PlanFiles.{IsPlanStopOf, first_wiring, with_elements_from}
use Rattle.sb_plan.specs.Wants.{no_files}
use Rattle.sb_plan.proofs.Integers.{items_at}
use Rattle.sb_plan.proofs.Elements.{takes_passed, with_elements_from-past}
use Rattle.sb_plan.proofs.Absent.{SameOrNoFile, fewer-more, wired-absent, wired-fewer}
use Rattle.sb_plan.proofs.Blaming.{blames-element}
use Rattle.sb_plan.proofs.plan_text.wire_elements.Goals as goal

pub returns-in-Err-clause-exact : goal.returns-in-Err-clause-exact
returns-in-Err-clause-exact g c = λ files told.
    let vs = c.args.elements.now.items in
    let i = c.loop-value.value-index in
    let v = c.value-item.result in
    let place = c.loop-value.place + 1 in
    let wiring = c.loop-value.wiring in
    let at = c.value-item.is ∙ ap (λ l. get_or l i v) c.deref-value-items.ensures.value in
    let from = c.loop-value.invariant.same files told ∙ ap (with_elements_from files place wiring) (items_at vs i v (omega arith) at) in
    subst (λ wanted. IsPlanStopOf wanted c.in-Err.stop) (sym from)
    (c.in-Err.ensures.exact files (c.loop-value.invariant.told ∙ told) (items_view (drop (i + 1) vs)))

pub returns-in-Err-clause-alone : goal.returns-in-Err-clause-alone
returns-in-Err-clause-alone g c = λ wants.
    let vs = c.args.elements.now.items in
    let i = c.loop-value.value-index in
    let v = c.value-item.result in
    let rest = items_view (drop (i + 1) vs) in
    let place = c.loop-value.place + 1 in
    let wiring = c.loop-value.wiring in
    let at = c.value-item.is ∙ ap (λ l. get_or l i v) c.deref-value-items.ensures.value in
    let from = c.loop-value.invariant.alone wants ∙ ap (with_elements_from no_files place wiring) (items_at vs i v (omega arith) at) in
    subst (λ wanted. IsPlanStopOf wanted c.in-Err.stop) (sym from)
    (c.in-Err.ensures.alone (λ none. wants (from ∙ wired-absent no_files place wiring (view v) rest none)) rest)

pub returns-in-Err-clause-unblamed : goal.returns-in-Err-clause-unblamed
returns-in-Err-clause-unblamed g c = λ wants is.
    let vs = c.args.elements.now.items in
    let i = c.loop-value.value-index in
    let v = c.value-item.result in
    let rest = items_view (drop (i + 1) vs) in
    let place = c.loop-value.place + 1 in
    let wiring = c.loop-value.wiring in
    let at = c.value-item.is ∙ ap (λ l. get_or l i v) c.deref-value-items.ensures.value in
    let from = c.loop-value.invariant.alone wants ∙ ap (with_elements_from no_files place wiring) (items_at vs i v (omega arith) at) in
    c.in-Err.ensures.unblamed (λ none. wants (from ∙ wired-absent no_files place wiring (view v) rest none)) (cc)

pub returns-in-Err-clause-cause : goal.returns-in-Err-clause-cause
returns-in-Err-clause-cause g c =
    let vs = c.args.elements.now.items in
    let i = c.loop-value.value-index in
    let v = c.value-item.result in
    let at = c.value-item.is ∙ ap (λ l. get_or l i v) c.deref-value-items.ensures.value in
    blames-element _ _ (c.loop-value.place + 1) (first_wiring c.args.late c.args.keys) c.loop-value.wiring (view v) (items_view (drop (i + 1) vs)) (items_view (drop i vs)) (items_view vs) _ _ _ c.in-Err.stop
    c.loop-value.invariant.told c.loop-value.invariant.unlisted (items_at vs i v (omega arith) at) c.loop-value.invariant.fewer c.in-Err.ensures.blames

pub loop-value-preserved : goal.loop-value-preserved
loop-value-preserved g c =
    let vs = c.args.elements.now.items in
    let i = c.loop-value.value-index in
    let v = c.value-item.result in
    let rest = items_view (drop (i + 1) vs) in
    let place = c.loop-value.place + 1 in
    let wiring = c.loop-value.wiring in
    let at = c.value-item.is ∙ ap (λ l. get_or l i v) c.deref-value-items.ensures.value in
    let items = items_at vs i v (omega arith) at in
    record {
      counted = omega arith;
      few = omega arith;
      sized = search rules;
      sound = search rules;
      told = c.in-Ok.ensures.same ∙ c.loop-value.invariant.told;
      unlisted = c.in-Ok.ensures.blames ∙ c.loop-value.invariant.unlisted;
      same = λ files told.
          c.loop-value.invariant.same files told ∙ ap (with_elements_from files place wiring) items
          ∙ takes_passed files place wiring c.take_element.new.wiring (view v) rest (c.in-Ok.ensures.exact files (c.loop-value.invariant.told ∙ told));
      fewer = λ files name told.
          fewer-more
          (subst (λ from. SameOrNoFile (with_elements_from (without name files) 1 (first_wiring c.args.late c.args.keys) (items_view vs)) (with_elements_from (without name files) place wiring from)) items (c.loop-value.invariant.fewer files name told))
          (wired-fewer files name place wiring c.take_element.new.wiring (view v) rest (c.in-Ok.ensures.exact files (c.loop-value.invariant.told ∙ told)));
      alone = λ wants.
          let from = c.loop-value.invariant.alone wants ∙ ap (with_elements_from no_files place wiring) items in
          from ∙ takes_passed no_files place wiring c.take_element.new.wiring (view v) rest (c.in-Ok.ensures.alone (λ none. wants (from ∙ wired-absent no_files place wiring (view v) rest none)));
    }

pub returns-clause-exact : goal.returns-clause-exact
returns-clause-exact g c = λ files told.
    c.loop-value.invariant.same files told
    ∙ with_elements_from-past files (c.loop-value.place + 1) c.loop-value.wiring c.args.elements.now.items c.loop-value.value-index (omega arith)

pub returns-clause-alone : goal.returns-clause-alone
returns-clause-alone g c = λ wants.
    c.loop-value.invariant.alone wants
    ∙ with_elements_from-past no_files (c.loop-value.place + 1) c.loop-value.wiring c.args.elements.now.items c.loop-value.value-index (omega arith)
