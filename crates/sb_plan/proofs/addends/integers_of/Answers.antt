use Rattle.std.proofs.Common.{◌≡◌, ◌+◌, ◌++◌, ◌∷◌, [], ◌∙◌, Some, ap, sym, arith, rules, drop, get_or}
use Rattle.toml.specs.View.{items_view}
use Rattle.sb_plan.proofs.Integers.{with_rest, integers-past, integers-more, integers-other}
use Rattle.sb_plan.proofs.addends.integers_of.Goals as goal

pub returns-in_default : goal.returns-in_default
returns-in_default c =
    let vs = c.args.array.now.items in
    let i = c.loop-value.value-index in
    let v = c.value-item.result in
    let at = c.value-item.is ∙ ap (λ l. get_or l i v) c.deref-value-items.ensures.value in
    sym (c.loop-value.invariant ∙ integers-other c.loop-value.integers.items vs i v (omega arith) at (sym c.as_integer.ensures ∙ c.in_default.is))

pub loop-value-preserved : goal.loop-value-preserved
loop-value-preserved c =
    let vs = c.args.array.now.items in
    let i = c.loop-value.value-index in
    let v = c.value-item.result in
    let at = c.value-item.is ∙ ap (λ l. get_or l i v) c.deref-value-items.ensures.value in
    let pushed : c.push.new.self.items ≡ c.loop-value.integers.items ++ c.in-Some.integer ∷ [] = search rules in
    c.loop-value.invariant ∙ integers-more c.loop-value.integers.items vs i v c.in-Some.integer (omega arith) at (sym c.as_integer.ensures ∙ c.in-Some.is)
    ∙ ap (λ done. with_rest done (items_view (drop (i + 1) vs))) (sym pushed)

pub returns : goal.returns
returns c =
    let vs = c.args.array.now.items in
    ap (λ l. Some l) c.new.ensures ∙ sym (c.loop-value.invariant ∙ integers-past c.loop-value.integers.items vs c.loop-value.value-index (omega arith))
