use Rattle.std.proofs.Common.{◌≡◌, ◌+◌, ◌++◌, ◌∷◌, [], ℤ, List, true, get_or, take, map, pos, to_z, of_z, SFits, w64, rules, append_assoc, sym, ap, ◌∙◌, arith}
use Rattle.std.specs.Result.{is_ok}
use Rattle.std.proofs.lemmas.Int.{to_z-of_z}
use Rattle.std.proofs.lemmas.List.{take_more, take_all, map-append}
use Rattle.sb_windowed.specs.Joins as spec
use Rattle.sb_windowed.proofs.join.pair_with_each.Goals as goal

pub loop-y-preserved : goal.loop-y-preserved
loop-y-preserved c =
    let right = c.args.right.now in
    let i = c.loop-y.y-index in
    let y = get_or right i (pos 0) in
    let fits : SFits w64 y = search rules in
    let same : to_z w64 (of_z w64 y) ≡ y = to_z-of_z w64 y fits in
    let ok : is_ok c.push.result ≡ true = search rules in
    let items = rw ok at c.push.ensures.items in
    let len = rw ok at c.push.ensures.len in
    let row = λ (ys : List ℤ). map (spec.pair_value c.args.combine (to_z w64 (of_z w64 c.args.left))) ys in
    let in_range : SFits w64 c.combine.result = search rules in
    let value : to_z w64 (of_z w64 c.combine.result) ≡ spec.pair_value c.args.combine (to_z w64 (of_z w64 c.args.left)) y =
    to_z-of_z w64 c.combine.result in_range ∙ c.combine.ensures ∙ ap (spec.pair_value c.args.combine (to_z w64 (of_z w64 c.args.left))) same in
    let all : c.push.new.self.items ≡ c.args.into.now.items ++ row (take (i + 1) right) =
    items ∙ (λ k. c.loop-y.invariant.0 k ++ value k ∷ []) ∙ append_assoc c.args.into.now.items (row (take i right)) (row (y ∷ []))
    ∙ ap (λ l. c.args.into.now.items ++ l) (sym (map-append _ (take i right) (y ∷ [])) ∙ ap row (sym (take_more right i (pos 0) (omega arith)))) in
    (all, omega (arith, len, c.loop-y.invariant.1), omega (arith, c.push.ensures.capacity, c.loop-y.invariant.2))

pub returns-clause-ok : goal.returns-clause-ok
returns-clause-ok c =
    c.loop-y.invariant.0
    ∙ (λ i. c.args.into.now.items ++ map (spec.pair_value c.args.combine (to_z-of_z w64 c.args.left c.ranges.left i)) (take_all c.loop-y.y-index c.args.right.now c.loop-y-test.false i))
