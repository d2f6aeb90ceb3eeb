use Rattle.std.proofs.Common.{◌≡◌, pos, ◌+◌, ◌-◌, ◌≤◌, ◌⊎◌, inl, inr, [], ◌∷◌, ◌++◌, length, take, drop, get_or, int_le, SFits, w64, rules, append_assoc, take_all, length-drop, sym, ap, ◌∙◌, arith}
use Rattle.std.specs.Int.{int_min, from_bool}
use Rattle.std.specs.Cmp.{int_cmp_total}
use Rattle.std.specs.Ordering.{int_cmp}
use Rattle.std.proofs.lemmas.Int.{to_z-of_z}
use Rattle.std.proofs.lemmas.Map.Lookups.{exact_signed}
use Rattle.sb_runs.specs.records.Orders.{distinct}
use Rattle.sb_aggregate.proofs.LeastOfTwo.{places-next, at-most-one}
use Rattle.sb_aggregate.proofs.SortedLists.{merge-step, rest-distinct}
use Rattle.sb_aggregate.proofs.sorted_list.merge.Goals as goal
use Rattle.sb_aggregate.proofs.sorted_list.merge.Goals.{then-loop-place-test+else-place_of_more-more, else-loop-place-test}

pub loop-place-preserved : goal.loop-place-preserved
loop-place-preserved c =
    let vs = c.args.values.now in
    let ws = c.args.more.now in
    let i = c.loop-place.place in
    let j = c.loop-place.place_of_more in
    let fits-x : SFits w64 (get_or c.args.values.now c.loop-place.place (pos 0)) = search rules in
    let fits-y : SFits w64 (get_or c.args.more.now c.loop-place.place_of_more (pos 0)) = search rules in
    let fits-m : SFits w64 c.min.result = search rules in
    let x = to_z-of_z w64 (get_or vs i (pos 0)) fits-x in
    let y = to_z-of_z w64 (get_or ws j (pos 0)) fits-y in
    let next =
    places-next (get_or vs i (pos 0)) (get_or ws j (pos 0)) c.min.result i j c.from-place.result c.from-place_of_more.result (c.min.ensures.value ∙ (λ t. int_min (x t) (y t)))
    (c.from-place.ensures ∙ (λ t. from_bool (int_le (x t) (y t)))) (c.from-place_of_more.ensures ∙ (λ t. from_bool (int_le (y t) (x t)))) in
    let rest = distinct int_cmp (drop (i + c.from-place.result) vs ++ drop (j + c.from-place_of_more.result) ws) in
    let step = merge-step int_cmp_total exact_signed vs ws i j (i + c.from-place.result) (j + c.from-place_of_more.result) c.min.result (pos 0) c.requires.values c.requires.more c.loop-place-test.true c.if-place_of_more-more.true next in
    record {
      within = omega (arith, at-most-one _ _ c.from-place.ensures, c.loop-place-test.true);
      within_more = omega (arith, at-most-one _ _ c.from-place_of_more.ensures, c.if-place_of_more-more.true);
      so_far =
          ap (λ l. l ++ rest) (c.in_ok-push.ensures.items ∙ ap (λ z. c.loop-place.all.items ++ z ∷ []) (to_z-of_z w64 c.min.result fits-m))
          ∙ append_assoc c.loop-place.all.items (c.min.result ∷ []) rest ∙ ap (λ l. c.loop-place.all.items ++ l) (sym step) ∙ c.loop-place.invariant.so_far;
    }

pub returns : goal.returns
returns c =
    let vs = c.args.values.now in
    let ws = c.args.more.now in
    let i = c.loop-place.place in
    let j = c.loop-place.place_of_more in
    let over : (length c.args.values.now ≤ c.loop-place.place) ⊎ (length c.args.more.now ≤ c.loop-place.place_of_more) =
    elim c.loop-place-test.branch [
      | then-loop-place-test+else-place_of_more-more w ↦ inr (omega (arith, w.if-place_of_more-more.false))
      | else-loop-place-test w ↦ inl (omega (arith, w.loop-place-test.false))
    ] in
    let k = length-drop i vs in
    let l = length-drop j ws in
    let left : take (length vs - i) (drop i vs) ≡ drop i vs = take_all (length vs - i) (drop i vs) (omega (arith, k)) in
    let left_more : take (length ws - j) (drop j ws) ≡ drop j ws = take_all (length ws - j) (drop j ws) (omega (arith, l)) in
    c.in_ok-extend_from_slice-2.ensures.items
    ∙ (λ t. c.in_ok-extend_from_slice.ensures.items t ++ left_more t)
    ∙ (λ t. (c.loop-place.all.items ++ left t) ++ drop j ws)
    ∙ append_assoc c.loop-place.all.items (drop i vs) (drop j ws)
    ∙ ap (λ r. c.loop-place.all.items ++ r) (rest-distinct int_cmp_total exact_signed vs ws i j c.requires.values c.requires.more over)
    ∙ c.loop-place.invariant.so_far
