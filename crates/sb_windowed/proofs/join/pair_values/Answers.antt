use Rattle.std.proofs.Common.{◌≡◌, suc, add-one, ◌+◌, ◌*◌, ◌≤◌, ◌++◌, ℤ, true, false, Result, Ok, Err, IsOk, OnOk, OnErr, length, get_or, take, map, pos, to_z, of_z, SFits, w64, rules, sym, ap, ◌∙◌, arith}
use Rattle.std.specs.Vec.{vec_len, vec_capacity}
use Rattle.std.specs.List.{flat_map}
use Rattle.std.specs.Result.{is_err}
use Rattle.std.proofs.lemmas.Int.{to_z-of_z}
use Rattle.std.proofs.lemmas.List.{take_more, flat_map_more}
use Rattle.std.proofs.lemmas.List.{take-take, take-append-le, take_all}
use Rattle.std.proofs.Math.Nat.{mul-le-mul_right, suc-mul}
use Rattle.sb_windowed.specs.Joins as spec
use Rattle.sb_windowed.proofs.join.pair_values.Goals as goal

at_ok : {X E P : Type 0} (r : Result X E) → is_err r ≡ false → OnOk r P → P
at_ok (Ok x) e h = h
at_ok (Err x) e h = cc

at_err : {X E P : Type 0} (r : Result X E) → is_err r ≡ true → OnErr r P → P
at_err (Ok x) e h = cc
at_err (Err x) e h = h

not_ok : {X E : Type 0} (r : Result X E) → is_err r ≡ true → IsOk r → false ≡ true
not_ok (Ok x) e h = cc
not_ok (Err x) e h = h

pub loop-x-preserved : goal.loop-x-preserved
loop-x-preserved c =
    let left = c.args.left.now in
    let right = c.args.right.now in
    let i = c.loop-x.x-index in
    let x = get_or left i (pos 0) in
    let fits : SFits w64 x = search rules in
    let same : to_z w64 (of_z w64 x) ≡ x = to_z-of_z w64 x fits in
    let row = λ (x : ℤ). map (spec.pair_value c.args.combine x) right in
    let ok = sym c.is_err.ensures.value ∙ c.if-is_err.false in
    let extended = at_ok c.pair_with_each.result ok c.pair_with_each.ensures.ok in
    let len = at_ok c.pair_with_each.result ok c.pair_with_each.ensures.len in
    let all : c.pair_with_each.new.into.items ≡ c.args.into.now.items ++ spec.pair_values c.args.combine (take (i + 1) left) right =
    extended ∙ ap (λ z. c.loop-x.into.items ++ row z) same ∙ ap (λ l. l ++ row x) c.loop-x.invariant.0
    ∙ flat_map_more row c.args.into.now.items (take i left) x ∙ ap (λ xs. c.args.into.now.items ++ flat_map row xs) (sym (take_more left i (pos 0) (omega arith))) in
    let more : (i + 1) * length right ≡ i * length right + length right = ap (λ n. n * length right) (add-one i) ∙ suc-mul i (length right) in
    (all, omega (arith, len, more, c.loop-x.invariant), omega (arith, c.pair_with_each.ensures.capacity, c.loop-x.invariant), c.len-before.ensures)

pub returns-then-is_err-clause-err : goal.returns-then-is_err-clause-err
returns-then-is_err-clause-err c =
    let e = at_err c.pair_with_each.result (sym c.is_err.ensures.value ∙ c.if-is_err.true) c.pair_with_each.ensures.err in
    let before = c.len-before.result in
    let is : before ≡ vec_len c.args.into.now = c.len-before.ensures in
    c.truncate.ensures.items
    ∙ sym (take-take before (vec_len c.loop-x.into) c.pair_with_each.new.into.items (omega (arith, c.loop-x.invariant)))
    ∙ ap (take before) (e ∙ c.loop-x.invariant.0)
    ∙ take-append-le before c.args.into.now.items (spec.pair_values c.args.combine (take c.loop-x.x-index c.args.left.now) c.args.right.now) (omega (arith, c.args.into.now.ok))
    ∙ take_all before c.args.into.now.items (omega (arith, c.args.into.now.ok))

pub returns-then-is_err-clause-succeeds : goal.returns-then-is_err-clause-succeeds
returns-then-is_err-clause-succeeds c room =
    let i = c.loop-x.x-index in
    let right = length c.args.right.now in
    let below : suc i * right ≤ length c.args.left.now * right = mul-le-mul_right right c.loop-x-test.true in
    let more : suc i * right ≡ i * right + right = suc-mul i right in
    let fits : vec_len c.loop-x.into + right ≤ vec_capacity c.loop-x.into = omega (arith, below, more, c.loop-x.invariant) in
    not_ok c.pair_with_each.result (sym c.is_err.ensures.value ∙ c.if-is_err.true) (c.pair_with_each.ensures.succeeds fits)
