use Rattle.std.proofs.Common.{◌≡◌, ◌<◌, false, true, ℤ, List, [], ◌∷◌, length, Result, Ok, Err, IsOk, OnErr, arith}
use Rattle.std.specs.Ordering.{int_cmp}
use Rattle.sb_window.specs.records.declared.item.NoMemory.{NoMemory}
use Rattle.sb_window.specs.records.Orders.{distinct}
use Rattle.sb_window.proofs.records.Different.{some-distinct}
use Rattle.sb_windowed.proofs.aggregate.leave_distinct_count.Goals as goal

-- where memory fails, there were no values
stays : (vs now : List ℤ) (r : Result (Unit {0}) NoMemory) → (0 < length (distinct int_cmp vs) → IsOk r) → OnErr r (now ≡ distinct int_cmp vs) → OnErr r (now ≡ vs)
stays [] now r ok e = e
stays (v ∷ vs) now (Ok u) ok e = tt
stays (v ∷ vs) now (Err x) ok e = let k : false ≡ true = ok (some-distinct int_cmp (v ∷ vs) (omega arith)) in cc

pub returns-clause-succeeds : goal.returns-clause-succeeds
returns-clause-succeeds c h =
    let some = some-distinct int_cmp c.args.values.now.items h in
    let now : c.keep_distinct.new.values.items ≡ distinct int_cmp c.args.values.now.items = c.keep_distinct.ensures in
    c.leave_count.ensures.succeeds (rw now some)

pub returns-clause-err : goal.returns-clause-err
returns-clause-err c =
    let now : c.keep_distinct.new.values.items ≡ distinct int_cmp c.args.values.now.items = c.keep_distinct.ensures in
    stays c.args.values.now.items c.leave_count.new.values.items c.leave_count.result (λ h. c.leave_count.ensures.succeeds (rw now h)) (rw now at c.leave_count.ensures.err)
