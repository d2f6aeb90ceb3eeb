use Rattle.std.proofs.Common.{◌≡◌, ◌-◌, ◌++◌, map, take}
use Rattle.sb_join.proofs.rows.push_rows.Given as goal

abbrev pub invariant-loop-value : goal.invariant-loop-value
invariant-loop-value l = l.rows.items ≡ l.fn.rows.items ++ map (λ v. record { time = l.window.end - 1; key = l.window.key; value = v }) (take l.value-index l.values)
