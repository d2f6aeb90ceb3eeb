use Rattle.std.proofs.Common.{◌≡◌, ◌≤◌, ◌+◌, ◌-◌, ◌++◌, flat_map, length, take, vec_len, vec_capacity}
use Rattle.sb_pardo.specs.Outputs.{outputs_of}
use Rattle.sb_pardo.specs.declared.operation.Op.TheVariants.{Map}
use Rattle.sb_pardo.proofs.outputs.change_each.Given as goal

abbrev pub invariant-loop-input : goal.invariant-loop-input
invariant-loop-input l =
    record {
      given : l.into.items ≡ l.fn.into.items ++ flat_map (outputs_of (Map l.change)) (take l.input-index l.records);
      room : vec_len l.into + (length l.records - l.input-index) ≤ vec_capacity l.into;
    }
