use Rattle.std.proofs.Common.{◌≡◌, ◌≤◌, ◌+◌, ◌-◌, ◌*◌, ◌++◌, flat_map, length, take, vec_len, vec_capacity}
use Rattle.sb_pardo.specs.Outputs.{outputs_of}
use Rattle.sb_pardo.specs.declared.operation.Op.TheVariants.{Expand}
use Rattle.sb_pardo.proofs.outputs.expand_each.Given as goal

abbrev pub invariant-loop-input : goal.invariant-loop-input
invariant-loop-input l =
    record {
      given : l.into.items ≡ l.fn.into.items ++ flat_map (outputs_of (Expand l.addends)) (take l.input-index l.records);
      room : vec_len l.into + (length l.records - l.input-index) * length l.addends ≤ vec_capacity l.into;
    }
