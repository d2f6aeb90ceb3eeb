use Rattle.std.proofs.Common.{◌≡◌, ◌+◌, ◌++◌, map, take, vec_len, vec_capacity}
use Rattle.sb_pardo.specs.Outputs.{value_plus}
use Rattle.sb_pardo.proofs.outputs.expand.Given as goal

abbrev pub invariant-loop-addend : goal.invariant-loop-addend
invariant-loop-addend l =
    record {
      given : l.into.items ≡ l.fn.into.items ++ map (value_plus l.input) (take l.addend-index l.addends);
      len : vec_len l.into ≡ vec_len l.fn.into + l.addend-index;
      capacity : vec_capacity l.into ≡ vec_capacity l.fn.into;
    }
