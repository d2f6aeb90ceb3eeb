-- The keys of plan files are short.
use Rattle.std.proofs.Common.{◌≤◌, length, arith}
use Rattle.sb_plan.specs.declared.fault.PlanKey.{PlanKey}
use Rattle.sb_plan.specs.declared.fault.PlanKey.TheVariants as key
use Rattle.sb_plan.specs.Keys.{key_text}

pub key_text-short : (k : PlanKey) → length (key_text k) ≤ 9
unfolding key_text
key_text-short key.Transform = omega arith
key_text-short key.Late = omega arith
key_text-short key.Keys = omega arith
key_text-short key.Name = omega arith
key_text-short key.Kind = omega arith
key_text-short key.From = omega arith
key_text-short key.With = omega arith
key_text-short key.Field = omega arith
key_text-short key.Test = omega arith
key_text-short key.Number = omega arith
key_text-short key.Change = omega arith
key_text-short key.Addends = omega arith
key_text-short key.Table = omega arith
key_text-short key.Size = omega arith
key_text-short key.Every = omega arith
key_text-short key.Keep = omega arith
key_text-short key.Gap = omega arith
key_text-short key.Give = omega arith
