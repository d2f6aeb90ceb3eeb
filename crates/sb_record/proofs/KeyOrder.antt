-- Keys that compare alike are one.
use Rattle.std.proofs.Common.{ap}
use Rattle.std.proofs.lemmas.Map.Lookups.{CmpEqualImpliesEq, exact_unsigned, exact_bytes}
use Rattle.sb_record.specs.declared.key.Key.TheVariants.{Number, Word}
use Rattle.sb_record.specs.Keys.{key_cmp}

pub exact_keys : CmpEqualImpliesEq key_cmp
exact_keys (Number m) (Number n) h = ap Number (exact_unsigned m n h)
exact_keys (Number m) (Word w) h = cc
exact_keys (Word v) (Number n) h = cc
exact_keys (Word v) (Word w) h = ap Word (exact_bytes v w h)
