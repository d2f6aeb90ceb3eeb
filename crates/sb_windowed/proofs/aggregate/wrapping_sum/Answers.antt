use Rattle.std.proofs.Common.{pos, [], ◌∷◌, w64, rules, tests, ap, ◌∙◌, zero-add, SFits}
use Rattle.std.specs.Int.{int_wrapping_add, cast_signed, cast_unsigned}
use Rattle.std.specs.Prelude.{◌%◌, ◌^◌, sum_by}
use Rattle.std.proofs.lemmas.Int.{to_z-of_z}
use Rattle.std.proofs.lemmas.Iterator.{YieldsList-from_slice}
use Rattle.std.proofs.lemmas.Iterator.Consumers.{fold_from_yields_List}
use Rattle.sb_windowed.proofs.Sums.{fold-wrapping_add}
use Rattle.sb_windowed.proofs.aggregate.wrapping_sum.Goals as goal

pub returns : goal.returns
returns c =
    let vs = c.args.values.now in
    let folded = fold_from_yields_List _ (int_wrapping_add w64) (pos 0) c.fold.result c.fold.ensures.ran (YieldsList-from_slice vs cc) (λ a x b q k. search (rules, tests)) in
    let fits : SFits w64 c.fold.result = search rules in
    ap (λ s. s ∷ []) (
    to_z-of_z w64 c.fold.result fits ∙ folded ∙ fold-wrapping_add 0 vs
    ∙ ap (λ n. cast_signed w64 (n % 2 ^ 64)) (zero-add (sum_by (cast_unsigned w64) vs)))
