use Rattle.std.proofs.Common.{refl}
use Rattle.std.proofs.lemmas.List.Elements.{All-push, All-same}
use Rattle.sb_hand.specs.base.records.Lines.{IsItemInRange}
use Rattle.sb_hand.proofs.base.records.InputLemmas.{text_in_range}
use Rattle.model_tests.proofs.slow.items_of.Goals as goal

pub loop-line-preserved : goal.loop-line-preserved
loop-line-preserved c =
    let keys = c.args.keys in
    let item = c.in_ok-item.item in
    let in_range : IsItemInRange keys item = text_in_range keys item c.as_bytes.result.now ((c.in_ok-item.ensures.exact item).0 refl) in
    All-same (IsItemInRange keys) _ _ c.in_ok-push.ensures.items (All-push (IsItemInRange keys) c.loop-line.items.items item c.loop-line.invariant in_range)
