use Rattle.std.proofs.Common.{◌≤◌, All, List}
use Rattle.std.proofs.lemmas.List.Elements.{All-from_recursion, All-same, recursion_from_All}
use Rattle.sb_hand.specs.base.records.declared.item.Item.{Item}
use Rattle.sb_hand.specs.base.records.declared.item.Stream.{Stream}
use Rattle.sb_hand.specs.base.records.declared.item.Stream.TheVariants.{A, B}
use Rattle.sb_hand.specs.base.records.declared.item.TheConstants.{MAX_TIME}
use Rattle.sb_hand.specs.base.records.declared.key.Keys.{Keys}
use Rattle.sb_hand.specs.base.records.Lines.{IsItemInRange}
use Rattle.sb_hand.specs.base.records.Streams.{records_of}
use Rattle.sb_hand.proofs.base.records.InputLemmas.{records-in_range}
use Rattle.model_tests.proofs.slow.rows_below.Goals as goal

in_time : (keys : Keys) (items : List Item) → All (IsItemInRange keys) items → (s : Stream) → All (λ r. r.time ≤ MAX_TIME) (records_of s items)
in_time keys items in_range s = All-from_recursion (λ r. r.time ≤ MAX_TIME) (records_of s items) (records-in_range keys s items (recursion_from_All (IsItemInRange keys) items in_range))

pub slow_rows-requires : goal.slow_rows-requires
slow_rows-requires c =
    let keys = c.keys.result in
    let in_range : All (IsItemInRange keys) c.deref.result.now = All-same (IsItemInRange keys) _ _ c.deref.ensures.value c.in_ok-items.ensures in
    record { times = (in_time keys c.deref.result.now in_range A, in_time keys c.deref.result.now in_range B) }
