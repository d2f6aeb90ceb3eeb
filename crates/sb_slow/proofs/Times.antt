-- The times of rows.
use Rattle.std.proofs.Common.{ℕ, ◌<◌, List}
use Rattle.std.specs.Prelude.{All, nat_lt}
use Rattle.std.proofs.lemmas.List.Elements.{All-filter, All-from_recursion, recursion_from_All}
use Rattle.sb_base.specs.records.declared.item.Record.{Record}
use Rattle.sb_base.specs.records.declared.item.TheConstants.{END_MARK}
use Rattle.sb_base.specs.records.Records.{record_cmp, before, sorted_records}
use Rattle.sb_base.proofs.records.Sorting.{All-in_order}

-- rows that are cut off and put in order keep times below the end
pub sorted_before-times : (below : ℕ) (l : List Record) → All (λ r. r.time < END_MARK) l → All (λ r. r.time < END_MARK) (sorted_records (before below l))
sorted_before-times below l low =
    All-from_recursion (λ r. r.time < END_MARK) (sorted_records (before below l))
    (All-in_order (λ r. r.time < END_MARK) record_cmp (before below l) (recursion_from_All (λ r. r.time < END_MARK) (before below l) (All-filter (λ r. nat_lt r.time below) (λ r. r.time < END_MARK) l low)))
