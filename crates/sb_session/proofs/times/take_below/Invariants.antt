use Rattle.std.proofs.Common.{◌++◌, map, filter, not}
use Rattle.std.specs.BTreeMap.{btree_map_len}
use Rattle.sb_windowed.specs.records.Reorderings.{IsReordered}
use Rattle.sb_windowed.specs.records.declared.item.Record.{Record}
use Rattle.sb_session.specs.Kept.{kept_of, AreFull}
use Rattle.sb_session.specs.Closings.{is_below}
use Rattle.sb_session.proofs.times.take_below.Given as goal

abbrev pub invariant-loop-at : goal.invariant-loop-at
invariant-loop-at l = record {
  taken : IsReordered (l.values.items ++ map (λ (r : Record). r.value) (filter (is_below l.session.key l.session.end) (kept_of l.times.entries))) (map (λ r. r.value) (filter (is_below l.session.key l.session.end) (kept_of l.fn.times.entries)));
  left : IsReordered (filter (λ r. not (is_below l.session.key l.session.end r)) (kept_of l.times.entries)) (filter (λ r. not (is_below l.session.key l.session.end r)) (kept_of l.fn.times.entries));
  full : AreFull l.fn.times → AreFull l.times;
}

abbrev pub decreases-loop-at : goal.decreases-loop-at
decreases-loop-at l = btree_map_len l.times
