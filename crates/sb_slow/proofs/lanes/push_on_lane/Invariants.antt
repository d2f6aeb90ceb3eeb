use Rattle.std.proofs.Common.{◌≡◌, ◌+◌, ◌≤◌, ◌++◌, take}
use Rattle.std.specs.Vec.{vec_len, vec_capacity}
use Rattle.sb_base.specs.records.Elements.{on_lane}
use Rattle.sb_slow.proofs.lanes.push_on_lane.Given as goal

abbrev pub invariant-loop-record : goal.invariant-loop-record
invariant-loop-record l =
    record {
      items : l.elements.items ≡ l.fn.elements.items ++ on_lane l.lane (take l.record-index l.records);
      len : vec_len l.elements ≡ vec_len l.fn.elements + l.record-index;
      capacity : vec_capacity l.fn.elements ≤ vec_capacity l.elements;
    }
