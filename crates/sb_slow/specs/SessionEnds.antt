-- The ends of sessions, worked out from the last time of each key on.
use Rattle.std.specs.Prelude.{ℕ, ◌+◌, nat_lt, ◌&&◌, if◌then◌else◌, List, Option, Some, None}
use Rattle.std.specs.Ordering.{nat_cmp, ordering_then, flip_args}
use Rattle.std.specs.declared.cmp.Ordering.{Ordering}
use Rattle.sb_base.specs.records.declared.item.Record.{Record}
use Rattle.sb_base.specs.records.Keys.{key_cmp, same_key}
use Rattle.sb_base.specs.records.Orders.{IsAscending}
use Rattle.sb_base.specs.records.Reorderings.{IsReordered}
use Rattle.sb_slow.specs.declared.sessions.KeyedTime.{KeyedTime}
use Rattle.sb_slow.specs.declared.sessions.Ended.{Ended}

-- by key, then time
abbrev pub keyed_time_cmp : KeyedTime → KeyedTime → Ordering
keyed_time_cmp a b = ordering_then (key_cmp a.key b.key) (nat_cmp a.time b.time)

abbrev pub time_of : Record → KeyedTime
time_of r = record { key = r.key; time = r.time }

-- the list is the other one with the last first
pub record AreLatestFirst (ts us : List KeyedTime) : Type 0 where
  pub down : IsAscending (flip_args keyed_time_cmp) ts
  pub same : IsReordered ts us

-- the end of the session of a time, where this is the next later one of all times
abbrev pub end_before : ℕ → KeyedTime → Option Ended → ℕ
end_before gap at None = at.time + gap
end_before gap at (Some next) =
    if same_key next.at.key at.key && nat_lt next.at.time (at.time + gap) then next.end else at.time + gap
