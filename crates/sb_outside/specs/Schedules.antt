-- Calls of a source or a sink in memory: how large their pieces are, and which of them fail.
use Rattle.std.specs.Prelude.{ℕ, ◌+◌, ◌-◌, ◌^◌, min, Bool, ◌==◌, if◌then◌else◌, List, unwrap_or, slice_get}
use Rattle.std.specs.List.{list_any}

-- the most bytes of call k at place k - 1, the numbers of the calls that fail, and how many calls there were and how
-- many failed
pub record Schedule : Type 0 where
  pub pieces : List ℕ
  pub failing : List ℕ
  pub calls : ℕ
  pub faults : ℕ

-- one more, up to the end of the count's type
abbrev pub next_count : ℕ → ℕ
next_count n = min (n + 1) (2 ^ 64 - 1)

-- whether the next call, behind so many, is one of those that fail
abbrev pub next_fails : List ℕ → ℕ → Bool
next_fails failing calls = list_any (λ call. call == next_count calls) failing

-- whether the next call fails
abbrev pub fails : Schedule → Bool
fails s = next_fails s.failing s.calls

-- how many of the bytes that are offered the next call may take: there is no limit behind the end of the list
abbrev pub piece_of : Schedule → ℕ → ℕ
piece_of s offered = min (unwrap_or (slice_get s.pieces (next_count s.calls - 1)) offered) offered

-- the schedule behind the next call
abbrev pub after_call : Schedule → Schedule
after_call s = record s { calls = next_count s.calls; faults = if fails s then next_count s.faults else s.faults }
