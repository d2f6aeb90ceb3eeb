-- What a source and a sink in memory have.
use Rattle.std.specs.Prelude.{ℕ, min, false, if◌then◌else◌, List, length, drop}
use Rattle.sb_outside.specs.Sinks.{SinkState}
use Rattle.sb_outside.specs.Schedules.{Schedule, fails, piece_of, after_call}

-- the bytes left, and the calls
pub record MemReading : Type 0 where
  pub left : List ℕ
  pub schedule : Schedule

-- the bytes taken, the calls, and how often there was no memory
pub record MemWriting : Type 0 where
  pub taken : List ℕ
  pub schedule : Schedule
  pub shortages : ℕ

-- a sink in memory answers each fault at once
abbrev pub state_of : MemWriting → SinkState
state_of m = record { faults = m.schedule.faults; shortages = m.shortages; refuses = false }

-- before the first call
abbrev pub first_schedule : List ℕ → List ℕ → Schedule
first_schedule pieces failing = record { pieces = pieces; failing = failing; calls = 0; faults = 0 }

-- how many bytes the next read gives: the least of the piece, the buffer and what is left
abbrev pub read_count : MemReading → ℕ → ℕ
read_count m room = min (piece_of m.schedule room) (length m.left)

-- the source behind the next read
abbrev pub after_read : MemReading → ℕ → MemReading
after_read m room =
    record {
      left = if fails m.schedule then m.left else drop (read_count m room) m.left;
      schedule = after_call m.schedule;
    }
