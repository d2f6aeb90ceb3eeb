-- What an auditor counts of a lane's bundles beside its lines, so that it tests the next line without a scan.
use Rattle.std.specs.Prelude.{◌≡◌, ℕ, ◌+◌, ◌-◌, ◌<◌, ◌==◌, ◌&&◌, not, nat_lt, max, Bool, true, List, [], ◌∷◌, ◌++◌, length, slice_get}
use Rattle.std.specs.Prelude.{if◌then◌else◌, Option, Some, None, unwrap_or, Result, Ok, Err}
use Rattle.std.specs.List.{count_by, list_all}
use Rattle.std.specs.BTreeMap.{BTreeMap, get}
use Rattle.std.specs.Ordering.{nat_cmp}
use Rattle.sb_record.specs.Reading.{◌>>=◌}
use Rattle.sb_diary.specs.declared.bundle.Stage.TheVariants.{Waiting, Taken, Done}
use Rattle.sb_diary.specs.declared.event.DiaryEvent.{DiaryEvent}
use Rattle.sb_diary.specs.declared.event.DiaryEvent.TheVariants.{Arrive, Seal, Take, Finish, Begin, End}
use Rattle.sb_diary.specs.declared.line_stop.LineStop.{LineStop}
use Rattle.sb_diary.specs.declared.line_stop.LineStop.TheVariants.{NotLegal, Memory}
use Rattle.sb_diary.specs.Legal.{Came, LaneAudit, Audit, is_waiting, is_taken, is_done, is_all_done, when, with_stage, with_lane, may_arrive, may_seal}

-- the count at an epoch, 0 if there is none
abbrev pub count_in : BTreeMap ℕ ℕ → ℕ → ℕ
count_in counts epoch = unwrap_or (get nat_cmp counts epoch) 0

-- a bundle that was not finished
abbrev pub is_unfinished : Came → Bool
is_unfinished c = not (is_done c.stage)

-- one of this epoch
abbrev pub is_unfinished_in : ℕ → Came → Bool
is_unfinished_in epoch c = (c.epoch == epoch) && is_unfinished c

-- the epoch, if there is one, is below this one
abbrev pub is_below : ℕ → Option ℕ → Bool
is_below epoch None = true
is_below epoch (Some e) = nat_lt e epoch

-- the counts are those of these bundles: the unfinished ones of each epoch, and of all; and their newest epoch
pub record IsCounted (came : List Came) (counts : BTreeMap ℕ ℕ) (count : ℕ) (latest : Option ℕ) : Type 0 where
  pub each : (epoch : ℕ) → count_in counts epoch ≡ count_by (is_unfinished_in epoch) came
  pub all : count ≡ count_by is_unfinished came
  pub newest : (epoch : ℕ) → list_all (λ c. nat_lt c.epoch epoch) came ≡ is_below epoch latest

-- the newer of an epoch and the newest one so far
abbrev pub newer_epoch : Option ℕ → ℕ → ℕ
newer_epoch None epoch = epoch
newer_epoch (Some e) epoch = max e epoch

-- the lane with one more bundle, or one more mark
abbrev pub with_arrival : ℕ → LaneAudit → LaneAudit
with_arrival epoch lane = record lane { came = lane.came ++ record { epoch = epoch; stage = Waiting } ∷ [] }

abbrev pub with_mark : ℕ → LaneAudit → LaneAudit
with_mark mark lane = record lane { marks = lane.marks ++ mark ∷ [] }

-- the bundle of this number, if it came
abbrev pub bundle_at : ℕ → List Came → Option Came
bundle_at number came = if nat_lt 0 number then slice_get came (number - 1) else None

-- an epoch may close: it is the oldest, it is sealed, and all its bundles were finished
abbrev pub may_close : LaneAudit → ℕ → Bool
may_close lane epoch = (epoch == lane.ended) && (nat_lt epoch (length lane.marks) && is_all_done epoch lane.came)

-- the answer to a line after which this is said; there is nothing if it is not legal, and a refusal changes nothing
abbrev pub Answers : {X T : Type 0} → Option X → X → X → Result T LineStop → Type 0
Answers next old new (Ok x) = next ≡ Some new
Answers next old new (Err NotLegal) = (next ≡ None) × (new ≡ old)
Answers next old new (Err Memory) = new ≡ old

-- the lane after a line that is of it alone, as a closing's is not
abbrev pub lane_after : DiaryEvent → LaneAudit → Option LaneAudit
lane_after (Arrive l epoch number len) lane = when (may_arrive lane epoch number len) (with_arrival epoch lane)
lane_after (Seal l epoch mark) lane = when (may_seal lane epoch mark) (with_mark mark lane)
lane_after (Take l number) lane = with_stage is_waiting Taken number lane
lane_after (Finish l number len) lane = with_stage is_taken Done number lane
lane_after (Begin l epoch mark rows) lane = None
lane_after (End l epoch) lane = None

-- what the lines say after such a line of lane l
abbrev pub in_lane : ℕ → DiaryEvent → Audit → Option Audit
in_lane l event a = slice_get a.lanes l >>= λ lane. lane_after event lane >>= λ new. Some (with_lane l new a)

-- a lane has an epoch that is sealed and has not ended
abbrev pub IsOpen : LaneAudit → Type 0
IsOpen lane = lane.ended < length lane.marks

-- the closing that has begun is of such a lane
abbrev pub IsSound : Audit → Type 0
IsSound a = (l : ℕ) (lane : LaneAudit) → a.closing ≡ Some l → slice_get a.lanes l ≡ Some lane → IsOpen lane
