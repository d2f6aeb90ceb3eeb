-- Which lines are legal after others, line by line, and which diaries are settled.
use Rattle.std.specs.Prelude.{◌≡◌, ℕ, ◌+◌, ◌-◌, ◌==◌, ◌&&◌, ◌||◌, not, nat_lt, nat_le, min, Bool, true, false}
use Rattle.std.specs.Prelude.{if◌then◌else◌, List, [], ◌∷◌, ◌++◌, length, replicate, Option, Some, None, is_some}
use Rattle.std.specs.Prelude.{slice_get, slice_set, slice_index}
use Rattle.std.specs.List.{list_all}
use Rattle.sb_record.specs.Reading.{◌>>=◌}
pub use Rattle.sb_diary.specs.declared.bundle.Came.{Came}
pub use Rattle.sb_diary.specs.declared.bundle.Stage.{Stage}
pub use Rattle.sb_diary.specs.declared.bundle.Stage.TheVariants.{Waiting, Taken, Done}
use Rattle.sb_diary.specs.declared.event.DiaryEvent.{DiaryEvent}
use Rattle.sb_diary.specs.declared.event.DiaryEvent.TheVariants.{Arrive, Seal, Take, Finish, Begin, End}

-- what a lane's lines say: the bundles that came, by number; the marks that sealed its epochs; how many have ended
pub record LaneAudit : Type 0 where
  pub came : List Came
  pub marks : List ℕ
  pub ended : ℕ

-- what a diary's lines say: of each lane; and the lane of the closing that has begun and not ended
pub record Audit : Type 0 where
  pub lanes : List LaneAudit
  pub closing : Option ℕ

-- before the first line
abbrev pub fresh_lane : LaneAudit
fresh_lane = record { came = []; marks = []; ended = 0 }

abbrev pub fresh_audit : ℕ → Audit
fresh_audit lanes = record { lanes = replicate lanes fresh_lane; closing = None }

-- with lane l as this one
abbrev pub with_lane : ℕ → LaneAudit → Audit → Audit
with_lane l lane a = record a { lanes = slice_set a.lanes l lane }

-- which stage it is
abbrev pub is_waiting : Stage → Bool
is_waiting Waiting = true
is_waiting Taken = false
is_waiting Done = false

abbrev pub is_taken : Stage → Bool
is_taken Waiting = false
is_taken Taken = true
is_taken Done = false

abbrev pub is_done : Stage → Bool
is_done Waiting = false
is_done Taken = false
is_done Done = true

-- a value, if the test passes
abbrev pub when : {X : Type 0} → Bool → X → Option X
when test x = if test then Some x else None

-- the lane with bundle `number` at another stage, if it came and its stage passes
abbrev pub with_stage : (Stage → Bool) → Stage → ℕ → LaneAudit → Option LaneAudit
with_stage test stage number lane =
    slice_get lane.came (number - 1) >>= λ c.
    when (nat_lt 0 number && test c.stage)
    (record lane { came = slice_set lane.came (number - 1) (record c { stage = stage }) })

-- the last of the first n marks, 0 if n is 0
abbrev pub last_of : ℕ → List ℕ → ℕ
last_of n marks = if n == 0 then 0 else slice_index marks (n - 1)

-- the least over the lanes of the mark of the last epoch that has ended, 0 for a lane in which none has
abbrev pub least_ended_mark : List LaneAudit → ℕ
least_ended_mark [] = 0
least_ended_mark (lane ∷ []) = last_of lane.ended lane.marks
least_ended_mark (lane ∷ other ∷ lanes) = min (last_of lane.ended lane.marks) (least_ended_mark (other ∷ lanes))

-- the lane with one more epoch ended
abbrev pub with_end : LaneAudit → LaneAudit
with_end lane = record lane { ended = lane.ended + 1 }

-- each bundle of the epoch was finished
abbrev pub is_all_done : ℕ → List Came → Bool
is_all_done epoch came = list_all (λ c. not (c.epoch == epoch) || is_done c.stage) came

-- a closing has begun and not ended
abbrev pub is_closing : Option ℕ → Bool
is_closing None = false
is_closing (Some l) = true

-- an arrival has the next number, an epoch that is not sealed, and a record
abbrev pub may_arrive : LaneAudit → ℕ → ℕ → ℕ → Bool
may_arrive lane epoch number len =
    (number == length lane.came + 1) && (nat_le (length lane.marks) epoch && nat_lt 0 len)

-- a seal is of the next epoch, and its mark is not below the last one
abbrev pub may_seal : LaneAudit → ℕ → ℕ → Bool
may_seal lane epoch mark = (epoch == length lane.marks) && nat_le (last_of (length lane.marks) lane.marks) mark

-- a closing begins if there is no other; of the oldest epoch, which is sealed and all done; and with the node's mark
abbrev pub may_begin : Audit → ℕ → LaneAudit → ℕ → ℕ → Bool
may_begin a l lane epoch mark =
    not (is_closing a.closing) && ((epoch == lane.ended) && (nat_lt epoch (length lane.marks)
    && (is_all_done epoch lane.came && (mark == least_ended_mark (slice_set a.lanes l (with_end lane))))))

-- what the lines say with one line more, none if that line is not legal after them
abbrev pub after_line : Audit → DiaryEvent → Option Audit
after_line a (Arrive l epoch number len) =
    slice_get a.lanes l >>= λ lane.
    when (may_arrive lane epoch number len)
    (with_lane l (record lane { came = lane.came ++ record { epoch = epoch; stage = Waiting } ∷ [] }) a)
after_line a (Seal l epoch mark) =
    slice_get a.lanes l >>= λ lane.
    when (may_seal lane epoch mark) (with_lane l (record lane { marks = lane.marks ++ mark ∷ [] }) a)
after_line a (Take l number) =
    slice_get a.lanes l >>= λ lane. with_stage is_waiting Taken number lane >>= λ lane. Some (with_lane l lane a)
after_line a (Finish l number len) =
    slice_get a.lanes l >>= λ lane. with_stage is_taken Done number lane >>= λ lane. Some (with_lane l lane a)
after_line a (Begin l epoch mark rows) =
    slice_get a.lanes l >>= λ lane. when (may_begin a l lane epoch mark) (record a { closing = Some l })
after_line a (End l epoch) =
    slice_get a.lanes l >>= λ lane.
    a.closing >>= λ c.
    when ((c == l) && (epoch == lane.ended)) (record { lanes = slice_set a.lanes l (with_end lane); closing = None })

-- what they say with these lines more, none if one is not legal after those before it
abbrev pub after_lines : List DiaryEvent → Audit → Option Audit
after_lines [] a = Some a
after_lines (e ∷ diary) a = after_line a e >>= λ b. after_lines diary b

-- what the lines of the diary of a node with so many lanes say, none if one is not legal
abbrev pub audit_of : ℕ → List DiaryEvent → Option Audit
audit_of lanes diary = after_lines diary (fresh_audit lanes)

-- the diary of a node with so many lanes is legal
abbrev pub IsLegal : ℕ → List DiaryEvent → Type 0
IsLegal lanes diary = is_some (audit_of lanes diary) ≡ true

-- a lane has as many ends as seals, each bundle was finished, and none is of an epoch that is not sealed
abbrev pub is_lane_settled : LaneAudit → Bool
is_lane_settled lane =
    (lane.ended == length lane.marks)
    && list_all (λ c. is_done c.stage && nat_lt c.epoch (length lane.marks)) lane.came

-- each closing has ended, and each lane is settled
abbrev pub is_settled : Audit → Bool
is_settled a = not (is_closing a.closing) && list_all is_lane_settled a.lanes

abbrev pub is_settled_after : Option Audit → Bool
is_settled_after None = false
is_settled_after (Some a) = is_settled a

-- the diary is legal, and no container is left
abbrev pub IsSettled : ℕ → List DiaryEvent → Type 0
IsSettled lanes diary = is_settled_after (audit_of lanes diary) ≡ true
