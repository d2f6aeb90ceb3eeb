-- What each status is for a caller of the program, and for its user.
use Rattle.std.specs.Prelude.{ℕ, Bool, ◌==◌, if◌then◌else◌, List, [], ◌∷◌, ◌++◌, Option, Some, None, flat_map, decimal, codes}
use Rattle.sb_diary.specs.declared.audit.AuditEnd.{AuditEnd}
use Rattle.sb_diary.specs.declared.audit.AuditFault.{AuditFault}
use Rattle.sb_diary.specs.declared.audit.AuditFault.TheVariants as audit
use Rattle.sb_diary.specs.Texts.{NodeDiary, diary_text}
use Rattle.sb_feed.specs.base.records.declared.item.Dropped.{Dropped}
use Rattle.sb_feed.specs.base.records.declared.intake.Refusal.{Refusal}
use Rattle.sb_feed.specs.base.records.declared.intake.Refusal.TheVariants.{TooMany, TooLong, Malformed, WrongStream, Late, Back}
use Rattle.sb_feed.specs.base.records.declared.item.Stream.{Stream}
use Rattle.sb_feed.specs.base.records.declared.item.Stream.TheVariants.{A, B}
use Rattle.sb_feed.specs.base.records.declared.intake.Stop.{Stop}
use Rattle.sb_feed.specs.base.records.declared.intake.Stop.TheVariants.{End, Refused, Fault}
use Rattle.sb_feed.specs.base.pardo.declared.table_file.RowFault.{RowFault}
use Rattle.sb_feed.specs.base.pardo.declared.table_file.RowFault.TheVariants as row
use Rattle.sb_plan.specs.declared.fault.PlanCause.{PlanCause}
use Rattle.sb_plan.specs.declared.fault.PlanCause.TheVariants as cause
use Rattle.sb_plan.specs.declared.fault.PlanFault.{PlanFault}
use Rattle.sb_plan.specs.Keys.{key_text}
use Rattle.sb_told.specs.declared.late.LateRecords.{LateRecords}
use Rattle.sb_told.specs.declared.late.LateRecords.TheVariants.{OfInput, OfFiles}
use Rattle.sb_told.specs.declared.status.Status.{Status}
use Rattle.sb_told.specs.declared.status.Status.TheVariants.{Done, Words, Plan, Line, Input, Output, Folder, Memory, Tap, Audit, FileTooLong, FileLine, Checkpoint}

-- the exit code
abbrev pub code_of : Status → ℕ
code_of Done = 0
code_of Words = 1
code_of (Plan fault) = 2
code_of (Line refusal) = 3
code_of (FileLine stream refusal) = 3
code_of Input = 4
code_of Output = 5
code_of Folder = 6
code_of Memory = 7
code_of (Tap place) = 8
code_of (Audit fault) = 9
code_of FileTooLong = 10
code_of (Checkpoint line) = 11

-- the status of a run whose output went well
abbrev pub status_of : Stop → Status
status_of End = Done
status_of (Refused refusal) = Line refusal
status_of Fault = Input

-- `line N: `
abbrev pub at_line : ℕ → List ℕ
at_line line = codes "line " ++ decimal line ++ codes ": "

-- a text with `, time T, watermark W` behind it
abbrev pub with_times : List ℕ → ℕ → ℕ → List ℕ
with_times text time mark = text ++ codes ", time " ++ decimal time ++ codes ", watermark " ++ decimal mark

-- the beginning of what a user is told of the record file of a stream
abbrev pub file_text : Stream → List ℕ
file_text A = codes "file a: "
file_text B = codes "file b: "

-- what a user is told of a refused line
abbrev pub refusal_text : Refusal → List ℕ
refusal_text TooMany = codes "line 4294967296: too many lines"
refusal_text (TooLong line) = at_line line ++ codes "too long"
refusal_text (Malformed line) = at_line line ++ codes "malformed"
refusal_text (WrongStream line) = at_line line ++ codes "stream not in the plan"
refusal_text (Late line time mark) = with_times (at_line line ++ codes "late record") time mark
refusal_text (Back line time mark) = with_times (at_line line ++ codes "watermark goes back") time mark

-- what a user is told of a refused line of a diary text
abbrev pub audit_fault_text : AuditFault → List ℕ
audit_fault_text audit.TooMany = codes "line 4294967296: too many lines"
audit_fault_text (audit.TooLong line) = at_line line ++ codes "too long"
audit_fault_text (audit.Malformed line) = at_line line ++ codes "malformed"
audit_fault_text (audit.NotLegal line) = at_line line ++ codes "not legal"

-- what is wrong with a row of a table
abbrev pub row_fault_text : RowFault → List ℕ
row_fault_text row.TooMany = codes "too many rows"
row_fault_text row.Width = codes "not two columns"
row_fault_text row.Key = codes "bad key"
row_fault_text row.Image = codes "bad image"
row_fault_text row.Repeated = codes "repeated key"

-- what is wrong with a plan file
abbrev pub plan_cause_text : PlanCause → List ℕ
plan_cause_text cause.TooLong = codes "file too long"
plan_cause_text cause.NotToml = codes "not TOML"
plan_cause_text cause.UnknownField = codes "unknown field"
plan_cause_text (cause.Missing key) = key_text key ++ codes ": missing"
plan_cause_text (cause.WrongType key) = key_text key ++ codes ": wrong type"
plan_cause_text (cause.OutOfRange key) = key_text key ++ codes ": out of range"
plan_cause_text cause.TooMany = codes "too many transforms"
plan_cause_text cause.NameTaken = codes "name taken"
plan_cause_text cause.UnknownKind = codes "unknown kind"
plan_cause_text cause.TableTooLong = codes "table too long"
plan_cause_text (cause.TableRow fault) =
    codes "table row " ++ decimal fault.row ++ codes ": " ++ row_fault_text fault.what
plan_cause_text (cause.UnknownFrom key) = key_text key ++ codes ": unknown"
plan_cause_text (cause.UsedTwice key) = key_text key ++ codes ": used twice"
plan_cause_text cause.TwoJoins = codes "second join"
plan_cause_text cause.Unused = codes "not used"
plan_cause_text cause.NoWindow = codes "no window"
plan_cause_text cause.HasSession = codes "session cannot be saved"

-- `plan: `, and `transform N: ` where the fault is one of a transform
abbrev pub at_transform : ℕ → List ℕ
at_transform place = if place == 0 then codes "plan: " else codes "plan: transform " ++ decimal place ++ codes ": "

-- what a user is told of a plan that is refused
abbrev pub plan_text : PlanFault → List ℕ
plan_text fault = at_transform fault.at ++ plan_cause_text fault.what

-- what a user is told of how the run ended, as a line
abbrev pub note_text : Status → List ℕ
note_text Done = []
note_text Words = codes "words not understood" ++ 10 ∷ []
note_text (Plan fault) = plan_text fault ++ 10 ∷ []
note_text (Line refusal) = refusal_text refusal ++ 10 ∷ []
note_text (FileLine stream refusal) = file_text stream ++ refusal_text refusal ++ 10 ∷ []
note_text Input = codes "input failed" ++ 10 ∷ []
note_text Output = codes "output failed" ++ 10 ∷ []
note_text Folder = codes "file failed" ++ 10 ∷ []
note_text Memory = codes "out of memory" ++ 10 ∷ []
note_text (Tap place) = codes "tap " ++ decimal place ++ codes " failed" ++ 10 ∷ []
note_text (Audit fault) = audit_fault_text fault ++ 10 ∷ []
note_text FileTooLong = codes "record file too long" ++ 10 ∷ []
note_text (Checkpoint line) = codes "checkpoint: " ++ at_line line ++ codes "malformed" ++ 10 ∷ []

-- what a user is told of a late record that was dropped, as a line
abbrev pub dropped_text : Dropped → List ℕ
dropped_text d = with_times (at_line d.line ++ codes "dropped") d.time d.mark ++ 10 ∷ []

-- the same of a record of an input, or of the file of a stream
abbrev pub late_line : Option Stream → Dropped → List ℕ
late_line None d = dropped_text d
late_line (Some stream) d = file_text stream ++ dropped_text d

-- what a user is told of each late record that was dropped, in order; of two files first those of file a
abbrev pub late_text : LateRecords → List ℕ
late_text (OfInput dropped) = flat_map (late_line None) dropped
late_text (OfFiles a b) = flat_map (late_line (Some A)) a ++ flat_map (late_line (Some B)) b

-- what a user is told: of the late records that were dropped, then the diaries, and then how the run ended
abbrev pub notes_text : LateRecords → List NodeDiary → Status → List ℕ
notes_text late diaries status = late_text late ++ diary_text diaries ++ note_text status

-- `settled` if nothing in the diaries is left open, else `running`
abbrev pub settled_text : Bool → List ℕ
settled_text settled = if settled then codes "settled" else codes "running"

-- what an audit says of a diary text, as a line
abbrev pub audit_text : AuditEnd → List ℕ
audit_text e =
    codes "transforms " ++ decimal e.transforms ++ codes " events " ++ decimal e.events ++ codes " "
    ++ settled_text e.settled ++ 10 ∷ []
