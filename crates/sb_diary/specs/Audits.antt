-- What the lines of a diary text say so far, which line is legal after them, and what an auditor answers to a line.
use Rattle.std.specs.Prelude.{◌≡◌, ℕ, ◌+◌, ◌<◌, ◌==◌, ◌&&◌, nat_lt, Bool, true, List, [], ◌∷◌, if◌then◌else◌, Option, Some, None, Result, Ok, Err}
use Rattle.sb_record.specs.declared.intake.TheConstants.{MAX_LINES}
use Rattle.sb_record.specs.Reading.{◌>>=◌}
use Rattle.sb_diary.specs.declared.audit.AuditFault.{AuditFault}
use Rattle.sb_diary.specs.declared.audit.AuditFault.TheVariants.{TooMany, TooLong, Malformed, NotLegal}
use Rattle.sb_diary.specs.declared.audit.AuditStop.{AuditStop}
use Rattle.sb_diary.specs.declared.audit.AuditStop.TheVariants.{Fault, Memory}
use Rattle.sb_diary.specs.declared.audit.AuditEnd.{AuditEnd}
use Rattle.sb_diary.specs.declared.text.DiaryLine.{DiaryLine}
use Rattle.sb_diary.specs.declared.text.DiaryLine.TheVariants.{Head, Event}
use Rattle.sb_diary.specs.Legal.{Audit, when, fresh_audit, after_line, is_settled}
use Rattle.sb_diary.specs.Texts.{text_of, IsLine}

-- what the lines say: how many are heads, and how many are events; whether the diaries before the last head are
-- settled; and the diary behind that head
pub record TextAudit : Type 0 where
  pub transforms : ℕ
  pub events : ℕ
  pub settled : Bool
  pub diary : Option Audit

-- before the first line
abbrev pub first_text_audit : TextAudit
first_text_audit = record { transforms = 0; events = 0; settled = true; diary = None }

-- how many lines there are
abbrev pub lines_in : TextAudit → ℕ
lines_in t = t.transforms + t.events

-- the diary, if there is one, is settled
abbrev pub is_settled_if_any : Option Audit → Bool
is_settled_if_any None = true
is_settled_if_any (Some a) = is_settled a

-- each diary is settled
abbrev pub is_text_settled : TextAudit → Bool
is_text_settled t = t.settled && is_settled_if_any t.diary

-- what the lines say with one line more, none if that line is not legal after them
abbrev pub after_diary_line : TextAudit → DiaryLine → Option TextAudit
after_diary_line t (Head node lanes) =
    when (node == t.transforms) (record {
      transforms = t.transforms + 1;
      events = t.events;
      settled = is_text_settled t;
      diary = Some (fresh_audit lanes);
    })
after_diary_line t (Event e) =
    t.diary >>= λ a. after_line a e >>= λ b. Some (record t { events = t.events + 1; diary = Some b })

-- what they say with these lines more, none if one is not legal after those before it
abbrev pub after_diary_lines : List DiaryLine → TextAudit → Option TextAudit
after_diary_lines [] t = Some t
after_diary_lines (line ∷ lines) t = after_diary_line t line >>= λ u. after_diary_lines lines u

-- what is told of the lines at the end
abbrev pub end_of : TextAudit → AuditEnd
end_of t = record { transforms = t.transforms; events = t.events; settled = is_text_settled t }

-- an auditor: what the lines say that it took, and why it takes no more, if it has refused one
pub record Auditing : Type 0 where
  pub text : TextAudit
  pub stop : Option AuditStop

-- an auditor before the first line
abbrev pub first_auditing : Auditing
first_auditing = record { text = first_text_audit; stop = None }

-- the text of a line spells it
pub record Spells (text : List ℕ) (line : DiaryLine) : Type 0 where
  pub valid : IsLine line
  pub same : text_of line ≡ text

-- there is room for a line, which has this number
pub record IsNumbered (t : TextAudit) (number : ℕ) : Type 0 where
  pub room : lines_in t < MAX_LINES
  pub number_is : number ≡ lines_in t + 1

-- there is room, the text spells a line that is legal, and after it the lines say this
pub record IsLegalText (t : TextAudit) (text : List ℕ) (after : TextAudit) : Type 0 where
  pub room : lines_in t < MAX_LINES
  pub line : DiaryLine
  pub spelled : Spells text line
  pub legal : after_diary_line t line ≡ Some after

-- the text spells a line that is not legal
pub record IsIllegalText (t : TextAudit) (text : List ℕ) : Type 0 where
  pub line : DiaryLine
  pub spelled : Spells text line
  pub illegal : after_diary_line t line ≡ None

-- why the text of the next line is refused; that a line is too long is found by whoever reads it
abbrev pub IsFaultAt : TextAudit → List ℕ → AuditFault → Type 0
IsFaultAt t text TooMany = lines_in t ≡ MAX_LINES
IsFaultAt t text (TooLong number) = ⊥
IsFaultAt t text (Malformed number) = IsNumbered t number × ((line : DiaryLine) → Spells text line → ⊥)
IsFaultAt t text (NotLegal number) = IsNumbered t number × IsIllegalText t text

abbrev pub IsStopAt : TextAudit → List ℕ → AuditStop → Type 0
IsStopAt t text (Fault fault) = IsFaultAt t text fault
IsStopAt t text Memory = Unit {0}

-- the text of the next line is legal, or is refused and changes nothing
abbrev pub IsTakenText : {T : Type 0} → TextAudit → List ℕ → TextAudit → Result T AuditStop → Type 0
IsTakenText t text after (Ok x) = IsLegalText t text after
IsTakenText t text after (Err stop) = IsStopAt t text stop × (after ≡ t)

-- why no more lines are taken, if this is so
abbrev pub stop_of : {T : Type 0} → Result T AuditStop → Option AuditStop
stop_of (Ok x) = None
stop_of (Err stop) = Some stop

-- why the next line is refused if it has too many bytes
abbrev pub too_long : TextAudit → AuditFault
too_long t = if nat_lt (lines_in t) MAX_LINES then TooLong (lines_in t + 1) else TooMany

-- the texts of these lines are legal one after the other, behind lines that say t, and then the lines say u
abbrev pub AreLegalTexts : TextAudit → List (List ℕ) → TextAudit → Type 0
AreLegalTexts t [] u = u ≡ t
AreLegalTexts t (text ∷ texts) u = (v : TextAudit) × IsLegalText t text v × AreLegalTexts v texts u
