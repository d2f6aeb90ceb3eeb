-- What reading a diary text gives.
use Rattle.std.specs.Prelude.{◌≡◌, ℕ, Bool, true, false, List, [], ◌∷◌, ◌++◌, Option, Result, Ok, Err, None}
use Rattle.std.specs.Io.KnownBytes.{Consumes, IsAtEnd}
use Rattle.sb_diary.specs.declared.audit.AuditFault.{AuditFault}
use Rattle.sb_diary.specs.declared.audit.AuditFault.TheVariants.{TooMany, TooLong, Malformed, NotLegal}
use Rattle.sb_diary.specs.Audits.{TextAudit, Auditing, AreLegalTexts, IsFaultAt, IsLegalText, IsNumbered, first_text_audit, end_of}
use Rattle.sb_feed.specs.outside.Lines.{is_too_long}
use Rattle.sb_feed.specs.outside.Readings.{Reading, MayCome, rest_of_lines}
use Rattle.sb_feed.specs.outside.Sources.{Rose}
use Rattle.sb_told.specs.declared.diary_input.DiaryHalt.{DiaryHalt}
use Rattle.sb_told.specs.declared.diary_input.DiaryHalt.TheVariants.{End, Refused, Fault, Memory}
use Rattle.sb_told.specs.declared.diary_input.DiaryInput.{DiaryInput}
use Rattle.sb_feed.specs.Given.{Given, lines_of}
use Rattle.sb_feed.specs.Reads.{IsGoing}

-- why a line is refused behind lines that say t: there is no room for it, or it is too long, or an auditor says why
abbrev pub IsRefusedLine : TextAudit → List ℕ → AuditFault → Type 0
IsRefusedLine t line TooMany = IsFaultAt t line TooMany
IsRefusedLine t line (TooLong number) = IsNumbered t number × (is_too_long line ≡ true)
IsRefusedLine t line (Malformed number) = (is_too_long line ≡ false) × IsFaultAt t line (Malformed number)
IsRefusedLine t line (NotLegal number) = (is_too_long line ≡ false) × IsFaultAt t line (NotLegal number)

-- the lines before this one are legal, and it is refused
pub record IsRefusedAmong (lines : List (List ℕ)) (fault : AuditFault) : Type 0 where
  pub before : List (List ℕ)
  pub line : List ℕ
  pub others : List (List ℕ)
  pub split : lines ≡ before ++ line ∷ others
  pub text : TextAudit
  pub legal : AreLegalTexts first_text_audit before text
  pub why : IsRefusedLine text line fault

-- why reading stops before these lines, behind lines that say t
abbrev pub StopsDiaryAt : TextAudit → DiaryHalt → Bool → List (List ℕ) → Type 0
StopsDiaryAt t End ended lines = (lines ≡ []) × (ended ≡ true)
StopsDiaryAt t Fault ended lines = (lines ≡ []) × (ended ≡ false)
StopsDiaryAt t (Refused fault) ended lines =
    (line : List ℕ) × (others : List (List ℕ)) × (lines ≡ line ∷ others) × IsRefusedLine t line fault
StopsDiaryAt t Memory ended lines = Unit {0}

-- the source gave more bytes, and this is the first line of what is then left
pub record GaveLine {S : Type 0} (left : S → Option (List ℕ)) (old new : Reading S) (line : List ℕ) : Type 0 where
  pub more : List ℕ
  pub given : Consumes (left old.source) (left new.source) more
  pub first : (ended : Bool) (later : List ℕ) → MayCome new.halt ended later
      → MayCome old.halt ended (more ++ later)
      × (rest_of_lines old.halt old.at_hand ended (more ++ later)
      ≡ line ∷ rest_of_lines new.halt new.at_hand ended later)
  pub going : IsGoing new.halt (left new.source)

-- the source gave more bytes, and this holds of the lines that are then left
pub record GaveRest {S : Type 0} (left : S → Option (List ℕ)) (old new : Reading S)
    (P : Bool → List (List ℕ) → Type 0) : Type 0 where
  pub more : List ℕ
  pub given : Consumes (left old.source) (left new.source) more
  pub ended : Bool
  pub at_end : ended ≡ true → IsAtEnd (left new.source)
  pub may : MayCome old.halt ended more
  pub rest : P ended (rest_of_lines old.halt old.at_hand ended more)

-- the auditor took the next line, or reading stops before it
abbrev pub TakesDiaryLine : {S T : Type 0} → (S → Option (List ℕ)) → Reading S → Reading S → Auditing → Auditing
    → Result T DiaryHalt → Type 0
TakesDiaryLine left old new a a' (Ok x) =
    (line : List ℕ) × GaveLine left old new line × IsLegalText a.text line a'.text × (a'.stop ≡ None)
TakesDiaryLine left old new a a' (Err halt) = GaveRest left old new (StopsDiaryAt a.text halt) × (a'.text ≡ a.text)

-- what the lines were, by why reading stopped
abbrev pub IsReadUpTo : TextAudit → DiaryHalt → Bool → List (List ℕ) → Type 0
IsReadUpTo t End ended lines = AreLegalTexts first_text_audit lines t × (ended ≡ true)
IsReadUpTo t Fault ended lines = AreLegalTexts first_text_audit lines t × (ended ≡ false)
IsReadUpTo t (Refused fault) ended lines = IsRefusedAmong lines fault
IsReadUpTo t Memory ended lines = Unit {0}

-- a diary text was read up to where reading stops, and this is what its lines say
pub record ReadsDiary (left left' : Option (List ℕ)) (input : DiaryInput) : Type 0 where
  pub given : Given left left'
  pub text : TextAudit
  pub said : input.said ≡ end_of text
  pub read : IsReadUpTo text input.halt given.ended (lines_of given)

-- a fault of the source stops reading only where its count rose, and where another cause does the count is as it was
abbrev pub DiaryFaultCause : ℕ → ℕ → DiaryHalt → Type 0
DiaryFaultCause before now Fault = Rose before now
DiaryFaultCause before now End = now ≡ before
DiaryFaultCause before now (Refused fault) = now ≡ before
DiaryFaultCause before now Memory = now ≡ before
