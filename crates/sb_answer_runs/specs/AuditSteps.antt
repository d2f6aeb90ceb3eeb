-- What writing the line of an audit gives.
use Rattle.std.specs.Prelude.{◌≡◌, ℕ, List, Option}
use Rattle.sb_answers.specs.diary.declared.audit.AuditEnd.{AuditEnd}
use Rattle.sb_answers.specs.told.declared.status.Status.{Status}
use Rattle.sb_answers.specs.told.declared.status.Status.TheVariants.{Input, Memory, Audit}
use Rattle.sb_answers.specs.told.declared.diary_input.DiaryHalt.{DiaryHalt}
use Rattle.sb_answers.specs.told.declared.diary_input.DiaryHalt.TheVariants as halt
use Rattle.sb_answers.specs.told.Outcomes.{HasPrinted}
use Rattle.sb_answers.specs.told.Statuses.{audit_text}

-- what an audit answers where reading stopped: its line is written at the end of a legal text, and else nothing
abbrev pub AnswersHalt : AuditEnd → Option (List ℕ) → Option (List ℕ) → DiaryHalt → Status → Type 0
AnswersHalt said taken taken' halt.End status = HasPrinted (audit_text said) taken taken' status
AnswersHalt said taken taken' (halt.Refused fault) status = (status ≡ Audit fault) × (taken' ≡ taken)
AnswersHalt said taken taken' halt.Fault status = (status ≡ Input) × (taken' ≡ taken)
AnswersHalt said taken taken' halt.Memory status = (status ≡ Memory) × (taken' ≡ taken)
