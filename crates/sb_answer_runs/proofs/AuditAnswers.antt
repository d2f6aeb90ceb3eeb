-- What an audit answers, by why reading stopped.
use Rattle.std.proofs.Common.{◌≡◌, ℕ, List, [], Option, inl, inr, sym, subst}
use Rattle.sb_answers.specs.diary.Audits.{end_of}
use Rattle.sb_answers.specs.told.declared.diary_input.DiaryHalt.{DiaryHalt}
use Rattle.sb_answers.specs.told.declared.diary_input.DiaryHalt.TheVariants as halt
use Rattle.sb_answers.specs.told.declared.diary_input.DiaryInput.{DiaryInput}
use Rattle.sb_answers.specs.declared.ending.Ending.{Ending}
use Rattle.sb_answers.specs.told.declared.late.LateRecords.TheVariants.{OfInput}
use Rattle.sb_answers.specs.told.declared.status.Status.{Status}
use Rattle.sb_answers.specs.told.declared.status.Status.TheVariants.{Done, Words, Plan, Line, Input, Output, Folder, Memory, Tap, Audit, FileTooLong, FileLine, Checkpoint}
use Rattle.sb_answers.specs.Answers.{Audited, HasAudited, IsAuditAnswer}
use Rattle.sb_answers.specs.told.Outcomes.{HasPrinted}
use Rattle.sb_answer_runs.specs.AuditSteps.{AnswersHalt}
use Rattle.sb_answers.specs.told.DiaryReads.{IsReadUpTo, ReadsDiary}
use Rattle.sb_answers.specs.told.Statuses.{audit_text}
use Rattle.sb_answers.specs.one_feed.Given.{lines_of}

pub audit_answer : (left left' taken taken' : Option (List ℕ)) (input : DiaryInput) (why : DiaryHalt) (status : Status) (ending : Ending) → ReadsDiary left left' input
    → input.halt ≡ why → AnswersHalt input.said taken taken' why status → ending.status ≡ status → ending.late ≡ OfInput [] → ending.diaries ≡ [] → IsAuditAnswer left left' taken taken' ending
audit_answer left left' taken taken' input why status ending reads is answers status_is none untold = record {
  given = reads.given;
  audited = subst (HasAudited ls reads.given.ended taken taken') (sym status_is) (by_halt why status (subst (λ w. IsReadUpTo reads.text w reads.given.ended ls) is reads.read) (subst (λ s. AnswersHalt s taken taken' why status) reads.said answers));
  undropped = none;
  untold = untold;
}
  where
    ls : List (List ℕ)
    ls = lines_of reads.given

    by_status : (status : Status) → Audited ls reads.given.ended reads.text → HasPrinted (audit_text (end_of reads.text)) taken taken' status → HasAudited ls reads.given.ended taken taken' status
    by_status Done read writes = (reads.text, read, writes)
    by_status Output read writes = (reads.text, read, writes)
    by_status Memory read writes = inr (reads.text, read, writes)
    by_status Input read writes = absurd writes
    by_status Words read writes = absurd writes
    by_status (Plan fault) read writes = absurd writes
    by_status (Line refusal) read writes = absurd writes
    by_status (FileLine stream refusal) read writes = absurd writes
    by_status (Audit fault) read writes = absurd writes
    by_status FileTooLong read writes = absurd writes
    by_status (Checkpoint line) read writes = absurd writes
    by_status Folder read writes = absurd writes
    by_status (Tap place) read writes = absurd writes

    by_halt : (why : DiaryHalt) (status : Status) → IsReadUpTo reads.text why reads.given.ended ls → AnswersHalt (end_of reads.text) taken taken' why status → HasAudited ls reads.given.ended taken taken' status
    by_halt halt.End status read answers = by_status status (record { legal = read.0; whole = read.1 }) answers
    by_halt (halt.Refused fault) status read answers = subst (HasAudited ls reads.given.ended taken taken') (sym answers.0) (read, answers.1)
    by_halt halt.Fault status read answers = subst (HasAudited ls reads.given.ended taken taken') (sym answers.0) ((reads.text, read.0), read.1, answers.1)
    by_halt halt.Memory status read answers = subst (HasAudited ls reads.given.ended taken taken') (sym answers.0) (inl answers.1)
