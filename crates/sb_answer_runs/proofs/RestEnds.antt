-- From the end of a run behind a checkpoint to its answer.
use Rattle.std.proofs.Common.{◌≡◌, ℕ, false, not, List, [], Option, Result, Ok, Err, refl, sym, subst}
use Rattle.std.specs.Prelude.{nat_lt}
use Rattle.std.specs.Io.KnownBytes.{Keeps, prepend_known}
use Rattle.std.proofs.lemmas.List.Elements.{filter-append}
use Rattle.sb_answers.specs.base.records.declared.item.Dropped.{Dropped}
use Rattle.sb_answers.specs.base.records.Records.{at_least}
use Rattle.sb_answers.specs.outside.declared.sink.SinkFault.{SinkFault}
use Rattle.sb_answers.specs.outside.declared.sink.SinkFault.TheVariants as fault
use Rattle.sb_answers.specs.base.pipeline.Shapes.{Shape}
use Rattle.sb_answers.specs.checkpoint.Ahead.{AllReadOrNoneOfTheSource}
use Rattle.sb_answers.specs.checkpoint.Checkpoints.{with_comments}
use Rattle.sb_answers.specs.checkpoint.Texts.{items_text}
use Rattle.sb_answers.specs.alone.declared.run_end.RunEnd.{RunEnd}
use Rattle.sb_answers.specs.alone.declared.run_end.RunEnd.TheVariants as run
use Rattle.sb_answers.specs.alone.RunEnds.{Ends}
use Rattle.sb_answers.specs.words.declared.options.Options.{Options}
use Rattle.sb_answers.specs.told.declared.status.Status.{Status}
use Rattle.sb_answers.specs.told.declared.status.Status.TheVariants.{Done, Words, Plan, Line, Input, Output, Folder, Memory, Tap, Audit, FileTooLong, FileLine, Checkpoint}
use Rattle.sb_answers.specs.Answers.{IsAnswerBy, IsRestAnswer, Wrote, WrotePrefix, ending_of}
use Rattle.sb_answers.specs.CheckpointFiles.{Said}
use Rattle.sb_answers.specs.Courses.{rest_course}
use Rattle.sb_answers.specs.told.Outcomes.{IsNoTap}
use Rattle.sb_answers.specs.RunSteps.{diaries_told, sizes_from, status_after}
use Rattle.sb_answers.proofs.Blaming.{none_stops}
use Rattle.sb_answers.proofs.RunAnswers.{run_answer}

-- no diary is told if none is kept
none_kept : (end : RunEnd) (status : Status) → diaries_told false end status ≡ []
none_kept end Done = refl
none_kept end Words = refl
none_kept end (Plan fault) = refl
none_kept end (Line refusal) = refl
none_kept end (FileLine stream refusal) = refl
none_kept end Input = refl
none_kept end Output = refl
none_kept end Folder = refl
none_kept end Memory = refl
none_kept end (Tap place) = refl
none_kept end (Audit fault) = refl
none_kept end FileTooLong = refl
none_kept end (Checkpoint line) = refl

module _ (plan : Shape) (options : Options) (said : Said) (left left' taken taken1 taken2 : Option (List ℕ)) (dropped : List Dropped) (no : options.diary ≡ false) (keeps : Keeps taken1 taken2) where
  abbrev EndsBehind : RunEnd → Type 0
  EndsBehind end =
      (rest : List ℕ)
      × AllReadOrNoneOfTheSource rest left left'
      × Ends plan (sizes_from options) (prepend_known (items_text (with_comments said.lines said.items)) left) (prepend_known rest left') (λ a rows b. Wrote a b (at_least said.low rows)) (λ a rows b. WrotePrefix a b (at_least said.low rows))
      taken taken1 [] [] [] dropped end

  -- no tap was handed in, so none has failed
  pub rest_no_tap : (end : RunEnd) (passed : Result (Unit {0}) SinkFault) → EndsBehind end → IsNoTap (status_after end passed)
  rest_no_tap end (Err fault.Failed) e = tt
  rest_no_tap end (Err fault.Memory) e = tt
  rest_no_tap (run.Done hand) (Ok x) e = tt
  rest_no_tap (run.Refused refusal) (Ok x) e = tt
  rest_no_tap run.Input (Ok x) e = tt
  rest_no_tap run.Output (Ok x) e = tt
  rest_no_tap (run.Tap place) (Ok x) e = absurd (none_stops e.2.rows place [] e.2.offered)
  rest_no_tap run.Memory (Ok x) e = tt

  pub rest_answer : (end : RunEnd) (passed : Result (Unit {0}) SinkFault) → EndsBehind end → IsRestAnswer plan options said left left' taken taken2 (ending_of (status_after end passed) dropped [])
  rest_answer end passed (rest, read, e) =
      let status = status_after end passed in
      let untold : diaries_told options.diary end status ≡ [] = subst (λ keep. diaries_told keep end status ≡ []) (sym no) (none_kept end status) in
      let lines = prepend_known (items_text (with_comments said.lines said.items)) left in
      let left2 = prepend_known rest left' in (
        rest,
        read,
        subst (λ diaries. IsAnswerBy plan options lines left2 taken taken2 (λ given. rest_course said.low plan given) (ending_of status dropped diaries)) untold
            (run_answer (at_least said.low) (λ rows more. filter-append (λ r. not (nat_lt r.time said.low)) rows more) plan options lines left2 taken taken1 taken2 [] [] dropped keeps end passed e),
      )
