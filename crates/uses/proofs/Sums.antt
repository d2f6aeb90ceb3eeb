-- What the program writes of a text that is read to its end.
use Rattle.std.proofs.Common.{inl, inr, ◌≡◌, ℕ, Bool, true, false, List, [], ◌++◌, Option, Some, None, append-nil, refl, sym, ap, subst, ◌∙◌}
use Rattle.std.specs.Io.KnownBytes.{Consumes, IsAtEnd}
use Rattle.sb_cli.specs.base.records.declared.intake.Refusal.{Refusal}
use Rattle.sb_cli.specs.base.records.declared.intake.Stop.TheVariants.{End}
use Rattle.sb_cli.specs.base.records.Inputs.{stop_of}
use Rattle.sb_cli.specs.base.records.Rows.{text_of}
use Rattle.sb_cli.specs.outside.Folders.{Files}
use Rattle.sb_cli.specs.outside.Lines.{lines}
use Rattle.sb_cli.specs.base.pipeline.Shapes.{sum_shape}
use Rattle.sb_cli.specs.diary.Texts.{NodeDiary}
use Rattle.sb_cli.specs.one_feed.Due.{due_rows}
use Rattle.sb_cli.specs.one_feed.Given.{items_of}
use Rattle.sb_cli.specs.words.declared.options.Options.{Options}
use Rattle.sb_cli.specs.answers.Answers.{IsAnswer, IsAnswerOf, ending_with}
use Rattle.sb_cli.specs.told.declared.late.LateRecords.{LateRecords}
use Rattle.sb_cli.specs.answers.Pipelines.{all_rows}
use Rattle.sb_cli.specs.words.Words.Asked.{Sum}
use Rattle.sb_cli.specs.told.declared.status.Status.{Status}
use Rattle.sb_cli.specs.told.declared.status.Status.TheVariants.{Done}
use Rattle.uses.specs.Sums.{accepted_by, sums_of}

-- reading stops as at the end only where the input has ended
ended_at_end : (ended : Bool) (refused : Option Refusal) → stop_of ended refused ≡ End → ended ≡ true
ended_at_end true refused e = refl
ended_at_end false None e = cc
ended_at_end false (Some refusal) e = cc

-- a source at its end has given all that it had
all_given : (left' : Option (List ℕ)) (text bytes : List ℕ) → Consumes (Some text) left' bytes → IsAtEnd left' → bytes ≡ text
all_given None text bytes given end = absurd given
all_given (Some rest) text bytes given end = sym (given ∙ ap (λ l. bytes ++ l) end ∙ append-nil bytes)

-- a sink that was empty has the text of the sums where the run is done
sums_at_done : (size : ℕ) (options : Options) (text : List ℕ) (folder : Option Files) (left' : Option (List ℕ)) (taken' : List ℕ) (late : LateRecords) (diaries : List NodeDiary)
    → IsAnswer folder (Sum size options) (Some text) left' (Some []) (Some taken') (ending_with Done late diaries) → taken' ≡ text_of (sums_of size text)
sums_at_done size options text folder left' taken' late diaries (inl none) = absurd none.no_plan
sums_at_done size options text folder left' taken' late diaries (inr found) =
    let plan = sum_shape size in
    let answer : IsAnswerOf plan options (Some text) left' (Some []) (Some taken') (ending_with Done late diaries) =
    subst (λ p. IsAnswerOf p options (Some text) left' (Some []) (Some taken') (ending_with Done late diaries)) found.1 found.2 in
    let given = answer.given in
    let at_end : given.ended ≡ true = ended_at_end given.ended (accepted_by plan (lines given.ended given.bytes)).refused answer.written.0 in
    let all : given.bytes ≡ text = all_given left' text given.bytes given.were_left (given.at_end at_end) in
    answer.written.1
    ∙ ap (λ stop. text_of (due_rows plan stop (items_of plan given))) answer.written.0
    ∙ ap (λ ended. text_of (all_rows plan (accepted_by plan (lines ended given.bytes)).items)) at_end
    ∙ ap (λ bytes. text_of (sums_of size bytes)) all

pub sums_written : (size : ℕ) (options : Options) (text : List ℕ) (folder : Option Files) (left left' : Option (List ℕ)) (taken taken' : List ℕ) (status : Status) (late : LateRecords) (diaries : List NodeDiary)
    → IsAnswer folder (Sum size options) left left' (Some taken) (Some taken') (ending_with status late diaries)
    → left ≡ Some text → taken ≡ [] → status ≡ Done → taken' ≡ text_of (sums_of size text)
sums_written size options text folder left left' taken taken' status late diaries is told empty done =
    let at_done = subst (λ s. IsAnswer folder (Sum size options) left left' (Some taken) (Some taken') (ending_with s late diaries)) done is in
    let from_empty = subst (λ t. IsAnswer folder (Sum size options) left left' (Some t) (Some taken') (ending_with Done late diaries)) empty at_done in
    sums_at_done size options text folder left' taken' late diaries (subst (λ l. IsAnswer folder (Sum size options) l left' (Some []) (Some taken') (ending_with Done late diaries)) told from_empty)
