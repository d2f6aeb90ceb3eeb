-- Why a run behind a checkpoint is done if nothing fails.
use Rattle.std.proofs.Common.{inl, inr, ◌≡◌, ◌<◌, ℕ, List, Option, Some, length, refl, sym, ap, subst, subst₂, arith, ◌∙◌}
use Rattle.std.specs.Io.KnownBytes.{prepend_known}
use Rattle.sb_answers.specs.base.records.declared.intake.Refusal.{Refusal}
use Rattle.sb_answers.specs.base.records.declared.intake.Stop.TheVariants.{Refused}
use Rattle.sb_answers.specs.outside.Folders.{Files}
use Rattle.sb_answers.specs.base.pipeline.Shapes.{Shape}
use Rattle.sb_answers.specs.checkpoint.Checkpoints.{with_comments}
use Rattle.sb_answers.specs.checkpoint.Texts.{IsFaultAt, IsRead, items_text, pieces}
use Rattle.sb_answers.proofs.checkpoint.ReadOrFaulty.{read-or_faulty}
use Rattle.sb_answers.specs.one_feed.Given.{Given, stop_at}
use Rattle.sb_answers.specs.words.Words.Asked.{Resume}
use Rattle.sb_answers.specs.words.declared.options.Options.{Options}
use Rattle.sb_answers.specs.declared.ending.Ending.{Ending}
use Rattle.sb_answers.specs.declared.limits.TheConstants.{MAX_CHECKPOINT_BYTES}
use Rattle.sb_answers.specs.told.declared.status.Status.{Status}
use Rattle.sb_answers.specs.told.declared.status.Status.TheVariants.{Done, Words, Plan, Line, Input, Output, Folder, Memory, Tap, Audit, FileTooLong, FileLine, Checkpoint}
use Rattle.sb_answers.specs.Answers.{HasNoPlan, IsAnswer}
use Rattle.sb_answers.specs.CheckpointFiles.{GivesCheckpoint, HasFaultyLine, IsTooLong, Said, TellsCheckpoint}
use Rattle.sb_answers.specs.Courses.{rest_course}
use Rattle.sb_answers.specs.Faults.{BlamesFile, Faults, HasCause, IsDoneOrMemory, NothingFailsBehind}
use Rattle.sb_answers.specs.told.Outcomes.{IsNoTap}
use Rattle.sb_answers.specs.Pipelines.{TellsCutPlan}
use Rattle.sb_answers.proofs.Answering.{complete_for, no_fault_of_cut, not_blamed, same_plan}
use Rattle.sb_answers.proofs.Blaming.{none_to_blame}

-- a file has one text
same_bytes : (folder : Option Files) (name : List ℕ) (files other : Files) (bytes more : List ℕ) → folder ≡ Some files → folder ≡ Some other → files name ≡ Some bytes → other name ≡ Some more → bytes ≡ more
same_bytes folder name files other bytes more a b c d = let same : files ≡ other = cc (a, b) in let both = sym c ∙ ap (λ (f : Files). f name) same ∙ d in cc both

module _ (folder : Option Files) (name : List ℕ) (plan : Shape) (said : Said) (tells : TellsCheckpoint folder name plan said) where
  abbrev text : List ℕ
  text = tells.2

  -- the file is not too long
  not_long : IsTooLong folder name → ⊥
  not_long long =
      let (bytes, is, more) = long tells.0 tells.1 in
      let same = same_bytes folder name tells.0 tells.0 tells.2 bytes tells.1 tells.1 tells.3 is in
      omega (arith, tells.4, subst (λ b. MAX_CHECKPOINT_BYTES < length b) (sym same) more)

  -- and has no faulty line
  not_faulty : (line : ℕ) → HasFaultyLine folder name plan line → ⊥
  not_faulty line has =
      let (bytes, is, few, fault) = has tells.0 tells.1 in
      let same = same_bytes folder name tells.0 tells.0 tells.2 bytes tells.1 tells.1 tells.3 is in
      (read-or_faulty plan tells.2).not_both said.lines said.low line said.items tells.5 (subst (λ b. IsFaultAt plan (pieces b) line) (sym same) fault)

  -- it says one thing
  says_one : (other : Said) → GivesCheckpoint folder name plan other → other ≡ said
  says_one other gives =
      let (bytes, is, few, read) = gives tells.0 tells.1 in
      let same = same_bytes folder name tells.0 tells.0 tells.2 bytes tells.1 tells.1 tells.3 is in
      let (l, v, i) = (read-or_faulty plan tells.2).one_checkpoint other.lines said.lines other.low said.low other.items said.items
      (subst (λ b. IsRead plan (pieces b) other.lines other.low other.items) (sym same) read) tells.5 in
      (λ j. record { lines = l j; low = v j; items = i j })

module _ (folder : Option Files) (name checkpoint : List ℕ) (options : Options) (plan : Shape) (said : Said) (tells_plan : TellsCutPlan folder name plan)
    (tells : TellsCheckpoint folder checkpoint plan said) where
  -- if the folder's files give a plan and a checkpoint, neither is refused
  begins : (status : Status) → HasNoPlan folder (Resume name checkpoint options) status → (status ≡ Folder → ⊥) → IsDoneOrMemory status
  begins Memory none no_load = inr refl
  begins Folder none no_load = absurd (no_load refl)
  begins (Plan fault) none no_load = absurd (no_fault_of_cut folder name plan fault none tells_plan)
  begins FileTooLong none no_load = absurd (not_long folder checkpoint plan said tells none.1)
  begins (Checkpoint line) none no_load =
      let same = same_plan folder name none.0 plan none.1.1 tells_plan.0 in
      absurd (not_faulty folder checkpoint plan said tells line (subst (λ p. HasFaultyLine folder checkpoint p line) same none.2))
  begins Done none no_load = absurd none
  begins Words none no_load = absurd none
  begins (Line refusal) none no_load = absurd none
  begins (FileLine stream refusal) none no_load = absurd none
  begins Input none no_load = absurd none
  begins Output none no_load = absurd none
  begins (Tap place) none no_load = absurd none
  begins (Audit fault) none no_load = absurd none

  pub rest_is_complete : (left left' taken taken' : Option (List ℕ)) (before now : Faults) (ending : Ending) → IsAnswer folder (Resume name checkpoint options) left left' taken taken' ending
      → HasCause before now ending.status → (ending.status ≡ Folder → BlamesFile folder (Resume name checkpoint options) before.loads now.loads) → IsNoTap ending.status
      → NothingFailsBehind plan said left left' before now → IsDoneOrMemory ending.status
  rest_is_complete left left' taken taken' before now ending (inl none) cause blames no_tap fine =
      begins ending.status none.no_plan (λ is. not_blamed folder (Resume name checkpoint options) before.loads now.loads (blames is) fine.no_load_failed)
  rest_is_complete left left' taken taken' before now ending (inr found) cause blames no_tap fine =
      let (other, is_plan, others, gives, rest_is) = found in
      let rest = rest_is.0 in
      let is = rest_is.2 in
      let same = same_plan folder name other plan is_plan.1 tells_plan.0 in
      let one = says_one folder checkpoint plan said tells others (subst (λ p. GivesCheckpoint folder checkpoint p others) same gives) in
      let c = rest_course others.low other is.given in
      complete_for c.stop c.due c.whole taken taken' before now ending.status is.written cause
      (λ refusal e. accepted other others same one rest is.given refusal e)
      fine.no_read_failed fine.no_write_failed (λ place e. none_to_blame place ending.status no_tap e)
    where
      accepted : (other : Shape) (others : Said) → other ≡ plan → others ≡ said → (rest : List ℕ)
          (given : Given (prepend_known (items_text (with_comments others.lines others.items)) left) (prepend_known rest left')) (refusal : Refusal) → stop_at other given ≡ Refused refusal → ⊥
      accepted other others same one rest given refusal e =
          subst₂ (λ p s. (g : Given (prepend_known (items_text (with_comments s.lines s.items)) left) (prepend_known rest left')) → stop_at p g ≡ Refused refusal → ⊥) (sym same) (sym one)
          (λ g. fine.no_refusal rest g refusal) given e
