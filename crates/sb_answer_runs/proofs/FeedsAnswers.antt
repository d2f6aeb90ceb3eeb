-- Why a run over two files is done if nothing fails, and that no run begins without them.
use Rattle.std.proofs.Common.{inl, inr, ◌≡◌, ◌<◌, ℕ, List, Option, length, refl, sym, ap, subst, arith, ◌∙◌}
use Rattle.sb_answers.specs.base.records.declared.item.Stream.{Stream}
use Rattle.sb_answers.specs.base.records.declared.item.Stream.TheVariants.{A, B}
use Rattle.sb_answers.specs.outside.Folders.{Files}
use Rattle.sb_answers.specs.outside.Sources.{Rose}
use Rattle.sb_answers.specs.base.pipeline.Shapes.{Shape}
use Rattle.sb_answers.specs.emit.Taps.{TapState}
use Rattle.sb_answers.specs.alone.feeds.declared.limits.TheConstants.{MAX_FILE_LENGTH}
use Rattle.sb_answers.specs.alone.feeds.Files.{NoneRefused, accepted_of_file}
use Rattle.sb_answers.specs.words.Words.Asked.{Feeds}
use Rattle.sb_answers.specs.words.declared.options.Options.{Options}
use Rattle.sb_answers.specs.declared.ending.Ending.{Ending}
use Rattle.sb_answers.specs.told.declared.status.Status.{Status}
use Rattle.sb_answers.specs.told.declared.status.Status.TheVariants.{Done, Words, Plan, Line, Input, Output, Folder, Memory, Tap, Audit, FileTooLong, FileLine, Checkpoint}
use Rattle.sb_answers.specs.Answers.{HasNoPlan, HasWrittenOfFiles, IsAnswer}
use Rattle.sb_answers.specs.Faults.{BlamesFile, Faults, HasCause, HidesNoFault, IsDoneOrMemory, NothingFailsInFiles}
use Rattle.sb_answers.specs.FileSteps.{HaveNoBytes}
use Rattle.sb_answers.specs.Offered.{BlamesTap}
use Rattle.sb_answers.specs.told.Outcomes.{IsNoTap}
use Rattle.sb_answers.specs.Pipelines.{HasPlan, TellsPlanIn}
use Rattle.sb_answers.specs.RecordFiles.{HasBytes, HasLongFile, HaveBytes, IsLong, TellsBoth, TellsBytes}
use Rattle.sb_answers.proofs.Answering.{no_fault, not_blamed, same_plan}

-- there is a plan, and no bytes of one of the files
pub no_bytes : (folder : Option Files) (name file_a file_b : List ℕ) (options : Options) (status : Status) → HasPlan folder name → HaveNoBytes folder file_a file_b status
    → HasNoPlan folder (Feeds name file_a file_b options) status
no_bytes folder name file_a file_b options FileTooLong plan none = (plan, none)
no_bytes folder name file_a file_b options Folder plan none = tt
no_bytes folder name file_a file_b options Memory plan none = tt
no_bytes folder name file_a file_b options Done plan none = absurd none
no_bytes folder name file_a file_b options Words plan none = absurd none
no_bytes folder name file_a file_b options (Plan fault) plan none = absurd none
no_bytes folder name file_a file_b options (Line refusal) plan none = absurd none
no_bytes folder name file_a file_b options (FileLine stream refusal) plan none = absurd none
no_bytes folder name file_a file_b options Input plan none = absurd none
no_bytes folder name file_a file_b options Output plan none = absurd none
no_bytes folder name file_a file_b options (Tap place) plan none = absurd none
no_bytes folder name file_a file_b options (Audit fault) plan none = absurd none
no_bytes folder name file_a file_b options (Checkpoint line) plan none = absurd none

-- then no tap has failed
pub none_calls : (folder : Option Files) (file_a file_b : List ℕ) (status : Status) → HaveNoBytes folder file_a file_b status → IsNoTap status
none_calls folder file_a file_b FileTooLong none = tt
none_calls folder file_a file_b Folder none = tt
none_calls folder file_a file_b Memory none = tt
none_calls folder file_a file_b Done none = tt
none_calls folder file_a file_b Words none = tt
none_calls folder file_a file_b (Plan fault) none = tt
none_calls folder file_a file_b (Line refusal) none = tt
none_calls folder file_a file_b (FileLine stream refusal) none = tt
none_calls folder file_a file_b Input none = tt
none_calls folder file_a file_b Output none = tt
none_calls folder file_a file_b (Tap place) none = absurd none
none_calls folder file_a file_b (Audit fault) none = tt
none_calls folder file_a file_b (Checkpoint line) none = tt

-- nor a read or a write
pub none_causes : (folder : Option Files) (file_a file_b : List ℕ) (before now : Faults) (status : Status) → HaveNoBytes folder file_a file_b status → HasCause before now status
none_causes folder file_a file_b before now FileTooLong none = tt
none_causes folder file_a file_b before now Folder none = tt
none_causes folder file_a file_b before now Memory none = tt
none_causes folder file_a file_b before now Done none = tt
none_causes folder file_a file_b before now Words none = tt
none_causes folder file_a file_b before now (Plan fault) none = tt
none_causes folder file_a file_b before now (Line refusal) none = tt
none_causes folder file_a file_b before now (FileLine stream refusal) none = tt
none_causes folder file_a file_b before now Input none = absurd none
none_causes folder file_a file_b before now Output none = absurd none
none_causes folder file_a file_b before now (Tap place) none = tt
none_causes folder file_a file_b before now (Audit fault) none = tt
none_causes folder file_a file_b before now (Checkpoint line) none = tt

-- a load that failed is told
pub none_hides : (folder : Option Files) (file_a file_b : List ℕ) (before now : Faults) (status : Status) → now.reads ≡ before.reads → now.writes ≡ before.writes
    → ((status ≡ Folder → ⊥) → now.loads ≡ before.loads) → HaveNoBytes folder file_a file_b status → HidesNoFault before now status
none_hides folder file_a file_b before now FileTooLong reads writes loads none = let same = loads (λ e. cc e) in (λ i. record { reads = reads i; writes = writes i; loads = same i })
none_hides folder file_a file_b before now Folder reads writes loads none = (reads, writes)
none_hides folder file_a file_b before now Memory reads writes loads none = loads (λ e. cc e)
none_hides folder file_a file_b before now Done reads writes loads none = absurd none
none_hides folder file_a file_b before now Words reads writes loads none = absurd none
none_hides folder file_a file_b before now (Plan fault) reads writes loads none = absurd none
none_hides folder file_a file_b before now (Line refusal) reads writes loads none = absurd none
none_hides folder file_a file_b before now (FileLine stream refusal) reads writes loads none = absurd none
none_hides folder file_a file_b before now Input reads writes loads none = absurd none
none_hides folder file_a file_b before now Output reads writes loads none = absurd none
none_hides folder file_a file_b before now (Tap place) reads writes loads none = absurd none
none_hides folder file_a file_b before now (Audit fault) reads writes loads none = absurd none
none_hides folder file_a file_b before now (Checkpoint line) reads writes loads none = absurd none

-- a file that has few bytes is not too long
not_long : (folder : Option Files) (name bytes : List ℕ) → TellsBytes folder name bytes → IsLong folder name → ⊥
not_long folder name bytes tells long =
    let (more, is, many) = long tells.0 tells.1 in
    let both = sym tells.2 ∙ is in
    let same : bytes ≡ more = cc both in
    omega (arith, tells.3, subst (λ l. MAX_FILE_LENGTH < length l) (sym same) many)

-- the bytes that were read are those that the folder tells
same_bytes : (folder : Option Files) (name bytes read : List ℕ) → TellsBytes folder name bytes → HasBytes folder name read → read ≡ bytes
same_bytes folder name bytes read tells has = let both = sym (has.in_file tells.0 tells.1) ∙ tells.2 in cc both

module _ (folder : Option Files) (name file_a file_b : List ℕ) (options : Options) (plan : Shape) (files : Stream → List ℕ) (tells_plan : TellsPlanIn folder name plan)
    (tells : TellsBoth folder file_a file_b files) where
  none_long : HasLongFile folder file_a file_b → ⊥
  none_long (inl long) = not_long folder file_a (files A) tells.of_a long
  none_long (inr long) = not_long folder file_b (files B) tells.of_b long.1

  -- if the folder's files give a plan and both files, none is refused
  begins : (status : Status) → HasNoPlan folder (Feeds name file_a file_b options) status → (status ≡ Folder → ⊥) → IsDoneOrMemory status
  begins Memory none no_load = inr refl
  begins Folder none no_load = absurd (no_load refl)
  begins (Plan fault) none no_load = absurd (no_fault folder name plan fault none tells_plan)
  begins FileTooLong none no_load = absurd (none_long none.1)
  begins (Checkpoint line) none no_load = absurd none
  begins Done none no_load = absurd none
  begins Words none no_load = absurd none
  begins (Line refusal) none no_load = absurd none
  begins (FileLine stream refusal) none no_load = absurd none
  begins Input none no_load = absurd none
  begins Output none no_load = absurd none
  begins (Tap place) none no_load = absurd none
  begins (Audit fault) none no_load = absurd none

  -- no line of what was read is refused
  accepted : (other : Shape) (read : Stream → List ℕ) → other ≡ plan → HaveBytes folder file_a file_b read → NoneRefused plan files → NoneRefused other read
  accepted other read same have none A =
      let bytes = same_bytes folder file_a (files A) (read A) tells.of_a have.of_a in
      ap (λ (p : Shape × List ℕ). (accepted_of_file p.0 A p.1).refused) (λ i. (same i, bytes i)) ∙ none A
  accepted other read same have none B =
      let bytes = same_bytes folder file_b (files B) (read B) tells.of_b have.of_b in
      ap (λ (p : Shape × List ℕ). (accepted_of_file p.0 B p.1).refused) (λ i. (same i, bytes i)) ∙ none B

  -- then the first refused line is none
  complete : (other : Shape) (read : Stream → List ℕ) (taken taken' : Option (List ℕ)) (before now : Faults) (status : Status) → HasWrittenOfFiles other read taken taken' status
      → HasCause before now status → NoneRefused other read → (Rose before.writes now.writes → ⊥) → ((place : ℕ) → status ≡ Tap place → ⊥) → IsDoneOrMemory status
  complete other read taken taken' before now Done is cause none wrote tap = inl refl
  complete other read taken taken' before now Memory is cause none wrote tap = inr refl
  complete other read taken taken' before now (FileLine A refusal) is cause none wrote tap = let both = sym (none A) ∙ is.0 in absurd (cc both)
  complete other read taken taken' before now (FileLine B refusal) is cause none wrote tap = let both = sym (none B) ∙ is.0.1 in absurd (cc both)
  complete other read taken taken' before now Output is cause none wrote tap = absurd (wrote cause)
  complete other read taken taken' before now (Tap place) is cause none wrote tap = absurd (tap place refl)
  complete other read taken taken' before now Words is cause none wrote tap = absurd is
  complete other read taken taken' before now (Plan fault) is cause none wrote tap = absurd is
  complete other read taken taken' before now (Line refusal) is cause none wrote tap = absurd is
  complete other read taken taken' before now Input is cause none wrote tap = absurd is
  complete other read taken taken' before now Folder is cause none wrote tap = absurd is
  complete other read taken taken' before now (Audit fault) is cause none wrote tap = absurd is
  complete other read taken taken' before now FileTooLong is cause none wrote tap = absurd is
  complete other read taken taken' before now (Checkpoint line) is cause none wrote tap = absurd is

  pub feeds_is_complete : (left left' taken taken' : Option (List ℕ)) (before now : Faults) (taps taps' : List TapState) (ending : Ending)
      → IsAnswer folder (Feeds name file_a file_b options) left left' taken taken' ending → HasCause before now ending.status
      → (ending.status ≡ Folder → BlamesFile folder (Feeds name file_a file_b options) before.loads now.loads)
      → ((place : ℕ) → ending.status ≡ Tap place → BlamesTap place taps taps') → NothingFailsInFiles plan files before now taps taps' → IsDoneOrMemory ending.status
  feeds_is_complete left left' taken taken' before now taps taps' ending (inl none) cause blames tap fine =
      begins ending.status none.no_plan (λ is. not_blamed folder (Feeds name file_a file_b options) before.loads now.loads (blames is) fine.no_load_failed)
  feeds_is_complete left left' taken taken' before now taps taps' ending (inr found) cause blames tap fine =
      let (other, is_plan, read, have, unread, is) = found in
      let same = same_plan folder name other plan is_plan.1 tells_plan in
      complete other read taken taken' before now ending.status is.written cause (accepted other read same have fine.no_refusal) fine.no_write_failed
      (λ place e. fine.no_tap_failed place (tap place e))
