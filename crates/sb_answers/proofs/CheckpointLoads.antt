-- What the bytes that were loaded of a checkpoint's file say of the file.
use Rattle.std.proofs.Common.{◌≡◌, ◌≤◌, ◌<◌, ◌+◌, ℕ, List, take, Option, Some, length, ap, subst, arith, ◌∙◌}
use Rattle.std.specs.Prelude.{min}
use Rattle.std.proofs.lemmas.List.{length-take, take_all}
use Rattle.sb_alone.specs.outside.Folders.{Files, IsFile}
use Rattle.sb_alone.specs.base.pipeline.Shapes.{Shape}
use Rattle.sb_checkpoint.specs.Texts.{IsFaultAt, IsRead, pieces}
use Rattle.sb_answers.specs.declared.limits.TheConstants.{MAX_CHECKPOINT_BYTES}
use Rattle.sb_told.specs.declared.status.Status.{Status}
use Rattle.sb_told.specs.declared.status.Status.TheVariants.{Done, Words, Plan, Line, Input, Output, Folder, Memory, Tap, Audit, FileTooLong, FileLine, Checkpoint}
use Rattle.sb_answers.specs.CheckpointFiles.{GivesCheckpoint, Said}
use Rattle.sb_answers.specs.RestSteps.{HasNoCheckpoint, IsNoneIn, IsSaidIn}

-- the least of two numbers is one of them
pub shorter : (most n : ℕ) → min (most + 1) n ≤ most → n ≤ most
shorter most n h = omega (arith, h)

pub longer : (most n : ℕ) → most < min (most + 1) n → most < n
longer most n h = omega (arith, h)

module _ (folder : Option Files) (name bytes text : List ℕ) (file : IsFile folder name bytes) (is : text ≡ take (MAX_CHECKPOINT_BYTES + 1) bytes) where
  length-is : length text ≡ min (MAX_CHECKPOINT_BYTES + 1) (length bytes)
  length-is = ap length is ∙ length-take (MAX_CHECKPOINT_BYTES + 1) bytes

  -- a text that is not too long is all of the file
  few : length text ≤ MAX_CHECKPOINT_BYTES → length bytes ≤ MAX_CHECKPOINT_BYTES
  few le = shorter MAX_CHECKPOINT_BYTES (length bytes) (subst (λ n. n ≤ MAX_CHECKPOINT_BYTES) length-is le)

  all : length text ≤ MAX_CHECKPOINT_BYTES → text ≡ bytes
  all le = is ∙ take_all (MAX_CHECKPOINT_BYTES + 1) bytes (omega (arith, few le))

  in_file : (files : Files) → folder ≡ Some files → files name ≡ Some bytes
  in_file files told = subst (λ f. IsFile f name bytes) told file

  pub gives : (plan : Shape) (said : Said) → IsSaidIn plan text said → GivesCheckpoint folder name plan said
  gives plan said (le, read) files told = (bytes, in_file files told, few le, subst (λ b. IsRead plan (pieces b) said.lines said.low said.items) (all le) read)

  pub gives_none : (plan : Shape) (status : Status) → IsNoneIn plan text status → HasNoCheckpoint folder name plan status
  gives_none plan FileTooLong none = λ files told. (bytes, in_file files told, longer MAX_CHECKPOINT_BYTES (length bytes) (subst (λ n. MAX_CHECKPOINT_BYTES < n) length-is none))
  gives_none plan (Checkpoint line) none = λ files told. (bytes, in_file files told, few none.0, subst (λ b. IsFaultAt plan (pieces b) line) (all none.0) none.1)
  gives_none plan Memory none = tt
  gives_none plan Folder none = absurd none
  gives_none plan Done none = absurd none
  gives_none plan Words none = absurd none
  gives_none plan (Plan fault) none = absurd none
  gives_none plan (Line refusal) none = absurd none
  gives_none plan (FileLine stream refusal) none = absurd none
  gives_none plan Input none = absurd none
  gives_none plan Output none = absurd none
  gives_none plan (Tap place) none = absurd none
  gives_none plan (Audit fault) none = absurd none
