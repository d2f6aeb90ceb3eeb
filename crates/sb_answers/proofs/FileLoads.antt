-- What the bytes that were loaded of record files say of the files.
use Rattle.std.proofs.Common.{◌≡◌, ◌≤◌, ◌<◌, ◌+◌, ℕ, List, take, Option, Some, inl, inr, length, sym, ap, subst, arith, ◌∙◌}
use Rattle.std.specs.Prelude.{min}
use Rattle.std.proofs.lemmas.List.{length-take, take_all}
use Rattle.sb_alone.specs.outside.Folders.{Files, IsFile}
use Rattle.sb_alone.specs.feeds.declared.limits.TheConstants.{MAX_FILE_LENGTH}
use Rattle.sb_told.specs.declared.status.Status.{Status}
use Rattle.sb_told.specs.declared.status.Status.TheVariants.{Done, Words, Plan, Line, Input, Output, Folder, Memory, Tap, Audit, FileTooLong, FileLine, Checkpoint}
use Rattle.sb_answers.specs.FileSteps.{HasNoBytes, HaveNoBytes}
use Rattle.sb_answers.specs.RecordFiles.{HasBytes, IsLong}
use Rattle.sb_answers.proofs.CheckpointLoads.{longer, shorter}

module _ (folder : Option Files) (name bytes text : List ℕ) (file : IsFile folder name bytes) (is : text ≡ take (MAX_FILE_LENGTH + 1) bytes) where
  length-is : length text ≡ min (MAX_FILE_LENGTH + 1) (length bytes)
  length-is = ap length is ∙ length-take (MAX_FILE_LENGTH + 1) bytes

  in_file : (files : Files) → folder ≡ Some files → files name ≡ Some bytes
  in_file files told = subst (λ f. IsFile f name bytes) told file

  -- a text that is not too long is all of the file
  pub has_bytes : length text ≤ MAX_FILE_LENGTH → HasBytes folder name text
  has_bytes le =
      let few = shorter MAX_FILE_LENGTH (length bytes) (subst (λ n. n ≤ MAX_FILE_LENGTH) length-is le) in
      let all : text ≡ bytes = is ∙ take_all (MAX_FILE_LENGTH + 1) bytes (omega (arith, few)) in
      record { in_file = λ files told. in_file files told ∙ ap Some (sym all); few = le }

  -- one that is too long is of a file that is
  pub is_long : MAX_FILE_LENGTH < length text → IsLong folder name
  is_long more files told = (bytes, in_file files told, longer MAX_FILE_LENGTH (length bytes) (subst (λ n. MAX_FILE_LENGTH < n) length-is more))

-- why there are no bytes of file a is why there are none of both
pub none_of_a : (folder : Option Files) (file_a file_b : List ℕ) (status : Status) → HasNoBytes folder file_a status → HaveNoBytes folder file_a file_b status
none_of_a folder file_a file_b FileTooLong none = inl none
none_of_a folder file_a file_b Folder none = tt
none_of_a folder file_a file_b Memory none = tt
none_of_a folder file_a file_b Done none = absurd none
none_of_a folder file_a file_b Words none = absurd none
none_of_a folder file_a file_b (Plan fault) none = absurd none
none_of_a folder file_a file_b (Line refusal) none = absurd none
none_of_a folder file_a file_b (FileLine stream refusal) none = absurd none
none_of_a folder file_a file_b Input none = absurd none
none_of_a folder file_a file_b Output none = absurd none
none_of_a folder file_a file_b (Tap place) none = absurd none
none_of_a folder file_a file_b (Audit fault) none = absurd none
none_of_a folder file_a file_b (Checkpoint line) none = absurd none

-- and so it is of file b, where there are bytes of file a
pub none_of_b : (folder : Option Files) (file_a file_b bytes : List ℕ) (status : Status) → HasBytes folder file_a bytes → HasNoBytes folder file_b status → HaveNoBytes folder file_a file_b status
none_of_b folder file_a file_b bytes FileTooLong has none = inr ((bytes, has), none)
none_of_b folder file_a file_b bytes Folder has none = tt
none_of_b folder file_a file_b bytes Memory has none = tt
none_of_b folder file_a file_b bytes Done has none = absurd none
none_of_b folder file_a file_b bytes Words has none = absurd none
none_of_b folder file_a file_b bytes (Plan fault) has none = absurd none
none_of_b folder file_a file_b bytes (Line refusal) has none = absurd none
none_of_b folder file_a file_b bytes (FileLine stream refusal) has none = absurd none
none_of_b folder file_a file_b bytes Input has none = absurd none
none_of_b folder file_a file_b bytes Output has none = absurd none
none_of_b folder file_a file_b bytes (Tap place) has none = absurd none
none_of_b folder file_a file_b bytes (Audit fault) has none = absurd none
none_of_b folder file_a file_b bytes (Checkpoint line) has none = absurd none
