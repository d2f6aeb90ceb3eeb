-- What is read in the files of two streams.
use Rattle.std.specs.Prelude.{◌≡◌, ◌≤◌, ◌<◌, ◌⊎◌, ℕ, ◌+◌, List, Option, Some, length}
use Rattle.sb_alone.specs.base.records.declared.item.Stream.{Stream}
use Rattle.sb_alone.specs.base.records.declared.item.Stream.TheVariants.{A, B}
use Rattle.sb_alone.specs.outside.Folders.{Files, Load}
use Rattle.sb_alone.specs.feeds.declared.limits.TheConstants.{MAX_FILE_LENGTH}

-- the load of a record file: one byte more than it may have shows that it is too long
abbrev pub record_load : List ℕ → Load
record_load name = record { name = name; most = MAX_FILE_LENGTH + 1 }

-- these are the bytes of the file, where the folder tells its files, and they are few enough
pub record HasBytes (folder : Option Files) (name bytes : List ℕ) : Type 0 where
  pub in_file : (files : Files) → folder ≡ Some files → files name ≡ Some bytes
  pub few : length bytes ≤ MAX_FILE_LENGTH

-- those of file a, and those of file b
pub record HaveBytes (folder : Option Files) (file_a file_b : List ℕ) (bytes : Stream → List ℕ) : Type 0 where
  pub of_a : HasBytes folder file_a (bytes A)
  pub of_b : HasBytes folder file_b (bytes B)

-- the file is not too long
abbrev pub IsShort : Option Files → List ℕ → Type 0
IsShort folder name = (bytes : List ℕ) × HasBytes folder name bytes

-- the file is too long
abbrev pub IsLong : Option Files → List ℕ → Type 0
IsLong folder name =
    (files : Files) → folder ≡ Some files
    → (bytes : List ℕ) × (files name ≡ Some bytes) × (MAX_FILE_LENGTH < length bytes)

-- file a is too long, or file b is where file a is not
abbrev pub HasLongFile : Option Files → List ℕ → List ℕ → Type 0
HasLongFile folder file_a file_b = IsLong folder file_a ⊎ (IsShort folder file_a × IsLong folder file_b)

-- the load is of a record file: of file a, or of file b, whose turn comes once file a is not too long
abbrev pub IsLoadOfFile : Option Files → List ℕ → List ℕ → Load → Type 0
IsLoadOfFile folder file_a file_b load =
    (load ≡ record_load file_a) ⊎ ((load ≡ record_load file_b) × IsShort folder file_a)

-- the folder tells its files, and one of them has these bytes, which are few enough
abbrev pub TellsBytes : Option Files → List ℕ → List ℕ → Type 0
TellsBytes folder name bytes =
    (files : Files) × (folder ≡ Some files) × (files name ≡ Some bytes) × (length bytes ≤ MAX_FILE_LENGTH)

-- so it is of both files
pub record TellsBoth (folder : Option Files) (file_a file_b : List ℕ) (bytes : Stream → List ℕ) : Type 0 where
  pub of_a : TellsBytes folder file_a (bytes A)
  pub of_b : TellsBytes folder file_b (bytes B)
