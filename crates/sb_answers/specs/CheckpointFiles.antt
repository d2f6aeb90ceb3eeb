-- What is read in the file of a checkpoint.
use Rattle.std.specs.Prelude.{◌≡◌, ◌≤◌, ◌<◌, ℕ, ◌+◌, List, Option, Some, length}
use Rattle.sb_alone.specs.base.records.declared.item.Item.{Item}
use Rattle.sb_alone.specs.outside.Folders.{Files, Load}
use Rattle.sb_alone.specs.base.pipeline.Shapes.{Shape}
use Rattle.sb_checkpoint.specs.Texts.{IsFaultAt, IsRead, pieces}
use Rattle.sb_answers.specs.declared.limits.TheConstants.{MAX_CHECKPOINT_BYTES}

-- the load of the file: one byte more than it may have shows that it is too long
abbrev pub checkpoint_load : List ℕ → Load
checkpoint_load name = record { name = name; most = MAX_CHECKPOINT_BYTES + 1 }

-- the file, where the folder tells its files, has few enough bytes, and this is so of them
abbrev pub IsSoOfFile : Option Files → List ℕ → (List ℕ → Type 0) → Type 0
IsSoOfFile folder name So =
    (files : Files) → folder ≡ Some files
    → (bytes : List ℕ) × (files name ≡ Some bytes) × (length bytes ≤ MAX_CHECKPOINT_BYTES) × So bytes

-- what a checkpoint says: so many lines, this low watermark and these items
pub record Said : Type 0 where
  pub lines : ℕ
  pub low : ℕ
  pub items : List Item

-- the file is a checkpoint that says this
abbrev pub GivesCheckpoint : Option Files → List ℕ → Shape → Said → Type 0
GivesCheckpoint folder name plan said =
    IsSoOfFile folder name (λ bytes. IsRead plan (pieces bytes) said.lines said.low said.items)

-- this is its first faulty line
abbrev pub HasFaultyLine : Option Files → List ℕ → Shape → ℕ → Type 0
HasFaultyLine folder name plan line = IsSoOfFile folder name (λ bytes. IsFaultAt plan (pieces bytes) line)

-- the file is too long
abbrev pub IsTooLong : Option Files → List ℕ → Type 0
IsTooLong folder name =
    (files : Files) → folder ≡ Some files
    → (bytes : List ℕ) × (files name ≡ Some bytes) × (MAX_CHECKPOINT_BYTES < length bytes)

-- the folder tells its files, and one of them is a checkpoint that says this
abbrev pub TellsCheckpoint : Option Files → List ℕ → Shape → Said → Type 0
TellsCheckpoint folder name plan said =
    (files : Files) × (folder ≡ Some files) × (bytes : List ℕ) × (files name ≡ Some bytes)
    × (length bytes ≤ MAX_CHECKPOINT_BYTES) × IsRead plan (pieces bytes) said.lines said.low said.items
