-- From the file of a checkpoint to what it says.
use Rattle.std.specs.Prelude.{◌≤◌, ◌<◌, ℕ, List, Option, length, ⊤}
use Rattle.sb_alone.specs.outside.Folders.{Files}
use Rattle.sb_alone.specs.base.pipeline.Shapes.{Shape}
use Rattle.sb_checkpoint.specs.declared.checkpoint.Checkpoint.{Checkpoint}
use Rattle.sb_checkpoint.specs.Saved.{items_in}
use Rattle.sb_checkpoint.specs.Texts.{IsFaultAt, IsRead, pieces}
use Rattle.sb_answers.specs.declared.limits.TheConstants.{MAX_CHECKPOINT_BYTES}
use Rattle.sb_told.specs.declared.status.Status.{Status}
use Rattle.sb_told.specs.declared.status.Status.TheVariants.{Done, Words, Plan, Line, Input, Output, Folder, Memory, Tap, Audit, FileTooLong, FileLine, Checkpoint as Faulty}
use Rattle.sb_answers.specs.CheckpointFiles.{HasFaultyLine, IsTooLong, Said}

-- what a checkpoint says
abbrev pub said_by : Checkpoint → Said
said_by c = record { lines = c.lines; low = c.low; items = items_in c }

-- a text says this
abbrev pub IsSaidIn : Shape → List ℕ → Said → Type 0
IsSaidIn plan text said =
    (length text ≤ MAX_CHECKPOINT_BYTES) × IsRead plan (pieces text) said.lines said.low said.items

-- why a text is no checkpoint
abbrev pub IsNoneIn : Shape → List ℕ → Status → Type 0
IsNoneIn plan text FileTooLong = MAX_CHECKPOINT_BYTES < length text
IsNoneIn plan text (Faulty line) = (length text ≤ MAX_CHECKPOINT_BYTES) × IsFaultAt plan (pieces text) line
IsNoneIn plan text Memory = ⊤
IsNoneIn plan text Folder = ⊥
IsNoneIn plan text Done = ⊥
IsNoneIn plan text Words = ⊥
IsNoneIn plan text (Plan fault) = ⊥
IsNoneIn plan text (Line refusal) = ⊥
IsNoneIn plan text (FileLine stream refusal) = ⊥
IsNoneIn plan text Input = ⊥
IsNoneIn plan text Output = ⊥
IsNoneIn plan text (Tap place) = ⊥
IsNoneIn plan text (Audit fault) = ⊥

-- why a file is no checkpoint
abbrev pub HasNoCheckpoint : Option Files → List ℕ → Shape → Status → Type 0
HasNoCheckpoint folder name plan FileTooLong = IsTooLong folder name
HasNoCheckpoint folder name plan (Faulty line) = HasFaultyLine folder name plan line
HasNoCheckpoint folder name plan Memory = ⊤
HasNoCheckpoint folder name plan Folder = ⊤
HasNoCheckpoint folder name plan Done = ⊥
HasNoCheckpoint folder name plan Words = ⊥
HasNoCheckpoint folder name plan (Plan fault) = ⊥
HasNoCheckpoint folder name plan (Line refusal) = ⊥
HasNoCheckpoint folder name plan (FileLine stream refusal) = ⊥
HasNoCheckpoint folder name plan Input = ⊥
HasNoCheckpoint folder name plan Output = ⊥
HasNoCheckpoint folder name plan (Tap place) = ⊥
HasNoCheckpoint folder name plan (Audit fault) = ⊥
