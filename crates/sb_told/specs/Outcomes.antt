-- What a status says of the input, of the rows and of the taps; and what became of one text that was written.
use Rattle.std.specs.Prelude.{ℕ, List, Option, ⊤}
use Rattle.std.specs.Io.KnownBytes.{Appends}
use Rattle.sb_feed.specs.outside.Sinks.{AppendsPrefix}
use Rattle.sb_told.specs.declared.status.Status.{Status}
use Rattle.sb_told.specs.declared.status.Status.TheVariants.{Done, Words, Plan, Line, Input, Output, Folder, Memory, Tap, Audit, FileTooLong, FileLine, Checkpoint}

-- a status at which the input was not read
abbrev pub IsUnread : Status → Type 0
IsUnread Words = ⊤
IsUnread (Plan fault) = ⊤
IsUnread Folder = ⊤
IsUnread Done = ⊥
IsUnread (Line refusal) = ⊥
IsUnread (FileLine stream refusal) = ⊥
IsUnread Input = ⊥
IsUnread Output = ⊥
IsUnread Memory = ⊥
IsUnread (Tap place) = ⊥
IsUnread (Audit fault) = ⊥
IsUnread FileTooLong = ⊤
IsUnread (Checkpoint line) = ⊤

-- a status at which the input was read, or out of memory
abbrev pub IsRead : Status → Type 0
IsRead Words = ⊥
IsRead (Plan fault) = ⊥
IsRead Folder = ⊥
IsRead Done = ⊤
IsRead (Line refusal) = ⊤
IsRead (FileLine stream refusal) = ⊤
IsRead Input = ⊤
IsRead Output = ⊤
IsRead Memory = ⊤
IsRead (Tap place) = ⊤
IsRead (Audit fault) = ⊤
IsRead FileTooLong = ⊥
IsRead (Checkpoint line) = ⊥

-- a status at which all rows that are due were written
abbrev pub IsWritten : Status → Type 0
IsWritten Done = ⊤
IsWritten (Line refusal) = ⊤
IsWritten (FileLine stream refusal) = ⊤
IsWritten Input = ⊤
IsWritten Words = ⊥
IsWritten (Plan fault) = ⊥
IsWritten Output = ⊥
IsWritten Folder = ⊥
IsWritten Memory = ⊥
IsWritten (Tap place) = ⊥
IsWritten (Audit fault) = ⊥
IsWritten FileTooLong = ⊥
IsWritten (Checkpoint line) = ⊥

-- no tap has failed
abbrev pub IsNoTap : Status → Type 0
IsNoTap (Tap place) = ⊥
IsNoTap Done = ⊤
IsNoTap Words = ⊤
IsNoTap (Plan fault) = ⊤
IsNoTap (Line refusal) = ⊤
IsNoTap (FileLine stream refusal) = ⊤
IsNoTap Input = ⊤
IsNoTap Output = ⊤
IsNoTap Folder = ⊤
IsNoTap Memory = ⊤
IsNoTap (Audit fault) = ⊤
IsNoTap FileTooLong = ⊤
IsNoTap (Checkpoint line) = ⊤

-- what became of one text, by how the run ended: all of it was written, or a prefix of it if writing failed or there
-- was no memory
abbrev pub HasPrinted : List ℕ → Option (List ℕ) → Option (List ℕ) → Status → Type 0
HasPrinted text taken taken' Done = Appends taken taken' text
HasPrinted text taken taken' Output = AppendsPrefix taken taken' text
HasPrinted text taken taken' Memory = AppendsPrefix taken taken' text
HasPrinted text taken taken' Words = ⊥
HasPrinted text taken taken' (Plan fault) = ⊥
HasPrinted text taken taken' (Line refusal) = ⊥
HasPrinted text taken taken' (FileLine stream refusal) = ⊥
HasPrinted text taken taken' Input = ⊥
HasPrinted text taken taken' Folder = ⊥
HasPrinted text taken taken' (Tap place) = ⊥
HasPrinted text taken taken' (Audit fault) = ⊥
HasPrinted text taken taken' FileTooLong = ⊥
HasPrinted text taken taken' (Checkpoint line) = ⊥
