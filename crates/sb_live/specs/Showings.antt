-- What contracts see of a writer, and what rows make of it.
use Rattle.std.specs.Prelude.{◌≡◌, ◌⊎◌, ℕ, Bool, false, List, ◌++◌}
use Rattle.sb_emit.specs.records.declared.item.Record.{Record}
use Rattle.sb_emit.specs.outside.Sinks.{SinkState}
use Rattle.sb_live.specs.declared.change.Change.{Change}
use Rattle.sb_live.specs.Changes.{rows_in}
use Rattle.sb_live.specs.Rising.{RiseFrom, next_in}

-- what a writer has shown, and whether it has run out of memory and shows nothing more
pub record Showing : Type 0 where
  pub changes : List Change
  pub is_spent : Bool

-- an output over a writer: how often the rows of a call fell or were not above those shown before, and how often it was
-- out of memory
pub record ShownRows : Type 0 where
  pub out : Showing
  pub faults : ℕ
  pub shortages : ℕ

-- the changes have grown by exactly these rows, in whatever calls
pub record Shows (old : List Change) (rows : List Record) (new : List Change) : Type 0 where
  pub more : List Change
  pub grown : new ≡ old ++ more
  pub shown : rows_in more ≡ rows

-- what an output over a writer counts
abbrev pub counts_of : ShownRows → SinkState
counts_of s = record { faults = s.faults; shortages = s.shortages; refuses = false }

-- the changes have grown by the first rows
pub record ShowsPrefix (old : List Change) (rows : List Record) (new : List Change) : Type 0 where
  pub prefix : List Record
  pub rest : List Record
  pub whole : rows ≡ prefix ++ rest
  pub shows : Shows old prefix new

-- an output has shown exactly these rows, and counted no fault
pub record ShowsAll (old : ShownRows) (rows : List Record) (new : ShownRows) : Type 0 where
  pub shows : Shows old.out.changes rows new.out.changes
  pub faultless : new.faults ≡ old.faults

-- an output has shown the first of the rows, and counted a fault only if the rows do not rise from above the last one
-- before
pub record ShowsSome (old : ShownRows) (rows : List Record) (new : ShownRows) : Type 0 where
  pub shows : ShowsPrefix old.out.changes rows new.out.changes
  pub falls : (new.faults ≡ old.faults) ⊎ (RiseFrom (next_in old.out.changes) rows → ⊥)
