-- How the lists of the writer and the readers follow the table.
use Rattle.std.specs.Prelude.{◌≡◌, ℕ, List}
use mathlib.Core.Option.{some}
use lib.ListN.{get_elem?}
use Rattle.sb_live.specs.declared.change.Change.{Change}
use Rattle.sb_live.specs.Changes.{AreCallsApart, IsPrefix, IsWhole, rows_in}
use Rattle.sb_live.specs.Rising.{RiseFrom}

-- the rule: the changes of the table are whole calls, which are apart and whose rows rise, and they begin with the list
-- of each end
pub record Follows (changes : List Change) (lists : List (List Change)) : Type 0 where
  pub whole : IsWhole changes
  pub rising : RiseFrom 0 (rows_in changes)
  pub apart : AreCallsApart changes
  pub each : (seat : ℕ) (list : List Change) → get_elem? lists seat ≡ some list → IsPrefix list changes

-- the list of an end grows to that of the table
pub record Sees (before changes after : List Change) : Type 0 where
  pub grows : IsPrefix before changes
  pub whole : IsWhole changes
  pub rising : RiseFrom 0 (rows_in changes)
  pub apart : AreCallsApart changes
  pub same : after ≡ changes
