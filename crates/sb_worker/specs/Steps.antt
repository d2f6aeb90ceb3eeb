-- What a worker's step did, by the entries that the trace of its pass has more.
use Rattle.std.specs.Prelude.{◌≡◌, ◌≤◌, ◌⊎◌, ◌++◌, ℕ, List}
use Rattle.sb_cascade.specs.turn.declared.turns.Entry.{Entry}
use Rattle.sb_cascade.specs.hand.declared.did.Did.{Did}
use Rattle.sb_cascade.specs.hand.declared.did.Did.TheVariants.{Bundle, Closing, Nothing}
use Rattle.sb_cascade.specs.shared.declared.telling.Change.{Change}
use Rattle.sb_worker.specs.declared.step.OneStop.{OneStop}
use Rattle.sb_worker.specs.declared.step.OneStop.TheVariants.{Stopped, Memory}
use Rattle.sb_worker.specs.Entries.{Does, FoundNoneFree, FoundNoneFull, Has}
use Rattle.sb_worker.specs.Entries.{is_claimed, is_end_seen, is_idle_of, is_not_yet_of, is_want_raised}

-- a bundle was claimed from a place; or it was taken and kept, as no place was free for it
abbrev pub IsClaiming : List (Entry Change) → Type 0
IsClaiming entries = Does 0 0 entries × (Has is_claimed entries ⊎ FoundNoneFree entries)

-- no place of the shelf was full
abbrev pub IsShelfBare : List (Entry Change) → Type 0
IsShelfBare entries = Does 0 0 entries × FoundNoneFull entries

-- each node up to this one was found without a bundle that waits
abbrev pub IsIdle : ℕ → List (Entry Change) → Type 0
IsIdle sink entries = Does 0 0 entries × ((node : ℕ) → node ≤ sink → Has (is_idle_of node) entries)

-- no place was full, and no bundle waits in a node
abbrev pub IsBareAndIdle : ℕ → List (Entry Change) → Type 0
IsBareAndIdle sink entries = IsIdle sink entries × FoundNoneFull entries

-- the node was found without a bundle that waits
abbrev pub IsIdleAt : ℕ → List (Entry Change) → Type 0
IsIdleAt node entries = Does 0 0 entries × Has (is_idle_of node) entries

-- no closing could begin there
abbrev pub IsNotYetAt : ℕ → List (Entry Change) → Type 0
IsNotYetAt node entries = Does 0 0 entries × Has (is_not_yet_of node) entries

-- at no node up to this one
abbrev pub IsNotYet : ℕ → List (Entry Change) → Type 0
IsNotYet sink entries = Does 0 0 entries × ((node : ℕ) → node ≤ sink → Has (is_not_yet_of node) entries)

-- the node was found without a bundle that waits, and then with no closing that could begin
abbrev pub IsSettledAt : ℕ → List (Entry Change) → Type 0
IsSettledAt node entries =
    (before : List (Entry Change)) × (after : List (Entry Change)) × (entries ≡ before ++ after)
    × Has (is_idle_of node) before × Has (is_not_yet_of node) after

-- what a step did, where the nodes are those up to the sink
abbrev pub IsDone : ℕ → Did → List (Entry Change) → Type 0
IsDone sink Bundle entries = Does 1 0 entries × (Has is_claimed entries ⊎ FoundNoneFree entries)
IsDone sink Closing entries = Does 0 1 entries
IsDone sink Nothing entries =
    IsBareAndIdle sink entries × ((node : ℕ) → node ≤ sink → Has (is_not_yet_of node) entries)

-- why it stopped
abbrev pub IsWhy : OneStop → List (Entry Change) → Type 0
IsWhy Stopped entries = Does 0 0 entries × Has is_end_seen entries
IsWhy Memory entries = Has is_want_raised entries
