-- What stands in the trace of a pass.
use Rattle.std.specs.Prelude.{◌≡◌, ◌≢◌, ◌==◌, ◌&&◌, ℕ, Bool, true, false, not, All, List, ◌++◌, length}
use Rattle.std.specs.List.{count_by, list_any}
use Rattle.sb_cascade.specs.turn.declared.shelf.TheConstants.{PLACES}
use Rattle.sb_cascade.specs.turn.declared.turns.Entry.{Entry}
use Rattle.sb_cascade.specs.turn.declared.turns.Entry.TheVariants.{Left, Saw, Raised, Claimed}
use Rattle.sb_cascade.specs.turn.Turning.{looks_from}
use Rattle.sb_cascade.specs.declared.pass.CascadePass.{CascadePass}
use Rattle.sb_cascade.specs.shared.declared.telling.Change.{Change}
use Rattle.sb_cascade.specs.shared.declared.telling.Change.TheVariants as change
use Rattle.sb_cascade.specs.Calls.{view_of}

-- the trace of the pass has these entries more
abbrev pub Gained : CascadePass → CascadePass → List (Entry Change) → Type 0
Gained p q entries = (view_of q).trace ≡ (view_of p).trace ++ entries

-- it has some entries more, or none
abbrev pub Grows : CascadePass → CascadePass → Type 0
Grows p q = (entries : List (Entry Change)) × Gained p q entries

-- it has entries more of which this holds
abbrev pub Gains : (List (Entry Change) → Type 0) → CascadePass → CascadePass → Type 0
Gains So p q = (entries : List (Entry Change)) × Gained p q entries × So entries

-- a bundle was finished
abbrev pub is_finishing : Change → Bool
is_finishing (change.Finish claim delivered) = true
is_finishing c = false

-- a closing ended
abbrev pub is_ending : Change → Bool
is_ending (change.End closing) = true
is_ending c = false

-- no bundle waits there
abbrev pub is_idling : Change → Bool
is_idling change.Idle = true
is_idling c = false

-- no closing can begin there
abbrev pub is_refusing : Change → Bool
is_refusing (change.NotYet why) = true
is_refusing c = false

-- a leaving that finished a bundle
abbrev pub is_finish : Entry Change → Bool
is_finish (Left node number c) = is_finishing c
is_finish e = false

-- a leaving that ended a closing
abbrev pub is_end : Entry Change → Bool
is_end (Left node number c) = is_ending c
is_end e = false

-- a look under the turn of a node that found no bundle that waits there
abbrev pub is_idle_of : ℕ → Entry Change → Bool
is_idle_of node (Left at number c) = (at == node) && is_idling c
is_idle_of node e = false

-- a look under the turn of a node that found that no closing can begin there
abbrev pub is_not_yet_of : ℕ → Entry Change → Bool
is_not_yet_of node (Left at number c) = (at == node) && is_refusing c
is_not_yet_of node e = false

-- a place was claimed
abbrev pub is_claimed : Entry Change → Bool
is_claimed (Claimed place) = true
is_claimed e = false

-- a load of the state word found that the work ends
abbrev pub is_end_seen : Entry Change → Bool
is_end_seen (Saw n) = not (n == 0)
is_end_seen e = false

-- the state word was raised to say that there was no memory
abbrev pub is_want_raised : Entry Change → Bool
is_want_raised (Raised n) = n == 3
is_want_raised e = false

-- one of the entries is so
abbrev pub Has : (Entry Change → Bool) → List (Entry Change) → Type 0
Has so entries = list_any so entries ≡ true

-- the entries have these side by side
abbrev pub HasRun : List (Entry Change) → List (Entry Change) → Type 0
HasRun run entries =
    (before : List (Entry Change)) × (after : List (Entry Change)) × (entries ≡ before ++ (run ++ after))

-- the 64 places were looked at, one after the other, and none was free
abbrev pub FoundNoneFree : List (Entry Change) → Type 0
FoundNoneFree entries =
    (words : List ℕ) × (length words ≡ PLACES) × All (λ w. w ≢ 0) words × HasRun (looks_from 0 words) entries

-- and none was full
abbrev pub FoundNoneFull : List (Entry Change) → Type 0
FoundNoneFull entries =
    (words : List ℕ) × (length words ≡ PLACES) × All (λ w. w ≢ 2) words × HasRun (looks_from 0 words) entries

-- so many bundles were finished, and so many closings ended
abbrev pub Does : ℕ → ℕ → List (Entry Change) → Type 0
Does finishes ends entries = (count_by is_finish entries ≡ finishes) × (count_by is_end entries ≡ ends)
