-- What a pass did at the shelf, by its trace.
use Rattle.std.specs.Prelude.{◌≡◌, ◌≢◌, ◌⊎◌, ◌<◌, ℕ, All, Bool, true, false, List, [], ◌∷◌, ◌++◌, length, None, Some}
use Rattle.std.specs.List.{AllByRecursion}
use Rattle.sb_shared.specs.turn.declared.shelf.TheConstants.{PLACES}
use Rattle.sb_shared.specs.turn.declared.turns.Entry.{Entry}
use Rattle.sb_shared.specs.turn.declared.turns.Entry.TheVariants as entry
use Rattle.sb_shared.specs.turn.Turning.{looks_from}
use Rattle.sb_hand.specs.work.declared.claim.Claim.{Claim}
use Rattle.sb_cascade.specs.declared.pass.CascadePass.{CascadePass}
use Rattle.sb_shared.specs.declared.telling.Change.{Change}
use Rattle.sb_shared.specs.declared.telling.Change.TheVariants as change
use Rattle.sb_cascade.specs.Calls.{view_of}

-- a bundle was taken
abbrev pub is_take : Change → Bool
is_take (change.Take claim link) = true
is_take c = false

-- a try at a node's turn, a look at a place in vain, or a leaving that took a bundle
abbrev pub is_search : Entry Change → Bool
is_search (entry.Held node) = true
is_search (entry.Left node number c) = is_take c
is_search (entry.Saw n) = false
is_search (entry.Raised n) = false
is_search (entry.Looked place word) = true
is_search (entry.Claimed place) = false

-- the trace has entries of a search more, and these last
abbrev pub EndsWith : List (Entry Change) → CascadePass → CascadePass → Type 0
EndsWith last p q = (more : List (Entry Change)) × AllByRecursion (λ e. is_search e ≡ true) more
    × ((view_of q).trace ≡ (view_of p).trace ++ (more ++ last))

-- each of the 64 places was looked at, and was not free
abbrev pub FoundNoneFree : CascadePass → CascadePass → Type 0
FoundNoneFree p q =
    (words : List ℕ) × (length words ≡ PLACES) × All (λ w. w ≢ 0) words × EndsWith (looks_from 0 words) p q

-- and was not full; the pass kept none
abbrev pub FoundNoneFull : CascadePass → CascadePass → Type 0
FoundNoneFull p q =
    (p.kept ≡ None) × ((words : List ℕ) × (length words ≡ PLACES) × All (λ w. w ≢ 2) words
    × ((view_of q).trace ≡ (view_of p).trace ++ looks_from 0 words))

-- the pass keeps a bundle: the one that it kept before, and it did nothing, or one of the node for which it found no
-- place
abbrev pub KeepsOne : ℕ → CascadePass → CascadePass → Type 0
KeepsOne node p q =
    (claim : Claim) × (q.kept ≡ Some claim) × (((p.kept ≡ Some claim) × (view_of q ≡ view_of p))
    ⊎ ((p.kept ≡ None) × (claim.node ≡ node) × FoundNoneFree p q))

-- a look under the node's turn found no bundle that waits there
abbrev pub WasIdle : ℕ → CascadePass → CascadePass → Type 0
WasIdle node p q = (lines : ℕ) × EndsWith (entry.Left node lines change.Idle ∷ []) p q

-- the pass kept the bundle and did nothing, or claimed it from a place
abbrev pub ClaimedOne : Claim → CascadePass → CascadePass → Type 0
ClaimedOne claim p q =
    ((p.kept ≡ Some claim) × (view_of q ≡ view_of p)) ⊎ ((p.kept ≡ None) × ((words : List ℕ) × (length words < PLACES)
    × ((view_of q).trace ≡ (view_of p).trace ++ (looks_from 0 words ++ entry.Claimed (length words) ∷ []))))
