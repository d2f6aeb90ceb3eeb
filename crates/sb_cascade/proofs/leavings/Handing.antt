-- What a pass has in hand, and what its trace has more, after one call and then another.
use Rattle.std.proofs.Common.{◌≡◌, ℕ, zero, suc, ◌+◌, true, List, [], ◌∷◌, ◌++◌, replicate, None, sym, ap, refl, ◌∙◌, subst, append-nil, append_assoc, ⊎_elim}
use Rattle.std.specs.List.{AllByRecursion}
use Rattle.sb_shared.specs.turn.declared.turns.Entry.{Entry}
use Rattle.sb_shared.specs.turn.declared.turns.Entry.TheVariants as entry
use Rattle.sb_shared.specs.turn.Turning.{looks_from}
use Rattle.sb_hand.specs.work.declared.claim.Claim.{Claim}
use Rattle.sb_hand.proofs.ShowsKept.{all-append}
use Rattle.sb_cascade.specs.declared.pass.CascadePass.{CascadePass}
use Rattle.sb_shared.specs.declared.telling.Change.{Change}
use Rattle.sb_shared.specs.declared.telling.Change.TheVariants as change
use Rattle.sb_cascade.specs.Calls.{HasSame, IsEmptyHanded, IsSame, LeftBy, MayFill, view_of}
use Rattle.sb_cascade.specs.Shelving.{EndsWith, WasIdle, is_search, is_take}
use Rattle.sb_cascade.specs.Told.{Is, IsTake}

-- an entry of a search
abbrev IsSearch : Entry Change → Type 0
IsSearch e = is_search e ≡ true

-- one that may fill, and keeps no bundle, has nothing in hand
pub keeps-none : (p : CascadePass) → MayFill p → p.kept ≡ None → IsEmptyHanded p
keeps-none p may none = ⊎_elim (λ e. e) (λ t. absurd (cc (sym none ∙ t.1))) may

-- one that has the same has nothing in hand either
pub empty-still : (p q : CascadePass) → HasSame p q → IsEmptyHanded p → IsEmptyHanded q
empty-still p q same e = record {
  held = ap (λ w. w.held) same.0 ∙ e.held;
  link = ap (λ w. w.link) same.0 ∙ e.link;
  kept = same.1 ∙ e.kept;
}

-- a pass that did nothing is the same
pub same-still : (p : CascadePass) → IsSame p p
same-still p = record { table = refl; id = refl; feed = refl; out = refl }

-- and its trace has no more
pub ends-none : (p : CascadePass) → EndsWith [] p p
ends-none p = ([], tt, sym (append-nil (view_of p).trace))

-- tries at a node's turn are a search
pub tries-search : (node tries : ℕ) → AllByRecursion IsSearch (replicate tries (entry.Held node))
tries-search node zero = tt
tries-search node (suc n) = (refl, tries-search node n)

-- and so are looks at places
pub looks-search : (k : ℕ) (words : List ℕ) → AllByRecursion IsSearch (looks_from k words)
looks-search k [] = tt
looks-search k (w ∷ ws) = (refl, looks-search (k + 1) ws)

module _ (p q r : CascadePass) where
  -- it is the same pass after two calls
  pub same-then : IsSame p q → IsSame q r → IsSame p r
  same-then s t = record { table = t.table ∙ s.table; id = t.id ∙ s.id; feed = t.feed ∙ s.feed; out = t.out ∙ s.out }

  -- the trace of two calls
  pub ends-then : (last : List (Entry Change)) → EndsWith [] p q → EndsWith last q r → EndsWith last p r
  ends-then last s t = (
    s.0 ++ t.0,
    all-append IsSearch s.0 t.0 s.1 t.1,
    t.2 ∙ ap (λ l. l ++ (t.0 ++ last)) (s.2 ∙ ap (λ l. (view_of p).trace ++ l) (append-nil s.0))
        ∙ append_assoc (view_of p).trace s.0 (t.0 ++ last)
        ∙ ap (λ l. (view_of p).trace ++ l) (sym (append_assoc s.0 t.0 last)),
  )

module _ (p q : CascadePass) where
  -- what a trace ends with, it has more
  pub ends-any : (last : List (Entry Change)) → AllByRecursion IsSearch last → EndsWith last p q → EndsWith [] p q
  ends-any last all s = (
    s.0 ++ last,
    all-append IsSearch s.0 last s.1 all,
    s.2 ∙ ap (λ l. (view_of p).trace ++ l) (sym (append-nil (s.0 ++ last))),
  )

  -- the trace of a pass that left a node ends with that
  pub left-ends : (node : ℕ) (so : Change → Type 0) (l : LeftBy node so p q) → EndsWith (entry.Left node l.lines l.change ∷ []) p q
  left-ends node so l = (
    replicate l.tries (entry.Held node),
    tries-search node l.tries,
    l.trace ∙ append_assoc (view_of p).trace (replicate l.tries (entry.Held node)) (entry.Left node l.lines l.change ∷ []),
  )

  -- and if it was a look that found no bundle, it tells that
  pub left-idle : (node : ℕ) → LeftBy node (Is change.Idle) p q → WasIdle node p q
  left-idle node l = (l.lines, subst (λ (c : Change). EndsWith (entry.Left node l.lines c ∷ []) p q) l.is (left-ends node (Is change.Idle) l))

  -- the trace of a pass that took a bundle has that more
  pub left-take : (node : ℕ) (claim : Claim) → LeftBy node (IsTake claim) p q → EndsWith [] p q
  left-take node claim l =
      ends-any (entry.Left node l.lines l.change ∷ []) (ap is_take l.is.2, tt) (left-ends node (IsTake claim) l)
