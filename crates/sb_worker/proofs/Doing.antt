-- What a step did, by its parts.
use Rattle.std.proofs.Common.{◌≡◌, ℕ, ◌≤◌, Bool, true, false, List, [], ◌∷◌, ◌++◌, inl, inr, refl, ⊎_elim}
use Rattle.sb_cascade.specs.turn.declared.turns.Entry.{Entry}
use Rattle.sb_cascade.specs.turn.declared.turns.Entry.TheVariants.{Saw}
use Rattle.sb_cascade.specs.hand.declared.did.Did.{Did}
use Rattle.sb_cascade.specs.hand.declared.did.Did.TheVariants.{Bundle, Closing, Nothing}
use Rattle.sb_cascade.specs.shared.declared.telling.Change.{Change}
use Rattle.sb_worker.specs.Entries.{Does, FoundNoneFull, Gains, Has, is_claimed, is_idle_of, is_not_yet_of}
use Rattle.sb_worker.specs.Steps.{IsBareAndIdle, IsClaiming, IsDone, IsIdle, IsNotYet, IsShelfBare}
use Rattle.sb_worker.proofs.Counting.{does-then, free-after, free-before, full-after, full-before, has-after, has-before}

module _ (sink : ℕ) (a b : List (Entry Change)) where
  -- a bundle was claimed and worked off
  pub bundle-done : IsClaiming a → Does 1 0 b → IsDone sink Bundle (a ++ b)
  bundle-done x y = (
    does-then 0 0 1 0 a b x.0 y,
    ⊎_elim (λ h. inl (has-before is_claimed a b h)) (λ f. inr (free-before a b f)) x.1,
  )

  -- the shelf was bare, and no bundle waits in a node
  pub bare-and-idle : IsShelfBare a → IsIdle sink b → IsBareAndIdle sink (a ++ b)
  bare-and-idle x y =
      ((does-then 0 0 0 0 a b x.0 y.0, λ k le. has-after (is_idle_of k) a b (y.1 k le)), full-before a b x.1)

  -- no closing could begin, and there was no bundle
  pub nothing-done : IsNotYet sink a → IsBareAndIdle sink b → IsDone sink Nothing (a ++ b)
  nothing-done x y = (
    (
      (does-then 0 0 0 0 a b x.0 y.0.0, λ k le. has-after (is_idle_of k) a b (y.0.1 k le)),
      full-after a b y.1,
    ),
    λ k le. has-before (is_not_yet_of k) a b (x.1 k le),
  )

-- and before it the state word was seen
pub seen-first : (sink n : ℕ) (did : Did) (l : List (Entry Change)) → IsDone sink did l → IsDone sink did ((Saw n ∷ []) ++ l)
seen-first sink n Bundle l x =
    let first : List (Entry Change) = Saw n ∷ [] in (
      does-then 0 0 1 0 first l (refl, refl) x.0,
      ⊎_elim (λ h. inl (has-after is_claimed first l h)) (λ f. inr (free-after first l f)) x.1,
    )
seen-first sink n Closing l x = does-then 0 0 0 1 (Saw n ∷ []) l (refl, refl) x
seen-first sink n Nothing l x =
    let first : List (Entry Change) = Saw n ∷ [] in (
      (
        (does-then 0 0 0 0 first l (refl, refl) x.0.0.0, λ k le. has-after (is_idle_of k) first l (x.0.0.1 k le)),
        full-after first l x.0.1,
      ),
      λ k le. has-after (is_not_yet_of k) first l (x.1 k le),
    )

-- and before it the shelf was found bare
pub bare-first : (sink : ℕ) (did : Did) (a l : List (Entry Change)) → IsShelfBare a → IsDone sink did l → IsDone sink did (a ++ l)
bare-first sink Bundle a l bare x = (
  does-then 0 0 1 0 a l bare.0 x.0,
  ⊎_elim (λ h. inl (has-after is_claimed a l h)) (λ f. inr (free-after a l f)) x.1,
)
bare-first sink Closing a l bare x = does-then 0 0 0 1 a l bare.0 x
bare-first sink Nothing a l bare x = (
  (
    (does-then 0 0 0 0 a l bare.0 x.0.0.0, λ k le. has-after (is_idle_of k) a l (x.0.0.1 k le)),
    full-after a l x.0.1,
  ),
  λ k le. has-after (is_not_yet_of k) a l (x.1 k le),
)
