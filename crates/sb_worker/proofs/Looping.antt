-- What holds of the entries of a loop over nodes, from the sink down to a node.
use Rattle.std.proofs.Common.{ℕ, ◌<◌, ◌≤◌, ◌-◌, ◌≡◌, Bool, List, [], ◌++◌, ⊎_elim, arith, refl, subst}
use Rattle.std.proofs.lemmas.Bool.{cases_lt}
use Rattle.sb_cascade.specs.turn.declared.turns.Entry.{Entry}
use Rattle.sb_cascade.specs.shared.declared.telling.Change.{Change}
use Rattle.sb_worker.specs.Entries.{Does, Has}
use Rattle.sb_worker.proofs.Counting.{does-then, has-after, has-before}

-- nothing was done, and for each node from this one to the sink there is an entry
module _ (of_node : ℕ → Entry Change → Bool) where
  abbrev pub HasFrom : ℕ → ℕ → List (Entry Change) → Type 0
  HasFrom sink n l = Does 0 0 l × ((k : ℕ) → n ≤ k → k ≤ sink → Has (of_node k) l)

  -- behind the sink there is none
  pub from-none : (sink n : ℕ) → sink < n → HasFrom sink n []
  from-none sink n less = ((refl, refl), λ k le ge. absurd (omega (arith, less, le, ge)))

  -- and so from the node before
  pub from-before : (sink n : ℕ) → 0 < n → (a b : List (Entry Change)) → HasFrom sink n a
      → Does 0 0 b × Has (of_node (n - 1)) b → HasFrom sink (n - 1) (a ++ b)
  from-before sink n some a b x y = (
    does-then 0 0 0 0 a b x.0 y.0,
    λ k le ge. ⊎_elim
        (λ later. has-before (of_node k) a b (x.1 k (omega (arith, some, later)) ge))
        (λ same. let e : n - 1 ≡ k = omega (arith, le, same) in
        subst (λ j. Has (of_node j) (a ++ b)) e (has-after (of_node (n - 1)) a b y.1))
        (cases_lt (n - 1) k),
  )
