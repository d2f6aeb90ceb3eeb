-- The entries of a pass that left a node.
use Rattle.std.proofs.Common.{ℕ, zero, suc, ◌+◌, ◌&&◌, ◌||◌, ◌==◌, true, false, cond, List, [], ◌∷◌, ◌++◌, replicate, refl, ap, ◌∙◌, append_assoc}
use Rattle.std.proofs.lemmas.Bool.{eq-eqb}
use Rattle.sb_cascade.specs.turn.declared.turns.Entry.{Entry}
use Rattle.sb_cascade.specs.turn.declared.turns.Entry.TheVariants.{Held, Left}
use Rattle.sb_cascade.specs.node.declared.closing.Closing.{Closing}
use Rattle.sb_cascade.specs.declared.pass.CascadePass.{CascadePass}
use Rattle.sb_cascade.specs.shared.declared.telling.Change.{Change}
use Rattle.sb_cascade.specs.shared.declared.telling.Change.TheVariants as change
use Rattle.sb_cascade.specs.Calls.{LeftBy, view_of}
use Rattle.sb_cascade.specs.Told.{Is, IsEnd}
use Rattle.sb_worker.specs.Entries.{Does, Gains, Grows, Has, is_ending, is_finishing, is_idle_of, is_idling}
use Rattle.sb_worker.proofs.Counting.{does-then, has-after}

-- tries at a node's turn finish and end nothing
pub tries-none : (node tries : ℕ) → Does 0 0 (replicate tries (Held node))
tries-none node zero = (refl, refl)
tries-none node (suc n) = does-then 0 0 0 0 (Held node ∷ []) (replicate n (Held node)) (refl, refl) (tries-none node n)

-- a pass that left a node has an entry more, behind its tries
pub left-gains : (node : ℕ) (so : Change → Type 0) (A : List (Entry Change) → Type 0) (p q : CascadePass)
    → ((tries lines : ℕ) (c : Change) → so c → A (replicate tries (Held node) ++ Left node lines c ∷ []))
    → LeftBy node so p q → Gains A p q
left-gains node so A p q gives l =
    let tries : List (Entry Change) = replicate l.tries (Held node) in
    let last : List (Entry Change) = Left node l.lines l.change ∷ [] in (
      tries ++ last,
      l.trace ∙ append_assoc (view_of p).trace tries last,
      gives l.tries l.lines l.change l.is,
    )

-- so its trace grew
pub left-grows : (node : ℕ) (so : Change → Type 0) (p q : CascadePass) → LeftBy node so p q → Grows p q
left-grows node so p q l =
    let tries : List (Entry Change) = replicate l.tries (Held node) in
    let last : List (Entry Change) = Left node l.lines l.change ∷ [] in
    (tries ++ last, l.trace ∙ append_assoc (view_of p).trace tries last)

-- with the end of a closing
pub end-gains : (node : ℕ) (closing : Closing) (p q : CascadePass) → LeftBy node (IsEnd closing) p q → Gains (Does 0 1) p q
end-gains node closing p q =
    left-gains node (IsEnd closing) (Does 0 1) p q (λ tries lines c is.
    does-then 0 0 0 1 (replicate tries (Held node)) (Left node lines c ∷ []) (tries-none node tries)
    ((λ i. 0 + cond (is_finishing (is.1 i)) 1 0), (λ i. 0 + cond (is_ending (is.1 i)) 1 0)))

-- because no bundle waits there
pub idle-left : (node : ℕ) (p q : CascadePass) → LeftBy node (Is change.Idle) p q → Gains (Has (is_idle_of node)) p q
idle-left node p q =
    left-gains node (Is change.Idle) (Has (is_idle_of node)) p q (λ tries lines c is.
    has-after (is_idle_of node) (replicate tries (Held node)) (Left node lines c ∷ [])
    (ap (λ (b : Change). ((node == node) && is_idling b) || false) is ∙ ap (λ b. (b && true) || false) (eq-eqb node node refl)))
