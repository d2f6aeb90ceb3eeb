-- The numbers are in hand or on the shelf, each once.
use Rattle.std.specs.Prelude.{◌==◌, cond, ℕ, List, [], ◌∷◌, ◌++◌, Option}
use Rattle.std.proofs.Common.{sym, subst, refl}
use Rattle.std.specs.List.Sorted.{IsPermutation}
use Rattle.sb_turn.specs.Held.{flat, on_place, all_held}
use Rattle.sb_turn.proofs.Held.{flat_more}
use Rattle.turn_uses.specs.declared.hands.Hand.{Hand}

abbrev pub hand : List ℕ → Hand
hand l = record { numbers = l }

abbrev pub in_hand : Hand → List ℕ
in_hand w = w.numbers

-- all but the first p
abbrev pub without_one : ℕ → List ℕ → List ℕ
without_one p [] = []
without_one p (x ∷ xs) = cond (x == p) xs (x ∷ without_one p xs)

abbrev pub without : Hand → ℕ → Hand
without w p = hand (without_one p w.numbers)

abbrev pub with_one : Hand → ℕ → Hand
with_one w p = hand (w.numbers ++ p ∷ [])

abbrev pub one : ℕ → List ℕ
one p = p ∷ []

abbrev pub IsKept : List ℕ → List (Option ℕ) → List Hand → Type 0
IsKept all shelf views = IsPermutation all (all_held in_hand one views shelf)

pub kept_with_idle : (all : List ℕ) (shelf : List (Option ℕ)) (views : List Hand)
    → IsKept all shelf views → IsKept all shelf (views ++ hand [] ∷ [])
kept_with_idle all shelf views k =
    subst (λ (q : List ℕ). IsPermutation all (q ++ flat (on_place one) shelf))
    (sym (flat_more in_hand views (hand []) refl)) k
