-- Laying and claiming keep the numbers.
use Rattle.std.proofs.Common.{◌≡◌, ℕ, zero, suc, ◌+◌, ◌<◌, drop, get_or, length, arith, List, [], ◌∷◌, ◌++◌, set, eq-eqb, cond, replicate, sym, refl, ap, ◌∙◌, subst, append-nil, Option, Some, None}
use Rattle.std.proofs.lemmas.List.Sorted.{IsPermutation-refl, IsPermutation-trans, IsPermutation-append_comm}
use Rattle.std.specs.List.Sorted.{IsPermutation}
use Rattle.sb_turn.specs.Owed.{Lays, Takes}
use Rattle.sb_turn.specs.Held.{flat, on_place, all_held}
use Rattle.sb_turn.proofs.Held.{laying, taking, flat_none}
use Rattle.turn_uses.specs.declared.hands.Hand.{Hand}
use Rattle.turn_uses.specs.InHand.{hand, in_hand, without, without_one, with_one, one, IsKept}

abbrev pub Rule : (S C : Type 0) → List ℕ → List (Option ℕ) → ℕ → List S → List (List C) → List Hand → Type 0
Rule S C all shelf _ _ _ views = IsKept all shelf views

pub first_out : (p : ℕ) (l : List ℕ) → without (hand (p ∷ l)) p ≡ hand l
first_out p l = ap (λ b. hand (cond b l (p ∷ without_one p l))) (eq-eqb p p refl)

pub lays : (S C : Type 0) (all : List ℕ) (id : ℕ) (w : Hand) (p : ℕ) (l : List ℕ) → w ≡ hand (p ∷ l) → Lays (Rule S C all) id w p (without w p)
lays S C all id w p l is k shelf status states logs views kept there at =
    let w' : Hand = without w p in let left : w' ≡ hand l = ap (λ (v : Hand). without v p) is ∙ first_out p l in
    let same : IsPermutation (in_hand w) (in_hand w' ++ p ∷ []) = subst (λ (q : Hand × Hand). IsPermutation (in_hand q.0) (in_hand q.1 ++ p ∷ [])) (λ i. (sym is i, sym left i)) (IsPermutation-append_comm (p ∷ []) l) in
    IsPermutation-trans all (all_held in_hand one views shelf) (all_held in_hand one (set views id w') (set shelf k (Some p))) kept (laying in_hand one views shelf id k w w' at p there same)

pub takes : (S C : Type 0) (all : List ℕ) (id : ℕ) (w : Hand) → Takes (Rule S C all) id w with_one
takes S C all id w k p shelf status states logs views kept there at =
    IsPermutation-trans all (all_held in_hand one views shelf) (all_held in_hand one (set views id (with_one w p)) (set shelf k None)) kept (taking in_hand one views shelf id k w (with_one w p) at p there (IsPermutation-refl (in_hand w ++ p ∷ [])))

abbrev no_pieces : ℕ → List (Option ℕ)
no_pieces n = replicate n None

-- at the end all is in the hand of the one pass
pub at_end : (all l : List ℕ) (w : Hand) (n : ℕ) → IsKept all (replicate 64 None) (w ∷ replicate n (hand [])) → w ≡ hand l → IsPermutation all l
at_end all l w n kept is = subst (IsPermutation all)
    (ap (λ r. (in_hand w ++ flat in_hand (replicate n (hand []))) ++ r) (flat_none (on_place one) 64 None refl) ∙ append-nil (in_hand w ++ flat in_hand (replicate n (hand [])))
    ∙ ap (λ r. in_hand w ++ r) (flat_none in_hand n (hand []) refl) ∙ append-nil (in_hand w) ∙ ap in_hand is) kept

pub drop_next : (l : List ℕ) (i x : ℕ) → i < length l → x ≡ get_or l i x → drop i l ≡ x ∷ drop (i + 1) l
drop_next [] i x h e = absurd (omega arith)
drop_next (y ∷ ys) zero x h e = ap (λ q. q ∷ ys) (sym e)
drop_next (y ∷ ys) (suc i) x h e = drop_next ys i x (omega arith) e ∙ ap (λ (q : ℕ). x ∷ drop q (y ∷ ys)) (let g : suc (i + 1) ≡ suc i + 1 = omega arith in g)
