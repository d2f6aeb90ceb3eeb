-- The mark of a closing of a node, by the marks of its lanes.
use Rattle.std.proofs.Common.{◌≡◌, ℕ, suc, zero, ◌+◌, ◌≤◌, false, cond, List, [], ◌∷◌, length, min, Some, sym, refl, ap, ◌∙◌, arith}
use Rattle.std.specs.List.{slice_get, slice_set}
use Rattle.std.proofs.lemmas.Bool.{ne_eqb}
use Rattle.std.proofs.lemmas.Option.{same_Some}
use Rattle.sb_tally.specs.core.containers.declared.container.Cont.{Cont}
use Rattle.sb_tally.specs.core.containers.declared.container.CoreLane.{CoreLane}
use Rattle.sb_tally.specs.core.containers.Lanes.{with_first_closing}
use Rattle.sb_tally.specs.core.containers.Marks.{first_is_closing, last_of_first, begun_count, before_closing, least_begun_mark}
use Rattle.sb_node.specs.Marking.{mark_for, next_mark, ended_mark}

calm_mark : (lane : CoreLane) → first_is_closing lane.conts ≡ false → last_of_first (begun_count lane) lane.marks ≡ ended_mark lane
calm_mark lane h = ap (λ b. last_of_first (cond b (lane.ended + 1) lane.ended) lane.marks) h

-- where none is closing, the node is closed as if none had begun
pub calm_before : (lanes : List CoreLane) → ((i : ℕ) (x : CoreLane) → slice_get lanes i ≡ Some x → first_is_closing x.conts ≡ false) → before_closing lanes ≡ least_begun_mark lanes
calm_before [] none = refl
calm_before (a ∷ []) none = sym (calm_mark a (none 0 a refl))
calm_before (a ∷ b ∷ lanes) none = λ i. min (sym (calm_mark a (none 0 a refl)) i) (calm_before (b ∷ lanes) (λ j. none (suc j)) i)

closing_mark : (lane : CoreLane) (c : Cont) (cs : List Cont) → lane.conts ≡ c ∷ cs → last_of_first (begun_count (record lane { conts = with_first_closing lane.conts })) lane.marks ≡ next_mark lane
closing_mark lane c cs h = ap (λ l. last_of_first (cond (first_is_closing (with_first_closing l)) (lane.ended + 1) lane.ended) lane.marks) h

pub mark_for-is : (l : ℕ) (lanes : List CoreLane) (lane : CoreLane) (c : Cont) (cs : List Cont) → length lanes ≤ 2 → slice_get lanes l ≡ Some lane → lane.conts ≡ c ∷ cs → ((i : ℕ) (x : CoreLane) → slice_get lanes i ≡ Some x → first_is_closing x.conts ≡ false)
    → least_begun_mark (slice_set lanes l (record lane { conts = with_first_closing lane.conts })) ≡ mark_for l lanes
mark_for-is l [] lane c cs two at has none = cc
mark_for-is zero (a ∷ []) lane c cs two at has none =
    let e : a ≡ lane = same_Some a lane at in
    closing_mark lane c cs has ∙ ap next_mark (sym e)
mark_for-is (suc l) (a ∷ []) lane c cs two at has none = cc
mark_for-is zero (a ∷ b ∷ []) lane c cs two at has none =
    let e : a ≡ lane = same_Some a lane at in
    (λ i. min ((closing_mark lane c cs has ∙ ap next_mark (sym e)) i) (calm_mark b (none 1 b refl) i))
mark_for-is (suc zero) (a ∷ b ∷ []) lane c cs two at has none =
    let e : b ≡ lane = same_Some b lane at in
    (λ i. min (calm_mark a (none 0 a refl) i) ((closing_mark lane c cs has ∙ ap next_mark (sym e)) i))
    ∙ sym (ap (λ x. cond x (min (next_mark a) (ended_mark b)) (min (ended_mark a) (next_mark b))) (ne_eqb 1 0 (λ z. absurd (omega arith))))
mark_for-is (suc (suc l)) (a ∷ b ∷ []) lane c cs two at has none = cc
mark_for-is l (a ∷ b ∷ x ∷ lanes) lane c cs two at has none = absurd (omega arith)
