-- The marks of lanes, of which the first container of one begins to close.
use Rattle.std.proofs.Common.{◌≡◌, ℕ, suc, zero, ◌-◌, ◌≤◌, List, [], ◌∷◌, length, take, drop, get_or, Some, sym, refl, ap, subst, ◌∙◌, arith}
use Rattle.std.specs.Prelude.{min}
use Rattle.std.specs.List.{slice_get, slice_set}
use Rattle.std.proofs.lemmas.List.{take_all}
use Rattle.std.proofs.Math.Numerals.{sub-one}
use Rattle.sb_core.specs.containers.declared.container.Cont.{Cont}
use Rattle.sb_core.specs.containers.declared.container.CoreLane.{CoreLane}
use Rattle.sb_core.specs.containers.Lanes.{with_first_closing}
use Rattle.sb_core.specs.containers.Marks.{least_begun_mark}
use Rattle.sb_core.proofs.containers.Begun.{begun_mark}

-- the mark, once the first container of a lane is closing
abbrev pub IsClosedWith : List CoreLane → ℕ → ℕ → Type 0
IsClosedWith lanes i mark = (lane : CoreLane) (cont : Cont) (conts : List Cont) → slice_get lanes i ≡ Some lane → lane.conts ≡ cont ∷ conts → mark ≡ least_begun_mark (slice_set lanes i (record lane { conts = with_first_closing lane.conts }))

closed-later : (x y : CoreLane) (lanes : List CoreLane) (i : ℕ) (with : CoreLane) → least_begun_mark (slice_set (x ∷ y ∷ lanes) (suc i) with) ≡ min (begun_mark x) (least_begun_mark (slice_set (y ∷ lanes) i with))
closed-later x y lanes zero with = refl
closed-later x y lanes (suc i) with = refl

-- of two lanes or more, where it is not the first that begins to close
pub least_begun_mark_with-later : (lanes : List CoreLane) (x : CoreLane) (i first others : ℕ) → 2 ≤ length lanes → x ≡ get_or lanes 0 x → (i ≡ 0 → ⊥) → first ≡ begun_mark x
    → IsClosedWith (take (length lanes - 1) (drop 1 lanes)) (i - 1) others → IsClosedWith lanes i (min first others)
least_begun_mark_with-later [] x i first others two is later own rest = absurd (omega (arith, two))
least_begun_mark_with-later (z ∷ []) x i first others two is later own rest = absurd (omega (arith, two))
least_begun_mark_with-later (z ∷ y ∷ lanes) x zero first others two is later own rest = absurd (later refl)
least_begun_mark_with-later (z ∷ y ∷ lanes) x (suc i) first others two is later own rest =
    λ lane cont conts at has. (λ j. min ((own ∙ ap begun_mark is) j) (below lane cont conts at has j)) ∙ sym (closed-later z y lanes i (record lane { conts = with_first_closing lane.conts }))
  where
    all : take (length (z ∷ y ∷ lanes) - 1) (y ∷ lanes) ≡ y ∷ lanes
    all = take_all (length (z ∷ y ∷ lanes) - 1) (y ∷ lanes) (omega arith)

    below : IsClosedWith (y ∷ lanes) i others
    below = subst (λ (n : ℕ). IsClosedWith (y ∷ lanes) n others) (sub-one (suc i)) (subst (λ (l : List CoreLane). IsClosedWith l (suc i - 1) others) all rest)
