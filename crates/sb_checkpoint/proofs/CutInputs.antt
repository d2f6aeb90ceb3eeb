-- An input of bytes that is cut behind a line.
use Rattle.std.proofs.Common.{◌≡◌, ℕ, Bool, true, false, cond, eqb, List, [], ◌∷◌, ◌++◌, refl, sym, ap, subst, inl, inr}
use Rattle.sb_outside.specs.Lines.{without_cr, lines_from, lines}
use Rattle.sb_pipeline.specs.Shapes.{streams_of}
use Rattle.sb_checkpoint.specs.Checkpoints.{resumed_items}
use Rattle.sb_checkpoint.specs.Laws.{accepted_in, resumed_bytes, AreWholeLines, Resumes, CutInputsGiveTheWhole}
use Rattle.sb_checkpoint.proofs.LinesOfTexts.{lines-of_items}
use Rattle.sb_checkpoint.proofs.ReadAgain.{accepted-resumed-fit}
use Rattle.sb_checkpoint.proofs.Whole.{cut-runs}

begun-lines : (ended : Bool) (begun before rest : List ℕ) → lines_from ended begun ((before ++ 10 ∷ []) ++ rest) ≡ lines_from false begun (before ++ 10 ∷ []) ++ lines ended rest
begun-lines ended begun [] rest = refl
begun-lines ended begun (b ∷ before) rest = by_case (eqb b 10) (begun-lines ended [] before rest) (begun-lines ended (begun ++ b ∷ []) before rest)
  where
    by_case : (c : Bool) → lines_from ended [] ((before ++ 10 ∷ []) ++ rest) ≡ lines_from false [] (before ++ 10 ∷ []) ++ lines ended rest
        → lines_from ended (begun ++ b ∷ []) ((before ++ 10 ∷ []) ++ rest) ≡ lines_from false (begun ++ b ∷ []) (before ++ 10 ∷ []) ++ lines ended rest
        → cond c (without_cr begun ∷ lines_from ended [] ((before ++ 10 ∷ []) ++ rest)) (lines_from ended (begun ++ b ∷ []) ((before ++ 10 ∷ []) ++ rest))
        ≡ cond c (without_cr begun ∷ lines_from false [] (before ++ 10 ∷ [])) (lines_from false (begun ++ b ∷ []) (before ++ 10 ∷ [])) ++ lines ended rest
    by_case true h k = ap (λ l. without_cr begun ∷ l) h
    by_case false h k = k

whole-lines : (ended : Bool) (first rest : List ℕ) → AreWholeLines first → lines ended (first ++ rest) ≡ lines false first ++ lines ended rest
whole-lines ended first rest (inl none) = subst (λ l. lines ended (l ++ rest) ≡ lines false l ++ lines ended rest) (sym none) refl
whole-lines ended first rest (inr some) = subst (λ l. lines ended (l ++ rest) ≡ lines false l ++ lines ended rest) (sym some.1) (begun-lines ended [] some.0 rest)

pub cut-inputs : CutInputsGiveTheWhole
cut-inputs plan free first rest ended whole none =
    subst (λ l. Resumes plan (accepted_in plan (lines false first)).items (accepted_in plan l) (accepted_in plan (lines ended (resumed_bytes plan first ++ rest)))) (sym (whole-lines ended first rest whole))
    (subst (λ l. Resumes plan (accepted_in plan (lines false first)).items (accepted_in plan (lines false first ++ lines ended rest)) (accepted_in plan l))
    (sym (lines-of_items (streams_of plan) plan.keys ended (resumed_items plan (accepted_in plan (lines false first)).items) rest (accepted-resumed-fit plan (lines false first))))
    (cut-runs plan free (lines false first) (lines ended rest) none))
