-- Rows that a closing of the sink adds are later than all that were there.
use Rattle.std.proofs.Common.{◌≡◌, ℕ, ◌<◌, ◌≤◌, List, [], ◌∷◌, ◌++◌, sym, ap, ◌∙◌, subst, arith}
use Rattle.std.specs.Prelude.{slice_get, Some}
use Rattle.std.specs.List.{AllByRecursion}
use Rattle.sb_shown.proofs.base.records.Elements.{every, All-join}
use Rattle.sb_shown.specs.base.records.declared.item.Record.{Record}
use Rattle.sb_shown.specs.core.declared.moment.Node.{Node}
use Rattle.sb_shown.specs.core.declared.moment.Moment.{Moment}
use Rattle.sb_shown.specs.core.Laws.{written_to}
use Rattle.sb_shown.specs.core.NewRows.{AreUnwritten}
use Rattle.sb_shown.specs.core.Parts.{Part, part_after}
use Rattle.sb_shown.specs.core.Soundness.{IsSound}
use Rattle.sb_shown.proofs.core.parts.NewRowsLaw.{new-rows_are_later, held-add_no_rows}
use Rattle.sb_shared.specs.declared.telling.Hands.{Hands}
use Rattle.sb_shared.specs.declared.telling.Setting.{Setting}
use Rattle.sb_shared.specs.Doings.{Doing, Quiet, Fresh, Of}
use Rattle.sb_shared.specs.Leavings.{May}
use Rattle.sb_shared.specs.Shown.{AreLater}

-- an empty tray is later than anything
pub later_none : (ds : List Record) → AreLater ds []
later_none [] = tt
later_none (d ∷ ds) = (tt, later_none ds)

-- later rows come to those that are later
pub later_too : (low : ℕ) (ds ts more : List Record) → AreLater ds ts → AllByRecursion (λ d. d.time < low) ds → AllByRecursion (λ t. low ≤ t.time) more → AreLater ds (ts ++ more)
later_too low [] ts more was under over = tt
later_too low (d ∷ ds) ts more was under over =
    (All-join (λ t. d.time < t.time) ts more was.0 (every (λ t h. omega (arith, h, under.0)) more over), later_too low ds ts more was.1 under.1 over)

-- the first of those of which all are so
first_of : (P : Record → Type 0) (xs ys : List Record) → AllByRecursion P (xs ++ ys) → AllByRecursion P xs
first_of P [] ys h = tt
first_of P (x ∷ xs) ys h = (h.0, first_of P xs ys h.1)

module _ (a : Setting) (m : Moment) (sound : IsSound a.plan m) where
  -- what was drained is below the mark up to which the sink has closed
  pub drained_low : (ds ts : List Record) → m.rows ≡ ds ++ ts → AllByRecursion (λ d. d.time < written_to a.plan m) ds
  drained_low ds ts is = first_of (λ d. d.time < written_to a.plan m) ds ts (subst (AllByRecursion (λ d. d.time < written_to a.plan m)) is sound.written)

  -- no rows
  none : (rows : List Record) → rows ≡ [] → AreUnwritten a.plan m rows
  none rows is = subst (AreUnwritten a.plan m) (sym is) tt

  -- what a leaving adds is not
  pub added_high : (k : ℕ) (p : Node) (w w' : Hands) (d : Doing) (q : Part) → m.bundle ≡ a.bundle → slice_get m.nodes k ≡ Some p → May a k w w' p d q → AreUnwritten a.plan m q.rows
  added_high k p w w' Quiet q bundle at may = none q.rows (ap (λ (q : Part). q.rows) may.0)
  added_high k p w w' (Fresh e) q bundle at may = new-rows_are_later a.plan m e k p q sound may.0 at (ap (λ b. part_after a.plan b e p) bundle ∙ may.2)
  added_high k p w w' (Of e h) q bundle at may = none q.rows (held-add_no_rows a.plan a.bundle e h p q may.3)
