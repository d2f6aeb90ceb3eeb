-- A call that changed the state of a node so has done its change: of the changes that are no events.
use Rattle.std.proofs.Common.{◌≡◌, ◌≢◌, ℕ, ◌≤◌, true, List, [], ◌++◌, length, sym, refl, ap, ◌∙◌, subst, append-nil, inl, inr}
use Rattle.std.specs.Prelude.{◌⊎◌}
use Rattle.std.specs.declared.snapshot.Snapshot.{Snapshot}
use Rattle.sb_shown.specs.base.records.declared.item.Record.{Record}
use Rattle.sb_shown.specs.core.declared.moment.Node.{Node}
use Rattle.sb_shown.specs.core.Parts.{only_node}
use Rattle.sb_shown.specs.Showing.{IsKept}
use Rattle.sb_shown.specs.node.declared.kept.Kept.{Kept}
use Rattle.sb_shared.specs.declared.telling.Change.{Change}
use Rattle.sb_shared.specs.declared.telling.Change.TheVariants.{Drain, Spent}
use Rattle.sb_shared.specs.declared.telling.Hands.{Hands}
use Rattle.sb_shared.specs.declared.telling.Setting.{Setting}
use Rattle.sb_shared.specs.Doings.{Doing, Quiet, doing_of, drained_rows, lines_by}
use Rattle.sb_shared.specs.Found.{IsFound}
use Rattle.sb_shared.specs.Leavings.{DoesPart, May}
use Rattle.sb_shared.specs.SharedNodes.{Face, LosesKept, SharedView, ShowsSame, face}
use Rattle.sb_shared.specs.Shown.{ShowsPart, operator_of, settings_in}
use Rattle.sb_shared.specs.Views.{after, held_by}

-- whatever part the state was found to show, the leaving does this to it
abbrev pub Acts : Setting → Hands → ℕ → ℕ → SharedView → SharedView → Change → Type 0
Acts a w seen k x y c = (f : IsFound a w k x) → DoesPart a w (after w k c) seen k x y c f.part

-- the settings of nodes that look alike but for what they keep
same_settings : (x y : SharedView) → face y ≡ face x → settings_in y ≡ settings_in x
same_settings x y same = λ i. record { keeps = (same i).keeps; limits = (same i).limits }

module _ (a : Setting) (w : Hands) (seen k : ℕ) (x y : SharedView) where
  -- the part and the diary stay, and so does what is in hand
  quiet : (c : Change) → doing_of k c ≡ Quiet → held_by (after w k c) ≡ held_by w → ((p : Node) → ShowsPart (operator_of a k) x p → ShowsPart (operator_of a k) y p)
      → y.own.diary.events ≡ x.own.diary.events → settings_in y ≡ settings_in x → drained_rows c ++ y.tray ≡ x.tray
      → (k ≢ length a.plan.steps → drained_rows c ≡ []) → (drained_rows c ≡ []) ⊎ (y.tray ≡ []) → (y.spent ≡ true → (x.spent ≡ true) ⊎ (3 ≤ seen)) → Acts a w seen k x y c
  quiet c is held shows lines settings tray rows dry spent f = record {
    q = only_node [] f.part;
    may = subst (λ (d : Doing). May a k w (after w k c) f.part d (only_node [] f.part)) (sym is) (refl, held);
    shows = shows f.part f.shown;
    lines = lines ∙ sym (append-nil x.own.diary.events) ∙ ap (λ (d : Doing). x.own.diary.events ++ lines_by a d f.part) (sym is);
    settings = settings;
    tray = tray ∙ sym (append-nil x.tray);
    rows = λ other. (refl, rows other);
    dry = dry;
    spent = spent;
  }

  -- nothing is done
  pub rests : (c : Change) → doing_of k c ≡ Quiet → drained_rows c ≡ [] → after w k c ≡ w → ShowsSame x y → Acts a w seen k x y c
  rests c is dry stays same =
      quiet c is (ap held_by stays)
      (λ p s. record {
        lanes = s.lanes ∙ ap (λ (z : Face). z.lanes) (sym same.face_is);
        closings = s.closings ∙ ap (λ (z : Face). z.closings) (sym same.face_is);
        kept = λ e. subst (λ (g : Kept). IsKept (operator_of a k) g p) (sym same.kept) (s.kept (sym same.spent ∙ e));
      })
      (ap (λ (z : Face). z.lines) same.face_is) (same_settings x y same.face_is)
      (ap (λ l. l ++ y.tray) dry ∙ ap (λ (z : Face). z.tray) same.face_is) (λ other. dry) (inl dry) (λ e. inl (sym same.spent ∙ e))

  -- what the node keeps is unknown from now on
  pub spends : LosesKept x y → 3 ≤ seen → Acts a w seen k x y Spent
  spends loses saw =
      quiet Spent refl refl
      (λ p s. record {
        lanes = s.lanes ∙ ap (λ (z : Face). z.lanes) (sym loses.face_is);
        closings = s.closings ∙ ap (λ (z : Face). z.closings) (sym loses.face_is);
        kept = λ e. absurd (cc (sym e ∙ loses.spent));
      })
      (ap (λ (z : Face). z.lines) loses.face_is) (same_settings x y loses.face_is)
      (ap (λ (z : Face). z.tray) loses.face_is) (λ other. refl) (inl refl) (λ e. inr saw)

  -- the tray is taken
  pub drains : (t : Snapshot (List Record)) → k ≡ length a.plan.steps → t.value ≡ x.tray → y ≡ record x { tray = [] } → Acts a w seen k x y (Drain t)
  drains t sink told is =
      quiet (Drain t) refl refl
      (λ p s. record {
        lanes = s.lanes ∙ ap (λ (z : SharedView). (face z).lanes) (sym is);
        closings = s.closings ∙ ap (λ (z : SharedView). z.own.closings) (sym is);
        kept = λ e. subst (λ (z : SharedView). IsKept (operator_of a k) z.own.kept p) (sym is) (s.kept (sym (ap (λ (z : SharedView). z.spent) is) ∙ e));
      })
      (ap (λ (z : SharedView). z.own.diary.events) is) (ap settings_in is)
      (ap (λ l. l ++ y.tray) told ∙ ap (λ (z : SharedView). x.tray ++ z.tray) is ∙ append-nil x.tray)
      (λ other. absurd (other sink)) (inr (ap (λ (z : SharedView). z.tray) is)) (λ e. inl (sym (ap (λ (z : SharedView). z.spent) is) ∙ e))

-- a state that is the same shows the same
pub same-shows : (x y : SharedView) → y ≡ x → ShowsSame x y
same-shows x y is = record { face_is = ap face is; kept = ap (λ (z : SharedView). z.own.kept) is; spent = ap (λ (z : SharedView). z.spent) is }
