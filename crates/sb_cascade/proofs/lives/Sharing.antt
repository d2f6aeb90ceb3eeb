-- A cascade of a new hand is made with what the hand was made with.
use Rattle.std.proofs.Common.{◌≡◌, ℕ, Bool, List, [], ◌∷◌, ◌++◌, map, sym, refl, ap, ◌∙◌, subst, Option, Some, None}
use Rattle.std.specs.Prelude.{slice_get}
use Rattle.std.specs.Option.{option_map}
use Rattle.std.proofs.lemmas.Option.{same_Some}
use Rattle.sb_hand.specs.diary.declared.diary.Diary.{Diary}
use Rattle.sb_hand.specs.base.pipeline.Shapes.{Shape}
use Rattle.sb_hand.specs.base.pipeline.declared.transform.Step.{Step}
use Rattle.sb_hand.specs.base.pipeline.Operators.{operator_of}
use Rattle.sb_hand.specs.base.pipeline.Operators.Operator.{Sink}
use Rattle.sb_hand.specs.node.declared.state.NodeState.{NodeState}
use Rattle.sb_hand.specs.Hands.{HandView, IsNewHand}
use Rattle.sb_hand.specs.Showing.{Settings, settings_for, settings_of}
use Rattle.sb_shared.specs.declared.telling.Setting.{Setting}
use Rattle.sb_cascade.specs.Lives.{IsShared}

-- whether the first node keeps its lines
abbrev first_keeps : List Settings → Option Bool
first_keeps [] = None
first_keeps (s ∷ settings) = Some s.keeps

-- as all do
as_made : (keeps : Bool) (pending : ℕ) (steps : List Step)
    → first_keeps (map (λ s. settings_for keeps pending (operator_of s.kind)) steps ++ settings_for keeps pending Sink ∷ []) ≡ Some keeps
as_made keeps pending [] = refl
as_made keeps pending (s ∷ steps) = refl

as_kept : (nodes : List NodeState) (d : Diary) → option_map (λ (n : NodeState). n.diary) (slice_get nodes 0) ≡ Some d → first_keeps (settings_of nodes) ≡ Some d.keeps
as_kept [] d e = cc
as_kept (own ∷ nodes) d e = ap (λ (t : Diary). Some t.keeps) (same_Some own.diary d e)

module _ (plan : Shape) (bundle pending : ℕ) (keeps : Bool) (h : HandView) (new : IsNewHand plan bundle pending keeps h) where
  -- what the first diary says
  pub first_says : (d : Diary) → option_map (λ (n : NodeState). n.diary) (slice_get h.nodes 0) ≡ Some d → d.keeps ≡ keeps
  first_says d e = same_Some d.keeps keeps (sym (as_kept h.nodes d e) ∙ ap first_keeps new.settings ∙ as_made keeps pending plan.steps)

  -- it is made with the same
  pub shared : (a : Setting) → a.plan ≡ h.plan → a.bundle ≡ h.bundle → a.pending ≡ h.pending → a.keeps ≡ keeps → IsShared plan bundle pending keeps a
  shared a plan_is bundle_is pending_is keeps_is =
      record { plan_is = plan_is ∙ new.plan_is; bundle_is = bundle_is ∙ new.bundle_is; pending_is = pending_is ∙ new.pending_is; keeps_is = keeps_is }

-- a hand that is new is a new one of the setting
pub new_for : (h : HandView) (a : Setting) → ((plan : Shape) × (bundle pending : ℕ) × (keeps : Bool) × IsNewHand plan bundle pending keeps h)
    → a.plan ≡ h.plan → a.bundle ≡ h.bundle → a.pending ≡ h.pending
    → (d : Diary) → option_map (λ (n : NodeState). n.diary) (slice_get h.nodes 0) ≡ Some d → a.keeps ≡ d.keeps
    → IsNewHand a.plan a.bundle a.pending a.keeps h
new_for h a (plan, bundle, pending, keeps, new) plan_is bundle_is pending_is d first keeps_is =
    let s = shared plan bundle pending keeps h new a plan_is bundle_is pending_is (keeps_is ∙ first_says plan bundle pending keeps h new d first) in
    subst (λ (t : Shape × ℕ × ℕ × Bool). IsNewHand t.0 t.1 t.2 t.3 h) (λ i. (sym s.plan_is i, sym s.bundle_is i, sym s.pending_is i, sym s.keeps_is i)) new
