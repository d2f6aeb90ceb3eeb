-- A new pass keeps nodes and passes linked, and what the rule gives to a pass that enters a node.
use Rattle.std.proofs.Common.{◌≡◌, ℕ, true, List, [], ◌∷◌, ◌++◌, sym, ap, ◌∙◌, subst, inl, inr, ⊎_elim, Some, None}
use Rattle.std.proofs.Common.{Option}
use mathlib.Core.Option.{some}
use lib.ListN.{get_elem?}
use Rattle.atomic_table.proofs.Lists.{at_longer, at_snoc}
use Rattle.sb_shown.specs.base.pipeline.declared.transform.Down.{Down}
use Rattle.sb_shown.specs.core.declared.held.Held.{Held}
use Rattle.sb_shown.specs.core.declared.held.Held.TheVariants.{Work}
use Rattle.sb_shared.specs.declared.telling.Hands.{Hands}
use Rattle.sb_shared.specs.declared.telling.Piece.{Piece}
use Rattle.sb_shared.specs.declared.telling.Setting.{Setting}
use Rattle.sb_shared.specs.Linked.{AreLinked, HasLaneIn, IsDelivered, IsPlaceHere}
use Rattle.sb_shared.specs.SharedNodes.{SharedView}
use Rattle.sb_shared.specs.Views.{idle_hands}

-- nothing is in hand
abbrev Nothing : Option Held → Type 0
Nothing None = Unit {0}
Nothing (Some h) = ⊥

-- a new pass has nothing in hand
idle-empty : (u : Hands) (h : Held) → idle_hands ≡ u → u.held ≡ Some h → ⊥
idle-empty u h is held = subst Nothing (ap (λ (z : Hands). z.held) is ∙ held) tt

-- a bundle that a pass has is in hand while there are more passes
longer : (k epoch : ℕ) (views more : List Hands) → IsDelivered k epoch views → IsDelivered k epoch (views ++ more)
longer k epoch views more d = record {
  id = d.id;
  pass = d.pass;
  there = at_longer views more d.id d.pass d.there;
  lane = d.lane;
  floor = d.floor;
  number = d.number;
  records = d.records;
  held = d.held;
}

-- a new pass breaks no link
pub splits-linked : (a : Setting) (shelf : List (Option Piece)) (states : List SharedView) (views : List Hands)
    → AreLinked a shelf states views → AreLinked a shelf states (views ++ idle_hands ∷ [])
splits-linked a shelf states views linked = record {
  own = λ k own under pardo has u epoch link at from. ⊎_elim (λ is. inl is)
      (λ t. inr (t.0, longer k epoch views (idle_hands ∷ []) t.1))
      (linked.own k own under pardo has u epoch link at from);
  in_hand = λ id u h at held. ⊎_elim (λ t. linked.in_hand id u h t held) (λ is. absurd (idle-empty u h is held))
      (at_snoc views idle_hands u id at);
  on_shelf = linked.on_shelf;
  delivered = λ k epoch d. ⊎_elim
      (λ t. linked.delivered k epoch (record {
        id = d.id;
        pass = d.pass;
        there = t;
        lane = d.lane;
        floor = d.floor;
        number = d.number;
        records = d.records;
        held = d.held;
      }))
      (λ is. absurd (idle-empty d.pass (Work k d.lane epoch d.floor d.number d.records true) is d.held))
      (at_snoc views idle_hands d.pass d.id d.there);
}

-- what a pass has in hand is linked right in the node that it enters
pub place-here : (a : Setting) (shelf : List (Option Piece)) (states : List SharedView) (views : List Hands)
    → AreLinked a shelf states views → (id k : ℕ) (w : Hands) (x : SharedView) → get_elem? states k ≡ some x
    → get_elem? views id ≡ some w → IsPlaceHere a w k x
place-here a shelf states views linked id k w x here at h place l s lane held link gives is down has from =
    linked.in_hand id w h at held place lane link gives
    (record {
      step = s;
      is = is;
      has = subst (λ (d : Down). HasLaneIn d.node d.lane lane states) (sym down)
          (record { state = x; there = here; in_it = has });
    })
    from
