-- Laying, claiming and raising keep nodes and passes linked; and how they are linked at the start and at the end.
use Rattle.std.proofs.Common.{◌≡◌, ℕ, suc, zero, true, false, List, [], ◌∷◌, replicate, Some, None, Option, sym, ap, subst, ◌∙◌, inl, inr, ⊎_elim}
use Rattle.std.specs.Prelude.{slice_get, slice_set, map}
use Rattle.std.proofs.lemmas.Option.{same_Some}
use mathlib.Core.Option.{some, some-injective, some-ne-none}
use lib.ListN.{get_elem?}
use Rattle.atomic_table.proofs.Lists.{at_set}
use Rattle.sb_shown.specs.base.records.declared.item.Record.{Record}
use Rattle.sb_shown.specs.core.declared.held.Held.{Held}
use Rattle.sb_shown.specs.core.declared.held.Held.TheVariants.{Work}
use Rattle.sb_shown.specs.lane.LaneView.{LaneView}
use Rattle.sb_shown.specs.lane.Links.{Link, link_in, links_of}
use Rattle.sb_shown.specs.lane.Placed.{Placed}
use Rattle.sb_shown.specs.node.declared.state.NodeState.{NodeState}
use Rattle.sb_shown.specs.Linking.{AreLinked as AreLinkedExactly}
use Rattle.sb_shown.specs.Sets.{HasLane as HasLaneOf}
use Rattle.sb_shown.proofs.Single.{get-map}
use Rattle.sb_shared.specs.declared.telling.Hands.{Hands}
use Rattle.sb_shared.specs.declared.telling.Piece.{Piece}
use Rattle.sb_shared.specs.declared.telling.Setting.{Setting}
use Rattle.sb_shared.specs.Doings.{work_of}
use Rattle.sb_shared.specs.Linked.{AreLinked, HasLaneIn, IsDelivered, LeadsRight}
use Rattle.sb_shared.specs.SharedNodes.{SharedView}
use Rattle.sb_shared.specs.Views.{hands_after_claim, idle_hands, hands_after_put, as_list}
use Rattle.sb_shared.proofs.links.LeftLanes.{of-map, still}
use Rattle.sb_shared.proofs.links.LinkedAfter.{keeps-empty, keeps-same, keeps-working}

-- nothing in hand is not something
nothing-some : (h : Held) → ◌≡◌ {A = Option Held} None (Some h) → ⊥
nothing-some h e = cc

module _ (a : Setting) (shelf : List (Option Piece)) (states : List SharedView) (views : List Hands) (linked : AreLinked a shelf states views) (id : ℕ) (w : Hands) (at : get_elem? views id ≡ some w) where
  -- the pass and the shelf have other things, and the nodes are as they were
  module _ (shelf' : List (Option Piece)) (w' : Hands) (keeps : (j e : ℕ) → IsDelivered j e views → IsDelivered j e (slice_set views id w')) where
    -- they are linked if what the pass and the shelf have now is linked right, and the pass has no delivered bundle
    handed-linked : ((h : Held) → w'.held ≡ Some h → LeadsRight a states h w'.link) → ((j i e floor number : ℕ) (records : List Record) → w'.held ≡ Some (Work j i e floor number records true) → ⊥)
        → ((i : ℕ) (p : Piece) → get_elem? shelf' i ≡ some (Some p) → LeadsRight a states (work_of p.claim false) p.link) → AreLinked a shelf' states (slice_set views id w')
    handed-linked mine none on_shelf = record {
      own = λ j own under pardo has u e link there from. ⊎_elim (λ is. inl is) (λ t. inr (t.0, keeps j e t.1)) (linked.own j own under pardo has u e link there from);
      in_hand = λ j u h there held. ⊎_elim
          (λ t. subst (λ (z : Hands). LeadsRight a states h z.link) t.1 (mine h (ap (λ (z : Hands). z.held) t.1 ∙ held)))
          (λ t. linked.in_hand j u h t.1 held)
          (at_set views id j w' u there);
      on_shelf = on_shelf;
      delivered = λ j e d. ⊎_elim
          (λ t. absurd (none j d.lane e d.floor d.number d.records (ap (λ (z : Hands). z.held) t.1 ∙ d.held)))
          (λ t. linked.delivered j e (still j e (slice_set views id w') views d t.1))
          (at_set views id d.id w' d.pass d.there);
    }

  -- the bundle in hand is laid on a free place
  pub laid-linked : (i : ℕ) (p : Piece) → w.held ≡ Some (work_of p.claim false) → w.link ≡ p.link → AreLinked a (slice_set shelf i (Some p)) states (slice_set views id (hands_after_put w p))
  laid-linked i p held link =
      handed-linked (slice_set shelf i (Some p)) (hands_after_put w p)
      (keeps-working a shelf states views linked id w (hands_after_put w p) at p.claim.node p.claim.lane p.claim.bundle.epoch p.claim.bundle.floor p.claim.bundle.number p.claim.bundle.records (ap as_list held))
      (λ h is. absurd (nothing-some h is))
      (λ j n e floor number records is. absurd (nothing-some (Work j n e floor number records true) is))
      (λ j q there. ⊎_elim
      (λ t. subst (λ (z : Piece). LeadsRight a states (work_of z.claim false) z.link) (same_Some p q t.1) (subst (LeadsRight a states (work_of p.claim false)) link (linked.in_hand id w (work_of p.claim false) at held)))
      (λ t. linked.on_shelf j q t.1)
      (at_set shelf i j (Some p) (Some q) there))

  -- a bundle is claimed
  pub claimed-linked : (i : ℕ) (p : Piece) → get_elem? shelf i ≡ some (Some p) → w.held ≡ None → AreLinked a (slice_set shelf i None) states (slice_set views id (hands_after_claim w p))
  claimed-linked i p there empty =
      handed-linked (slice_set shelf i None) (hands_after_claim w p)
      (keeps-empty a shelf states views linked id w (hands_after_claim w p) at (ap as_list empty))
      (λ h is. subst (λ z. LeadsRight a states z p.link) (same_Some (work_of p.claim false) h is) (linked.on_shelf i p there))
      (λ j n e floor number records is. cc)
      (λ j q is. ⊎_elim (λ t. absurd (nothing-piece q t.1)) (λ t. linked.on_shelf j q t.1) (at_set shelf i j None (Some q) is))
    where
      nothing-piece : (q : Piece) → ◌≡◌ {A = Option Piece} None (Some q) → ⊥
      nothing-piece q e = cc

  -- the state word is raised, and the pass has what it had
  pub raised-linked : (w' : Hands) → w'.held ≡ w.held → w'.link ≡ w.link → AreLinked a shelf states (slice_set views id w')
  raised-linked w' held link = record {
    own = λ j own under pardo has u e l there from. ⊎_elim (λ is. inl is) (λ t. inr (t.0, keeps-same a shelf states views linked id w w' at held j e t.1))
        (linked.own j own under pardo has u e l there from);
    in_hand = λ j u h there has. ⊎_elim
        (λ t.
        let mine : LeadsRight a states h w.link = linked.in_hand id w h at (sym held ∙ ap (λ (z : Hands). z.held) t.1 ∙ has) in
        subst (λ (z : Hands). LeadsRight a states h z.link) t.1 (subst (LeadsRight a states h) (sym link) mine))
        (λ t. linked.in_hand j u h t.1 has)
        (at_set views id j w' u there);
    on_shelf = linked.on_shelf;
    delivered = λ j e d. ⊎_elim
        (λ t.
        let mine = linked.delivered j e (record { id = id; pass = w; there = at; lane = d.lane; floor = d.floor; number = d.number; records = d.records; held = sym held ∙ ap (λ (z : Hands). z.held) t.1 ∙ d.held }) in
        (mine.0, ap (λ (z : Hands). z.link) (sym t.1) ∙ link ∙ mine.1))
        (λ t. linked.delivered j e (still j e (slice_set views id w') views d t.1))
        (at_set views id d.id w' d.pass d.there);
  }

-- ---- at the start and at the end
-- the two ways to read a list give the same
slice-at : {X : Type 0} (l : List X) (k : ℕ) (x : X) → get_elem? l k ≡ some x → slice_get l k ≡ Some x
slice-at [] k x h = absurd (some-ne-none x (sym h))
slice-at (y ∷ l) zero x h = ap (λ z. Some z) (some-injective y x h)
slice-at (y ∷ l) (suc k) x h = slice-at l k x h

-- and the other way round
at-slice : {X : Type 0} (l : List X) (k : ℕ) (x : X) → slice_get l k ≡ Some x → get_elem? l k ≡ some x
at-slice [] k x h = cc
at-slice (y ∷ l) zero x h = ap (λ z. some z) (same_Some y x h)
at-slice (y ∷ l) (suc k) x h = at-slice l k x h

-- the states of the nodes, as a hand has them
abbrev pub owns : List SharedView → List NodeState
owns states = map (λ x. x.own) states

-- a lane of the cascade is one of the hand, and the other way round
lane-of : (states : List SharedView) (k l : ℕ) (lane : LaneView) → HasLaneIn k l lane states → HasLaneOf k l lane (owns states)
lane-of states k l lane h = record {
  own = h.state.own;
  there = get-map (λ (x : SharedView). x.own) states k h.state (slice-at states k h.state h.there);
  in_it = h.in_it;
}

lane-in : (states : List SharedView) (k l : ℕ) (lane : LaneView) → HasLaneOf k l lane (owns states) → HasLaneIn k l lane states
lane-in states k l lane h =
    let o = of-map (λ (x : SharedView). x.own) states k h.own h.there in
    record { state = o.0; there = at-slice states k o.0 o.1; in_it = ap (λ (n : NodeState). slice_get n.lanes.items l) o.2 ∙ h.in_it }

-- no pass has anything in hand, and nothing lies on the shelf
pub record AreEmpty (shelf : List (Option Piece)) (views : List Hands) : Type 0 where
  pub passes : (id : ℕ) (u : Hands) → get_elem? views id ≡ some u → u.held ≡ None
  pub places : (i : ℕ) (p : Piece) → get_elem? shelf i ≡ some (Some p) → ⊥

-- nodes that are linked as those of one hand are linked while nothing is in hand
pub start-linked : (a : Setting) (shelf : List (Option Piece)) (states : List SharedView) (views : List Hands) → AreLinkedExactly a.plan (owns states) → AreEmpty shelf views → AreLinked a shelf states views
start-linked a shelf states views linked empty = record {
  own = λ k own under pardo has u epoch link at from. inl (linked.leads k u.step own under u.is pardo (lane-of states k 0 own has) (lane-of states u.step.down.node u.step.down.lane under u.has) epoch link at from);
  in_hand = λ id u h at held. absurd (nothing-some h (sym (empty.passes id u at) ∙ held));
  on_shelf = λ i p at. absurd (empty.places i p at);
  delivered = λ k epoch d. absurd (nothing-some (Work k d.lane epoch d.floor d.number d.records true) (sym (empty.passes d.id d.pass d.there) ∙ d.held));
}

-- and so are nodes that have no container
pub bare-linked : (a : Setting) (shelf : List (Option Piece)) (states : List SharedView) (views : List Hands) → ((k l : ℕ) (lane : LaneView) → HasLaneIn k l lane states → lane.containers ≡ []) → AreEmpty shelf views → AreLinked a shelf states views
bare-linked a shelf states views bare empty = record {
  own = λ k own under pardo has u epoch link at from. absurd (no-link epoch link (ap (λ (xs : List Placed). link_in epoch (links_of xs)) (sym (bare k 0 own has)) ∙ at));
  in_hand = λ id u h at held. absurd (nothing-some h (sym (empty.passes id u at) ∙ held));
  on_shelf = λ i p at. absurd (empty.places i p at);
  delivered = λ k epoch d. absurd (nothing-some (Work k d.lane epoch d.floor d.number d.records true) (sym (empty.passes d.id d.pass d.there) ∙ d.held));
}
  where
    no-link : (epoch : ℕ) (link : Link) → ◌≡◌ {A = Option Link} None (Some link) → ⊥
    no-link epoch link e = cc

-- at the end nodes are linked as those of one hand
pub end-linked : (a : Setting) (shelf : List (Option Piece)) (states : List SharedView) (views : List Hands) → AreLinked a shelf states views → AreEmpty shelf views → AreLinkedExactly a.plan (owns states)
end-linked a shelf states views linked empty = record {
  leads = λ k s own under is pardo has below. λ epoch link at from. ⊎_elim (λ e. e)
      (λ t. absurd (nothing-some (Work k t.1.lane epoch t.1.floor t.1.number t.1.records true) (sym (empty.passes t.1.id t.1.pass t.1.there) ∙ t.1.held)))
      (linked.own k own under pardo (lane-in states k 0 own has) (record { step = s; is = is; has = lane-in states s.down.node s.down.lane under below }) epoch link at from);
}

-- one pass that has nothing in hand, others that are idle, and an empty shelf
pub are-empty : (places others : ℕ) (w : Hands) → w.held ≡ None → AreEmpty (replicate places None) (w ∷ replicate others idle_hands)
are-empty places others w none = record { passes = of_pass; places = of_place places }
  where
    idle : (n id : ℕ) (u : Hands) → get_elem? (replicate n idle_hands) id ≡ some u → u.held ≡ None
    idle zero id u at = absurd (some-ne-none u (sym at))
    idle (suc n) zero u at = ap (λ (z : Hands). z.held) (sym (some-injective idle_hands u at))
    idle (suc n) (suc id) u at = idle n id u at

    of_pass : (id : ℕ) (u : Hands) → get_elem? (w ∷ replicate others idle_hands) id ≡ some u → u.held ≡ None
    of_pass zero u at = ap (λ (z : Hands). z.held) (sym (some-injective w u at)) ∙ none
    of_pass (suc id) u at = idle others id u at

    nothing-there : (p : Piece) → ◌≡◌ {A = Option Piece} None (Some p) → ⊥
    nothing-there p e = cc

    of_place : (n i : ℕ) (p : Piece) → get_elem? (replicate n None) i ≡ some (Some p) → ⊥
    of_place zero i p at = some-ne-none (Some p) (sym at)
    of_place (suc n) zero p at = nothing-there p (some-injective None (Some p) at)
    of_place (suc n) (suc i) p at = of_place n i p at
