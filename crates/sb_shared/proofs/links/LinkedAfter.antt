-- What passes and nodes are linked after a step, by what became of the lanes and by what the pass has in hand now.
use Rattle.std.proofs.Common.{◌≡◌, ℕ, Bool, true, false, List, [], ◌∷◌, Some, None, Option, sym, refl, ap, subst, ◌∙◌, ⊎_elim}
use Rattle.std.specs.Prelude.{slice_set}
use Rattle.std.specs.Option.{option_map}
use Rattle.std.proofs.lemmas.Option.{same_Some}
use mathlib.Core.Option.{some}
use lib.ListN.{get_elem?}
use Rattle.atomic_table.proofs.Lists.{at_set, set_here}
use Rattle.sb_turn.proofs.Totals.{within}
use Rattle.sb_shown.specs.base.records.Reading.{◌>>=◌}
use Rattle.sb_shown.specs.base.records.declared.item.Record.{Record}
use Rattle.sb_shown.specs.base.pipeline.Plans.{IsPlan}
use Rattle.sb_shown.specs.base.pipeline.declared.transform.Down.{Down}
use Rattle.sb_shown.specs.base.pipeline.declared.transform.Step.{Step}
use Rattle.sb_shown.specs.core.Events.{below}
use Rattle.sb_shown.specs.core.declared.held.Held.{Held}
use Rattle.sb_shown.specs.core.declared.held.Held.TheVariants.{Work, Close}
use Rattle.sb_shown.specs.lane.Changes.{StandsAt}
use Rattle.sb_shown.specs.lane.LaneView.{LaneView}
use Rattle.sb_shown.specs.lane.Links.{Link, link_in, links_of}
use Rattle.sb_shown.specs.Linking.{place_in}
use Rattle.sb_shared.specs.declared.telling.Hands.{Hands}
use Rattle.sb_shared.specs.declared.telling.Piece.{Piece}
use Rattle.sb_shared.specs.declared.telling.Setting.{Setting}
use Rattle.sb_shared.specs.Doings.{work_of}
use Rattle.sb_shared.specs.Linked.{AreLinked, HasLaneIn, IsDelivered, IsUnder, LeadsRight}
use Rattle.sb_shared.specs.SharedNodes.{SharedView}
use Rattle.sb_shared.specs.Views.{held_by, as_list}
use Rattle.sb_shared.proofs.links.LeftLanes.{delivered-kept, still}
use Rattle.sb_shared.proofs.links.MovedLanes.{WasMoved, own-kept, right-kept}

-- the place of an epoch at which its container stands
pub stands-place : (e place : ℕ) (lane : LaneView) → StandsAt e place lane.containers → place_in e (links_of lane.containers) ≡ Some place
stands-place e place lane s = ap (option_map (λ (k : Link). k.place)) s.there ∙ ap (λ p. Some p) s.place_is

-- and the other way round
pub place-stands : (e place : ℕ) (lane : LaneView) → place_in e (links_of lane.containers) ≡ Some place → StandsAt e place lane.containers
place-stands e place lane h = by_link (link_in e (links_of lane.containers)) refl h
  where
    by_link : (o : Option Link) → link_in e (links_of lane.containers) ≡ o → option_map (λ (k : Link). k.place) o ≡ Some place → StandsAt e place lane.containers
    by_link None is h = cc
    by_link (Some x) is h = record { link = x; there = is; place_is = same_Some x.place place h }

-- what is the one thing in hand is in hand
pub only-listed : (o : Option Held) (h : Held) → as_list o ≡ h ∷ [] → o ≡ Some h
only-listed None h e = cc
only-listed (Some z) h e = let q : z ≡ h = cc in ap (λ u. Some u) q

-- the lane below, at a place that is known
pub under-here : (a : Setting) (y k l : ℕ) (states : List SharedView) (under : LaneView) → below a.plan y ≡ Some (record { node = k; lane = l }) → IsUnder a.plan y under states → HasLaneIn k l under states
under-here a y k l states under goes u =
    let down : u.step.down ≡ record { node = k; lane = l } = same_Some u.step.down (record { node = k; lane = l }) (sym (ap (λ (o : Option Step). o >>= λ s. Some s.down) u.is) ∙ goes) in
    subst (λ (d : Down). HasLaneIn d.node d.lane under states) down u.has

module _ (a : Setting) (shelf : List (Option Piece)) (old : List SharedView) (views : List Hands) (linked : AreLinked a shelf old views) (id : ℕ) (w w' : Hands) (at : get_elem? views id ≡ some w) where
  -- what passes know after the step
  abbrev later : List Hands
  later = slice_set views id w'

  -- what this one knows
  pub has-now : get_elem? later id ≡ some w'
  has-now = set_here views id w' (within views id w at)

  -- by what became of lanes as node k was left
  module _ (k : ℕ) (new : List SharedView) (plan : IsPlan a.plan) (moved : (j i : ℕ) (is : LaneView) → HasLaneIn j i is new → WasMoved a old views later k j i is) where
    -- if what it has in hand now is linked right
    pub linked-after : ((h : Held) → w'.held ≡ Some h → LeadsRight a new h w'.link)
        → ((j e : ℕ) (d : IsDelivered j e later) → d.pass ≡ w' → (place : ℕ) × (w'.link ≡ Some place))
        → AreLinked a shelf new later
    linked-after mine placed = record {
      own = own-kept a old views later k new plan moved linked.own;
      in_hand = λ j u h there held. ⊎_elim
          (λ t. subst (λ (z : Hands). LeadsRight a new h z.link) t.1 (mine h (ap (λ (z : Hands). z.held) t.1 ∙ held)))
          (λ t. right-kept a old views later k new plan moved h u.link (linked.in_hand j u h t.1 held))
          (at_set views id j w' u there);
      on_shelf = λ i p there. right-kept a old views later k new plan moved (work_of p.claim false) p.link (linked.on_shelf i p there);
      delivered = λ j e d. ⊎_elim
          (λ t. let o = placed j e d (sym t.1) in (o.0, ap (λ (z : Hands). z.link) (sym t.1) ∙ o.1))
          (λ t. linked.delivered j e (still j e later views d t.1))
          (at_set views id d.id w' d.pass d.there);
    }

    -- the pass has in hand what it had
    pub linked-same : w'.held ≡ w.held → w'.link ≡ w.link → AreLinked a shelf new later
    linked-same held link = linked-after
        (λ h is. subst (LeadsRight a new h) (sym link) (right-kept a old views later k new plan moved h w.link (linked.in_hand id w h at (sym held ∙ is))))
        (λ j e d is.
        let o = linked.delivered j e (record { id = id; pass = w; there = at; lane = d.lane; floor = d.floor; number = d.number; records = d.records; held = sym held ∙ ap (λ (z : Hands). z.held) (sym is) ∙ d.held }) in
        (o.0, link ∙ o.1))

    -- it has nothing
    pub linked-empty : w'.held ≡ None → AreLinked a shelf new later
    linked-empty none = linked-after
        (λ h is. absurd (nothing-some h (sym none ∙ is)))
        (λ j e d is. absurd (nothing-some (Work j d.lane e d.floor d.number d.records true) (sym none ∙ ap (λ (z : Hands). z.held) (sym is) ∙ d.held)))
      where
        nothing-some : (h : Held) → ◌≡◌ {A = Option Held} None (Some h) → ⊥
        nothing-some h e = cc

    -- it has a closing
    pub linked-closing : (n l epoch serial floor mark : ℕ) (rows : List Record) (passed : Bool) → w'.held ≡ Some (Close n l epoch serial floor mark rows passed)
        → LeadsRight a new (Close n l epoch serial floor mark rows passed) w'.link → AreLinked a shelf new later
    linked-closing n l epoch serial floor mark rows passed held right = linked-after
        (λ h is. subst (λ z. LeadsRight a new z w'.link) (same_Some (Close n l epoch serial floor mark rows passed) h (sym held ∙ is)) right)
        (λ j e d is. absurd (no-work j d.lane e d.floor d.number d.records (sym held ∙ ap (λ (z : Hands). z.held) (sym is) ∙ d.held)))
      where
        no-work : (j i e f n' : ℕ) (records : List Record) → ◌≡◌ {A = Option Held} (Some (Close n l epoch serial floor mark rows passed)) (Some (Work j i e f n' records true)) → ⊥
        no-work j i e f n' records q = cc

    -- it has a bundle
    pub linked-work : (n l epoch floor number : ℕ) (records : List Record) (delivered : Bool) → w'.held ≡ Some (Work n l epoch floor number records delivered)
        → LeadsRight a new (Work n l epoch floor number records delivered) w'.link → (delivered ≡ true → (place : ℕ) × (w'.link ≡ Some place)) → AreLinked a shelf new later
    linked-work n l epoch floor number records delivered held right placed = linked-after
        (λ h is. subst (λ z. LeadsRight a new z w'.link) (same_Some (Work n l epoch floor number records delivered) h (sym held ∙ is)) right)
        (λ j e d is. placed (so j d.lane e d.floor d.number d.records (sym held ∙ ap (λ (z : Hands). z.held) (sym is) ∙ d.held)))
      where
        so : (j i e f n' : ℕ) (rs : List Record) → ◌≡◌ {A = Option Held} (Some (Work n l epoch floor number records delivered)) (Some (Work j i e f n' rs true)) → delivered ≡ true
        so j i e f n' rs q = cc

  -- ---- what a pass had that is a delivered bundle
  -- it has it still
  pub keeps-same : w'.held ≡ w.held → (j e : ℕ) → IsDelivered j e views → IsDelivered j e later
  keeps-same same j e = delivered-kept views id w w' at j e (λ l floor number records held. record { id = id; pass = w'; there = has-now; lane = l; floor = floor; number = number; records = records; held = same ∙ held })

  -- it had none
  pub keeps-others : ((j l e floor number : ℕ) (records : List Record) → w.held ≡ Some (Work j l e floor number records true) → ⊥) → (j e : ℕ) → IsDelivered j e views → IsDelivered j e later
  keeps-others none j e = delivered-kept views id w w' at j e (λ l floor number records held. absurd (none j l e floor number records held))

  -- as it had nothing
  pub keeps-empty : held_by w ≡ [] → (j e : ℕ) → IsDelivered j e views → IsDelivered j e later
  keeps-empty empty = keeps-others (λ j l e floor number records held. no-head (Work j l e floor number records true) (sym (ap as_list held) ∙ empty))
    where
      no-head : (h : Held) → h ∷ [] ≡ [] → ⊥
      no-head h q = cc

  -- as it had a closing
  pub keeps-closing : (n i epoch serial low mark : ℕ) (rows : List Record) (passed : Bool) → held_by w ≡ Close n i epoch serial low mark rows passed ∷ [] → (j e : ℕ) → IsDelivered j e views → IsDelivered j e later
  keeps-closing n i epoch serial low mark rows passed has = keeps-others (λ j l e floor number records held. no-work j l e floor number records (sym (ap as_list held) ∙ has))
    where
      no-work : (j l e floor number : ℕ) (records : List Record) → Work j l e floor number records true ∷ [] ≡ Close n i epoch serial low mark rows passed ∷ [] → ⊥
      no-work j l e floor number records q = cc

  -- as it had a bundle that is not delivered
  pub keeps-working : (n i epoch low count : ℕ) (rs : List Record) → held_by w ≡ Work n i epoch low count rs false ∷ [] → (j e : ℕ) → IsDelivered j e views → IsDelivered j e later
  keeps-working n i epoch low count rs has = keeps-others (λ j l e floor number records held. not-given j l e floor number records (sym (ap as_list held) ∙ has))
    where
      not-given : (j l e floor number : ℕ) (records : List Record) → Work j l e floor number records true ∷ [] ≡ Work n i epoch low count rs false ∷ [] → ⊥
      not-given j l e floor number records q = cc
