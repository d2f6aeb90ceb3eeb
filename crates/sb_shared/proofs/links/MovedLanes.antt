-- Lanes of nodes that become others, and what that does to the links between them.
use Rattle.std.proofs.Common.{◌≡◌, ℕ, ◌≤◌, true, List, length, Some, None, Option, sym, refl, ◌∙◌, arith, inl, inr, ⊎_elim}
use Rattle.std.specs.Prelude.{◌⊎◌, slice_get}
use Rattle.sb_shown.specs.base.pipeline.declared.transform.Step.{Step}
use Rattle.sb_shown.specs.base.pipeline.Plans.{IsPlan}
use Rattle.sb_shown.specs.core.declared.held.Held.{Held}
use Rattle.sb_shown.specs.lane.LaneView.{LaneView}
use Rattle.sb_shown.specs.lane.Links.{Link, link_in, links_of}
use Rattle.sb_shown.specs.Linking.{place_in}
use Rattle.sb_shared.specs.declared.telling.Hands.{Hands}
use Rattle.sb_shared.specs.declared.telling.Setting.{Setting}
use Rattle.sb_shared.specs.Linked.{HasLaneIn, IsDelivered, IsUnder, LeadsBelow, LeadsRight, epoch_below, giver, is_pardo_at}
use Rattle.sb_shared.specs.SharedNodes.{SharedView}

module _ (a : Setting) (old : List SharedView) (before later : List Hands) where
  -- a bundle of the epoch, of a transform of single records that gives into lane i of node j, is delivered
  abbrev pub IsGivenInto : ℕ → ℕ → ℕ → Type 0
  IsGivenInto j i e =
      (y : ℕ) (s : Step) → slice_get a.plan.steps y ≡ Some s → is_pardo_at a y ≡ true → s.down ≡ record { node = j; lane = i }
      → IsDelivered y e later

  -- the container of the epoch below node j stands at the place, if the epoch is not sealed there; there is none
  abbrev pub StandsUnder : ℕ → ℕ → ℕ → Type 0
  StandsUnder j e place = (under : LaneView) → IsUnder a.plan j under old → length under.marks ≤ e → place_in e (links_of under.containers) ≡ Some place

  abbrev pub NoneUnder : ℕ → ℕ → Type 0
  NoneUnder j e = (under : LaneView) → IsUnder a.plan j under old → length under.marks ≤ e → place_in e (links_of under.containers) ≡ None

  -- the link of an epoch of node j, which is linked to the same as before
  pub record IsSameLink (j e : ℕ) (link : Link) (was : List Link) : Type 0 where
    pub before_is : Link
    pub there : link_in e was ≡ Some before_is
    pub down : link.down ≡ before_is.down
    pub keeps : before_is.down ≡ None → IsDelivered j e before → IsDelivered j e later

  -- which was set now
  pub record IsSetLink (j e : ℕ) (link : Link) : Type 0 where
    pub place : ℕ
    pub down : link.down ≡ Some place
    pub stands : StandsUnder j e place

  -- which is that of a container that was made now, in node k
  pub record IsNewLink (k j e : ℕ) (link : Link) : Type 0 where
    pub here : j ≡ k
    pub down : link.down ≡ None
    pub none : NoneUnder j e

  -- lane i of node j, which was so, is so, as node k is left
  pub record Moved (k j i : ℕ) (was is : LaneView) : Type 0 where
    pub marks : length was.marks ≤ length is.marks
    pub stays : (e place : ℕ) → length is.marks ≤ e → place_in e (links_of was.containers) ≡ Some place → place_in e (links_of is.containers) ≡ Some place
    pub none : (e : ℕ) → length is.marks ≤ e → place_in e (links_of was.containers) ≡ None → (place_in e (links_of is.containers) ≡ None) ⊎ ((j ≡ k) × IsGivenInto j i e)
    pub links : (e : ℕ) (link : Link) → is_pardo_at a j ≡ true → i ≡ 0 → link_in e (links_of is.containers) ≡ Some link
        → IsSameLink j e link (links_of was.containers) ⊎ (IsSetLink j e link ⊎ IsNewLink k j e link)

  -- lane i of node j is so, and was there
  pub record WasMoved (k j i : ℕ) (is : LaneView) : Type 0 where
    pub was : LaneView
    pub has : HasLaneIn j i was old
    pub moved : Moved k j i was is

  module _ (k : ℕ) (new : List SharedView) (plan : IsPlan a.plan) (moved : (j i : ℕ) (is : LaneView) → HasLaneIn j i is new → WasMoved k j i is) where
    -- the lane below was the lane below
    under-was : (j : ℕ) (under : LaneView) (u : IsUnder a.plan j under new) → IsUnder a.plan j (moved u.step.down.node u.step.down.lane under u.has).was old
    under-was j under u = record { step = u.step; is = u.is; has = (moved u.step.down.node u.step.down.lane under u.has).has }

    -- a place below stays
    pub stands-kept : (j e place : ℕ) (under : LaneView) → StandsUnder j e place → IsUnder a.plan j under new → length under.marks ≤ e → place_in e (links_of under.containers) ≡ Some place
    stands-kept j e place under stands u m =
        let v = moved u.step.down.node u.step.down.lane under u.has in
        v.moved.stays e place m (stands v.was (under-was j under u) (omega (arith, v.moved.marks, m)))

    -- what is known of what is in hand stays
    pub right-kept : (h : Held) (link : Option ℕ) → LeadsRight a old h link → LeadsRight a new h link
    right-kept h link right place under is gives u m = stands-kept (giver h) (epoch_below h) place under (λ v x n. right place v is gives x n) u m

    -- a container of node j that is linked right before the leaving is so after it
    module _ (j : ℕ) (own under : LaneView) (o : WasMoved k j 0 own) (u : IsUnder a.plan j under new) (e : ℕ) (link : Link) (m : length under.marks ≤ e) where
      -- what is to be proved of the link
      abbrev IsRight : Type 0
      IsRight = (link.down ≡ place_in e (links_of under.containers)) ⊎ ((link.down ≡ None) × IsDelivered j e later)

      -- what the lane below was
      abbrev v : WasMoved k u.step.down.node u.step.down.lane under
      v = moved u.step.down.node u.step.down.lane under u.has

      -- the epoch was not sealed there
      m_was : length v.was.marks ≤ e
      m_was = omega (arith, v.moved.marks, m)

      -- the link is to none, and there was none
      to_none : is_pardo_at a j ≡ true → link.down ≡ None → place_in e (links_of v.was.containers) ≡ None → IsRight
      to_none pardo down none = ⊎_elim (λ n. inl (down ∙ sym n)) (λ g. inr (down, g.1 j u.step u.is pardo refl)) (v.moved.none e m none)

      -- the container was made now
      made : IsNewLink k j e link → IsRight
      made n = ⊎_elim (λ none. inl (n.down ∙ sym none)) (λ g. absurd (omega (arith, plan.further j u.step u.is, n.here, g.0))) (v.moved.none e m (n.none v.was (under-was j under u) m_was))

      -- its link was set now
      set_now : IsSetLink j e link → IsRight
      set_now s = inl (s.down ∙ sym (v.moved.stays e s.place m (s.stands v.was (under-was j under u) m_was)))

      -- it is linked to the place that there was, if there was one
      by_place : is_pardo_at a j ≡ true → (p : Option ℕ) → place_in e (links_of v.was.containers) ≡ p → link.down ≡ place_in e (links_of v.was.containers) → IsRight
      by_place pardo None is q = to_none pardo (q ∙ is) is
      by_place pardo (Some p) is q = inl (q ∙ is ∙ sym (v.moved.stays e p m is))

      -- it is linked to the same as before
      same : is_pardo_at a j ≡ true → LeadsBelow j o.was v.was before → IsSameLink j e link (links_of o.was.containers) → IsRight
      same pardo leads s = ⊎_elim (λ q. by_place pardo (place_in e (links_of v.was.containers)) refl (s.down ∙ q)) (λ w. inr (s.down ∙ w.0, s.keeps w.0 w.1)) (leads e s.before_is s.there m_was)

      -- in all cases
      pub leads-right : is_pardo_at a j ≡ true → LeadsBelow j o.was v.was before → link_in e (links_of own.containers) ≡ Some link → IsRight
      leads-right pardo leads at = ⊎_elim (same pardo leads) (⊎_elim set_now made) (o.moved.links e link pardo refl at)

    -- each lane of a transform of single records leads to the lane below
    pub own-kept : ((j : ℕ) (own under : LaneView) → is_pardo_at a j ≡ true → HasLaneIn j 0 own old → IsUnder a.plan j under old → LeadsBelow j own under before)
        → (j : ℕ) (own under : LaneView) → is_pardo_at a j ≡ true → HasLaneIn j 0 own new → IsUnder a.plan j under new → LeadsBelow j own under later
    own-kept leads j own under pardo has u e link at m =
        let o = moved j 0 own has in
        let v = moved u.step.down.node u.step.down.lane under u.has in
        leads-right j own under o u e link m pardo (leads j o.was v.was pardo o.has (under-was j under u)) at
