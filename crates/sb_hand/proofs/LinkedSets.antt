-- One lane of one node is another: the lanes of all nodes.
use Rattle.std.proofs.Common.{◌≡◌, ℕ, true, List, Some, sym, refl, ap, subst, ◌∙◌, arith, inl, inr, ⊎_elim}
use Rattle.std.specs.Prelude.{◌≢◌, ◌⊎◌}
use Rattle.std.specs.List.{slice_get, slice_set}
use Rattle.std.proofs.lemmas.Bool.{cases_eq}
use Rattle.std.proofs.lemmas.Option.{same_Some}
use Rattle.sb_shown.specs.diary.declared.event.DiaryEvent.{DiaryEvent}
use Rattle.sb_shown.specs.node.declared.kept.Kept.{Kept}
use Rattle.sb_shown.specs.base.pipeline.declared.transform.Step.{Step}
use Rattle.sb_shown.specs.base.pipeline.Shapes.{Shape}
use Rattle.sb_shown.specs.base.pipeline.Plans.{IsPlan}
use Rattle.sb_shown.specs.base.pipeline.Operators.{operator_at}
use Rattle.sb_shown.specs.core.Closings.{is_pardo}
use Rattle.sb_shown.proofs.core.exact.Nodes.{slice_get-set_same, slice_get-set_other}
use Rattle.sb_shown.specs.lane.LaneView.{LaneView}
use Rattle.sb_shown.specs.node.declared.state.NodeState.{NodeState}
use Rattle.sb_shown.specs.Searching.{LooksFew, SearchesFew, SearchesStay}
use Rattle.sb_shown.specs.Sets.{HasLane, SetsLane, SetsNode, StaysAt}

-- lane l of node k, which was so, is so; nothing is said of the rest of the node
pub record OneLane (old new : List NodeState) (k l : ℕ) (lane now : LaneView) : Type 0 where
  pub own : NodeState
  pub there : slice_get old k ≡ Some own
  pub in_it : slice_get own.lanes.items l ≡ Some lane
  pub with : NodeState
  pub set : new ≡ slice_set old k with
  pub lanes : with.lanes.items ≡ slice_set own.lanes.items l now

pub of-lane : (k l : ℕ) (lane now : LaneView) (line : DiaryEvent) (old new : List NodeState) → SetsLane k l lane now line old new → OneLane old new k l lane now
of-lane k l lane now line old new s = record { own = s.own; there = s.there; in_it = s.in_it; with = s.with; set = s.set; lanes = s.lanes }

pub of-node : (k l : ℕ) (lane now : LaneView) (more : ℕ) (was is : Kept) (line : DiaryEvent) (old new : List NodeState) → SetsNode k l lane now more was is line old new → OneLane old new k l lane now
of-node k l lane now more was is line old new s = record { own = s.own; there = s.there; in_it = s.in_it; with = s.with; set = s.set; lanes = s.lanes }

pub of-stays : (k l : ℕ) (old new : List NodeState) (lane : LaneView) (s : StaysAt k l old new lane) → OneLane old new k l lane s.now
of-stays k l old new lane s = record { own = s.own; there = s.there; in_it = s.in_it; with = s.with; set = s.set; lanes = s.lanes }

pub one-lane : (k l : ℕ) (a b : LaneView) (nodes : List NodeState) → HasLane k l a nodes → HasLane k l b nodes → a ≡ b
one-lane k l a b nodes x y =
    let same : x.own ≡ y.own = same_Some x.own y.own (sym x.there ∙ y.there) in
    same_Some a b (sym x.in_it ∙ ap (λ (n : NodeState). slice_get n.lanes.items l) same ∙ y.in_it)

-- of each transform of single records: its lane, and the lane below
abbrev pub Each : Shape → (ℕ → LaneView → LaneView → Type 0) → List NodeState → Type 0
Each plan P nodes =
    (j : ℕ) (st : Step) (a b : LaneView) → slice_get plan.steps j ≡ Some st → is_pardo (operator_at (slice_get plan.steps j)) ≡ true
    → HasLane j 0 a nodes → HasLane st.down.node st.down.lane b nodes → P j a b

module _ (old new : List NodeState) (k l : ℕ) (lane now : LaneView) (o : OneLane old new k l lane now) where
  pub has-was : HasLane k l lane old
  has-was = record { own = o.own; there = o.there; in_it = o.in_it }

  now-there : slice_get new k ≡ Some o.with
  now-there = ap (λ (n : List NodeState). slice_get n k) o.set ∙ slice_get-set_same old k o.own o.with o.there

  pub has-now : HasLane k l now new
  has-now = record { own = o.with; there = now-there; in_it = ap (λ (ls : List LaneView). slice_get ls l) o.lanes ∙ slice_get-set_same o.own.lanes.items l lane now o.in_it }

  -- a lane is this one, or was there
  pub from : (j i : ℕ) (x : LaneView) → HasLane j i x new → ((j ≡ k) × (i ≡ l) × (x ≡ now)) ⊎ ((((j ≡ k) × (i ≡ l)) → ⊥) × HasLane j i x old)
  from j i x h = ⊎_elim in_node elsewhere (cases_eq j k)
    where
      elsewhere : j ≢ k → ((j ≡ k) × (i ≡ l) × (x ≡ now)) ⊎ ((((j ≡ k) × (i ≡ l)) → ⊥) × HasLane j i x old)
      elsewhere ne = inr (
        (λ both. ne both.0),
        record {
          own = h.own;
          there = sym (slice_get-set_other old k j o.with ne) ∙ sym (ap (λ (n : List NodeState). slice_get n j) o.set) ∙ h.there;
          in_it = h.in_it;
        },
      )

      in_node : j ≡ k → ((j ≡ k) × (i ≡ l) × (x ≡ now)) ⊎ ((((j ≡ k) × (i ≡ l)) → ⊥) × HasLane j i x old)
      in_node e = ⊎_elim here beside (cases_eq i l)
        where
          own-is : h.own ≡ o.with
          own-is = same_Some h.own o.with (sym h.there ∙ ap (slice_get new) e ∙ now-there)

          read : slice_get (slice_set o.own.lanes.items l now) i ≡ Some x
          read = ap (λ (ls : List LaneView). slice_get ls i) (sym o.lanes) ∙ ap (λ (n : NodeState). slice_get n.lanes.items i) (sym own-is) ∙ h.in_it

          here : i ≡ l → ((j ≡ k) × (i ≡ l) × (x ≡ now)) ⊎ ((((j ≡ k) × (i ≡ l)) → ⊥) × HasLane j i x old)
          here f = inl (e, f, same_Some x now (sym read ∙ ap (slice_get (slice_set o.own.lanes.items l now)) f ∙ slice_get-set_same o.own.lanes.items l lane now o.in_it))

          beside : i ≢ l → ((j ≡ k) × (i ≡ l) × (x ≡ now)) ⊎ ((((j ≡ k) × (i ≡ l)) → ⊥) × HasLane j i x old)
          beside ne = inr (
            (λ both. ne both.1),
            record {
              own = o.own;
              there = ap (slice_get old) e ∙ o.there;
              in_it = sym (slice_get-set_other o.own.lanes.items l i now ne) ∙ read;
            },
          )

  pub few-set : LooksFew lane now → SearchesFew old new
  few-set few j i x h = ⊎_elim here (λ e. (x, e.1, omega arith)) (from j i x h)
    where
      here : (j ≡ k) × (i ≡ l) × (x ≡ now) → (was : LaneView) × HasLane j i was old × LooksFew was x
      here e = (lane, subst (λ z. z) (λ t. HasLane (sym e.0 t) (sym e.1 t) lane old) has-was, subst (LooksFew lane) (sym e.2) few)

  pub stay-set : now.searches ≡ lane.searches → SearchesStay old new
  stay-set same j i x h = ⊎_elim here (λ e. (x, e.1, refl)) (from j i x h)
    where
      here : (j ≡ k) × (i ≡ l) × (x ≡ now) → (was : LaneView) × HasLane j i was old × (x.searches ≡ was.searches)
      here e = (lane, subst (λ z. z) (λ t. HasLane (sym e.0 t) (sym e.1 t) lane old) has-was, ap (λ (s : LaneView). s.searches) e.2 ∙ same)

  module _ (plan : Shape) (is_plan : IsPlan plan) (P Q : ℕ → LaneView → LaneView → Type 0) where
    pub each-set : Each plan P old
        → ((st : Step) (under : LaneView) → slice_get plan.steps k ≡ Some st → is_pardo (operator_at (slice_get plan.steps k)) ≡ true → l ≡ 0 → HasLane k 0 lane old → HasLane st.down.node st.down.lane under old → P k lane under → Q k now under)
        → ((j : ℕ) (st : Step) (a : LaneView) → slice_get plan.steps j ≡ Some st → is_pardo (operator_at (slice_get plan.steps j)) ≡ true → st.down ≡ record { node = k; lane = l } → HasLane j 0 a old → P j a lane → Q j a now)
        → ((j : ℕ) (a b : LaneView) → (((j ≡ k) × (0 ≡ l)) → ⊥) → P j a b → Q j a b)
        → Each plan Q new
    each-set each above below rest j st a b is pardo ha hb = ⊎_elim own_is own_was (from j 0 a ha)
      where
        own_is : (j ≡ k) × (0 ≡ l) × (a ≡ now) → Q j a b
        own_is e = ⊎_elim
            (λ f. absurd (omega (arith, is_plan.further j st is, e.0, f.0)))
            (λ f.
            let was : HasLane k 0 lane old = subst (λ z. HasLane k z lane old) (sym e.1) has-was in
            let is_k : slice_get plan.steps k ≡ Some st = ap (slice_get plan.steps) (sym e.0) ∙ is in
            let pardo_k : is_pardo (operator_at (slice_get plan.steps k)) ≡ true = ap (λ z. is_pardo (operator_at (slice_get plan.steps z))) (sym e.0) ∙ pardo in
            subst (λ z. z) (λ t. Q (sym e.0 t) (sym e.2 t) b) (above st b is_k pardo_k (sym e.1) was f.1 (each k st lane b is_k pardo_k was f.1)))
            (from st.down.node st.down.lane b hb)

        own_was : (((j ≡ k) × (0 ≡ l)) → ⊥) × HasLane j 0 a old → Q j a b
        own_was e = ⊎_elim
            (λ f.
            let to : st.down ≡ record { node = k; lane = l } = λ t. record { node = f.0 t; lane = f.1 t } in
            let was : HasLane st.down.node st.down.lane lane old = subst (λ z. z) (λ t. HasLane (sym f.0 t) (sym f.1 t) lane old) has-was in
            subst (Q j a) (sym f.2) (below j st a is pardo to e.1 (each j st a lane is pardo e.1 was)))
            (λ f. rest j a b e.0 (each j st a b is pardo e.1 f.1))
            (from st.down.node st.down.lane b hb)
