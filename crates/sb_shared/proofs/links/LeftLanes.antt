-- What becomes of all lanes where one node is left.
use Rattle.std.proofs.Common.{◌≡◌, ℕ, suc, zero, true, List, [], ◌∷◌, length, Some, sym, refl, ap, subst, ◌∙◌, inl, inr, ⊎_elim}
use Rattle.std.specs.Prelude.{◌≢◌, ◌⊎◌, slice_get, slice_set, map}
use Rattle.std.proofs.lemmas.Bool.{cases_eq}
use Rattle.std.proofs.lemmas.Option.{same_Some}
use mathlib.Core.Option.{some, some-injective}
use lib.ListN.{get_elem?}
use Rattle.atomic_table.proofs.Lists.{at_set, set_else}
use Rattle.sb_shown.specs.core.declared.held.Held.TheVariants.{Work}
use Rattle.sb_shown.specs.core.containers.declared.container.CoreLane.{CoreLane}
use Rattle.sb_shown.proofs.core.exact.Nodes.{slice_get-set_same, slice_get-set_other}
use Rattle.sb_shown.specs.lane.LaneView.{LaneView, lane_of}
use Rattle.sb_shown.specs.lane.Links.{Link, links_of}
use Rattle.sb_shown.specs.node.Changes.{HasLane}
use Rattle.sb_shown.proofs.Single.{get-map}
use Rattle.sb_shown.specs.base.records.declared.item.Record.{Record}
use Rattle.sb_shared.specs.declared.telling.Hands.{Hands}
use Rattle.sb_shared.specs.declared.telling.Setting.{Setting}
use Rattle.sb_shared.specs.Linked.{HasLaneIn, IsDelivered, LanesStay, SetsLinks}
use Rattle.sb_shared.specs.SharedNodes.{SharedView}
use Rattle.sb_shared.proofs.links.LinkMoves.{KeepsDelivered, stay-moved}
use Rattle.sb_shared.proofs.links.MovedLanes.{Moved, WasMoved}

-- what a list of images has comes from the list
pub of-map : {X Y : Type 0} (f : X → Y) (xs : List X) (k : ℕ) (y : Y) → slice_get (map f xs) k ≡ Some y → (x : X) × (slice_get xs k ≡ Some x) × (f x ≡ y)
of-map f [] k y h = cc
of-map f (x ∷ xs) zero y h = (x, refl, same_Some (f x) y h)
of-map f (x ∷ xs) (suc k) y h = of-map f xs k y h

-- a lane of a node is one lane
pub one-lane : (l : ℕ) (x : SharedView) (p q : LaneView) → HasLane l p x.own → HasLane l q x.own → p ≡ q
one-lane l x p q h k = same_Some p q (sym h ∙ k)

-- and so is that of a node among all
pub one-lane-in : (k l : ℕ) (states : List SharedView) (x : SharedView) (p : LaneView) → get_elem? states k ≡ some x → HasLaneIn k l p states → HasLane l p x.own
one-lane-in k l states x p at h = subst (λ (z : SharedView). HasLane l p z.own) (some-injective h.state x (sym h.there ∙ at)) h.in_it

-- a pass that is there still has what it had
abbrev pub still : (j e : ℕ) (before later : List Hands) (d : IsDelivered j e before) → get_elem? later d.id ≡ some d.pass → IsDelivered j e later
still j e before later d there = record { id = d.id; pass = d.pass; there = there; lane = d.lane; floor = d.floor; number = d.number; records = d.records; held = d.held }

-- the others have what they had; of this pass it is to be said
module _ (before : List Hands) (id : ℕ) (w w' : Hands) (at : get_elem? before id ≡ some w) where
  -- a delivered bundle that was in a pass's hand is in one still
  pub delivered-kept : (j e : ℕ) → ((l floor number : ℕ) (records : List Record) → w.held ≡ Some (Work j l e floor number records true) → IsDelivered j e (slice_set before id w'))
      → IsDelivered j e before → IsDelivered j e (slice_set before id w')
  delivered-kept j e mine d = ⊎_elim
      (λ is. mine d.lane d.floor d.number d.records (ap (λ (u : Hands). u.held) (some-injective w d.pass (sym at ∙ ap (get_elem? before) (sym is) ∙ d.there)) ∙ d.held))
      (λ ne. still j e before (slice_set before id w') d (set_else before id d.id w' ne ∙ d.there))
      (cases_eq d.id id)

module _ (a : Setting) (old : List SharedView) (before later : List Hands) (k : ℕ) (x y : SharedView) (there : get_elem? old k ≡ some x) where
  -- a lane of the node that is left, or of another
  in-node : (j i : ℕ) (is : LaneView) → HasLaneIn j i is (slice_set old k y) → ((j ≡ k) × HasLane i is y.own) ⊎ ((j ≢ k) × HasLaneIn j i is old)
  in-node j i is h = ⊎_elim
      (λ t. inl (t.0, subst (λ (z : SharedView). HasLane i is z.own) (sym t.1) h.in_it))
      (λ t. inr (t.0, record { state = h.state; there = t.1; in_it = h.in_it }))
      (at_set old k j y h.state h.there)

  -- a lane of the node that is left was there
  was-here : (j i : ℕ) (lane : LaneView) → j ≡ k → HasLane i lane x.own → HasLaneIn j i lane old
  was-here j i lane e h = record { state = x; there = ap (get_elem? old) e ∙ there; in_it = h }

  -- a lane that was there as it is
  stays-else : (j i : ℕ) (is : LaneView) → ((e : ℕ) → KeepsDelivered a old before later k j i is is e) → HasLaneIn j i is old → WasMoved a old before later k j i is
  stays-else j i is keeps h = record { was = is; has = h; moved = stay-moved a old before later k j i is is refl refl keeps }

  -- one lane of it is changed
  pub set-moved : (l more : ℕ) (so : LaneView → LaneView → Type 0) (s : SetsLinks l more so x y) → Moved a old before later k k l s.lane s.now
      → ((j i : ℕ) (is : LaneView) → (((j ≡ k) × (i ≡ l)) → ⊥) → (e : ℕ) → KeepsDelivered a old before later k j i is is e)
      → (j i : ℕ) (is : LaneView) → HasLaneIn j i is (slice_set old k y) → WasMoved a old before later k j i is
  set-moved l more so s moved keeps j i is h = ⊎_elim
      (λ t. ⊎_elim (here t.0 t.1) (beside t.0 t.1) (cases_eq i l))
      (λ t. stays-else j i is (keeps j i is (λ both. t.0 both.0)) t.1)
      (in-node j i is h)
    where
      here : j ≡ k → HasLane i is y.own → i ≡ l → WasMoved a old before later k j i is
      here e in_y f =
          let same : s.now ≡ is = same_Some s.now is (sym (slice_get-set_same x.own.lanes.items l s.lane s.now s.in_it) ∙ ap (slice_get (slice_set x.own.lanes.items l s.now)) (sym f) ∙ ap (λ (ls : List LaneView). slice_get ls i) (sym s.lanes) ∙ in_y) in
          record {
            was = s.lane;
            has = was-here j i s.lane e (subst (λ z. HasLane z s.lane x.own) (sym f) s.in_it);
            moved = subst (λ z. z) (λ t. Moved a old before later k (sym e t) (sym f t) s.lane (same t)) moved;
          }

      beside : j ≡ k → HasLane i is y.own → i ≢ l → WasMoved a old before later k j i is
      beside e in_y ne =
          let in_x : HasLane i is x.own = sym (slice_get-set_other x.own.lanes.items l i s.now ne) ∙ ap (λ (ls : List LaneView). slice_get ls i) (sym s.lanes) ∙ in_y in
          stays-else j i is (keeps j i is (λ both. ne both.1)) (was-here j i is e in_x)

  -- none is
  pub same-moved : LanesStay x y → ((j i : ℕ) (was is : LaneView) (e : ℕ) → KeepsDelivered a old before later k j i was is e)
      → (j i : ℕ) (is : LaneView) → HasLaneIn j i is (slice_set old k y) → WasMoved a old before later k j i is
  same-moved s keeps j i is h = ⊎_elim here (λ t. stays-else j i is (keeps j i is is) t.1) (in-node j i is h)
    where
      here : (j ≡ k) × HasLane i is y.own → WasMoved a old before later k j i is
      here t =
          let o = of-map lane_of x.own.lanes.items i (lane_of is) (ap (λ (ls : List CoreLane). slice_get ls i) (sym s.0) ∙ get-map lane_of y.own.lanes.items i is t.1) in
          let links : links_of o.0.containers ≡ links_of is.containers = same_Some (links_of o.0.containers) (links_of is.containers) (
          sym (get-map (λ (l : LaneView). links_of l.containers) x.own.lanes.items i o.0 o.1)
          ∙ ap (λ (ls : List (List Link)). slice_get ls i) (sym s.1)
          ∙ get-map (λ (l : LaneView). links_of l.containers) y.own.lanes.items i is t.1
          ) in
          record {
            was = o.0;
            has = was-here j i o.0 t.0 o.1;
            moved = stay-moved a old before later k j i o.0 is (sym links) (ap (λ (c : CoreLane). length c.marks) (sym o.2)) (keeps j i o.0 is);
          }
