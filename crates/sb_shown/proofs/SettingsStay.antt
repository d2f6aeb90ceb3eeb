-- What nodes were made with stays as it is.
use Rattle.std.proofs.Common.{◌≡◌, ℕ, suc, zero, List, [], ◌∷◌, map, Some, sym, ap, ◌∙◌}
use Rattle.std.specs.List.{slice_get, slice_set}
use Rattle.std.proofs.lemmas.List.{map-set}
use Rattle.std.proofs.lemmas.Option.{same_Some}
use Rattle.sb_node.specs.diary.declared.event.DiaryEvent.{DiaryEvent}
use Rattle.sb_node.specs.declared.kept.Kept.{Kept}
use Rattle.sb_node.specs.lane.LaneView.{LaneView}
use Rattle.sb_node.specs.declared.state.NodeState.{NodeState}
use Rattle.sb_shown.specs.Sets.{SetsLane, SetsNode}
use Rattle.sb_shown.specs.Showing.{Settings, settings_of}
use Rattle.sb_shown.proofs.Single.{get-map}

pub set_same : {X : Type 0} (xs : List X) (k : ℕ) (x : X) → slice_get xs k ≡ Some x → slice_set xs k x ≡ xs
set_same [] k x h = cc
set_same (y ∷ xs) zero x h = ap (λ z. z ∷ xs) (sym (same_Some y x h))
set_same (y ∷ xs) (suc k) x h = ap (λ l. y ∷ l) (set_same xs k x h)

abbrev setting : NodeState → Settings
setting n = record { keeps = n.diary.keeps; limits = map (λ l. l.pending) n.lanes.items }

module _ (old new : List NodeState) (k l : ℕ) (own with : NodeState) (lane now : LaneView) where
  pub settings-set : slice_get old k ≡ Some own → slice_get own.lanes.items l ≡ Some lane → new ≡ slice_set old k with → with.lanes.items ≡ slice_set own.lanes.items l now → with.diary.keeps ≡ own.diary.keeps → now.pending ≡ lane.pending → settings_of new ≡ settings_of old
  settings-set there in_it set lanes keeps limit =
      ap settings_of set ∙ map-set setting old k with ∙ ap (slice_set (settings_of old) k) same ∙ set_same (settings_of old) k (setting own) (get-map setting old k own there)
    where
      limits : map (λ (x : LaneView). x.pending) with.lanes.items ≡ map (λ (x : LaneView). x.pending) own.lanes.items
      limits =
          ap (map (λ (x : LaneView). x.pending)) lanes ∙ map-set (λ (x : LaneView). x.pending) own.lanes.items l now
          ∙ ap (slice_set (map (λ (x : LaneView). x.pending) own.lanes.items) l) limit
          ∙ set_same (map (λ (x : LaneView). x.pending) own.lanes.items) l lane.pending (get-map (λ (x : LaneView). x.pending) own.lanes.items l lane in_it)

      same : setting with ≡ setting own
      same = λ i. record { keeps = keeps i; limits = limits i }

pub settings-lane : (old new : List NodeState) (k l : ℕ) (lane now : LaneView) (line : DiaryEvent) → SetsLane k l lane now line old new → settings_of new ≡ settings_of old
settings-lane old new k l lane now line s = settings-set old new k l s.own s.with lane now s.there s.in_it s.set s.lanes s.keeps s.limit

pub settings-node : (old new : List NodeState) (k l : ℕ) (lane now : LaneView) (more : ℕ) (was is : Kept) (line : DiaryEvent) → SetsNode k l lane now more was is line old new → settings_of new ≡ settings_of old
settings-node old new k l lane now more was is line s = settings-set old new k l s.own s.with lane now s.there s.in_it s.set s.lanes s.keeps s.limit
