-- One lane of a node is another: what the state shows then, and what it was made with.
use Rattle.std.proofs.Common.{◌≡◌, ℕ, List, map, Some, sym, ap, ◌∙◌}
use Rattle.std.specs.List.{slice_get, slice_set}
use Rattle.std.proofs.lemmas.List.{map-set}
use Rattle.sb_shown.specs.core.containers.declared.container.CoreLane.{CoreLane}
use Rattle.sb_shown.specs.lane.LaneView.{LaneView, lane_of}
use Rattle.sb_shown.proofs.SettingsStay.{set_same}
use Rattle.sb_shown.proofs.Single.{get-map}

-- the lanes of its part
pub lanes_set : (part : List CoreLane) (old new : List LaneView) (l : ℕ) (now : LaneView) (c : CoreLane) → part ≡ map lane_of old → new ≡ slice_set old l now → lane_of now ≡ c → slice_set part l c ≡ map lane_of new
lanes_set part old new l now c shown set is =
    ap (λ ls. slice_set ls l c) shown ∙ ap (slice_set (map lane_of old) l) (sym is) ∙ sym (map-set lane_of old l now) ∙ ap (map lane_of) (sym set)

-- the limits of its lanes
pub limits_set : (old new : List LaneView) (l : ℕ) (lane now : LaneView) → slice_get old l ≡ Some lane → new ≡ slice_set old l now → now.pending ≡ lane.pending
    → map (λ (x : LaneView). x.pending) new ≡ map (λ (x : LaneView). x.pending) old
limits_set old new l lane now there set limit =
    ap (map (λ (x : LaneView). x.pending)) set ∙ map-set (λ (x : LaneView). x.pending) old l now
    ∙ ap (slice_set (map (λ (x : LaneView). x.pending) old) l) limit
    ∙ set_same (map (λ (x : LaneView). x.pending) old) l lane.pending (get-map (λ (x : LaneView). x.pending) old l lane there)
