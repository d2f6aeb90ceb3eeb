-- Room for the lines that a node owes, kept over an event.
use Rattle.std.proofs.Common.{◌≡◌, ◌≤◌, ℕ, ◌+◌, ◌-◌, List, [], ◌∷◌, length, map, max, length-append, ap, refl, ◌∙◌, arith, subst, sym}
use Rattle.std.specs.Prelude.{slice_get, slice_set, Some}
use Rattle.std.proofs.lemmas.List.{map-set}
use Rattle.sb_shown.specs.diary.declared.diary.TheConstants.{MAX_DIARY_LINES}
use Rattle.sb_shown.specs.diary.declared.event.DiaryEvent.{DiaryEvent}
use Rattle.sb_shown.specs.diary.Diaries.{Written, with_spare}
use Rattle.sb_shown.specs.core.containers.declared.container.CoreLane.{CoreLane}
use Rattle.sb_shown.specs.lane.LaneView.{LaneView, lane_of}
use Rattle.sb_shown.specs.lane.Links.{links_of}
use Rattle.sb_shown.specs.lane.Placed.{conts_of}
use Rattle.sb_shown.specs.node.Changes.{SetsLane, Stays}
use Rattle.sb_shown.specs.node.declared.state.NodeState.{NodeState}
use Rattle.sb_shown.proofs.Single.{get-map}
use Rattle.sb_shown.proofs.SettingsStay.{set_same}
use Rattle.sb_shared.specs.SharedNodes.{SharedView, ShowsSame, face, owed_lines}
use Rattle.sb_shared.proofs.diaries.Promises.{owed_of, owed-set}

-- so many lines are promised, and there is room for them
abbrev pub HasRoom : ℕ → NodeState → Type 0
HasRoom promised n =
    (owed_lines n.lanes.items ≤ promised) × (promised ≤ n.diary.spare)
    × (length n.diary.events + n.diary.spare ≤ MAX_DIARY_LINES)

-- a state that is the same has room, too
pub room-is : (p : ℕ) (own was : NodeState) → own ≡ was → HasRoom p was → HasRoom p own
room-is p own was is room = subst (HasRoom p) (sym is) room

-- a lane is another, and a line was written
pub room-set : (p q l : ℕ) (was is : LaneView) (line : DiaryEvent) (old new : NodeState) → SetsLane l was is line old new → HasRoom p old
    → owed_of (conts_of is.containers) + p ≤ owed_of (conts_of was.containers) + q → q + 1 ≤ old.diary.spare → HasRoom q new
room-set p q l was is line old new s room more spare =
    let n = owed-set old.lanes.items l was is s.in_it in
    let e = ap owed_lines s.lanes in
    let d : new.diary.spare ≡ old.diary.spare - 1 = ap (λ (d : Written). d.spare) s.diary in
    let m : length new.diary.events ≡ length old.diary.events + 1 = ap (λ (d : Written). length d.events) s.diary ∙ length-append old.diary.events (line ∷ []) in
    (omega (arith, n, e, room.0, more), omega (arith, d, spare), omega (arith, d, m, room.2, spare))

-- a lane is one that owes the same
pub room-same : (p l : ℕ) (was is : LaneView) (old new : NodeState) → slice_get old.lanes.items l ≡ Some was → new.lanes.items ≡ slice_set old.lanes.items l is → new.diary ≡ old.diary → lane_of is ≡ lane_of was → HasRoom p old → HasRoom p new
room-same p l was is old new at lanes diary same room =
    let n = owed-set old.lanes.items l was is at in
    let e = ap owed_lines lanes in
    let k = ap (λ (lane : CoreLane). owed_of lane.conts) same in
    let d = ap (λ (d : Written). d.spare) diary in
    let m = ap (λ (d : Written). length d.events) diary in
    (omega (arith, n, e, k, room.0), omega (arith, d, room.1), omega (arith, d, m, room.2))

-- as where it shows what it did
pub room-stays : (p l : ℕ) (was : LaneView) (old new : NodeState) → Stays l was old new → HasRoom p old → HasRoom p new
room-stays p l was old new s room = room-same p l was s.now old new s.in_it s.lanes s.diary s.is room

-- room was made
pub room-reserved : (p : ℕ) (own : NodeState) (diary : Written) (more : ℕ) → diary ≡ with_spare (max own.diary.spare more) own.diary → length diary.events + diary.spare ≤ MAX_DIARY_LINES
    → HasRoom p own → HasRoom p (record own { diary = diary }) × (more ≤ diary.spare)
room-reserved p own diary more is most room =
    let d : diary.spare ≡ max own.diary.spare more = ap (λ (d : Written). d.spare) is in
    ((room.0, omega (arith, d, room.1), most), omega (arith, d))

-- a lane shows what it did: f of it is as it was
same-map : {A : Type 0} (f : LaneView → A) (lanes : List LaneView) (l : ℕ) (was is : LaneView) → slice_get lanes l ≡ Some was → f is ≡ f was → map f (slice_set lanes l is) ≡ map f lanes
same-map f lanes l was is at e =
    map-set f lanes l is ∙ ap (slice_set (map f lanes) l) e ∙ set_same (map f lanes) l (f was) (get-map f lanes l was at)

-- and so does the node, but for room
pub shows-stays : (old : SharedView) (mid new : NodeState) (room l : ℕ) (was : LaneView) → mid ≡ record old.own { diary = with_spare room old.own.diary } → Stays l was mid new → ShowsSame old (record old { own = new })
shows-stays old mid new room l was is s = record { face_is = faces; kept = s.rest.kept ∙ ap (λ (n : NodeState). n.kept) is; spent = refl }
  where
    lanes : {A : Type 0} (f : LaneView → A) → f s.now ≡ f was → map f new.lanes.items ≡ map f old.own.lanes.items
    lanes f e = ap (map f) s.lanes ∙ same-map f mid.lanes.items l was s.now s.in_it e ∙ ap (λ (n : NodeState). map f n.lanes.items) is

    diary : new.diary ≡ with_spare room old.own.diary
    diary = s.diary ∙ ap (λ (n : NodeState). n.diary) is

    faces : face (record old { own = new }) ≡ face old
    faces i = record {
      lanes = lanes lane_of s.is i;
      links = lanes (λ x. links_of x.containers) s.linked.links i;
      limits = lanes (λ x. x.pending) s.limit i;
      closings = (s.rest.closings ∙ ap (λ (n : NodeState). n.closings) is) i;
      lines = (ap (λ (d : Written). d.events) diary) i;
      keeps = (ap (λ (d : Written). d.keeps) diary) i;
      tray = old.tray;
    }
