-- An event changes one lane, that of its place, and only a Seal and a Pass add to a lane's marks.
use Rattle.std.specs.Prelude.{◌≡◌, ℕ, true, List, [], ◌∷◌, ◌++◌, Option, Some, None, slice_get, slice_set}
use Rattle.sb_containers.specs.base.pipeline.declared.transform.Down.{Down}
use Rattle.sb_containers.specs.base.pipeline.Shapes.{Shape, source}
use Rattle.sb_containers.specs.declared.container.CoreLane.{CoreLane}
use Rattle.sb_core.specs.declared.moment.Node.{Node}
use Rattle.sb_core.specs.declared.held.Held.{Held}
use Rattle.sb_core.specs.declared.held.Held.TheVariants.{Close}
use Rattle.sb_core.specs.declared.event.Event.{Event}
use Rattle.sb_core.specs.declared.event.Event.TheVariants.{Arrive, Seal, Take, Deliver, Finish, Begin, Pass, End}
use Rattle.sb_core.specs.Events.{below}
use Rattle.sb_core.specs.Laws.{concerns, place_of}
use Rattle.sb_core.specs.Parts.{Part, part_after, held_after}

-- the place whose lane an event changes, where it concerns nothing held
abbrev pub lane_of : Shape → Event → Option Down
lane_of plan (Arrive stream records) = source plan stream
lane_of plan (Seal stream mark) = source plan stream
lane_of plan (Take node lane number) = Some (record { node = node; lane = lane })
lane_of plan (Begin node lane) = Some (record { node = node; lane = lane })
lane_of plan event = None

-- and where it concerns a Work or a Close
abbrev pub held_lane : Shape → Event → Held → Option Down
held_lane plan (Deliver node lane number) h = below plan node
held_lane plan (Finish node lane number) h = Some (record { node = node; lane = lane })
held_lane plan (Pass node) h = below plan node
held_lane plan (End node) (Close k l epoch serial floor mark rows passed) = Some (record { node = node; lane = l })
held_lane plan event h = None

-- the marks that it adds: a Seal its own
abbrev pub marks_sealed_by : Event → List ℕ
marks_sealed_by (Seal stream mark) = mark ∷ []
marks_sealed_by event = []

-- and a Pass that of the Close
abbrev pub marks_passed_by : Event → Held → List ℕ
marks_passed_by (Pass node) (Close k l epoch serial floor mark rows passed) = mark ∷ []
marks_passed_by event h = []

-- the lane at l is another, with these marks more, and the other lanes are as they were
pub record ChangesLane (l : ℕ) (more : List ℕ) (old new : Node) : Type 0 where
  pub lane : CoreLane
  pub with : CoreLane
  pub there : slice_get old.lanes l ≡ Some lane
  pub others : new.lanes ≡ slice_set old.lanes l with
  pub marks : with.marks ≡ lane.marks ++ more

-- an event that concerns nothing held changes the lane of its place
abbrev pub OneLaneChanges : Type 0
OneLaneChanges =
    (plan : Shape) (bundle k : ℕ) (event : Event) (node : Node) (p : Part)
    → place_of plan event ≡ Some k → part_after plan bundle event node ≡ Some p
    → (l : ℕ) × (lane_of plan event ≡ Some (record { node = k; lane = l }))
    × ChangesLane l (marks_sealed_by event) node p.node

-- and so does an event of a Work or a Close
abbrev pub HeldOneLaneChanges : Type 0
HeldOneLaneChanges =
    (plan : Shape) (bundle k : ℕ) (event : Event) (h : Held) (node : Node) (p : Part)
    → concerns event h ≡ true → place_of plan event ≡ Some k → held_after plan bundle event h node ≡ Some p
    → (l : ℕ) × (held_lane plan event h ≡ Some (record { node = k; lane = l }))
    × ChangesLane l (marks_passed_by event h) node p.node
