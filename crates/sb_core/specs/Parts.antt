-- The laws of the events by the part of one node.
use Rattle.std.specs.Prelude.{◌≡◌, ◌⊎◌, ℕ, true, List, ◌∷◌, ◌++◌, [], Some, None, slice_get, slice_set}
use Rattle.sb_containers.specs.base.pipeline.Shapes.{Shape}
use Rattle.sb_containers.specs.base.pipeline.Plans.{IsPlan}
use Rattle.sb_core.specs.declared.moment.Node.{Node}
use Rattle.sb_core.specs.declared.moment.Moment.{Moment}
use Rattle.sb_core.specs.declared.held.Held.{Held}
use Rattle.sb_core.specs.declared.event.Event.{Event}
use Rattle.sb_containers.specs.Choices.{first_and_rest}
use Rattle.sb_core.specs.Events.{after, concerns, place_of}
use Rattle.sb_core.specs.Laws.{KeepsExact}
use Rattle.sb_core.specs.Moments.{with_held}
use Rattle.sb_core.specs.Soundness.{IsSound}
pub use Rattle.sb_core.specs.Events.{Part, only_node, put_in, part_after, held_after, with_part}

-- an event that concerns nothing held does to a sound moment what it does to the part of its node
abbrev pub PartsAreEvents : Type 0
PartsAreEvents =
    (plan : Shape) (m : Moment) (event : Event) (k : ℕ) (node : Node) (p : Part)
    → IsSound plan m → place_of plan event ≡ Some k → slice_get m.nodes k ≡ Some node
    → part_after plan m.bundle event node ≡ Some p → after plan m event ≡ Some (with_part k m.held m p)

-- an event does to a moment with its Work or Close at the head what it does to the part of its node
abbrev pub HeldPartsAreEvents : Type 0
HeldPartsAreEvents =
    (plan : Shape) (m : Moment) (event : Event) (h : Held) (rest : List Held) (k : ℕ) (node : Node) (p : Part)
    → concerns event h ≡ true → place_of plan event ≡ Some k → slice_get m.nodes k ≡ Some node
    → held_after plan m.bundle event h node ≡ Some p
    → after plan (with_held (h ∷ rest) m) event ≡ Some (with_part k rest m p)

-- the moment with the part of node k another, what is new or changed at the head
abbrev pub with_part_first : ℕ → List Held → Moment → Part → Moment
with_part_first k rest m p =
    record m { nodes = slice_set m.nodes k p.node; held = p.held ++ rest; rows = m.rows ++ p.rows }

-- the law of a single event by the part of its node: of an event that concerns nothing held, with what it feeds
abbrev pub PartsKeepSound : Type 0
PartsKeepSound =
    (plan : Shape) → IsPlan plan → (m : Moment) (event : Event) (k : ℕ) (node : Node) (p : Part)
    → IsSound plan m → place_of plan event ≡ Some k → slice_get m.nodes k ≡ Some node
    → part_after plan m.bundle event node ≡ Some p
    → IsSound plan (with_part_first k m.held m p) × KeepsExact plan m (with_part_first k m.held m p) (event ∷ [])

-- and of an event of the Work or Close at the head
abbrev pub HeldPartsKeepSound : Type 0
HeldPartsKeepSound =
    (plan : Shape) → IsPlan plan
    → (m : Moment) (event : Event) (h : Held) (rest : List Held) (k : ℕ) (node : Node) (p : Part)
    → IsSound plan (with_held (h ∷ rest) m) → concerns event h ≡ true → place_of plan event ≡ Some k
    → slice_get m.nodes k ≡ Some node → held_after plan m.bundle event h node ≡ Some p
    → IsSound plan (with_part_first k rest m p)
    × KeepsExact plan (with_held (h ∷ rest) m) (with_part_first k rest m p) (event ∷ [])

-- the event concerns nothing that is held, and the moment after it is what it makes of the part of its node
pub record IsPart (plan : Shape) (m : Moment) (event : Event) (later : Moment) : Type 0 where
  pub alone : first_and_rest (concerns event) m.held ≡ None
  pub k : ℕ
  pub node : Node
  pub part : Part
  pub place : place_of plan event ≡ Some k
  pub there : slice_get m.nodes k ≡ Some node
  pub does : part_after plan m.bundle event node ≡ Some part
  pub gives : later ≡ with_part k m.held m part

-- the event concerns this Work or Close, and the moment after it is what it makes of both and of the part of its node
pub record IsHeldPart (plan : Shape) (m : Moment) (event : Event) (later : Moment) : Type 0 where
  pub h : Held
  pub others : List Held
  pub found : first_and_rest (concerns event) m.held ≡ Some (h, others)
  pub k : ℕ
  pub node : Node
  pub part : Part
  pub place : place_of plan event ≡ Some k
  pub there : slice_get m.nodes k ≡ Some node
  pub does : held_after plan m.bundle event h node ≡ Some part
  pub gives : later ≡ with_part k others m part

-- each event whose condition holds is one of the two
abbrev pub EventsAreParts : Type 0
EventsAreParts =
    (plan : Shape) (m later : Moment) (event : Event) → after plan m event ≡ Some later → IsSound plan m
    → IsPart plan m event later ⊎ IsHeldPart plan m event later
