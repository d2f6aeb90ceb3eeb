-- The rows that an event adds are later than all that were there.
use Rattle.std.specs.Prelude.{◌≡◌, ℕ, ◌≤◌, List, [], Some, slice_get}
use Rattle.std.specs.List.{AllByRecursion}
use Rattle.sb_containers.specs.base.records.declared.item.Record.{Record}
use Rattle.sb_containers.specs.base.pipeline.Shapes.{Shape}
use Rattle.sb_core.specs.declared.moment.Moment.{Moment}
use Rattle.sb_core.specs.declared.moment.Node.{Node}
use Rattle.sb_core.specs.declared.held.Held.{Held}
use Rattle.sb_core.specs.declared.event.Event.{Event}
use Rattle.sb_core.specs.Laws.{place_of, written_to}
use Rattle.sb_core.specs.Parts.{Part, part_after, held_after}
use Rattle.sb_core.specs.Soundness.{IsSound}

-- no row is before the mark up to which the sink has closed
abbrev pub AreUnwritten : Shape → Moment → List Record → Type 0
AreUnwritten plan m rows = AllByRecursion (λ r. written_to plan m ≤ r.time) rows

-- an event that concerns nothing held adds rows from there on
abbrev pub NewRowsAreLater : Type 0
NewRowsAreLater =
    (plan : Shape) (m : Moment) (event : Event) (k : ℕ) (node : Node) (p : Part)
    → IsSound plan m → place_of plan event ≡ Some k → slice_get m.nodes k ≡ Some node
    → part_after plan m.bundle event node ≡ Some p → AreUnwritten plan m p.rows

-- and an event of a Work or a Close adds none
abbrev pub HeldAddNoRows : Type 0
HeldAddNoRows =
    (plan : Shape) (bundle : ℕ) (event : Event) (h : Held) (node : Node) (p : Part)
    → held_after plan bundle event h node ≡ Some p → p.rows ≡ []
