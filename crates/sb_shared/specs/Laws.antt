-- What a cascade keeps, between any two steps of its passes: laws over its rule.
use Rattle.std.specs.Prelude.{◌≡◌, ◌≤◌, ◌==◌, ℕ, true, false, List, [], ◌∷◌, ◌++◌, length, max, count_by, slice_set}
use Rattle.std.specs.Prelude.{Option, Some, None, IsPermutation}
use Rattle.std.specs.List.{list_any}
use mathlib.Core.Option.{some}
use lib.ListN.{get_elem?}
use Rattle.sb_shown.specs.base.pipeline.declared.transform.Down.{Down}
use Rattle.sb_shown.specs.base.pipeline.Shapes.{Shape}
use Rattle.sb_shown.specs.core.containers.declared.container.CoreLane.{CoreLane}
use Rattle.sb_shown.specs.core.declared.held.Held.{Held}
use Rattle.sb_shown.specs.core.declared.moment.Moment.{Moment}
use Rattle.sb_shown.specs.core.declared.event.Event.{Event}
use Rattle.sb_shown.specs.core.Events as events
use Rattle.sb_shown.specs.core.containers.Marks.{first_is_closing}
use Rattle.sb_shown.specs.core.Moments.{with_held, lane_at, is_work, is_close, is_close_of}
use Rattle.sb_turn.specs.Turning.{logs_after}
use Rattle.sb_shared.specs.declared.telling.Change.{Change}
use Rattle.sb_shared.specs.declared.telling.Hands.{Hands}
use Rattle.sb_shared.specs.declared.telling.Piece.{Piece}
use Rattle.sb_shared.specs.declared.telling.Setting.{Setting}
use Rattle.sb_shared.specs.Doings.{Doing, Quiet, Fresh, Of, doing_of, is_event, work_of}
use Rattle.sb_shared.specs.Leavings.{Does}
use Rattle.sb_shared.specs.SharedNodes.{SharedView}
use Rattle.sb_shared.specs.Shown.{ShowsMoment, diaries_in, moment_of}
use Rattle.sb_shared.specs.Views.{after, all_in_hand, hands_after_claim, hands_after_put, hands_after_raise, idle_hands}

-- the moment that is shown
abbrev pub shown_by : {a : Setting} {shelf : List (Option Piece)} {status : ℕ} {states : List SharedView}
    {logs : List (List Change)} {views : List Hands} → ShowsMoment a shelf status states logs views → Moment
shown_by {a} {shelf} {status} {states} {logs} {views} r =
    moment_of a.bundle r.parts (all_in_hand views shelf) r.rows

-- the second moment is the first after the event, if the order of what is in hand does not count
abbrev pub IsAfter : Shape → Event → Moment → Moment → Type 0
IsAfter plan e m n = (held : List Held) × (later : List Held)
    × IsPermutation m.held held × IsPermutation later n.held
    × (events.after plan (with_held held m) e ≡ Some (with_held later n))

-- the second moment is the first, if the order of what is in hand does not count
abbrev pub IsSameMoment : Moment → Moment → Type 0
IsSameMoment m n = (n.nodes ≡ m.nodes) × (n.rows ≡ m.rows) × IsPermutation m.held n.held

-- a leaving with an event makes the moment after this one event; any other leaving changes nothing of it
abbrev pub IsLeaving : Shape → Doing → Moment → Moment → Type 0
IsLeaving plan Quiet m n = IsSameMoment m n
IsLeaving plan (Fresh e) m n = IsAfter plan e m n
IsLeaving plan (Of e h) m n = IsAfter plan e m n

-- a pass leaves node k with a change: what is shown then is what was shown, after the change's one event
abbrev pub EachLeavingIsOneEvent : Type 0
EachLeavingIsOneEvent =
    (a : Setting) (id k seen : ℕ) (w : Hands) (x y : SharedView) (c : Change) → Does a w seen k x y c
    → (shelf : List (Option Piece)) (status : ℕ) (states : List SharedView) (logs : List (List Change))
    (views : List Hands) (r : ShowsMoment a shelf status states logs views)
    → seen ≤ status → length logs ≡ length states → get_elem? states k ≡ some x → get_elem? views id ≡ some w
    → (later : ShowsMoment a shelf status (slice_set states k y) (logs_after is_event k c logs)
    (slice_set views id (after w k c)))
    × IsLeaving a.plan (doing_of k c) (shown_by r) (shown_by later)

-- all that the rule speaks of
pub record Standing : Type 0 where
  pub shelf : List (Option Piece)
  pub status : ℕ
  pub states : List SharedView
  pub logs : List (List Change)
  pub views : List Hands

-- the rule holds of it
abbrev pub IsRuled : Setting → Standing → Type 0
IsRuled a s = ShowsMoment a s.shelf s.status s.states s.logs s.views

-- A step of a pass that leaves no node. It lays the bundle that it has in hand on a free place of the shelf, or with
-- nothing in hand claims the bundle of a place. It raises the state word. It splits a pass off. As it enters a node,
-- joins a pass or loads the state word, nothing of all this changes.
pub data IsOtherStep (s : Standing) : Standing → Type 0 where
  Lays : (id k : ℕ) (w : Hands) (p : Piece) → get_elem? s.views id ≡ some w → get_elem? s.shelf k ≡ some None
      → w.held ≡ Some (work_of p.claim false)
      → IsOtherStep s (record s {
        shelf = slice_set s.shelf k (Some p);
        views = slice_set s.views id (hands_after_put w p);
      })
  Claims : (id k : ℕ) (w : Hands) (p : Piece) → get_elem? s.views id ≡ some w → get_elem? s.shelf k ≡ some (Some p)
      → w.held ≡ None
      → IsOtherStep s (record s {
        shelf = slice_set s.shelf k None;
        views = slice_set s.views id (hands_after_claim w p);
      })
  Raises : (id n : ℕ) (w : Hands) → get_elem? s.views id ≡ some w
      → IsOtherStep s (record s { status = max s.status n; views = slice_set s.views id (hands_after_raise w n) })
  Splits : IsOtherStep s (record s { views = s.views ++ idle_hands ∷ [] })
  Stays : IsOtherStep s s

-- a pass takes a step that leaves no node: what is shown then is what was shown, and each diary is as it was
abbrev pub OnlyLeavingsChangeWhatIsShown : Type 0
OnlyLeavingsChangeWhatIsShown =
    (a : Setting) (s t : Standing) → IsOtherStep s t → (r : IsRuled a s) (later : IsRuled a t)
    → IsSameMoment (shown_by r) (shown_by later) × (diaries_in t.states ≡ diaries_in s.states)

-- a bundle was taken from a lane, and is not done with
abbrev pub IsTaken : Moment → Down → ℕ → Type 0
IsTaken m place number = (lane : CoreLane) × (lane_at m place ≡ Some lane)
    × (list_any (λ c. list_any (λ n. n == number) c.out) lane.conts ≡ true)

-- a closing of a lane has begun, and has not ended
abbrev pub IsBegun : Moment → Down → Type 0
IsBegun m place = (lane : CoreLane) × (lane_at m place ≡ Some lane) × (first_is_closing lane.conts ≡ true)

-- Nothing is twice in the hands of passes and on the shelf, and no two closings of a node are. A bundle that was taken,
-- and a closing that has begun, is there once.
abbrev pub EachIsHeldOnce : Type 0
EachIsHeldOnce =
    (a : Setting) (shelf : List (Option Piece)) (status : ℕ) (states : List SharedView) (logs : List (List Change))
    (views : List Hands) (r : ShowsMoment a shelf status states logs views)
    → ((node lane number : ℕ) → count_by (is_work node lane number) (all_in_hand views shelf) ≤ 1)
    × ((node : ℕ) → count_by (is_close node) (all_in_hand views shelf) ≤ 1)
    × ((place : Down) (number : ℕ) → IsTaken (shown_by r) place number
    → count_by (is_work place.node place.lane number) (all_in_hand views shelf) ≡ 1)
    × ((place : Down) → IsBegun (shown_by r) place
    → count_by (is_close_of place.node place.lane) (all_in_hand views shelf) ≡ 1)
