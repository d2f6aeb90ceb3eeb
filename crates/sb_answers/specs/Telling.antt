-- A hand whose diaries can be told, and their text.
use Rattle.std.specs.Prelude.{◌≡◌, ℕ, ◌+◌, true, List, [], ◌∷◌, ◌++◌, false, Option, Some, None, flat_map, length, slice_get}
use Rattle.sb_alone.specs.diary.declared.event.DiaryEvent.{DiaryEvent}
use Rattle.sb_alone.specs.diary.declared.text.DiaryLine.TheVariants.{Head, Event}
use Rattle.sb_alone.specs.diary.Texts.{NodeDiary, text_of}
use Rattle.sb_alone.specs.base.pipeline.Operators.{lanes_of, operator_at}
use Rattle.sb_alone.specs.tally.Written.{diary_at}
use Rattle.sb_alone.specs.node.declared.state.NodeState.{NodeState}
use Rattle.sb_alone.specs.hand.Hands.{HandView}
use Rattle.sb_alone.specs.hand.Showing.{diaries_of}
use Rattle.sb_answers.specs.Told.{node_diaries}

-- the hand is not spent, and each diary has kept its lines
pub record CanTell (h : HandView) : Type 0 where
  pub unspent : h.spent ≡ false
  pub nodes : length h.nodes ≡ length h.plan.steps + 1
  pub keep : (k : ℕ) (own : NodeState) → slice_get h.nodes k ≡ Some own → own.diary.keeps ≡ true

-- the diaries of all its nodes
abbrev pub diaries_of_hand : HandView → List NodeDiary
diaries_of_hand h = node_diaries h.plan 0 (diaries_of h.nodes)

abbrev pub diaries_in : Option HandView → List NodeDiary
diaries_in None = []
diaries_in (Some h) = diaries_of_hand h

-- the head line of a node, and the line of an event
abbrev pub head_line : ℕ → ℕ → List ℕ
head_line node lanes = text_of (Head node lanes) ++ 10 ∷ []

abbrev pub event_line : DiaryEvent → List ℕ
event_line event = text_of (Event event) ++ 10 ∷ []

-- the text of the diary of a node
abbrev pub node_text : HandView → ℕ → List ℕ
node_text h node =
    head_line node (lanes_of (operator_at (slice_get h.plan.steps node)))
    ++ flat_map event_line (diary_at (diaries_of h.nodes) node)
