-- The diaries that a run tells.
use Rattle.std.specs.Prelude.{◌≡◌, ◌≤◌, ℕ, ◌+◌, Bool, true, false, List, [], ◌∷◌, length, slice_get}
use Rattle.sb_alone.specs.base.records.declared.item.Item.{Item}
use Rattle.sb_alone.specs.base.pipeline.Operators.{lanes_of, operator_at}
use Rattle.sb_alone.specs.base.pipeline.Shapes.{Shape}
use Rattle.sb_alone.specs.diary.declared.event.DiaryEvent.{DiaryEvent}
use Rattle.sb_alone.specs.diary.Legal.{IsLegal, IsSettled}
use Rattle.sb_alone.specs.diary.Texts.{NodeDiary}
use Rattle.sb_alone.specs.tally.Whole.{Tallies}
use Rattle.sb_alone.specs.tally.Written.{diary_at}
use Rattle.sb_alone.specs.one_feed.Calls.{calls_of}
use Rattle.sb_words.specs.declared.options.Options.{Options}
use Rattle.sb_told.specs.declared.status.Status.{Status}
use Rattle.sb_told.specs.declared.status.Status.TheVariants.{Done, Words, Plan, Line, Input, Output, Folder, Memory, Tap, Audit, FileTooLong, FileLine, Checkpoint}

-- the lines of the nodes of a plan from this one on, each with how many lanes its node has
abbrev pub node_diaries : Shape → ℕ → List (List DiaryEvent) → List NodeDiary
node_diaries plan node [] = []
node_diaries plan node (events ∷ diaries) =
    record { lanes = lanes_of (operator_at (slice_get plan.steps node)); events = events }
    ∷ node_diaries plan (node + 1) diaries

-- the diaries of all nodes of a run that is done over these items: each is legal and settled, and they tally with the
-- plan and the items
pub record AreDiaries (plan : Shape) (bundle : ℕ) (items : List Item) (diaries : List NodeDiary) : Type 0 where
  pub lines : List (List DiaryEvent)
  pub one_each : length lines ≡ length plan.steps + 1
  pub are : diaries ≡ node_diaries plan 0 lines
  pub legal : (k : ℕ) → k ≤ length plan.steps
      → IsLegal (lanes_of (operator_at (slice_get plan.steps k))) (diary_at lines k)
  pub settled : (k : ℕ) → k ≤ length plan.steps
      → IsSettled (lanes_of (operator_at (slice_get plan.steps k))) (diary_at lines k)
  pub tallies : Tallies plan bundle (λ s. calls_of s items) lines

-- all of them if they are asked for, else none
abbrev pub AreToldIf : Bool → Shape → ℕ → List Item → List NodeDiary → Type 0
AreToldIf true plan bundle items diaries = AreDiaries plan bundle items diaries
AreToldIf false plan bundle items diaries = diaries ≡ []

-- the diaries that are told, by how the run ended: none but those of a run that is done
abbrev pub TellsDiaries : Shape → Options → List Item → List NodeDiary → Status → Type 0
TellsDiaries plan options items diaries Done = AreToldIf options.diary plan options.bundle items diaries
TellsDiaries plan options items diaries (Line refusal) = diaries ≡ []
TellsDiaries plan options items diaries (FileLine stream refusal) = diaries ≡ []
TellsDiaries plan options items diaries Input = diaries ≡ []
TellsDiaries plan options items diaries Output = diaries ≡ []
TellsDiaries plan options items diaries Memory = diaries ≡ []
TellsDiaries plan options items diaries (Tap place) = diaries ≡ []
TellsDiaries plan options items diaries Words = ⊥
TellsDiaries plan options items diaries (Plan fault) = ⊥
TellsDiaries plan options items diaries Folder = ⊥
TellsDiaries plan options items diaries (Audit fault) = ⊥
TellsDiaries plan options items diaries FileTooLong = ⊥
TellsDiaries plan options items diaries (Checkpoint line) = ⊥
