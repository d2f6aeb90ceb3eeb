-- What contracts see of a hand.
use Rattle.std.specs.Prelude.{◌≡◌, ℕ, ◌+◌, Bool, false, List, [], ◌++◌, All, length, replicate}
use Rattle.sb_shown.specs.base.records.declared.item.Record.{Record}
use Rattle.sb_shown.specs.base.pipeline.Shapes.{Shape}
use Rattle.sb_shown.specs.core.declared.moment.Moment.{Moment}
use Rattle.sb_shown.specs.core.Moments.{first}
use Rattle.sb_shown.specs.node.declared.state.NodeState.{NodeState}
use Rattle.sb_shown.specs.Showing.{Stands, diaries_of, settings_at, settings_of}

pub record HandView : Type 0 where
  pub plan : Shape
  pub bundle : ℕ
  pub pending : ℕ
  pub nodes : List NodeState
  pub tray : List Record
  pub spent : Bool

-- the hand shows the moment, if these rows were drained before
abbrev pub Shows : HandView → List Record → Moment → Type 0
Shows h drained m = Stands h.plan h.bundle h.nodes [] (drained ++ h.tray) m

-- a new hand shows the first moment of its plan, and its diaries have no line
pub record IsNewHand (plan : Shape) (bundle pending : ℕ) (keeps : Bool) (h : HandView) : Type 0 where
  pub plan_is : h.plan ≡ plan
  pub bundle_is : h.bundle ≡ bundle
  pub pending_is : h.pending ≡ pending
  pub unspent : h.spent ≡ false
  pub tray : h.tray ≡ []
  pub shows : Shows h [] (first plan bundle)
  pub diaries : diaries_of h.nodes ≡ replicate (length plan.steps + 1) []
  pub settings : settings_of h.nodes ≡ settings_at keeps pending plan

-- all but the nodes is as it was
pub record KeepsAllButNodes (old new : HandView) : Type 0 where
  pub plan : new.plan ≡ old.plan
  pub bundle : new.bundle ≡ old.bundle
  pub pending : new.pending ≡ old.pending
  pub tray : new.tray ≡ old.tray
  pub spent : new.spent ≡ old.spent

-- no lane has a container
abbrev pub NoneLeft : List NodeState → Type 0
NoneLeft nodes = All (λ own. All (λ lane. lane.containers ≡ []) own.lanes.items) nodes
