-- What the calls on a bundle or a closing in hand rely on.
use Rattle.std.specs.Prelude.{◌≡◌, ◌<◌, ℕ, true, false, List, [], ◌∷◌, length, slice_get}
use Rattle.sb_shown.specs.base.records.declared.item.Record.{Record}
use Rattle.sb_shown.specs.base.pipeline.Shapes.{Shape}
use Rattle.sb_shown.specs.base.pipeline.Plans.{IsPlan}
use Rattle.sb_shown.specs.base.pipeline.Operators.{operator_at}
use Rattle.sb_shown.specs.core.Closings.{delivery, is_pardo}
use Rattle.sb_shown.specs.core.declared.held.Held.{Held}
use Rattle.sb_shown.specs.node.declared.closing.Closing.{Closing}
use Rattle.sb_shown.specs.node.declared.state.NodeState.{NodeState}
use Rattle.sb_shown.specs.work.declared.claim.Claim.{Claim}
use Rattle.sb_shown.specs.Linking.{AreLinked, NoneBelow}
use Rattle.sb_hand.specs.Runs.{close_of, work_of}
use Rattle.sb_shown.specs.Showing.{CanStand}

-- the nodes of a plan are linked, and show a moment with this in hand
pub record IsReady (plan : Shape) (bundle : ℕ) (held : List Held) (nodes : List NodeState) : Type 0 where
  pub is_plan : IsPlan plan
  pub can : CanStand plan bundle nodes held
  pub linked : AreLinked plan nodes

-- these records, which are some, are what a transform of single records gives for the bundle in hand
pub record CanGive (plan : Shape) (bundle : ℕ) (claim : Claim) (given : List Record) (nodes : List NodeState)
    : Type 0 where
  pub ready : IsReady plan bundle (work_of claim.node claim.lane claim.bundle false ∷ []) nodes
  pub node : claim.node < length plan.steps
  pub pardo : is_pardo (operator_at (slice_get plan.steps claim.node)) ≡ true
  pub given_is : given ≡ delivery (operator_at (slice_get plan.steps claim.node)) claim.bundle.records
  pub some : 0 < length given

-- the closing of a transform is in hand with all its rows, and if it can have some, no container below is theirs yet
pub record CanDeliver (plan : Shape) (bundle : ℕ) (c : Closing) (nodes : List NodeState) : Type 0 where
  pub ready : IsReady plan bundle (close_of c c.rows.items false ∷ []) nodes
  pub node : c.node < length plan.steps
  pub none : is_pardo (operator_at (slice_get plan.steps c.node)) ≡ false → NoneBelow plan c.node c.serial nodes
