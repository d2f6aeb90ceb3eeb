-- What a worker may do with a bundle in hand.
use Rattle.std.specs.Prelude.{◌≡◌, ◌<◌, ◌⊎◌, ℕ, Bool, true, List, [], length, Some}
use Rattle.sb_hand.specs.base.records.declared.item.Record.{Record}
use Rattle.sb_hand.specs.base.pipeline.declared.transform.Down.{Down}
use Rattle.sb_hand.specs.base.pipeline.Operators.{Operator}
use Rattle.sb_hand.specs.core.Closings.{delivery, is_pardo}
use Rattle.sb_hand.specs.core.Events.{below}
use Rattle.sb_cascade.specs.declared.cascade.Cascade.{Cascade}
use Rattle.sb_cascade.specs.declared.pass.CascadePass.{CascadePass}
use Rattle.sb_shared.specs.declared.telling.Change.{Change}
use Rattle.sb_cascade.specs.Calls.{LeftBy, plan_of}

-- a transform of single records gives this, and it is something
pub record GivesBelow (op : Operator) (records given : List Record) : Type 0 where
  pub pardo : is_pardo op ≡ true
  pub given_is : given ≡ delivery op records
  pub some : 0 < length given

-- a bundle of a transform of single records, of which what it gives is delivered, or nothing
pub record NeedsNoPart (op : Operator) (records : List Record) (delivered : Bool) : Type 0 where
  pub pardo : is_pardo op ≡ true
  pub done : (delivered ≡ true) ⊎ (delivery op records ≡ [])

-- the pass left the node below a transform with such a change
abbrev pub LeftBelow : Cascade → ℕ → (Change → Type 0) → CascadePass → CascadePass → Type 0
LeftBelow c node so p q = (d : Down) × (below (plan_of c) node ≡ Some d) × LeftBy d.node so p q
