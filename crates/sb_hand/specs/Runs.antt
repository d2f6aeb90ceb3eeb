-- Lists of events of one node.
use Rattle.std.specs.Prelude.{◌≡◌, ◌<◌, ℕ, Bool, List, [], ◌∷◌, ◌++◌, length, replicate, true, false, drop}
use Rattle.sb_shown.specs.base.bundle.declared.bundle.Bundle.{Bundle}
use Rattle.sb_shown.specs.base.records.declared.item.Record.{Record}
use Rattle.sb_shown.specs.base.pipeline.Shapes.{Shape}
use Rattle.sb_shown.specs.core.declared.event.Event.{Event}
use Rattle.sb_shown.specs.core.declared.event.Event.TheVariants.{Take, Deliver, Finish, Begin, Pass, End}
use Rattle.sb_shown.specs.core.declared.held.Held.{Held}
use Rattle.sb_shown.specs.core.declared.held.Held.TheVariants.{Work, Close}
use Rattle.sb_shown.specs.node.declared.closing.Closing.{Closing}
use Rattle.sb_shown.specs.node.declared.state.NodeState.{NodeState}
use Rattle.sb_shown.specs.Showing.{Does, settings_of}
use Rattle.sb_hand.specs.Todo.{Lowers}

-- the closing in hand, with these rows left
abbrev pub close_of : Closing → List Record → Bool → Held
close_of c rows passed = Close c.node c.lane c.epoch c.serial c.floor c.mark rows passed

-- so many deliveries of rows
abbrev pub deliveries : ℕ → ℕ → ℕ → List Event
deliveries k l count = replicate count (Deliver k l 0)

-- the rows of a closing are delivered, some of them or all
pub record Delivers (plan : Shape) (bundle : ℕ) (c : Closing) (old : List NodeState) (before : List Record)
    (new : List NodeState) (left : List Record) : Type 0 where
  pub count : ℕ
  pub does : Does plan bundle (deliveries c.node c.lane count)
      old (close_of c before false ∷ []) new (close_of c left false ∷ []) []
  pub lowers : Lowers c.node 0 old new
  pub settings : settings_of new ≡ settings_of old

-- the events of a bundle of node k: of a ParDo that gives something, and of any other
abbrev pub bundle_events : ℕ → ℕ → ℕ → Bool → List Event
bundle_events k l number true = Take k l number ∷ Deliver k l number ∷ Finish k l number ∷ []
bundle_events k l number false = Take k l number ∷ Finish k l number ∷ []

-- a closing in hand comes to its end: so many deliveries, then the mark, then the end
pub record Ends (plan : Shape) (bundle : ℕ) (c : Closing) (old new : List NodeState) : Type 0 where
  pub count : ℕ
  pub does : Does plan bundle (deliveries c.node c.lane count ++ Pass c.node ∷ End c.node ∷ [])
      old (close_of c c.rows.items false ∷ []) new [] []
  pub lowers : Lowers c.node 1 old new
  pub settings : settings_of new ≡ settings_of old

-- the events of a whole closing of node k: of a transform, with so many deliveries, and of the sink
pub data IsClosingRun (plan : Shape) (k l : ℕ) : List Event → Type 0 where
  OfTransform : (count : ℕ) → k < length plan.steps
      → IsClosingRun plan k l (Begin k l ∷ [] ++ (deliveries k l count ++ Pass k ∷ End k ∷ []))
  OfSink : k ≡ length plan.steps → IsClosingRun plan k l (Begin k l ∷ [] ++ End k ∷ [])

-- a whole closing of a node, and what it adds to the tray
pub record ClosesNode (plan : Shape) (bundle k l : ℕ) (old : List NodeState) (tray : List Record)
    (new : List NodeState) (later : List Record) : Type 0 where
  pub events : List Event
  pub are : IsClosingRun plan k l events
  pub added : List Record
  pub tray_is : later ≡ tray ++ added
  pub does : Does plan bundle events old [] new [] added
  pub lowers : Lowers k 1 old new
  pub settings : settings_of new ≡ settings_of old

-- the Work of a bundle of a node, and whether what it gives was put below
abbrev pub work_of : ℕ → ℕ → Bundle → Bool → Held
work_of k l b delivered = Work k l b.epoch b.floor b.number b.records delivered

-- what a transform of single records gives for a bundle in hand is put below
pub record Gives (plan : Shape) (bundle k l : ℕ) (b : Bundle) (old new : List NodeState) : Type 0 where
  pub does : Does plan bundle (Deliver k l b.number ∷ [])
      old (work_of k l b false ∷ []) new (work_of k l b true ∷ []) []
  pub lowers : Lowers k 0 old new
  pub settings : settings_of new ≡ settings_of old

-- a bundle in hand is finished: what it gives was put below, or it gave nothing there
pub record FinishesWork (plan : Shape) (bundle k l : ℕ) (b : Bundle) (old new : List NodeState) : Type 0 where
  pub gave : Bool
  pub does : Does plan bundle (drop 1 (bundle_events k l b.number gave)) old (work_of k l b false ∷ []) new [] []
  pub lowers : Lowers k 0 old new
  pub settings : settings_of new ≡ settings_of old

-- a bundle of a node is worked off
pub record WorksOff (plan : Shape) (bundle k l : ℕ) (old new : List NodeState) : Type 0 where
  pub number : ℕ
  pub gave : Bool
  pub does : Does plan bundle (bundle_events k l number gave) old [] new [] []
  pub lowers : Lowers k 1 old new
  pub settings : settings_of new ≡ settings_of old
