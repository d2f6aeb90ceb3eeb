-- Steps one after another, until nothing is left to do.
use Rattle.std.proofs.Common.{◌≡◌, ◌<◌, ℕ, List, refl, ap, ◌∙◌, arith}
use Rattle.std.specs.List.{slice_get}
use Rattle.sb_feeds.specs.base.records.declared.item.Record.{Record}
use Rattle.sb_feeds.specs.base.pipeline.Shapes.{Shape}
use Rattle.sb_hand.specs.declared.did.Did.{Did}
use Rattle.sb_hand.specs.declared.did.Did.TheVariants as did
use Rattle.sb_hand.specs.node.declared.state.NodeState.{NodeState}
use Rattle.sb_hand.specs.Stepping.{IsIdle, Steps}
use Rattle.sb_hand.specs.Todo.{todo_at}

-- a step leaves the nodes before as they were
pub earlier-kept : (plan : Shape) (bundle node : ℕ) (old new : List NodeState) (tray later : List Record) (what : Did)
    → Steps plan bundle node old tray new later what → (k : ℕ) → k < node → slice_get new k ≡ slice_get old k
earlier-kept plan bundle node old new tray later did.Bundle s k lt = s.2.lowers.earlier k lt
earlier-kept plan bundle node old new tray later did.Closing s k lt = s.2.lowers.earlier k lt
earlier-kept plan bundle node old new tray later did.Nothing s k lt = ap (λ l. slice_get l k) s.1

-- a step that does something leaves less to do
pub less-left : (plan : Shape) (bundle node : ℕ) (old new : List NodeState) (tray later : List Record) (what : Did)
    → Steps plan bundle node old tray new later what → (what ≡ did.Nothing → ⊥) → todo_at node new < todo_at node old
less-left plan bundle node old new tray later did.Bundle s other = let l = s.2.lowers.todo in omega (arith, l)
less-left plan bundle node old new tray later did.Closing s other = let l = s.2.lowers.todo in omega (arith, l)
less-left plan bundle node old new tray later did.Nothing s other = absurd (other refl)

-- an idle node that is as it was is idle
pub still-idle : (k : ℕ) (old new : List NodeState) → slice_get new k ≡ slice_get old k → IsIdle k old → IsIdle k new
still-idle k old new same i = record { own = i.own; there = same ∙ i.there; waits = i.waits; closes = i.closes }
