-- A step keeps what a hand knows of itself.
use Rattle.std.proofs.Common.{◌≡◌, ℕ, List, [], ap, sym, subst}
use Rattle.sb_shown.specs.base.records.declared.item.Record.{Record}
use Rattle.sb_shown.specs.base.pipeline.Shapes.{Shape}
use Rattle.sb_hand.specs.declared.did.Did.{Did}
use Rattle.sb_hand.specs.declared.did.Did.TheVariants.{Bundle, Closing, Nothing}
use Rattle.sb_shown.specs.node.declared.state.NodeState.{NodeState}
use Rattle.sb_hand.specs.Runs.{bundle_events}
use Rattle.sb_shown.specs.Showing.{CanStand, settings_of}
use Rattle.sb_hand.specs.Stepping.{Steps}
use Rattle.sb_hand.proofs.Composing.{can-after}

pub can-steps : (plan : Shape) (bundle k : ℕ) (old new : List NodeState) (tray later : List Record) (did : Did) → Steps plan bundle k old tray new later did → CanStand plan bundle old [] → CanStand plan bundle new []
can-steps plan bundle k old new tray later Bundle s can = can-after plan bundle (bundle_events k s.0 s.2.number s.2.gave) old new [] [] [] can s.2.does
can-steps plan bundle k old new tray later Closing s can = can-after plan bundle s.2.events old new [] [] s.2.added can s.2.does
can-steps plan bundle k old new tray later Nothing s can = subst (λ (l : List NodeState). CanStand plan bundle l []) (sym s.1) can

pub settings-step : (plan : Shape) (bundle k : ℕ) (old new : List NodeState) (tray later : List Record) (did : Did) → Steps plan bundle k old tray new later did → settings_of new ≡ settings_of old
settings-step plan bundle k old new tray later Bundle s = s.2.settings
settings-step plan bundle k old new tray later Closing s = s.2.settings
settings-step plan bundle k old new tray later Nothing s = ap settings_of s.1
