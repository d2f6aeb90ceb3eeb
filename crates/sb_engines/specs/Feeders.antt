-- What the feeder's pass of a shared cascade stands for between two lines of an input.
use Rattle.std.specs.Prelude.{◌≡◌, ◌≤◌, ℕ, List, [], length, Result, Ok, Err}
use Rattle.std.specs.List.{AllByRecursion}
use Rattle.sb_alone.specs.feeds.base.records.declared.item.Record.{Record}
use Rattle.sb_alone.specs.feeds.base.records.declared.item.Stream.{Stream}
use Rattle.sb_alone.specs.feeds.base.records.declared.item.TheConstants.{END_MARK}
use Rattle.sb_alone.specs.feeds.base.bundle.declared.bundle.TheConstants.{MAX_BUNDLE}
use Rattle.sb_alone.specs.feeds.base.pipeline.Plans.{IsPlan}
use Rattle.sb_alone.specs.feeds.base.pipeline.Shapes.{Shape}
use Rattle.sb_worker.specs.cascade.declared.cascade.Cascade.{Cascade}
use Rattle.sb_worker.specs.cascade.declared.pass.CascadePass.{CascadePass}
use Rattle.sb_worker.specs.cascade.shared.declared.telling.Setting.{Setting}
use Rattle.sb_worker.specs.cascade.Calls.{IsEmptyHanded, IsFeeder, IsReady, hands, passes_out, plan_of, setting_of}
use Rattle.sb_worker.specs.cascade.Lives.{IsShared}
use Rattle.sb_worker.specs.cascade.shared.Views as view
use Rattle.sb_alone.specs.feeds.emit.Taps.{TapState}
use Rattle.sb_alone.specs.feeds.one_feed.declared.give.GiveStop.{GiveStop}
use Rattle.sb_alone.specs.feeds.one_feed.Feeds.{AreRowsSoFar, Fed, floor_in, nothing_fed}
use Rattle.sb_alone.specs.feeds.one_feed.Gives.{GivesOut, StopsOut}
use Rattle.sb_worker.specs.hand.Hands.{HandView}
use Rattle.sb_worker.specs.hand.Showing.{settings_at, settings_of}
use Rattle.sb_alone.specs.declared.sizes.Sizes.{Sizes}
use Rattle.sb_alone.specs.Rested.{IsRested, feed_of}
use Rattle.sb_worker.specs.Helping.{IsFirst, IsHelper}

-- the feeder's pass, with nothing in hand, that was given this to feed, and has drained these rows: they are the plan's
-- below some mark, whatever may still come
pub record HasFed (c : Cascade) (p : CascadePass) (f : Fed) (rows : List Record) : Type 0 where
  pub ready : IsReady c p
  pub feeder : IsFeeder p
  pub empty : IsEmptyHanded p
  pub is_plan : IsPlan (plan_of c)
  pub fed : view.feed_of (hands p).feed ≡ feed_of f
  pub drained : (hands p).feed.drained ≡ rows
  pub so_far : AreRowsSoFar (plan_of c) f rows
  pub bound : (s : Stream) → floor_in f s ≤ END_MARK

-- the feeder begins: nothing was fed yet, and a bundle of the cascade has so many records at most
pub record Begins (c : Cascade) (p : CascadePass) (size : ℕ) : Type 0 where
  pub fed : HasFed c p nothing_fed []
  pub is_size : (setting_of c).bundle ≡ size
  pub some : 1 ≤ size
  pub most : size ≤ MAX_BUNDLE

-- the pass has no turn, as many others are out as before, and it is the feeder's if it was
pub record IsStill (c : Cascade) (p q : CascadePass) : Type 0 where
  pub ready : IsReady c q
  pub out : passes_out q ≡ passes_out p
  pub feeder : IsFeeder p → IsFeeder q

-- the hand has the plan and the sizes that the cascade was made with, and so have its nodes
pub record IsGivenBack (a : Setting) (h : HandView) : Type 0 where
  pub plan : h.plan ≡ a.plan
  pub bundle : h.bundle ≡ a.bundle
  pub pending : h.pending ≡ a.pending
  pub settings : settings_of h.nodes ≡ settings_at a.keeps a.pending a.plan

-- the hand that came back has worked off all that was fed, and the rows came out behind those before, or not all did
abbrev pub ComesBack : {O : Type 0} → Cascade → (O → List Record → O → Type 0) → (O → List Record → O → Type 0)
    → O → O → List TapState → List TapState → Fed → List Record → Result HandView GiveStop → Type 0
ComesBack c after part o p taps taps' f rows (Ok h) =
    IsGivenBack (setting_of c) h × GivesOut (IsRested h f) after o p taps taps' rows
ComesBack c after part o p taps taps' f rows (Err why) = StopsOut (plan_of c) after part o p taps taps' f rows why

-- workers begin to share a cascade of the plan: the feeder has fed nothing, and each helper has a pass
pub record IsBegun (plan : Shape) (sizes : Sizes) (c : Cascade) (p : CascadePass) (helpers : List CascadePass)
    : Type 0 where
  pub setting : IsShared plan sizes.bundle sizes.pending sizes.keeps_diaries (setting_of c)
  pub first : IsFirst c (length helpers) p
  pub helpers_are : AllByRecursion (IsHelper c) helpers
  pub begins : HasFed c p nothing_fed []
