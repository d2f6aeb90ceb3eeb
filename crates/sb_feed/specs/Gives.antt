-- What giving out rows does to an output and to taps, in one call and where an engine is fed.
use Rattle.std.specs.Prelude.{◌≡◌, List, ◌++◌, Result, Ok, Err, ⊤}
use Rattle.sb_base.specs.records.declared.item.Record.{Record}
use Rattle.sb_base.specs.pipeline.Shapes.{Shape}
use Rattle.sb_emit.specs.Taps.{TapState}
use Rattle.sb_feed.specs.declared.give.GiveStop.{GiveStop}
use Rattle.sb_feed.specs.declared.give.GiveStop.TheVariants as stop
use Rattle.sb_feed.specs.Feeds.{Fed, AreRowsSoFar}
use Rattle.sb_feed.specs.TapLists.{LeavesThoseThatStay, StopsIn}

-- what was written of the rows where giving out stopped, by why it did: all of them if a tap failed, else a part
abbrev pub WroteAt : {O : Type 0} → (O → List Record → O → Type 0) → (O → List Record → O → Type 0) → GiveStop
    → O → List Record → O → Type 0
WroteAt after part (stop.Tap place) o rows p = after o rows p
WroteAt after part stop.Output o rows p = part o rows p
WroteAt after part stop.Memory o rows p = part o rows p

-- all of the rows were written, also if a tap then failed; else a part of them
abbrev pub WritesRows : {O T : Type 0} → (O → List Record → O → Type 0) → (O → List Record → O → Type 0)
    → O → List Record → O → Result T GiveStop → Type 0
WritesRows after part o rows p (Ok x) = after o rows p
WritesRows after part o rows p (Err why) = WroteAt after part why o rows p

-- all of the rows were offered, or those up to one at which a tap failed; none if writing failed. Nothing is said of
-- the taps where memory was wanting
abbrev pub OffersRows : {T : Type 0} → List Record → List TapState → List TapState → Result T GiveStop → Type 0
OffersRows rows old new (Ok x) = LeavesThoseThatStay rows old new
OffersRows rows old new (Err (stop.Tap place)) = StopsIn rows place old new
OffersRows rows old new (Err stop.Output) = new ≡ old
OffersRows rows old new (Err stop.Memory) = ⊤

-- what is said of the taps where giving out stopped, by why it did: a tap failed at one of the rows
abbrev pub TapsAt : GiveStop → List Record → List TapState → List TapState → Type 0
TapsAt (stop.Tap place) rows old new = StopsIn rows place old new
TapsAt stop.Output rows old new = ⊤
TapsAt stop.Memory rows old new = ⊤

-- rows came out behind those before, and were written and offered
pub record GivesOut {O : Type 0} (stands : List Record → Type 0) (after : O → List Record → O → Type 0) (o p : O)
    (taps taps' : List TapState) (before : List Record) : Type 0 where
  pub rows : List Record
  pub stand : stands (before ++ rows)
  pub wrote : after o rows p
  pub offered : LeavesThoseThatStay rows taps taps'

-- rows came out behind those before: a part of them was written, or all and a tap failed at one
pub record StopsOut {O : Type 0} (plan : Shape) (after part : O → List Record → O → Type 0) (o p : O)
    (taps taps' : List TapState) (f : Fed) (before : List Record) (why : GiveStop) : Type 0 where
  pub rows : List Record
  pub so_far : AreRowsSoFar plan f (before ++ rows)
  pub wrote : WroteAt after part why o rows p
  pub at : TapsAt why rows taps taps'

-- what a call gives out that feeds an engine
abbrev pub Gives : {O T : Type 0} → Shape → (List Record → Type 0) → (O → List Record → O → Type 0)
    → (O → List Record → O → Type 0) → O → O → List TapState → List TapState → Fed → List Record
    → Result T GiveStop → Type 0
Gives plan stands after part o p taps taps' f before (Ok x) = GivesOut stands after o p taps taps' before
Gives plan stands after part o p taps taps' f before (Err why) =
    StopsOut plan after part o p taps taps' f before why
