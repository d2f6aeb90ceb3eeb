-- What sending rows through a ring does, and what printing does that comes out of it.
use Rattle.std.specs.Prelude.{◌≡◌, ◌⊎◌, false, List, [], ◌∷◌, ◌++◌, Result, Ok, Err}
use Rattle.sb_feed.specs.base.records.declared.item.Record.{Record}
use Rattle.sb_feed.specs.emit.Taps.{TapState}
use Rattle.sb_feed.specs.declared.give.GiveStop.{GiveStop}
use Rattle.sb_feed.specs.Gives.{TapsAt, WroteAt}
use Rattle.sb_feed.specs.TapLists.{LeavesThoseThatStay}
use Rattle.sb_feeds.specs.declared.rows.ends.RowsOut.{RowsOut}
use Rattle.sb_feeds.specs.declared.rows.fed.RowsFed.{RowsFed}
use Rattle.sb_feeds.specs.declared.rows.fed.RowsFed.TheVariants.{End}
use Rattle.sb_feeds.specs.RowsEnds.{row_ring_out, rows_sent}
use Rattle.sb_feeds.specs.RowsFed.{AreInTurn, all_rows, has_end, rows_of}

-- the rows were sent, in values of which each is earlier than those behind it
pub record AreSent (o : RowsOut) (rows : List Record) (p : RowsOut) : Type 0 where
  pub ring : row_ring_out p ≡ row_ring_out o
  pub values : List RowsFed
  pub sent : rows_sent p ≡ rows_sent o ++ values
  pub unended : has_end values ≡ false
  pub in_turn : AreInTurn values
  pub are : all_rows values ≡ rows

-- the first of the rows were sent
pub record AreSentInPart (o : RowsOut) (rows : List Record) (p : RowsOut) : Type 0 where
  pub first : List Record
  pub rest : List Record
  pub whole : rows ≡ first ++ rest
  pub sent : AreSent o first p

-- the end was sent behind all rows, or nothing was, since the printer needs nothing more
pub record EndsRows (o p : RowsOut) : Type 0 where
  pub ring : row_ring_out p ≡ row_ring_out o
  pub sent : (rows_sent p ≡ rows_sent o ++ End ∷ []) ⊎ (rows_sent p ≡ rows_sent o)

-- the rows of each value were written and offered, one value after another
abbrev pub GivenInTurn : {O : Type 0} → (O → List Record → O → Type 0) → O → List TapState → List RowsFed → O
    → List TapState → Type 0
GivenInTurn after o taps [] p taps' = (p ≡ o) × (taps' ≡ taps)
GivenInTurn {O} after o taps (v ∷ values) p taps' =
    (m : O) × (between : List TapState) × after o (rows_of v) m × LeavesThoseThatStay (rows_of v) taps between
    × GivenInTurn after m between values p taps'

-- all values up to the end were received, and their rows given out
pub record PrintsAll {O : Type 0} (after : O → List Record → O → Type 0) (o : O) (taps : List TapState)
    (received : List RowsFed) (p : O) (taps' : List TapState) : Type 0 where
  pub values : List RowsFed
  pub are : received ≡ values ++ End ∷ []
  pub given : GivenInTurn after o taps values p taps'

-- the rows of the first values were given out, and of those of the last a part was written, or all and a tap failed at
-- one
pub record PrintsSome {O : Type 0} (after part : O → List Record → O → Type 0) (o : O) (taps : List TapState)
    (received : List RowsFed) (p : O) (taps' : List TapState) (why : GiveStop) : Type 0 where
  pub values : List RowsFed
  pub last : List RowsFed
  pub are : received ≡ values ++ last
  pub between : O
  pub taps_between : List TapState
  pub given : GivenInTurn after o taps values between taps_between
  pub wrote : WroteAt after part why between (all_rows last) p
  pub at : TapsAt why (all_rows last) taps_between taps'

abbrev pub Prints : {O T : Type 0} → (O → List Record → O → Type 0) → (O → List Record → O → Type 0) → O
    → List TapState → List RowsFed → O → List TapState → Result T GiveStop → Type 0
Prints after part o taps received p taps' (Ok x) = PrintsAll after o taps received p taps'
Prints after part o taps received p taps' (Err why) = PrintsSome after part o taps received p taps' why
