-- What offers of many rows leave of a list of taps.
use Rattle.std.specs.Prelude.{◌≡◌, ◌≤◌, ℕ, Bool, true, not, ◌&&◌, List, [], ◌∷◌, ◌++◌, filter}
use Rattle.std.specs.List.{AllZip}
use Rattle.sb_base.specs.records.declared.item.Record.{Record}
use Rattle.sb_emit.specs.declared.tap.TapFault.TheVariants as fault
use Rattle.sb_emit.specs.Offers.{StopsAt}
use Rattle.sb_emit.specs.Taps.{TapState}

-- the tap has seen the rows; its test stays, and no fault is forgotten
pub record SawRows (rows : List Record) (old new : TapState) : Type 0 where
  pub seen : new.seen ≡ old.seen ++ rows
  pub same_test : new.is_full ≡ old.is_full
  pub never_falls : old.faults ≤ new.faults

-- whether a tap that has seen some rows wants more after each of these behind them
abbrev pub wants_more_after_each : (List Record → Bool) → List Record → List Record → Bool
wants_more_after_each is_full seen [] = true
wants_more_after_each is_full seen (row ∷ rows) =
    not (is_full (seen ++ row ∷ [])) && wants_more_after_each is_full (seen ++ row ∷ []) rows

abbrev pub stays_for : List Record → TapState → Bool
stays_for rows tap = wants_more_after_each tap.is_full tap.seen rows

-- left are the taps that had not enough after any of the rows, in order, and each has seen all of them
abbrev pub LeavesThoseThatStay : List Record → List TapState → List TapState → Type 0
LeavesThoseThatStay rows taps left = AllZip (SawRows rows) (filter (stays_for rows) taps) left

-- the tap at a place failed at one of the rows: place is its place in the list as that row was offered
pub record StopsIn (rows : List Record) (place : ℕ) (old new : List TapState) : Type 0 where
  pub earlier : List Record
  pub row : Record
  pub later : List Record
  pub are : rows ≡ earlier ++ row ∷ later
  pub between : List TapState
  pub left : LeavesThoseThatStay earlier old between
  pub stops : StopsAt row fault.Failed place between new
