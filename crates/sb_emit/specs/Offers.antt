-- What an offer of a row leaves of a list of taps.
use Rattle.std.specs.Prelude.{◌≡◌, ℕ, List, ◌∷◌, ◌++◌, Result, Ok, Err, filter, length}
use Rattle.std.specs.List.{AllZip}
use Rattle.sb_record.specs.declared.item.Record.{Record}
use Rattle.sb_emit.specs.declared.tap.TapFault.{TapFault}
use Rattle.sb_emit.specs.declared.tap.TapFault.TheVariants as fault
use Rattle.sb_emit.specs.declared.offering.TapStop.{TapStop}
use Rattle.sb_emit.specs.declared.offering.TapStop.TheVariants as stop
use Rattle.sb_emit.specs.Taps.{TapState, SawRow, RefusedRow, wants_more_after}

-- left are the taps that want more after the row, in order, and each has seen the row
abbrev pub LeavesThoseThatWantMore : Record → List TapState → List TapState → Type 0
LeavesThoseThatWantMore row taps left = AllZip (SawRow row) (filter (wants_more_after row) taps) left

-- the tap at the place refused: it and those behind it stay without the row, and those before it were offered it
pub record StopsAt (row : Record) (reason : TapFault) (place : ℕ) (old new : List TapState) : Type 0 where
  pub earlier : List TapState
  pub tap : TapState
  pub later : List TapState
  pub was : old ≡ earlier ++ tap ∷ later
  pub is_place : length earlier ≡ place
  pub left : List TapState
  pub leaves : LeavesThoseThatWantMore row earlier left
  pub refused : TapState
  pub refuses : RefusedRow reason tap refused
  pub now : new ≡ left ++ refused ∷ later

-- an offer to all taps, or up to the first that refused
abbrev pub Offers : {T : Type 0} → Record → List TapState → List TapState → Result T TapStop → Type 0
Offers row old new (Ok x) = LeavesThoseThatWantMore row old new
Offers row old new (Err (stop.Failed place)) = StopsAt row fault.Failed place old new
Offers row old new (Err stop.Memory) = (place : ℕ) × StopsAt row fault.Memory place old new
