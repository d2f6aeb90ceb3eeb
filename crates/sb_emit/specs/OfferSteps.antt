-- An offer of a row to one tap of a list.
use Rattle.std.specs.Prelude.{◌≡◌, ℕ, Bool, true, false, List, ◌∷◌, ◌++◌, Result, Ok, Err, length}
use Rattle.sb_record.specs.declared.item.Record.{Record}
use Rattle.sb_emit.specs.declared.tap.TapFault.{TapFault}
use Rattle.sb_emit.specs.Taps.{TapState, SawRow, RefusedRow, wants_more_after}

-- the tap at a place, among those before and behind it
pub record OfferedAt (place : ℕ) (old : List TapState) (tap : TapState) : Type 0 where
  pub earlier : List TapState
  pub later : List TapState
  pub was : old ≡ earlier ++ tap ∷ later
  pub is_place : length earlier ≡ place

-- the tap at the place has seen the row and stays, has enough and goes, or refuses and stays
abbrev pub OffersAt : Record → ℕ → List TapState → List TapState → Result Bool TapFault → Type 0
OffersAt row place old new (Ok true) =
    (tap : TapState) × (saw : TapState) × (at : OfferedAt place old tap)
    × SawRow row tap saw × (wants_more_after row tap ≡ true) × (new ≡ at.earlier ++ saw ∷ at.later)
OffersAt row place old new (Ok false) =
    (tap : TapState) × (at : OfferedAt place old tap) × (wants_more_after row tap ≡ false)
    × (new ≡ at.earlier ++ at.later)
OffersAt row place old new (Err reason) =
    (tap : TapState) × (refused : TapState) × (at : OfferedAt place old tap)
    × RefusedRow reason tap refused × (new ≡ at.earlier ++ refused ∷ at.later)
