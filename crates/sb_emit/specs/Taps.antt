-- Taps: what they have seen, when they have enough, and when they may refuse.
use Rattle.std.specs.Prelude.{◌≡◌, ◌≤◌, ℕ, Bool, true, false, not, List, [], ◌∷◌, ◌++◌, Result, Ok, Err}
use Rattle.sb_record.specs.declared.item.Record.{Record}
use Rattle.sb_outside.specs.Sources.{Rose}
use Rattle.sb_emit.specs.declared.tap.Wish.{Wish}
use Rattle.sb_emit.specs.declared.tap.Wish.TheVariants as wish
use Rattle.sb_emit.specs.declared.tap.TapFault.{TapFault}
use Rattle.sb_emit.specs.declared.tap.TapFault.TheVariants as fault

-- the rows that a tap has seen, of which lists of rows it has enough, and how often it has failed
pub record TapState : Type 0 where
  pub seen : List Record
  pub is_full : List Record → Bool
  pub faults : ℕ

-- the tap has seen the row; its test stays, and no fault is forgotten
pub record SawRow (row : Record) (old new : TapState) : Type 0 where
  pub seen : new.seen ≡ old.seen ++ row ∷ []
  pub same_test : new.is_full ≡ old.is_full
  pub never_falls : old.faults ≤ new.faults

-- the tap has not seen the row; it failed only if its count of faults rose
pub record RefusedRow (reason : TapFault) (old new : TapState) : Type 0 where
  pub seen : new.seen ≡ old.seen
  pub same_test : new.is_full ≡ old.is_full
  pub never_falls : old.faults ≤ new.faults
  pub failed : reason ≡ fault.Failed → Rose old.faults new.faults

-- whether the tap wants more rows behind this one
abbrev pub wants_more_after : Record → TapState → Bool
wants_more_after row tap = not (tap.is_full (tap.seen ++ row ∷ []))

-- what a tap answers that wants more, or not
abbrev pub wish_of : Bool → Wish
wish_of true = wish.More
wish_of false = wish.Enough

-- what a tap answers to a row
abbrev pub Answers : Record → TapState → TapState → Result Wish TapFault → Type 0
Answers row old new (Ok w) = SawRow row old new × (w ≡ wish_of (wants_more_after row old))
Answers row old new (Err reason) = RefusedRow reason old new
