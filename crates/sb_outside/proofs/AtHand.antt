-- A reader whose bytes at hand begin with a line goes on.
use Rattle.std.proofs.Common.{◌≡◌, ℕ, ◌<◌, List, Option, Some, None, refl, arith}
use Rattle.sb_outside.specs.AtHand.{BeginsWithLine, unless_halted}
use Rattle.sb_outside.specs.declared.lines.Halt.{Halt}

pub goes_on_with : (halted : Option Halt) (bytes : List ℕ) (len : ℕ) → BeginsWithLine len (unless_halted halted bytes) → (halted ≡ None) × BeginsWithLine len bytes
goes_on_with None bytes len begins = (refl, begins)
goes_on_with (Some h) bytes len begins = let none : len < 0 = begins.within in absurd (omega arith)
