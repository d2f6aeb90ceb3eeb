use Rattle.std.proofs.Common.{◌≡◌, drop}
use Rattle.sb_record.specs.Reading.{digits_from}
use Rattle.sb_record.proofs.number.leading_digits.Given as goal

abbrev pub invariant-digits : goal.invariant-digits
invariant-digits l = digits_from 0 0 l.bytes ≡ digits_from l.value l.i (drop l.i l.bytes)
