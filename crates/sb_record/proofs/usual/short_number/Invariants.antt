use Rattle.std.proofs.Common.{◌≡◌, ◌<◌, ◌^◌, drop}
use Rattle.sb_record.specs.Reading.{digits_from}
use Rattle.sb_record.proofs.usual.short_number.Given as goal

abbrev pub invariant-digits : goal.invariant-digits
invariant-digits l = record {
  so_far : digits_from 0 0 l.bytes ≡ digits_from l.value l.i (drop l.i l.bytes);
  some : 0 < l.value;
  small : l.value < 10 ^ l.i;
}
