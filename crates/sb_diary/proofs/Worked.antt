-- The worked diary is legal and settled, and the wrong lines are refused, by computation.
use Rattle.std.proofs.Common.{refl}
use Rattle.sb_diary.specs.Worked.{WorkedIsSettled, WrongLinesAreRefused}

pub settled : WorkedIsSettled
settled = record { sum_is_legal = refl; sum_is_settled = refl; sink_is_legal = refl; sink_is_settled = refl }

pub refused : WrongLinesAreRefused
refused = record {
  number_left_out = record { legal = refl; refused = refl };
  arrives_too_late = record { legal = refl; refused = refl };
  arrives_empty = record { legal = refl; refused = refl };
  mark_falls = record { legal = refl; refused = refl };
  taken_twice = record { legal = refl; refused = refl };
  finished_twice = record { legal = refl; refused = refl };
  begins_while_one_waits = record { legal = refl; refused = refl };
  begins_while_one_is_out = record { legal = refl; refused = refl };
  begins_a_newer_epoch = record { legal = refl; refused = refl };
  begins_a_second = record { legal = refl; refused = refl };
  joins_by_the_smaller = refl;
  joins_by_the_greater = record { legal = refl; refused = refl };
}
