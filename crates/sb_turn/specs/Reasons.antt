-- The numbers of the reasons in the state word.
use Rattle.std.specs.Prelude.{ℕ}
use Rattle.sb_turn.specs.declared.reason.Reason.{Reason}
use Rattle.sb_turn.specs.declared.reason.Reason.TheVariants.{Running, Ended, Fault, Memory}

-- the number that the state word has for a reason
abbrev pub number_of : Reason → ℕ
number_of Running = 0
number_of Ended = 1
number_of Fault = 2
number_of Memory = 3
