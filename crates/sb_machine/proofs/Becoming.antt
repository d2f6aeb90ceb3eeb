-- What an event's function answers, from what the functions below it answered.
use Rattle.std.proofs.Common.{◌≡◌, Option, sym, subst}
use Rattle.std.specs.Prelude.{Result, Ok, Err}
use Rattle.std.specs.Result.{IsErr, IsErrAnd}
use Rattle.sb_core.specs.declared.moment.Moment.{Moment}
use Rattle.sb_machine.specs.declared.machine.StepStop.{StepStop}
use Rattle.sb_machine.specs.declared.machine.StepStop.TheVariants.{NotNow, Memory}
use Rattle.sb_machine.specs.Steps.{Becomes}

-- want of memory, passed on
pub becomes-memory : {T : Type 0} (later : Option Moment) (old new : Moment) (r : Result T StepStop) → IsErr r → IsErrAnd r (λ e. e ≡ Memory) → new ≡ old → Becomes later old new r
becomes-memory later old new (Ok x) is_err of same = absurd of
becomes-memory later old new (Err NotNow) is_err of same = cc
becomes-memory later old new (Err Memory) is_err of same = same

-- what is after an event is the same by another name
pub becomes-as : {T : Type 0} (later same : Option Moment) (old new : Moment) (r : Result T StepStop) → later ≡ same → Becomes same old new r → Becomes later old new r
becomes-as later same old new r is b = subst (λ l. Becomes l old new r) (sym is) b

-- a refusal changes nothing
pub refused-same : {T : Type 0} (later : Option Moment) (old new : Moment) (r : Result T StepStop) → IsErr r → Becomes later old new r → new ≡ old
refused-same later old new (Ok x) is_err b = cc
refused-same later old new (Err NotNow) is_err b = b.1
refused-same later old new (Err Memory) is_err b = b
