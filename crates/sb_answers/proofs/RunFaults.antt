-- The faults that a run of the engine tells.
use Rattle.std.proofs.Common.{◌≡◌, ℕ, ◌≤◌, Bool, true, false, List, Result, Ok, Err, refl, ◌∙◌, arith}
use Rattle.std.specs.Prelude.{OnOk}
use Rattle.sb_alone.specs.outside.Folders.{Load}
use Rattle.sb_alone.specs.outside.Sinks.{SinkCause, SinkState}
use Rattle.sb_alone.specs.outside.Sources.{Rose}
use Rattle.sb_alone.specs.outside.declared.sink.SinkFault.{SinkFault}
use Rattle.sb_alone.specs.outside.declared.sink.SinkFault.TheVariants as fault
use Rattle.sb_alone.specs.declared.run_end.RunEnd.{RunEnd}
use Rattle.sb_alone.specs.declared.run_end.RunEnd.TheVariants as run
use Rattle.sb_alone.specs.RunEnds.{InputCause, IsDone, IsWritten, OutputCause, SharedInputCause}
use Rattle.sb_answers.specs.Faults.{HasCause, HidesNoFault, faults_of}
use Rattle.sb_told.specs.declared.status.Status.TheVariants.{Done, Tap}
use Rattle.sb_answers.specs.RunSteps.{status_after}
use Rattle.sb_told.specs.Outcomes.{IsRead}

-- a sink that does not refuse now did not before
pub still_open : (p q : Bool) → (p ≡ true → q ≡ true) → q ≡ false → p ≡ false
still_open false q keeps now = refl
still_open true q keeps now = absurd (cc (keeps refl, now))

pub rose_later : (a b c : ℕ) → a ≤ b → Rose b c → Rose a c
rose_later a b c h k = omega (arith, h, k)

pub rose_before : (a b c : ℕ) → Rose a b → b ≤ c → Rose a c
rose_before a b c h k = omega (arith, h, k)

pub run_read : (end : RunEnd) (passed : Result (Unit {0}) SinkFault) → IsRead (status_after end passed)
run_read end (Err fault.Failed) = tt
run_read end (Err fault.Memory) = tt
run_read (run.Done hand) (Ok x) = tt
run_read (run.Refused refusal) (Ok x) = tt
run_read run.Input (Ok x) = tt
run_read run.Output (Ok x) = tt
run_read (run.Tap place) (Ok x) = tt
run_read run.Memory (Ok x) = tt

module _ (reads reads' : ℕ) (sink sink1 sink2 : SinkState) where
  pub run_cause : (end : RunEnd) (passed : Result (Unit {0}) SinkFault) (loads : List Load) → SharedInputCause reads reads' end → OutputCause sink sink1 end → SinkCause sink1 sink2 passed
      → HasCause (faults_of reads sink loads) (faults_of reads' sink2 loads) (status_after end passed)
  run_cause end (Err fault.Failed) loads input output cause = rose_later sink.faults sink1.faults sink2.faults output.never_falls (cause.failed refl)
  run_cause end (Err fault.Memory) loads input output cause = tt
  run_cause (run.Done hand) (Ok x) loads input output cause = tt
  run_cause (run.Refused refusal) (Ok x) loads input output cause = tt
  run_cause run.Input (Ok x) loads input output cause = input
  run_cause run.Output (Ok x) loads input output cause = rose_before sink.faults sink1.faults sink2.faults (output.failed refl) cause.never_falls
  run_cause (run.Tap place) (Ok x) loads input output cause = tt
  run_cause run.Memory (Ok x) loads input output cause = tt

  pub writes_same : (end : RunEnd) (x : Unit {0}) → OutputCause sink sink1 end → SinkCause sink1 sink2 (Ok x) → (IsWritten end → sink2.refuses ≡ false) → IsWritten end → sink2.faults ≡ sink.faults
  writes_same end x output cause told written =
      cause.passed (told written) ∙ output.passed written (still_open sink1.refuses sink2.refuses cause.keeps_refusing (told written))

  pub same_faults : (loads : List Load) → reads' ≡ reads → sink2.faults ≡ sink.faults → faults_of reads' sink2 loads ≡ faults_of reads sink loads
  same_faults loads r w = λ i. record { reads = r i; writes = w i; loads = loads }

  pub run_hides_none : (end : RunEnd) (passed : Result (Unit {0}) SinkFault) (loads : List Load) → SharedInputCause reads reads' end → OutputCause sink sink1 end → SinkCause sink1 sink2 passed
      → OnOk passed (IsWritten end → sink2.refuses ≡ false) → HidesNoFault (faults_of reads sink loads) (faults_of reads' sink2 loads) (status_after end passed)
  run_hides_none end (Err fault.Failed) loads input output cause told = refl
  run_hides_none end (Err fault.Memory) loads input output cause told = refl
  run_hides_none (run.Done hand) (Ok x) loads input output cause told = same_faults loads input (writes_same (run.Done hand) x output cause told tt)
  run_hides_none (run.Refused refusal) (Ok x) loads input output cause told = same_faults loads input (writes_same (run.Refused refusal) x output cause told tt)
  run_hides_none run.Input (Ok x) loads input output cause told = (writes_same run.Input x output cause told tt, refl)
  run_hides_none run.Output (Ok x) loads input output cause told = refl
  run_hides_none (run.Tap place) (Ok x) loads input output cause told = (writes_same (run.Tap place) x output cause told tt, refl)
  run_hides_none run.Memory (Ok x) loads input output cause told = refl

-- before a tap fails no read of one worker has failed
pub tap_alone : (before now place : ℕ) (end : RunEnd) (passed : Result (Unit {0}) SinkFault) → InputCause before now end → status_after end passed ≡ Tap place → now ≡ before
tap_alone before now place end (Err fault.Failed) cause is = cc is
tap_alone before now place end (Err fault.Memory) cause is = cc is
tap_alone before now place (run.Done hand) (Ok x) cause is = cc is
tap_alone before now place (run.Refused refusal) (Ok x) cause is = cc is
tap_alone before now place run.Input (Ok x) cause is = cc is
tap_alone before now place run.Output (Ok x) cause is = cc is
tap_alone before now place (run.Tap at) (Ok x) cause is = cause
tap_alone before now place run.Memory (Ok x) cause is = cc is

-- the status is that the run is done only if it is
pub done_is_done : (end : RunEnd) (passed : Result (Unit {0}) SinkFault) → status_after end passed ≡ Done → IsDone end
done_is_done end (Err fault.Failed) is = cc is
done_is_done end (Err fault.Memory) is = cc is
done_is_done (run.Done hand) (Ok x) is = tt
done_is_done (run.Refused refusal) (Ok x) is = cc is
done_is_done run.Input (Ok x) is = cc is
done_is_done run.Output (Ok x) is = cc is
done_is_done (run.Tap place) (Ok x) is = cc is
done_is_done run.Memory (Ok x) is = cc is
