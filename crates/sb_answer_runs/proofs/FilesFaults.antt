-- The faults that a run over two files tells.
use Rattle.std.proofs.Common.{◌≡◌, ℕ, false, List, Result, Ok, Err, refl}
use Rattle.std.specs.Prelude.{OnOk}
use Rattle.sb_answers.specs.outside.Folders.{Load}
use Rattle.sb_answers.specs.outside.Sinks.{SinkCause, SinkState}
use Rattle.sb_answers.specs.outside.declared.sink.SinkFault.{SinkFault}
use Rattle.sb_answers.specs.outside.declared.sink.SinkFault.TheVariants as fault
use Rattle.sb_answers.specs.alone.declared.two_end.TwoEnd.{TwoEnd}
use Rattle.sb_answers.specs.alone.declared.two_end.TwoEnd.TheVariants as two
use Rattle.sb_answers.specs.alone.RunEnds.{IsWritten, OutputCause}
use Rattle.sb_run.specs.TwoEnds.{as_run}
use Rattle.sb_answers.specs.Faults.{HasCause, HidesNoFault, faults_of}
use Rattle.sb_answers.specs.FileSteps.{status_after_two}
use Rattle.sb_answers.proofs.RunFaults.{rose_before, rose_later, same_faults, writes_same}

module _ (reads : ℕ) (sink sink1 sink2 : SinkState) where
  pub files_cause : (end : TwoEnd) (passed : Result (Unit {0}) SinkFault) (loads : List Load) → OutputCause sink sink1 (as_run end) → SinkCause sink1 sink2 passed
      → HasCause (faults_of reads sink loads) (faults_of reads sink2 loads) (status_after_two end passed)
  files_cause end (Err fault.Failed) loads output cause = rose_later sink.faults sink1.faults sink2.faults output.never_falls (cause.failed refl)
  files_cause end (Err fault.Memory) loads output cause = tt
  files_cause (two.Done hand) (Ok x) loads output cause = tt
  files_cause (two.Refused stream refusal) (Ok x) loads output cause = tt
  files_cause two.Output (Ok x) loads output cause = rose_before sink.faults sink1.faults sink2.faults (output.failed refl) cause.never_falls
  files_cause (two.Tap place) (Ok x) loads output cause = tt
  files_cause two.Memory (Ok x) loads output cause = tt

  -- no write failed
  well_written : (end : TwoEnd) (x : Unit {0}) → OutputCause sink sink1 (as_run end) → SinkCause sink1 sink2 (Ok x) → (IsWritten (as_run end) → sink2.refuses ≡ false) → IsWritten (as_run end)
      → sink2.faults ≡ sink.faults
  well_written end x output cause told written = writes_same reads reads sink sink1 sink2 (as_run end) x output cause told written

  pub files_hide_none : (end : TwoEnd) (passed : Result (Unit {0}) SinkFault) (loads : List Load) → OutputCause sink sink1 (as_run end) → SinkCause sink1 sink2 passed
      → OnOk passed (IsWritten (as_run end) → sink2.refuses ≡ false) → HidesNoFault (faults_of reads sink loads) (faults_of reads sink2 loads) (status_after_two end passed)
  files_hide_none end (Err fault.Failed) loads output cause told = refl
  files_hide_none end (Err fault.Memory) loads output cause told = refl
  files_hide_none (two.Done hand) (Ok x) loads output cause told = same_faults reads reads sink sink1 sink2 loads refl (well_written (two.Done hand) x output cause told tt)
  files_hide_none (two.Refused stream refusal) (Ok x) loads output cause told =
      same_faults reads reads sink sink1 sink2 loads refl (well_written (two.Refused stream refusal) x output cause told tt)
  files_hide_none two.Output (Ok x) loads output cause told = refl
  files_hide_none (two.Tap place) (Ok x) loads output cause told = (well_written (two.Tap place) x output cause told tt, refl)
  files_hide_none two.Memory (Ok x) loads output cause told = refl
