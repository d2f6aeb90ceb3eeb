-- The faults that a run over a first part of an input tells.
use Rattle.std.proofs.Common.{◌≡◌, ℕ, List, Result, Ok, Err, refl, ◌∙◌}
use Rattle.std.specs.Prelude.{OnOk, false}
use Rattle.sb_answers.specs.outside.Folders.{Load}
use Rattle.sb_answers.specs.outside.Sinks.{SinkCause, SinkState}
use Rattle.sb_answers.specs.outside.declared.sink.SinkFault.{SinkFault}
use Rattle.sb_answers.specs.outside.declared.sink.SinkFault.TheVariants as fault
use Rattle.sb_run.specs.declared.cut.cut_end.CutEnd.{CutEnd}
use Rattle.sb_run.specs.declared.cut.cut_end.CutEnd.TheVariants as cut
use Rattle.sb_run.specs.CutEnds.{CutCause, CutOutputCause, IsCutWritten}
use Rattle.sb_answers.specs.told.Outcomes.{IsNoTap, IsRead}
use Rattle.sb_answers.specs.told.declared.status.Status.TheVariants.{Done}
use Rattle.sb_answer_runs.specs.CutSteps.{status_after_cut}
use Rattle.sb_answers.specs.Faults.{HasCause, HidesNoFault, faults_of}
use Rattle.sb_answers.proofs.RunFaults.{rose_before, rose_later, same_faults, still_open}

pub cut_read : (end : CutEnd) (passed : Result (Unit {0}) SinkFault) → IsRead (status_after_cut end passed)
cut_read end (Err fault.Failed) = tt
cut_read end (Err fault.Memory) = tt
cut_read cut.Done (Ok x) = tt
cut_read (cut.Refused refusal) (Ok x) = tt
cut_read cut.Input (Ok x) = tt
cut_read cut.Output (Ok x) = tt
cut_read cut.Memory (Ok x) = tt

pub cut_no_tap : (end : CutEnd) (passed : Result (Unit {0}) SinkFault) → IsNoTap (status_after_cut end passed)
cut_no_tap end (Err fault.Failed) = tt
cut_no_tap end (Err fault.Memory) = tt
cut_no_tap cut.Done (Ok x) = tt
cut_no_tap (cut.Refused refusal) (Ok x) = tt
cut_no_tap cut.Input (Ok x) = tt
cut_no_tap cut.Output (Ok x) = tt
cut_no_tap cut.Memory (Ok x) = tt

module _ (reads reads' : ℕ) (sink sink1 sink2 : SinkState) where
  pub cut_cause : (end : CutEnd) (passed : Result (Unit {0}) SinkFault) (loads : List Load) → CutCause reads reads' end → CutOutputCause sink sink1 end → SinkCause sink1 sink2 passed
      → HasCause (faults_of reads sink loads) (faults_of reads' sink2 loads) (status_after_cut end passed)
  cut_cause end (Err fault.Failed) loads input output cause = rose_later sink.faults sink1.faults sink2.faults output.never_falls (cause.failed refl)
  cut_cause end (Err fault.Memory) loads input output cause = tt
  cut_cause cut.Done (Ok x) loads input output cause = tt
  cut_cause (cut.Refused refusal) (Ok x) loads input output cause = tt
  cut_cause cut.Input (Ok x) loads input output cause = input
  cut_cause cut.Output (Ok x) loads input output cause = rose_before sink.faults sink1.faults sink2.faults (output.failed refl) cause.never_falls
  cut_cause cut.Memory (Ok x) loads input output cause = tt

  writes_same : (end : CutEnd) (x : Unit {0}) → CutOutputCause sink sink1 end → SinkCause sink1 sink2 (Ok x) → (IsCutWritten end → sink2.refuses ≡ false) → IsCutWritten end → sink2.faults ≡ sink.faults
  writes_same end x output cause told written =
      cause.passed (told written) ∙ output.passed written (still_open sink1.refuses sink2.refuses cause.keeps_refusing (told written))

  pub cut_hides_none : (end : CutEnd) (passed : Result (Unit {0}) SinkFault) (loads : List Load) → CutCause reads reads' end → CutOutputCause sink sink1 end → SinkCause sink1 sink2 passed
      → OnOk passed (IsCutWritten end → sink2.refuses ≡ false) → HidesNoFault (faults_of reads sink loads) (faults_of reads' sink2 loads) (status_after_cut end passed)
  cut_hides_none end (Err fault.Failed) loads input output cause told = refl
  cut_hides_none end (Err fault.Memory) loads input output cause told = refl
  cut_hides_none cut.Done (Ok x) loads input output cause told = same_faults reads reads' sink sink1 sink2 loads input (writes_same cut.Done x output cause told tt)
  cut_hides_none (cut.Refused refusal) (Ok x) loads input output cause told = same_faults reads reads' sink sink1 sink2 loads input (writes_same (cut.Refused refusal) x output cause told tt)
  cut_hides_none cut.Input (Ok x) loads input output cause told = (writes_same cut.Input x output cause told tt, refl)
  cut_hides_none cut.Output (Ok x) loads input output cause told = refl
  cut_hides_none cut.Memory (Ok x) loads input output cause told = refl

-- the status is that the part is done only if it is
pub cut_is_done : (end : CutEnd) (passed : Result (Unit {0}) SinkFault) → status_after_cut end passed ≡ Done → end ≡ cut.Done
cut_is_done end (Err fault.Failed) is = cc is
cut_is_done end (Err fault.Memory) is = cc is
cut_is_done cut.Done (Ok x) is = refl
cut_is_done (cut.Refused refusal) (Ok x) is = cc is
cut_is_done cut.Input (Ok x) is = cc is
cut_is_done cut.Output (Ok x) is = cc is
cut_is_done cut.Memory (Ok x) is = cc is
