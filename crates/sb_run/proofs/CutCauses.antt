-- Whose reads have failed where a first part was read, and where reading it stopped.
use Rattle.std.proofs.Common.{◌≡◌, ◌≤◌, ℕ, ◌+◌, Bool, true, false, not, ◌&&◌, List, Option, Some, None, refl, ap, arith}
use Rattle.std.specs.Io.KnownBytes.{IsAtEnd}
use Rattle.sb_engines.specs.feeds.base.records.declared.intake.Refusal.{Refusal}
use Rattle.sb_engines.specs.feeds.base.records.declared.intake.Stop.{Stop}
use Rattle.sb_engines.specs.feeds.base.records.declared.intake.Stop.TheVariants.{End, Refused, Fault}
use Rattle.sb_engines.specs.feeds.base.records.Inputs.{stop_of}
use Rattle.sb_engines.specs.feeds.outside.Sources.{Rose}
use Rattle.sb_engines.specs.feeds.one_feed.Reads.{FaultCause}
use Rattle.sb_checkpoint.specs.Cut.{IsCutAt, faults_of}
use Rattle.sb_engines.specs.alone.declared.run_end.RunEnd.{RunEnd}
use Rattle.sb_engines.specs.alone.declared.run_end.RunEnd.TheVariants as run
use Rattle.sb_run.specs.declared.cut.cut_end.CutEnd.{CutEnd}
use Rattle.sb_run.specs.declared.cut.cut_end.CutEnd.TheVariants.{Done}
use Rattle.sb_run.specs.CutEnds.{IsCutEnd}
use Rattle.sb_run.specs.Saves.{cut_stop}

-- a count of faults that stood: no read has failed, and none has ended
pub same_count : (before now again : ℕ) (ended : Bool) → before ≤ now → faults_of ended now + again ≡ before + 0 → now ≡ before
same_count before now again true le is = omega (arith, le, is)
same_count before now again false le is = omega (arith, le, is)

-- a count that rose: a read has failed, unless the end was read and none has
pub rose_count : (left : Option (List ℕ)) (before now again : ℕ) (ended failed : Bool) → IsCutAt left before now ended failed → (ended ≡ false → again ≡ 0)
    → ended && not failed ≡ false → Rose (before + 0) (faults_of ended now + again) → Rose before now
rose_count left before now again ended true cut first not_whole rose = cut.failed refl
rose_count left before now again true false cut first not_whole rose = cc not_whole
rose_count left before now again false false cut first not_whole rose = let none = first refl in omega (arith, rose, none)

-- only an end that was read makes the part whole
pub whole_at_end : (left : Option (List ℕ)) (before now : ℕ) (ended failed : Bool) → IsCutAt left before now ended failed → ended && not failed ≡ true → IsAtEnd left
whole_at_end left before now true failed cut whole = cut.at_end refl
whole_at_end left before now false failed cut whole = cc whole

pub whole_unfailed : (left : Option (List ℕ)) (before now : ℕ) (ended failed : Bool) → IsCutAt left before now ended failed → ended && not failed ≡ true → now ≡ before
whole_unfailed left before now true false cut whole = cut.unfailed refl
whole_unfailed left before now true true cut whole = cc whole
whole_unfailed left before now false failed cut whole = cc whole

pub whole_has_ended : (ended failed : Bool) → ended && not failed ≡ true → ended ≡ true
whole_has_ended true failed whole = refl
whole_has_ended false failed whole = cc whole

-- a part is done, and saved to its end, only if it is whole
pub done_is_whole : (whole : Bool) (end : RunEnd) (cut : CutEnd) → IsCutEnd whole end cut → cut ≡ Done → whole ≡ true
done_is_whole true end cut is done = refl
done_is_whole false (run.Done hand) cut is done = absurd is
done_is_whole false (run.Refused refusal) cut is done = cc (is, done)
done_is_whole false run.Input cut is done = cc (is, done)
done_is_whole false run.Output cut is done = cc (is, done)
done_is_whole false (run.Tap place) cut is done = absurd is
done_is_whole false run.Memory cut is done = cc (is, done)

pub end_is_whole : (whole : Bool) (stop : Stop) → (stop ≡ End → ⊥) → cut_stop whole stop ≡ End → whole ≡ true
end_is_whole true stop going is = refl
end_is_whole false End going is = absurd (going refl)
end_is_whole false (Refused refusal) going is = cc is
end_is_whole false Fault going is = cc is

-- where reading stopped
pub cut_stopped : (ended whole : Bool) (refused : Option Refusal) (stop : Stop) → stop ≡ stop_of ended refused → (stop ≡ End → ⊥) → cut_stop whole stop ≡ stop_of whole refused
cut_stopped ended whole (Some refusal) stop is going = ap (cut_stop whole) is
cut_stopped true whole None stop is going = absurd (going is)
cut_stopped false true None stop is going = ap (cut_stop true) is
cut_stopped false false None stop is going = ap (cut_stop false) is

pub cut_cause : (left : Option (List ℕ)) (before now again : ℕ) (ended failed : Bool) (stop : Stop) → IsCutAt left before now ended failed → (ended ≡ false → again ≡ 0) → (stop ≡ End → ⊥)
    → FaultCause (before + 0) (faults_of ended now + again) stop → FaultCause before now (cut_stop (ended && not failed) stop)
cut_cause left before now again ended failed End cut first going cause = absurd (going refl)
cut_cause left before now again ended failed (Refused refusal) cut first going cause = same_count before now again ended cut.never_falls cause
cut_cause left before now again ended failed Fault cut first going cause = by_whole (ended && not failed) refl
  where
    by_whole : (whole : Bool) → ended && not failed ≡ whole → FaultCause before now (cut_stop whole Fault)
    by_whole true is = whole_unfailed left before now ended failed cut is
    by_whole false is = rose_count left before now again ended failed cut first is cause
