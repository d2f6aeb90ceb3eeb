-- How a run over a first part ends, by how the engine's run over it ended.
use Rattle.std.proofs.Common.{◌≡◌, ℕ, ◌+◌, Bool, true, false, not, ◌&&◌, List, [], ◌∷◌, ◌++◌, map, Option, Some, None, refl, sym, ap, subst, ◌∙◌, inl, inr}
use Rattle.std.specs.Io.KnownBytes.{IsAtEnd}
use Rattle.std.specs.List.{AllZip}
use Rattle.sb_engines.specs.feeds.base.records.declared.intake.Refusal.{Refusal}
use Rattle.sb_engines.specs.feeds.base.records.declared.intake.Stop.{Stop}
use Rattle.sb_engines.specs.feeds.base.records.declared.intake.Stop.TheVariants as stop
use Rattle.sb_engines.specs.feeds.base.records.declared.item.Dropped.{Dropped}
use Rattle.sb_engines.specs.feeds.base.records.declared.item.Record.{Record}
use Rattle.sb_engines.specs.feeds.base.records.Inputs.{Accepted, stop_of}
use Rattle.sb_engines.specs.feeds.base.records.Streams.{dropped_of}
use Rattle.sb_engines.specs.feeds.outside.Sinks.{SinkState}
use Rattle.sb_engines.specs.feeds.base.pipeline.Shapes.{Shape}
use Rattle.sb_engines.specs.feeds.emit.declared.tap.TapFault.{TapFault}
use Rattle.sb_engines.specs.feeds.emit.Offers.{StopsAt}
use Rattle.sb_engines.specs.feeds.emit.Taps.{TapState}
use Rattle.sb_engines.specs.feeds.one_feed.Due.{AreFirstDropped, AreFirstRows, due_mark, rows_below}
use Rattle.sb_engines.specs.feeds.one_feed.Given.{accepted_of, items_of}
use Rattle.sb_engines.specs.feeds.one_feed.TapLists.{SawRows, StopsIn}
use Rattle.sb_checkpoint.specs.Checkpoints.{low_of}
use Rattle.sb_checkpoint.specs.Cut.{IsCutAt, faults_of}
use Rattle.sb_engines.specs.alone.declared.run_end.RunEnd.{RunEnd}
use Rattle.sb_engines.specs.alone.declared.run_end.RunEnd.TheVariants as run
use Rattle.sb_engines.specs.alone.declared.sizes.Sizes.{Sizes}
use Rattle.sb_engines.specs.alone.RunEnds.{Ends, EndsAt, EndsEarly, IsDone, MayHaveFailed, OutputCause, SharedInputCause}
use Rattle.sb_run.specs.declared.cut.cut_end.CutEnd.{CutEnd}
use Rattle.sb_run.specs.CutEnds.{CutCause, CutOutputCause, EndsCut, EndsCutEarly, IsCutEnd, IsEndOfPart, PartEnds}
use Rattle.sb_run.specs.FirstParts.{open_end}
use Rattle.sb_run.proofs.CutCauses.{rose_count, same_count, whole_unfailed}
use Rattle.sb_run.proofs.OpenEnds.{as_part}

-- ---- where there are no taps
pub none_mapped : {X Y : Type 0} (f : X → Y) (xs : List X) → xs ≡ [] → map f xs ≡ []
none_mapped f xs none = ap (map f) none

none_stops : (row : Record) (f : TapFault) (place : ℕ) (between new : List TapState) (R : TapState → TapState → Type 0) → AllZip R [] between → StopsAt row f place between new → ⊥
none_stops row f place [] new R left s = nothing s.earlier s.was
  where
    nothing : (e : List TapState) → [] ≡ e ++ s.tap ∷ s.later → ⊥
    nothing [] h = cc h
    nothing (x ∷ e) h = cc h
none_stops row f place (x ∷ between) new R left s = absurd left

no_tap_stops : (rows : List Record) (place : ℕ) (new : List TapState) → StopsIn rows place [] new → ⊥
no_tap_stops rows place new s = none_stops s.row _ place s.between new (SawRows s.earlier) s.left s.stops

module _ {O : Type 0} (plan : Shape) (sizes : Sizes) (left left' : Option (List ℕ)) (after part : O → List Record → O → Type 0) (o p : O) (taps' : List TapState) (dropped dropped' : List Dropped) where
  -- no tap is left, and none was there
  pub without_taps : (end : RunEnd) → Ends plan sizes left left' after part o p [] taps' dropped dropped' end → Ends plan sizes left left' after part o p [] [] dropped dropped' end
  without_taps (run.Done hand) e = (record { given = e.0.given; stopped = e.0.stopped; wrote = e.0.wrote; offered = tt; listed = e.0.listed }, e.1)
  without_taps (run.Refused refusal) e = record { given = e.given; stopped = e.stopped; wrote = e.wrote; offered = tt; listed = e.listed }
  without_taps run.Input e = record { given = e.given; stopped = e.stopped; wrote = e.wrote; offered = tt; listed = e.listed }
  without_taps run.Output e = e
  without_taps (run.Tap place) e = absurd (no_tap_stops e.rows place taps' e.offered)
  without_taps run.Memory e = e

  -- the same of bytes that are told otherwise
  pub without_taps_at : (taps : List TapState) (l l' : Option (List ℕ)) → taps ≡ [] → l ≡ left → l' ≡ left' → (end : RunEnd) → Ends plan sizes l l' after part o p taps taps' dropped dropped' end
      → Ends plan sizes left left' after part o p [] [] dropped dropped' end
  without_taps_at taps l l' none is is' end e =
      without_taps end
      (subst (λ x. Ends plan sizes x left' after part o p [] taps' dropped dropped' end) is
      (subst (λ x. Ends plan sizes l x after part o p [] taps' dropped dropped' end) is'
      (subst (λ t. Ends plan sizes l l' after part o p t taps' dropped dropped' end) none e)))

  end_of_part : (end : RunEnd) → (IsDone end → ⊥) → Ends plan sizes left left' after part o p [] taps' dropped dropped' end → IsEndOfPart end
  end_of_part (run.Done hand) going e = going tt
  end_of_part (run.Refused refusal) going e = tt
  end_of_part run.Input going e = tt
  end_of_part run.Output going e = tt
  end_of_part (run.Tap place) going e = no_tap_stops e.rows place taps' e.offered
  end_of_part run.Memory going e = tt

  pub end_of_part_at : (taps : List TapState) → taps ≡ [] → (end : RunEnd) → (IsDone end → ⊥) → Ends plan sizes left left' after part o p taps taps' dropped dropped' end → IsEndOfPart end
  end_of_part_at taps none end going e = end_of_part end going (subst (λ t. Ends plan sizes left left' after part o p t taps' dropped dropped' end) none e)

-- ---- what the run did
refused_by : (refusal : Refusal) (ended : Bool) (refused : Option Refusal) → stop_of ended refused ≡ stop.Refused refusal → refused ≡ Some refusal
refused_by refusal ended (Some other) is = cc is
refused_by refusal true None is = cc is
refused_by refusal false None is = cc is

none_refused : (ended : Bool) (refused : Option Refusal) → stop_of ended refused ≡ stop.Fault → refused ≡ None
none_refused ended (Some other) is = cc is
none_refused true None is = refl
none_refused false None is = refl

module _ {O : Type 0} (plan : Shape) (sizes : Sizes) (left left' : Option (List ℕ)) (after part : O → List Record → O → Type 0) (o p : O) (taps taps' : List TapState) (dropped dropped' : List Dropped) where
  ends_cut : (at : Stop) (refused : Option Refusal) (ended : Bool) → (ended ≡ true → IsAtEnd left')
      → ((e : Bool) (x : Option Refusal) → stop_of e x ≡ at → x ≡ refused) → ((low : ℕ) → due_mark at low ≡ low)
      → EndsAt at plan (open_end left) (open_end left') after o p taps taps' dropped dropped'
      → (end : EndsCut plan refused left left' after o p dropped dropped') × (end.given.ended ≡ ended)
  ends_cut at refused ended at_end is_refused is_low e =
      let is = as_part plan left left' e.given ended at_end in
      let below : after o (rows_below (low_of plan (items_of plan e.given)) plan (items_of plan e.given)) p =
      subst (λ w. after o (rows_below w plan (items_of plan e.given)) p) (is_low (low_of plan (items_of plan e.given))) e.wrote in (
        record {
          given = is.part;
          refused_is = ap (λ (a : Accepted). a.refused) is.same ∙ is_refused e.given.ended (accepted_of plan e.given).refused e.stopped;
          wrote = subst (λ (a : Accepted). after o (rows_below (low_of plan a.items) plan a.items) p) (sym is.same) below;
          listed = e.listed ∙ ap (λ (a : Accepted). dropped ++ dropped_of a.items) (sym is.same);
        },
        is.ends,
      )

  ends_early : (Offered : List Record → Type 0) → EndsEarly plan (open_end left) (open_end left') part o p Offered dropped dropped' → EndsCutEarly plan left left' part o p dropped dropped'
  ends_early Offered e =
      let is = as_part plan left left' e.given false (λ x. absurd (cc x)) in
      record {
        given = is.part;
        rows = e.rows;
        first = subst (λ (a : Accepted). AreFirstRows plan a.items e.rows) (sym is.same) e.first;
        wrote = e.wrote;
        late = e.late;
        first_late = subst (λ (a : Accepted). AreFirstDropped a.items e.late) (sym is.same) e.first_late;
        listed = e.listed;
      }

  pub part_ends : (whole : Bool) → (whole ≡ true → IsAtEnd left') → (end : RunEnd) (cut : CutEnd) → IsCutEnd whole end cut
      → Ends plan sizes (open_end left) (open_end left') after part o p taps taps' dropped dropped' end → PartEnds plan left left' after part o p dropped dropped' cut
  part_ends whole at_end (run.Done hand) cut is e = absurd is
  part_ends whole at_end (run.Refused refusal) cut is e =
      subst (λ c. PartEnds plan left left' after part o p dropped dropped' c) (sym is)
      (ends_cut (stop.Refused refusal) (Some refusal) false (λ x. absurd (cc x)) (refused_by refusal) (λ low. refl) e).0
  part_ends true at_end run.Input cut is e =
      subst (λ c. PartEnds plan left left' after part o p dropped dropped' c) (sym is) (ends_cut stop.Fault None true at_end none_refused (λ low. refl) e)
  part_ends false at_end run.Input cut is e =
      subst (λ c. PartEnds plan left left' after part o p dropped dropped' c) (sym is) (ends_cut stop.Fault None false (λ x. absurd (cc x)) none_refused (λ low. refl) e)
  part_ends whole at_end run.Output cut is e = subst (λ c. PartEnds plan left left' after part o p dropped dropped' c) (sym is) (ends_early _ e)
  part_ends whole at_end (run.Tap place) cut is e = absurd is
  part_ends whole at_end run.Memory cut is e = subst (λ c. PartEnds plan left left' after part o p dropped dropped' c) (sym is) (ends_early _ e)

  -- the same of bytes that are told otherwise
  pub part_ends_at : (l l' : Option (List ℕ)) → l ≡ left → l' ≡ left' → (whole : Bool) → (whole ≡ true → IsAtEnd left') → (end : RunEnd) (cut : CutEnd) → IsCutEnd whole end cut
      → Ends plan sizes (open_end l) (open_end l') after part o p taps taps' dropped dropped' end → PartEnds plan left left' after part o p dropped dropped' cut
  part_ends_at l l' is is' whole at_end end cut of e =
      part_ends whole at_end end cut of
      (subst (λ x. Ends plan sizes (open_end x) (open_end left') after part o p taps taps' dropped dropped' end) is
      (subst (λ x. Ends plan sizes (open_end l) (open_end x) after part o p taps taps' dropped dropped' end) is' e))

-- ---- whose calls have failed
may_have_failed : (left : Option (List ℕ)) (before now : ℕ) (ended failed : Bool) → IsCutAt left before now ended failed → MayHaveFailed before now
may_have_failed left before now ended true cut = inr (cut.failed refl)
may_have_failed left before now ended false cut = inl (cut.unfailed refl)

pub part_cause : (left : Option (List ℕ)) (before now again : ℕ) (ended failed : Bool) (end : RunEnd) (c : CutEnd) → IsCutAt left before now ended failed → (ended ≡ false → again ≡ 0)
    → IsCutEnd (ended && not failed) end c → SharedInputCause (before + 0) (faults_of ended now + again) end → CutCause before now c
part_cause left before now again ended failed (run.Done hand) c cut first is cause = absurd is
part_cause left before now again ended failed (run.Refused refusal) c cut first is cause = subst (CutCause before now) (sym is) (same_count before now again ended cut.never_falls cause)
part_cause left before now again ended failed run.Input c cut first is cause = by_whole (ended && not failed) refl is
  where
    by_whole : (whole : Bool) → ended && not failed ≡ whole → IsCutEnd whole run.Input c → CutCause before now c
    by_whole true w is = subst (CutCause before now) (sym is) (whole_unfailed left before now ended failed cut w)
    by_whole false w is = subst (CutCause before now) (sym is) (rose_count left before now again ended failed cut first w cause)
part_cause left before now again ended failed run.Output c cut first is cause = subst (CutCause before now) (sym is) (may_have_failed left before now ended failed cut)
part_cause left before now again ended failed (run.Tap place) c cut first is cause = absurd is
part_cause left before now again ended failed run.Memory c cut first is cause = subst (CutCause before now) (sym is) (may_have_failed left before now ended failed cut)

pub part_output : (before now : SinkState) (whole : Bool) (end : RunEnd) (c : CutEnd) → IsCutEnd whole end c → OutputCause before now end → CutOutputCause before now c
part_output before now whole (run.Done hand) c is cause = absurd is
part_output before now whole (run.Refused refusal) c is cause =
    subst (CutOutputCause before now) (sym is)
    (record { never_falls = cause.never_falls; never_short = cause.never_short; keeps_refusing = cause.keeps_refusing; failed = λ e. absurd (cc e); passed = λ w. cause.passed tt })
part_output before now true run.Input c is cause =
    subst (CutOutputCause before now) (sym is)
    (record { never_falls = cause.never_falls; never_short = cause.never_short; keeps_refusing = cause.keeps_refusing; failed = λ e. absurd (cc e); passed = λ w. cause.passed tt })
part_output before now false run.Input c is cause =
    subst (CutOutputCause before now) (sym is)
    (record { never_falls = cause.never_falls; never_short = cause.never_short; keeps_refusing = cause.keeps_refusing; failed = λ e. absurd (cc e); passed = λ w. cause.passed tt })
part_output before now whole run.Output c is cause =
    subst (CutOutputCause before now) (sym is)
    (record { never_falls = cause.never_falls; never_short = cause.never_short; keeps_refusing = cause.keeps_refusing; failed = λ e. cause.failed refl; passed = λ w. absurd w })
part_output before now whole (run.Tap place) c is cause = absurd is
part_output before now whole run.Memory c is cause =
    subst (CutOutputCause before now) (sym is)
    (record { never_falls = cause.never_falls; never_short = cause.never_short; keeps_refusing = cause.keeps_refusing; failed = λ e. absurd (cc e); passed = λ w. absurd w })
