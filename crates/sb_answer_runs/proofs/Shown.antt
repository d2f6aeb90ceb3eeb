-- A run whose rows are shown in a table that had none, past no tap.
use Rattle.std.proofs.Common.{◌≡◌, ◌⊎◌, ℕ, false, List, [], ◌∷◌, ◌++◌, Option, Some, None, Result, Ok, Err, ⊎_elim, refl, sym, ap, subst, ◌∙◌, append-nil, arith}
use Rattle.std.specs.Result.{IsErr}
use Rattle.std.specs.List.{AllZip, filter}
use Rattle.std.proofs.KnownBytes.{Consumes-nil}
use Rattle.sb_answers.specs.base.records.declared.intake.Stop.{Stop}
use Rattle.sb_answers.specs.base.records.declared.item.Dropped.{Dropped}
use Rattle.sb_answers.specs.base.records.declared.item.Record.{Record}
use Rattle.sb_answers.specs.base.records.declared.item.TheConstants.{END_MARK}
use Rattle.sb_answers.specs.base.records.declared.key.Key.{Key}
use Rattle.sb_answers.specs.base.records.declared.key.Keys.{Keys}
use Rattle.sb_answers.specs.base.records.Records.{before}
use Rattle.sb_answers.specs.base.records.Streams.{dropped_of}
use Rattle.sb_answers.specs.outside.Sources.{Rose}
use Rattle.sb_answers.specs.base.pipeline.Shapes.{Shape}
use Rattle.sb_answers.specs.base.pipeline.Results.{output_of}
use Rattle.sb_answers.specs.emit.Taps.{TapState}
use Rattle.sb_answers.specs.one_feed.Due.{streams_in}
use Rattle.sb_answers.specs.one_feed.Given.{Given, items_of}
use Rattle.sb_answers.specs.one_feed.TapLists.{SawRows, StopsIn, stays_for}
use Rattle.sb_answers.specs.live.declared.change.Change.{Change}
use Rattle.sb_answers.specs.live.Changes.{rows_in}
use Rattle.sb_answers.specs.live.Lasts.{last_if_any, last_of}
use Rattle.sb_answers.specs.live.Naming.{key_named}
use Rattle.sb_answers.specs.live.Rising.{RiseFrom, next_in}
use Rattle.sb_answers.specs.live.Showings.{Showing, ShowsAll, ShowsSome, ShownRows, counts_of}
use Rattle.sb_answers.proofs.live_table.Earlier.{never_refused, rows_fold}
use Rattle.sb_answers.proofs.live_table.Rises.{first_sorted_rise}
use Rattle.sb_answers.specs.alone.RunEnds.{Ends, EndsAt, EndsEarly, OutputCause}
use Rattle.sb_answers.specs.alone.declared.run_end.RunEnd.{RunEnd}
use Rattle.sb_answers.specs.alone.declared.run_end.RunEnd.TheVariants as run
use Rattle.sb_answers.specs.alone.declared.sizes.Sizes.{Sizes}
use Rattle.sb_answer_runs.specs.declared.watched.Watched.{Watched}
use Rattle.sb_answer_runs.specs.Watches.{Tells, Watches}

-- the last row of a key among changes is the last one among their rows
pub last_shown : (key : Option Key) (k : Key) (changes : List Change) → key ≡ Some k → last_of k changes ≡ last_if_any key (rows_in changes)
last_shown key k changes is = rows_fold k None changes ∙ ap (λ x. last_if_any x (rows_in changes)) (sym is)

-- ---- what is told
rows_shown : (o p : ShownRows) (rows : List Record) → o.out.changes ≡ [] → ShowsAll o rows p → rows_in p.out.changes ≡ rows
rows_shown o p rows fresh s = ap rows_in (s.shows.grown ∙ ap (λ (c : List Change). c ++ s.shows.more) fresh) ∙ s.shows.shown

-- where reading stopped: the last row that was shown is the last one that is due
pub tells : (plan : Shape) (text : List ℕ) (left left' : Option (List ℕ)) (o p : ShownRows) (taps taps' : List TapState) (dropped dropped' : List Dropped) (at : Stop)
    (keys : Keys) (named : Option Key) (out : Showing) (last : Option Record)
    → o.out.changes ≡ [] → EndsAt at plan left left' ShowsAll o p taps taps' dropped dropped'
    → keys ≡ plan.keys → named ≡ key_named keys text → out ≡ p.out → last ≡ last_if_any named (rows_in out.changes)
    → Tells plan text left left' dropped dropped' (record { stop = at; last = last })
tells plan text left left' o p taps taps' dropped dropped' at keys named out last fresh e keys_are named_is out_is last_is = record {
  given = e.given;
  stopped = e.stopped;
  last =
      last_is ∙ ap (λ k. last_if_any k (rows_in out.changes)) (named_is ∙ ap (λ q. key_named q text) keys_are)
      ∙ ap (last_if_any (key_named plan.keys text)) (ap (λ (s : Showing). rows_in s.changes) out_is ∙ rows_shown o p _ fresh e.wrote);
  listed = e.listed;
}

-- of a run that never began
pub told_nothing : {E : Type 0} (plan : Shape) (text : List ℕ) (left : Option (List ℕ)) (dropped : List Dropped) (told : Result Watched E) → IsErr told
    → Watches plan text left left dropped dropped told
told_nothing plan text left dropped (Ok w) is = absurd (cc is)
told_nothing plan text left dropped (Err e) is = record {
  given = none_given;
  late = [];
  first_late = record { rest = dropped_of (items_of plan none_given); are = refl };
  listed = sym (append-nil dropped);
}
  where
    none_given : Given left left
    none_given = record { bytes = []; were_left = Consumes-nil left; ended = false; at_end = λ e. cc e }

-- ---- the ends that cannot come
module _ (plan : Shape) (left left' : Option (List ℕ)) (o p : ShownRows) (taps taps' : List TapState) (dropped dropped' : List Dropped) where
  -- the rows of a run rise, so none was refused
  output_works : (Offered : List Record → Type 0) → o.out.changes ≡ [] → o.faults ≡ 0 → EndsEarly plan left left' ShowsSome o p Offered dropped dropped'
      → OutputCause (counts_of o) (counts_of p) run.Output → ⊥
  output_works Offered fresh faultless e cause =
      let rise = first_sorted_rise (before END_MARK (output_of plan (streams_in (items_of plan e.given)))) e.rows e.first.rest e.first.are in
      risen o.faults p.faults (never_refused o p e.rows e.wrote (subst (λ c. RiseFrom (next_in c) e.rows) (sym fresh) rise)) faultless (cause.failed refl)
    where
      risen : (m n : ℕ) → n ≡ m → m ≡ 0 → Rose m n → ⊥
      risen m n same none rose = omega (arith, same, none, rose)

  -- where no tap was handed in, none has failed
  no_tap_stops : (rows : List Record) (place : ℕ) → taps ≡ [] → StopsIn rows place taps taps' → ⊥
  no_tap_stops rows place none s = no_zip s.stops.earlier (subst (λ l. AllZip (SawRows s.earlier) [] l) s.stops.was (saw_none taps none s.between s.left))
    where
      saw_none : (old : List TapState) → old ≡ [] → (new : List TapState) → AllZip (SawRows s.earlier) (filter (stays_for s.earlier) old) new → AllZip (SawRows s.earlier) [] new
      saw_none old is new saw = subst (λ l. AllZip (SawRows s.earlier) (filter (stays_for s.earlier) l) new) is saw

      no_zip : (earlier : List TapState) → AllZip (SawRows s.earlier) [] (earlier ++ s.stops.tap ∷ s.stops.later) → ⊥
      no_zip [] h = h
      no_zip (t ∷ earlier) h = h

  pub neither_fails : (sizes : Sizes) (end : RunEnd) → o.out.changes ≡ [] → o.faults ≡ 0 → taps ≡ []
      → Ends plan sizes left left' ShowsAll ShowsSome o p taps taps' dropped dropped' end → OutputCause (counts_of o) (counts_of p) end
      → (end ≡ run.Output) ⊎ ((place : ℕ) × (end ≡ run.Tap place)) → ⊥
  neither_fails sizes run.Output fresh faultless none e cause is = output_works _ fresh faultless e cause
  neither_fails sizes (run.Tap place) fresh faultless none e cause is = no_tap_stops e.rows place none e.offered
  neither_fails sizes (run.Done hand) fresh faultless none e cause is = ⊎_elim (λ h. absurd (cc h)) (λ h. absurd (cc h.1)) is
  neither_fails sizes (run.Refused refusal) fresh faultless none e cause is = ⊎_elim (λ h. absurd (cc h)) (λ h. absurd (cc h.1)) is
  neither_fails sizes run.Input fresh faultless none e cause is = ⊎_elim (λ h. absurd (cc h)) (λ h. absurd (cc h.1)) is
  neither_fails sizes run.Memory fresh faultless none e cause is = ⊎_elim (λ h. absurd (cc h)) (λ h. absurd (cc h.1)) is
