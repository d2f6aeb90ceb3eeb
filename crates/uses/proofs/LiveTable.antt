-- A live table beside a run: what its readers saw, and what it tells at the end.
use Rattle.std.proofs.Common.{◌≡◌, ◌≤◌, ◌<◌, ◌+◌, ℕ, Bool, true, false, List, [], ◌++◌, Option, Some, None, refl, ap, subst, ◌∙◌, arith}
use Rattle.std.specs.Prelude.{MatchOption}
use Rattle.sb_cli.specs.base.records.declared.intake.Refusal.{Refusal}
use Rattle.sb_cli.specs.base.records.declared.intake.Stop.TheVariants as stop
use Rattle.sb_cli.specs.base.records.declared.item.Dropped.{Dropped}
use Rattle.sb_cli.specs.base.records.declared.item.Record.{Record}
use Rattle.sb_cli.specs.base.records.declared.item.TheConstants.{END_MARK}
use Rattle.sb_cli.specs.base.records.declared.key.Key.{Key}
use Rattle.sb_cli.specs.base.records.Inputs.{stop_of}
use Rattle.sb_cli.specs.base.pipeline.Shapes.{Shape, sum_shape}
use Rattle.sb_cli.specs.emit.Taps.{TapState}
use Rattle.sb_cli.specs.one_feed.Due.{rows_below}
use Rattle.sb_cli.specs.one_feed.Given.{accepted_of}
use Rattle.sb_cli.specs.generator.declared.pattern.TheConstants.{MAX_RECORDS}
use Rattle.sb_cli.specs.generator.Generated.{generated_text}
use Rattle.sb_cli.specs.generator.Laws.{AreAccepted}
use Rattle.sb_cli.proofs.generator.Acceptance.{text_accepted}
use Rattle.sb_cli.specs.live.declared.change.Change.{Change}
use Rattle.sb_cli.specs.live.Changes.{rows_in}
use Rattle.sb_cli.specs.live.Lasts.{last_of, last_row}
use Rattle.sb_cli.specs.live.Rising.{IsNoEarlier}
use Rattle.sb_cli.specs.live.Showings.{Showing, ShowsAll, ShownRows}
use Rattle.sb_cli.proofs.live_table.Earlier.{rows_fold}
use Rattle.sb_cli.specs.run.alone.RunEnds.{EndsAt}
use Rattle.uses.specs.LiveTable.{TellsLast, made_sums}

-- ---- what a reader saw
pub no_earlier_than_itself : (found now : Option Record) → found ≡ now → IsNoEarlier found now
no_earlier_than_itself found now same = subst (λ n. IsNoEarlier found n) same (itself found)
  where
    itself : (found : Option Record) → IsNoEarlier found found
    itself None = tt
    itself (Some r) = omega arith

pub no_earlier_later : (before old found : Option Record) → IsNoEarlier before old → IsNoEarlier old found → IsNoEarlier before found
no_earlier_later None old found p q = tt
no_earlier_later (Some r) None found p q = absurd p
no_earlier_later (Some r) (Some s) None p q = absurd q
no_earlier_later (Some r) (Some s) (Some t) p q = omega (arith, p, q)

-- ---- two readers are made
pub one_left : {X : Type 0} (taken : Option X) (old new : ℕ) → MatchOption taken ((old ≡ 0) × (new ≡ 0)) (λ _. new + 1 ≡ old) → old ≡ 2 → 0 < new
one_left None old new h two = absurd (omega (arith, h.0, two))
one_left (Some x) old new h two = omega (arith, h, two)

-- ---- what is told
rows_shown : (o p : ShownRows) (rows : List Record) → o.out.changes ≡ [] → ShowsAll o rows p → rows_in p.out.changes ≡ rows
rows_shown o p rows fresh s = ap rows_in (s.shows.grown ∙ ap (λ (c : List Change). c ++ s.shows.more) fresh) ∙ s.shows.shown

pub tells_last : (plan : Shape) (k : Key) (left left' : Option (List ℕ)) (o p : ShownRows) (taps taps' : List TapState) (dropped dropped' : List Dropped) (out : Showing) (last : Option Record)
    → o.out.changes ≡ [] → EndsAt stop.End plan left left' ShowsAll o p taps taps' dropped dropped' → out ≡ p.out → last ≡ last_of k out.changes
    → TellsLast plan k left last
tells_last plan k left left' o p taps taps' dropped dropped' out last fresh e out_is told = record {
  left' = left';
  given = e.given;
  stopped = e.stopped;
  last_is =
      told ∙ rows_fold k None out.changes
      ∙ ap (last_row k) (ap (λ (s : Showing). rows_in s.changes) out_is ∙ rows_shown o p _ fresh e.wrote);
}

-- reading stops as at the end only where the input has ended
ended_at_end : (ended : Bool) (refused : Option Refusal) → stop_of ended refused ≡ stop.End → ended ≡ true
ended_at_end true refused e = refl
ended_at_end false None e = cc
ended_at_end false (Some refusal) e = cc

-- at the end of the text that is made, the items are those that it is made of
tells_made : (size records : ℕ) (k : Key) (last : Option Record) → records ≤ MAX_RECORDS → TellsLast (sum_shape size) k (Some (generated_text records)) last → last ≡ last_row k (made_sums size records)
tells_made size records k last few t =
    let made : AreAccepted records t.given.ended t.given.bytes = text_accepted records t.left' t.given.bytes t.given.ended few t.given.were_left t.given.at_end in
    t.last_is
    ∙ ap (λ items. last_row k (rows_below END_MARK (sum_shape size) items)) (made.items (ended_at_end t.given.ended (accepted_of (sum_shape size) t.given).refused t.stopped))

pub made_told : (size records : ℕ) (k : Key) (plan : Shape) (left : Option (List ℕ)) (last : Option Record) → records ≤ MAX_RECORDS → plan ≡ sum_shape size → left ≡ Some (generated_text records)
    → TellsLast plan k left last → last ≡ last_row k (made_sums size records)
made_told size records k plan left last few is_plan is_text t =
    tells_made size records k last few (subst (λ l. TellsLast (sum_shape size) k l last) is_text (subst (λ p. TellsLast p k left last) is_plan t))
