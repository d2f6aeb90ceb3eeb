-- How a run over the records that are made ends.
use Rattle.std.proofs.Common.{◌≡◌, ℕ, Bool, true, false, List, [], Option, Some, None, refl, ap, subst, arith, map}
use Rattle.sb_answers.specs.base.records.declared.intake.Refusal.{Refusal}
use Rattle.sb_answers.specs.base.records.declared.intake.Stop.TheVariants as stop
use Rattle.sb_answers.specs.base.records.declared.item.Dropped.{Dropped}
use Rattle.sb_answers.specs.base.records.Inputs.{stop_of}
use Rattle.sb_answers.specs.outside.Sources.{Rose}
use Rattle.sb_answers.specs.base.pipeline.Shapes.{Shape, sum_shape}
use Rattle.sb_answers.specs.emit.Summaries.{Adds, AddsPrefix, Sums, no_faults}
use Rattle.sb_answers.specs.emit.Taps.{TapState}
use Rattle.sb_answers.specs.one_feed.Given.{Given, accepted_of, items_of, stop_at}
use Rattle.sb_answers.specs.generator.Generated.{generated_items, generated_text}
use Rattle.sb_answers.specs.generator.Laws.{AreAccepted}
use Rattle.sb_answers.proofs.generator.Acceptance.{text_accepted}
use Rattle.sb_answers.specs.alone.declared.run_end.RunEnd.{RunEnd}
use Rattle.sb_answers.specs.alone.declared.run_end.RunEnd.TheVariants.{Done, Refused, Input, Output, Tap, Memory}
use Rattle.sb_answers.specs.alone.declared.sizes.Sizes.{Sizes}
use Rattle.sb_answers.specs.alone.RunEnds.{Ends, OutputCause, SharedInputCause}
use Rattle.sb_answers.specs.words.Words.{IsAmount}
use Rattle.sb_answers.specs.declared.limits.TheConstants.{WORK_WINDOW}
use Rattle.sb_answers.specs.Pipelines.{all_rows}
use Rattle.sb_answer_runs.specs.WorkSteps.{SumsWork}
use Rattle.sb_answers.proofs.Blaming.{none_stops}

abbrev plan : Shape
plan = sum_shape WORK_WINDOW

-- reading stops as at the end only where the input has ended
ended_at_end : (ended : Bool) (refused : Option Refusal) → stop_of ended refused ≡ stop.End → ended ≡ true
ended_at_end true refused e = refl
ended_at_end false None e = cc
ended_at_end false (Some refusal) e = cc

module _ (records : ℕ) (is : IsAmount records) (left' : Option (List ℕ)) (given : Given (Some (generated_text records)) left') where
  made : AreAccepted records given.ended given.bytes
  made = text_accepted records left' given.bytes given.ended is.1 given.were_left given.at_end

  -- at the end the items are those that are made
  items_made : stop_at plan given ≡ stop.End → items_of plan given ≡ generated_items records
  items_made at = made.items (ended_at_end given.ended (accepted_of plan given).refused at)

-- a source and an output that count no fault have none
none_rose : Rose 0 0 → ⊥
none_rose rose = omega (arith, rose)

-- no element gives none
pub none_mapped : {X Y : Type 0} (f : X → Y) (l : List X) → l ≡ [] → map f l ≡ []
none_mapped f l none = ap (map f) none

module _ (records : ℕ) (is : IsAmount records) (sizes : Sizes) (left' : Option (List ℕ)) (old new : Sums) (taps' : List TapState) (dropped dropped' : List Dropped) where
  abbrev EndsSo : Shape → Option (List ℕ) → List TapState → RunEnd → Type 0
  EndsSo p left taps end = Ends p sizes left left' Adds AddsPrefix old new taps taps' dropped dropped' end

  by_end : (end : RunEnd) → EndsSo plan (Some (generated_text records)) [] end → SharedInputCause 0 0 end → OutputCause no_faults no_faults end → SumsWork records old new end
  by_end (Done hand) e input output = subst (λ items. Adds old (all_rows plan items) new) (items_made records is left' e.0.given e.0.stopped) e.0.wrote
  by_end (Refused refusal) e input output = (made records is left' e.given).no_refusal refusal e.stopped
  by_end Input e input output = none_rose input
  by_end Output e input output = none_rose (output.failed refl)
  by_end (Tap place) e input output = none_stops e.rows place taps' e.offered
  by_end Memory e input output = tt

  pub ends_work : (p : Shape) (left : Option (List ℕ)) (taps : List TapState) (end : RunEnd) → p ≡ plan → left ≡ Some (generated_text records) → taps ≡ [] → EndsSo p left taps end
      → SharedInputCause 0 0 end → OutputCause no_faults no_faults end → SumsWork records old new end
  ends_work p left taps end is_plan is_text none e input output =
      by_end end
      (subst (λ t. EndsSo plan (Some (generated_text records)) t end) none
      (subst (λ l. EndsSo plan l taps end) is_text
      (subst (λ q. EndsSo q left taps end) is_plan e)))
      input output
