-- What saving a first part does, by what was gathered of it.
use Rattle.std.proofs.Common.{◌≡◌, ℕ, ◌+◌, Bool, false, not, ◌&&◌, List, ◌++◌, Option, sym, ap, subst, ◌∙◌}
use Rattle.sb_engines.specs.feeds.base.records.declared.intake.Stop.{Stop}
use Rattle.sb_engines.specs.feeds.base.records.declared.intake.Stop.TheVariants.{End}
use Rattle.sb_engines.specs.feeds.base.records.declared.item.Dropped.{Dropped}
use Rattle.sb_engines.specs.feeds.base.records.declared.item.Item.{Item}
use Rattle.sb_engines.specs.feeds.base.records.Inputs.{Accepted, stop_of}
use Rattle.sb_engines.specs.feeds.base.records.Streams.{dropped_of}
use Rattle.sb_engines.specs.feeds.base.pipeline.Shapes.{Shape}
use Rattle.sb_engines.specs.feeds.one_feed.Due.{AreFirstDropped}
use Rattle.sb_engines.specs.feeds.one_feed.Given.{accepted_of, items_of}
use Rattle.sb_engines.specs.feeds.one_feed.Reads.{FaultCause}
use Rattle.sb_checkpoint.specs.declared.checkpoint.Checkpoint.{Checkpoint}
use Rattle.sb_checkpoint.specs.Cut.{faults_of}
use Rattle.sb_checkpoint.specs.Keeping.{IsCheckpointOf, Kept, kept_after}
use Rattle.sb_run.specs.FirstParts.{IsPartAt, open_end}
use Rattle.sb_run.specs.Saves.{Gathers, GathersNone, Saves, SavesNone, cut_stop}
use Rattle.sb_run.proofs.CutCauses.{cut_cause, cut_stopped, same_count, whole_at_end}
use Rattle.sb_run.proofs.OpenEnds.{as_part}

module _ (plan : Shape) (left left' : Option (List ℕ)) (before now again : ℕ) (ended failed : Bool) (at : IsPartAt left' before now ended failed again) (dropped dropped' : List Dropped) where
  -- the checkpoint is that of the accepted items of the part
  pub saved : (kept : Kept) (stop : Stop) (checkpoint : Checkpoint) → Gathers plan (open_end left) (open_end left') kept stop dropped dropped' → (stop ≡ End → ⊥)
      → ((plan : Shape) (items : List Item) → kept ≡ kept_after plan items → IsCheckpointOf plan items checkpoint)
      → Saves plan left left' checkpoint (cut_stop (ended && not failed) stop) dropped dropped'
  saved kept stop checkpoint g going of =
      let is = as_part plan left left' g.given (ended && not failed) (whole_at_end left' before now ended failed at.cut) in
      let stopped = cut_stopped g.given.ended (ended && not failed) (accepted_of plan g.given).refused stop g.stopped going in
      record {
        given = is.part;
        stopped = stopped ∙ (λ i. stop_of (sym is.ends i) ((sym is.same i).refused));
        saved = subst (λ (a : Accepted). IsCheckpointOf plan a.items checkpoint) (sym is.same) (of plan (items_of plan g.given) g.kept_is);
        listed = g.listed ∙ ap (λ (a : Accepted). dropped ++ dropped_of a.items) (sym is.same);
      }

  pub saved_none : GathersNone plan (open_end left) (open_end left') dropped dropped' → SavesNone plan left left' dropped dropped'
  saved_none g =
      let is = as_part plan left left' g.given false (λ e. absurd (cc e)) in
      record { given = is.part; late = g.late; first_late = subst (λ (a : Accepted). AreFirstDropped a.items g.late) (sym is.same) g.first_late; listed = g.listed }

  pub saved_cause : (stop : Stop) → (stop ≡ End → ⊥) → FaultCause (before + 0) (faults_of ended now + again) stop → FaultCause before now (cut_stop (ended && not failed) stop)
  saved_cause stop going cause = cut_cause left' before now again ended failed stop at.cut at.none_again going cause

  pub saved_unfailed : faults_of ended now + again ≡ before + 0 → now ≡ before
  saved_unfailed same = same_count before now again ended at.cut.never_falls same
