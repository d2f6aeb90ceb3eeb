-- A bundle is done with, and the container of its epoch may be linked to a place below.
use Rattle.std.proofs.Common.{◌≡◌, ℕ, cond, ap, sym, ◌∙◌}
use Rattle.std.specs.Prelude.{Option, Some, None, slice_set, is_some}
use Rattle.std.proofs.lemmas.List.{set-set}
use Rattle.sb_shown.specs.core.containers.declared.container.CoreLane.{CoreLane}
use Rattle.sb_shown.specs.diary.declared.event.DiaryEvent.{DiaryEvent}
use Rattle.sb_shown.specs.lane.LaneView.{LaneView}
use Rattle.sb_shown.specs.lane.Links.{down_of, with_link, links_of}
use Rattle.sb_shown.specs.node.Changes.{GetsDown, Turns}
use Rattle.sb_shown.specs.node.LinkChanges.{LinksStay}
use Rattle.sb_shown.specs.node.declared.state.NodeState.{NodeState}
use Rattle.sb_shared.specs.SharedNodes.{FinishesLinked, with_link_once}

-- a turn of which more is known of the links
pub turns-as : (l : ℕ) (at : LaneView) (later : CoreLane) (links others : LaneView → LaneView → Type 0) (line : DiaryEvent) (old new : NodeState) (t : Turns l at later links line old new) → others at t.now → Turns l at later others line old new
turns-as l at later links others line old new t linked = record { now = t.now; sets = t.sets; rest = t.rest; is = t.is; linked = linked }

module _ (l epoch : ℕ) (at : LaneView) (later : CoreLane) (line : DiaryEvent) (old new : NodeState) (t : Turns l at later LinksStay line old new) where
  -- it was linked before, or the place is not known
  pub turns-unlinked : (link : Option ℕ) → with_link_once link epoch (links_of at.containers) ≡ links_of at.containers → Turns l at later (FinishesLinked epoch link) line old new
  turns-unlinked link same = turns-as l at later LinksStay (FinishesLinked epoch link) line old new t (t.linked.links ∙ sym same)

  -- it is linked now
  pub turns-linked : (place : ℕ) (last : NodeState) → l ≡ 0 → down_of epoch (links_of at.containers) ≡ None → GetsDown epoch place t.now new last → Turns l at later (FinishesLinked epoch (Some place)) line old last
  turns-linked place last zero none g = record {
    now = g.now;
    sets = record {
      in_it = t.sets.in_it;
      lanes = g.lanes ∙ (λ i. slice_set (t.sets.lanes i) (sym zero i) g.now) ∙ set-set old.lanes.items l t.now g.now;
      limit = g.limit ∙ t.sets.limit;
      diary = g.diary ∙ t.sets.diary;
    };
    rest = record { kept = g.rest.kept ∙ t.rest.kept; closings = g.rest.closings ∙ t.rest.closings };
    is = g.is ∙ t.is;
    linked =
        g.linked.links ∙ ap (with_link epoch place) t.linked.links
        ∙ sym (ap (λ o. cond (is_some o) (links_of at.containers) (with_link epoch place (links_of at.containers))) none);
  }
