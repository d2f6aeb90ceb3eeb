-- What calls need of the node that a pass finds.
use Rattle.std.proofs.Common.{◌≡◌, ℕ, ◌≤◌, true, false, List, [], ◌∷◌, length, map, Some, sym, ap, subst, ◌∙◌, arith}
use Rattle.std.specs.Prelude.{Ok}
use Rattle.std.specs.List.{slice_get}
use Rattle.std.proofs.lemmas.List.{length-map}
use Rattle.std.proofs.lemmas.Option.{slice_get_within}
use Rattle.sb_shown.specs.base.records.declared.item.Stream.{Stream}
use Rattle.sb_shown.specs.base.records.Elements.{on_lane}
use Rattle.sb_shown.specs.base.window.Groupings.{IsFrom}
use Rattle.sb_shown.specs.base.pipeline.declared.transform.Down.{Down}
use Rattle.sb_shown.specs.base.pipeline.Shapes.{source}
use Rattle.sb_shown.specs.core.declared.moment.Node.{Node}
use Rattle.sb_shown.specs.diary.Lines.{Sized, arrivals, seals}
use Rattle.sb_shown.specs.lane.declared.answers.LaneClose.{LaneClose}
use Rattle.sb_shown.specs.lane.LaneView.{LaneView, lane_of}
use Rattle.sb_shown.specs.lane.Looks.{look_of}
use Rattle.sb_shown.specs.lane.Placed.{conts_of}
use Rattle.sb_shown.specs.node.Keeping.{IsPartFor, closed_mark}
use Rattle.sb_shown.specs.node.Changes.{HasLane}
use Rattle.sb_shown.specs.node.Looking.{NoneClosing}
use Rattle.sb_shown.specs.node.Marking.{mark_for}
use Rattle.sb_shown.specs.tally.Tally as tally
use Rattle.sb_shown.specs.tally.Written.{diary_at}
use Rattle.sb_shown.proofs.tally.Telling.{diaries-tell}
use Rattle.sb_shown.specs.work.declared.claim.Claim.{Claim}
use Rattle.sb_shown.specs.work.declared.outputs.Part.{Part}
use Rattle.sb_shown.specs.work.Processing.{IsPart}
use Rattle.sb_shared.specs.declared.telling.Hands.{Hands}
use Rattle.sb_shared.specs.declared.telling.Setting.{Setting}
use Rattle.sb_shared.specs.Doings.{work_of}
use Rattle.sb_shared.specs.Found.{IsFound}
use Rattle.sb_shared.specs.SharedNodes.{SharedView}
use Rattle.sb_shared.specs.Shown.{operator_of}
use Rattle.sb_shared.specs.Views.{fed_bundle, stream_feed, held_by}
use Rattle.sb_shared.proofs.entered.Begun as begin
use Rattle.sb_shared.proofs.lives.Claims.{times_here}
use Rattle.sb_shared.proofs.entered.FoundLanes.{lane_in_part, lanes_are, near, part_there}
use Rattle.sb_shared.proofs.entered.HeldHere.{out_here, records_from}

module _ (a : Setting) (w : Hands) (k : ℕ) (x : SharedView) (f : IsFound a w k x) where
  -- the mark of a closing that can begin is not below the one before
  pub rises_here : (l : ℕ) (at : LaneView) (close : LaneClose) → HasLane l at x.own → look_of (conts_of at.containers) ≡ Ok close → NoneClosing x.own.lanes.items → x.spent ≡ false
      → closed_mark x.own.kept ≤ mark_for l (map lane_of x.own.lanes.items)
  rises_here l at close has looks none sane = begin.rises a w k x f l at has close looks none sane

  -- the part of a bundle in hand is for what the node keeps
  pub part_here : x.spent ≡ false → (c : Claim) → held_by w ≡ work_of c false ∷ [] → c.node ≡ k → (part : Part) → IsPart (operator_of a k) c.lane c.bundle.records part → IsPartFor x.own.kept part c.lane c.bundle.records
  part_here sane c out here part is_part =
      let kept = f.shown.kept sane in
      let at = out_here a w k x f c false out here in
      record {
        operator = operator_of a k;
        made = kept.made;
        is_lane = omega (arith, slice_get_within x.own.lanes.items c.lane at.0 at.1, lanes_are a w k x f);
        is_part = is_part;
        in_time = times_here a w k x f c out;
        from = subst (λ m. IsFrom m (on_lane c.lane c.bundle.records)) (sym kept.closed_is) (records_from a w k x f c false out here);
      }

  -- to the feeder the lane of a stream has the marks that it has fed
  pub marks_fed : w.feed.on ≡ true → (s : Stream) (d : Down) → source a.plan s ≡ Some d → d.node ≡ k → (at : LaneView) → HasLane d.lane at x.own → at.marks ≡ (stream_feed s w.feed).marks
  marks_fed on s d from here at has =
      let told = (diaries-tell a.plan f.moment f.diaries f.feed f.sound f.tallied k (near a w k x f)).1 d.lane (lane_of at)
      (ap (λ (n : Node). slice_get n.lanes d.lane) (part_there a w k x f) ∙ lane_in_part a w k x f d.lane at has) in
      told.marks ∙ ap (λ j. seals d.lane (diary_at f.diaries j)) (sym here)
      ∙ sym (f.tallied.sources s d from).marks_are ∙ ap (λ (g : tally.Feed). g.marks s) (f.feed_is on)

  -- and as many bundles came into it as the feeder has fed
  pub bundles_fed : w.feed.on ≡ true → (s : Stream) (d : Down) → source a.plan s ≡ Some d → d.node ≡ k → (at : LaneView) → HasLane d.lane at x.own → at.arrived ≡ length (stream_feed s w.feed).bundles
  bundles_fed on s d from here at has =
      let told = (diaries-tell a.plan f.moment f.diaries f.feed f.sound f.tallied k (near a w k x f)).1 d.lane (lane_of at)
      (ap (λ (n : Node). slice_get n.lanes d.lane) (part_there a w k x f) ∙ lane_in_part a w k x f d.lane at has) in
      told.arrived ∙ ap (λ j. length (arrivals d.lane (diary_at f.diaries j))) (sym here)
      ∙ ap (λ (came : List Sized). length came) (sym (f.tallied.sources s d from).bundles_are) ∙ length-map (f.feed.bundles s) tally.size_of
      ∙ ap (λ (g : tally.Feed). length (g.bundles s)) (f.feed_is on) ∙ length-map (stream_feed s w.feed).bundles fed_bundle
