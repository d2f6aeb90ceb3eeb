-- What the feeder brings keeps the nodes linked, and looks for no container.
use Rattle.std.proofs.Common.{◌≡◌, ℕ, ◌+◌, ◌≤◌, List, [], length, Some, refl, sym, ap, subst, ◌∙◌, arith}
use Rattle.std.specs.Prelude.{Result, Ok, Err, IfOk, IfErr, OnOk, OnErr}
use Rattle.std.proofs.lemmas.Option.{same_Some}
use Rattle.sb_shown.specs.base.records.declared.item.Stream.{Stream}
use Rattle.sb_shown.specs.base.bundle.declared.bundle.Bundle.{Bundle}
use Rattle.sb_shown.specs.diary.declared.event.DiaryEvent.TheVariants as line
use Rattle.sb_shown.specs.base.pipeline.declared.transform.Down.{Down}
use Rattle.sb_shown.specs.base.pipeline.Shapes.{Shape, source}
use Rattle.sb_shown.specs.base.pipeline.Plans.{IsPlan}
use Rattle.sb_shown.proofs.base.pipeline.Feeding.{sources_apart}
use Rattle.sb_shown.specs.core.containers.declared.container.CoreLane.{CoreLane}
use Rattle.sb_shown.specs.core.containers.Lanes.{next_epoch, with_seal}
use Rattle.sb_shown.specs.lane.declared.answers.ArriveStop.{ArriveStop}
use Rattle.sb_shown.specs.lane.LaneView.{LaneView, lane_of}
use Rattle.sb_shown.specs.lane.Placed.{conts_of}
use Rattle.sb_shown.specs.node.declared.state.NodeState.{NodeState}
use Rattle.sb_hand.specs.Feeding.{ArrivesIn, ComesBack, TakesStream}
use Rattle.sb_shown.specs.node.LinkChanges.{GetsPlace, LinksStay}
use Rattle.sb_hand.specs.LaneGoing.{LaneGoes}
use Rattle.sb_shown.specs.Linking.{AreLinked}
use Rattle.sb_shown.specs.Searching.{SearchesStay}
use Rattle.sb_shown.specs.Sets.{HasLane, StaysAt, Turns}
use Rattle.sb_shown.specs.Showing.{CanStand}
use Rattle.sb_hand.proofs.KeptLinks.{arrive-keeps, seal-keeps}
use Rattle.sb_hand.proofs.LinkedEvents.{NoneAbove, stay}
use Rattle.sb_hand.proofs.LinkedSets.{has-now, has-was, of-lane, of-stays, stay-set}
use Rattle.sb_shown.proofs.Unsealed.{unsealed_of}

pub stay-none : (nodes : List NodeState) → SearchesStay nodes nodes
stay-none nodes k l is h = (is, h, refl)

pub record FedLinks (plan : Shape) (size : ℕ) (old new : List NodeState) : Type 0 where
  pub links : CanStand plan size old [] → AreLinked plan old → AreLinked plan new
  pub searches : SearchesStay old new

module _ (plan : Shape) (is_plan : IsPlan plan) (size : ℕ) (old new : List NodeState) (stream : Stream) (place : Down) (goes : Some place ≡ source plan stream) where
  nobody : NoneAbove plan place.node place.lane
  nobody j st at pardo to = sources_apart plan is_plan stream place j st (sym goes) at to

  at_place : (into : TakesStream plan stream old) → HasLane place.node place.lane into.lane old
  at_place into = subst (λ (d : Down). HasLane d.node d.lane into.lane old) (same_Some into.place place (sym into.goes ∙ sym goes)) into.has

  -- nothing is done
  come-back : (lane : LaneView) → StaysAt place.node place.lane old new lane → LaneGoes place.node place.lane LinksStay old new → FedLinks plan size old new
  come-back lane t g =
      let o = of-stays place.node place.lane old new lane t in
      let s = g lane t.now (has-was old new place.node place.lane lane t.now o) (has-now old new place.node place.lane lane t.now o) in
      record {
        links = λ can linked. (stay plan is_plan old new place.node place.lane lane t.now o linked s (ap (λ (x : CoreLane). x.marks) t.lane_is) (as-many (unsealed_of (conts_of lane.containers)) (unsealed_of (conts_of t.now.containers)) (ap (λ (x : CoreLane). unsealed_of x.conts) t.lane_is))).linked;
        searches = stay-set old new place.node place.lane lane t.now o s.searches;
      }
    where
      as-many : (a b : ℕ) → b ≡ a → a ≤ b
      as-many a b e = omega (arith, e)

  pub arrived-links : (b : Bundle) → TakesStream plan stream old → (r : Result ℕ ArriveStop)
      → IfOk r (λ n. (at : LaneView) → HasLane place.node place.lane at old → ArrivesIn place.node place.lane old new at b n)
      → IfErr r (λ e. (at : LaneView) → HasLane place.node place.lane at old → ComesBack place.node place.lane old new at b e)
      → OnOk r (LaneGoes place.node place.lane (GetsPlace b.epoch) old new) → OnErr r (LaneGoes place.node place.lane LinksStay old new)
      → FedLinks plan size old new
  arrived-links b into (Ok n) ok err links stays =
      let lane = into.lane in
      let t = (ok lane (at_place into)).turns in
      let o = of-lane place.node place.lane lane t.now (line.Arrive place.lane b.epoch (lane.arrived + 1) (length b.records)) old new t.sets in
      let f = links lane t.now (has-was old new place.node place.lane lane t.now o) (has-now old new place.node place.lane lane t.now o) in
      record {
        links = λ can linked. (arrive-keeps plan is_plan old new place.node place.lane lane linked b.epoch b.floor b.records (line.Arrive place.lane b.epoch (lane.arrived + 1) (length b.records)) t size [] can.rows can.moment can.stands links nobody).linked;
        searches = stay-set old new place.node place.lane lane t.now o f.searches;
      }
  arrived-links b into (Err e) ok err links stays = come-back into.lane (err into.lane (at_place into)).stays stays

  pub sealed-links : (T E : Type 0) (mark : ℕ) → TakesStream plan stream old → (r : Result T E)
      → OnOk r ((at : LaneView) → HasLane place.node place.lane at old → Turns place.node place.lane old new at (with_seal mark (lane_of at)) (line.Seal place.lane (next_epoch (lane_of at)) mark))
      → OnErr r ((at : LaneView) → HasLane place.node place.lane at old → StaysAt place.node place.lane old new at)
      → OnOk r (LaneGoes place.node place.lane (λ was. GetsPlace (length was.marks) was) old new) → OnErr r (LaneGoes place.node place.lane LinksStay old new)
      → FedLinks plan size old new
  sealed-links T E mark into (Ok x) ok err links stays =
      let lane = into.lane in
      let t = ok lane (at_place into) in
      let o = of-lane place.node place.lane lane t.now (line.Seal place.lane (next_epoch (lane_of lane)) mark) old new t.sets in
      let f = links lane t.now (has-was old new place.node place.lane lane t.now o) (has-now old new place.node place.lane lane t.now o) in
      record {
        links = λ can linked. (seal-keeps plan is_plan old new place.node place.lane lane linked size [] can.rows can.moment can.stands mark (line.Seal place.lane (next_epoch (lane_of lane)) mark) t links).linked;
        searches = stay-set old new place.node place.lane lane t.now o f.searches;
      }
  sealed-links T E mark into (Err x) ok err links stays = come-back into.lane (err into.lane (at_place into)) stays
