-- What the feeder brings may come to a hand at rest, and it has room.
use Rattle.std.proofs.Common.{◌≡◌, ◌≤◌, ℕ, zero, suc, Bool, true, List, [], ◌∷◌, ◌++◌, length, map, replicate, Option, Some, None, refl, sym, ap, subst, ◌∙◌, arith}
use Rattle.std.specs.Prelude.{is_some}
use Rattle.std.specs.List.{AllByRecursion, slice_get}
use Rattle.std.proofs.lemmas.List.Elements.{All-from_recursion}
use Rattle.sb_feeds.specs.base.records.declared.item.Record.{Record}
use Rattle.sb_feeds.specs.base.records.declared.item.Stream.{Stream}
use Rattle.sb_feeds.specs.base.records.declared.item.Stream.TheVariants.{A, B}
use Rattle.sb_feeds.specs.base.records.declared.item.TheConstants.{MAX_TIME}
use Rattle.sb_feeds.specs.base.records.Streams.{last_or, uses}
use Rattle.sb_feeds.specs.base.bundle.declared.bundle.Bundle.{Bundle}
use Rattle.sb_feeds.specs.base.pipeline.declared.transform.Down.{Down}
use Rattle.sb_feeds.specs.base.pipeline.declared.transform.Step.{Step}
use Rattle.sb_feeds.specs.base.pipeline.Operators.{lanes_of, operator_of}
use Rattle.sb_feeds.specs.base.pipeline.Operators.Operator.{Sink}
use Rattle.sb_feeds.specs.base.pipeline.Shapes.{Shape, source, streams_of}
use Rattle.sb_hand.specs.core.containers.Lanes.{next_floor}
use Rattle.sb_hand.specs.lane.LaneView.{LaneView, lane_of}
use Rattle.sb_hand.specs.lane.Placed.{conts_of}
use Rattle.sb_hand.specs.lane.Unfinished.{unfinished_of}
use Rattle.sb_hand.specs.node.declared.state.NodeState.{NodeState}
use Rattle.sb_hand.specs.Feeding.{MayArrive, MaySeal, TakesStream}
use Rattle.sb_hand.specs.Hands.{HandView}
use Rattle.sb_hand.specs.Sets.{HasLane}
use Rattle.sb_hand.specs.Showing.{Settings, diaries_of, settings_at, settings_for, settings_of}
use Rattle.sb_hand.proofs.Resting.{idle-is-finished}
use Rattle.sb_hand.proofs.ShownLanes.{one-of-all, shows-sources, takes-sources}
use Rattle.sb_hand.proofs.Single.{get-map}
use Rattle.sb_feeds.specs.one_feed.Feeds as feeder
use Rattle.sb_feeds.specs.one_feed.Feeds.{Fed, IsFrom, floor_in, marks_in}
use Rattle.sb_alone.specs.Rested.{IsRested, IsWhole}
use Rattle.sb_alone.proofs.SoFar.{floor_is, marks_of_lane}

-- a stream that the plan uses goes somewhere
pub goes : (plan : Shape) (s : Stream) → uses (streams_of plan) s ≡ true → (d : Down) × (source plan s ≡ Some d)
goes plan A used = there plan.source_a used
  where
    there : (o : Option Down) → is_some o ≡ true → (d : Down) × (o ≡ Some d)
    there (Some d) e = (d, refl)
    there None e = cc
goes plan B used = there plan.source_b used
  where
    there : (o : Option Down) → is_some o ≡ true → (d : Down) × (o ≡ Some d)
    there (Some d) e = (d, refl)
    there None e = cc

module _ (h : HandView) (f : Fed) (rows : List Record) (w : IsWhole h f rows) where
  pub taken : (s : Stream) → uses (streams_of h.plan) s ≡ true → TakesStream h.plan s h.nodes
  taken s used = let d = goes h.plan s used in (takes-sources h.plan h.bundle h.nodes [] (rows ++ h.tray) w.moment w.shows s d.0 d.1).0

  -- its lane was sealed with the marks that were fed
  marks_are : (s : Stream) (into : TakesStream h.plan s h.nodes) → into.lane.marks ≡ marks_in f s
  marks_are s into = marks_of_lane h.plan w.moment (diaries_of h.nodes) f w.shows.sound w.tallied s into.place (lane_of into.lane) into.goes (shows-sources h.plan h.bundle h.nodes [] (rows ++ h.tray) w.moment w.shows s into)

  floors_are : (s : Stream) (into : TakesStream h.plan s h.nodes) → next_floor (lane_of into.lane) ≡ floor_in f s
  floors_are s into = sym (floor_is into.lane.marks) ∙ ap (last_or 0) (marks_are s into)

  pub may-arrive : (s : Stream) (b : Bundle) → feeder.MayArrive h.plan h.bundle f s b → MayArrive h.plan h.bundle s b h.nodes
  may-arrive s b may =
      let into = taken s may.reads in
      record {
        into = into;
        some = may.some;
        most = may.most;
        epoch = may.epoch ∙ ap length (sym (marks_are s into));
        floor = may.floor ∙ sym (floors_are s into);
        times = subst (λ x. AllByRecursion (λ (r : Record). (x ≤ r.time) × (r.time ≤ MAX_TIME)) b.records) (sym may.floor) may.timely;
      }

  pub may-seal : (s : Stream) (t : ℕ) → feeder.MaySeal h.plan f s t → MaySeal h.plan s t h.nodes
  may-seal s t may =
      let into = taken s may.reads in
      record { into = into; bound = may.most; rises = subst (λ x. x ≤ t) (sym (floors_are s into)) may.rises }

-- each lane was made with one limit
limits_replicate : (n p : ℕ) → AllByRecursion (λ x. x ≡ p) (replicate n p)
limits_replicate zero p = tt
limits_replicate (suc n) p = (refl, limits_replicate n p)

limits_all : (keeps : Bool) (p : ℕ) (steps : List Step)
    → AllByRecursion (λ (s : Settings). AllByRecursion (λ x. x ≡ p) s.limits) (map (λ (s : Step). settings_for keeps p (operator_of s.kind)) steps ++ settings_for keeps p Sink ∷ [])
limits_all keeps p [] = (limits_replicate (lanes_of Sink) p, tt)
limits_all keeps p (s ∷ steps) = (limits_replicate (lanes_of (operator_of s.kind)) p, limits_all keeps p steps)

limit-is : (plan : Shape) (pending : ℕ) (keeps : Bool) (nodes : List NodeState) (k l : ℕ) (lane : LaneView) → settings_of nodes ≡ settings_at keeps pending plan → HasLane k l lane nodes → lane.pending ≡ pending
limit-is plan pending keeps nodes k l lane settings has =
    let made : NodeState → Settings = λ n. record { keeps = n.diary.keeps; limits = map (λ l. l.pending) n.lanes.items } in
    let there : slice_get (settings_at keeps pending plan) k ≡ Some (made has.own) = ap (λ xs. slice_get xs k) (sym settings) ∙ get-map made nodes k has.own has.there in
    let all = one-of-all (λ (s : Settings). AllByRecursion (λ x. x ≡ pending) s.limits) (settings_at keeps pending plan) k (made has.own) (All-from_recursion (λ (s : Settings). AllByRecursion (λ x. x ≡ pending) s.limits) (settings_at keeps pending plan) (limits_all keeps pending plan.steps)) there in
    one-of-all (λ x. x ≡ pending) (map (λ (l : LaneView). l.pending) has.own.lanes.items) l lane.pending (All-from_recursion (λ x. x ≡ pending) (map (λ (l : LaneView). l.pending) has.own.lanes.items) all)
    (get-map (λ (l : LaneView). l.pending) has.own.lanes.items l lane has.in_it)

-- a stream's lane is never full
pub never-full : (h : HandView) (f : Fed) (rows : List Record) → IsRested h f rows → (s : Stream) (into : TakesStream h.plan s h.nodes) → into.lane.pending ≤ unfinished_of (conts_of into.lane.containers) → ⊥
never-full h f rows r s into le =
    let w = r.whole in
    let none = idle-is-finished h.plan w.is_plan h.bundle h.nodes (rows ++ h.tray) w.moment w.shows r.idle into.place.node into.place.lane into.lane into.has in
    let limit = limit-is h.plan h.pending w.keeps h.nodes into.place.node into.place.lane into.lane w.settings into.has in
    omega (arith, le, none, limit, w.some_bundles)
