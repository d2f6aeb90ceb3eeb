-- What the tests know of a hand: the moment that it shows, and what of stream a may come next.
use Rattle.std.proofs.Common.{◌≡◌, ◌≤◌, ◌<◌, ℕ, ◌+◌, List, [], ◌∷◌, length, Option, Some, sym, ap, subst, ◌∙◌, append-nil, arith}
use Rattle.std.specs.Prelude.{replicate}
use Rattle.std.specs.List.{AllByRecursion, slice_get}
use Rattle.std.proofs.lemmas.List.{length-append, length-replicate, get_or-replicate}
use Rattle.std.proofs.lemmas.Option.{same_Some, slice_get-get_or}
use Rattle.sb_hand.specs.base.records.declared.item.Record.{Record}
use Rattle.sb_hand.specs.base.records.declared.item.Stream.{Stream}
use Rattle.sb_hand.specs.base.records.declared.item.Stream.TheVariants.{A}
use Rattle.sb_hand.specs.base.records.declared.item.TheConstants.{MAX_TIME, END_MARK}
use Rattle.sb_hand.specs.base.records.Reading.{◌>>=◌}
use Rattle.sb_hand.proofs.base.records.Numbers.{bind_some}
use Rattle.sb_hand.specs.base.pipeline.declared.transform.Down.{Down}
use Rattle.sb_hand.specs.base.pipeline.Operators.{Operator, lanes_of, operator_at}
use Rattle.sb_hand.specs.base.pipeline.Operators.Operator.{ParDo, Windowed, Sink}
use Rattle.sb_hand.specs.base.pipeline.Operators.WindowOperator.{Aggregated, Sessions, Joined}
use Rattle.sb_hand.specs.base.pipeline.Plans.{IsPlace}
use Rattle.sb_hand.specs.base.pipeline.Shapes.{Shape, source}
use Rattle.sb_hand.specs.core.declared.event.Event.{Event}
use Rattle.sb_hand.specs.core.declared.event.Event.TheVariants.{Arrive, Seal}
use Rattle.sb_hand.specs.core.containers.declared.container.CoreLane.{CoreLane}
use Rattle.sb_hand.specs.core.declared.moment.Moment.{Moment}
use Rattle.sb_hand.specs.core.declared.moment.Node.{Node}
use Rattle.sb_hand.specs.core.Events.{after, run}
use Rattle.sb_hand.specs.core.MomentSteps.{after_arrive, after_seal}
use Rattle.sb_hand.specs.core.containers.Lanes.{next_epoch, next_floor, with_arrival, with_seal}
use Rattle.sb_hand.specs.core.Moments.{empty_lane, epoch_at, epoch_of, first, floor_at, floor_of, lane_at, set_lane, with_lane}
use Rattle.sb_hand.proofs.core.containers.Sealing.{sealed_floor}
use Rattle.sb_hand.proofs.core.sound.FirstMoment.{at_node}
use Rattle.sb_hand.proofs.core.exact.Gives.{lane_at-parts, with_lane-is}
use Rattle.sb_hand.proofs.core.parts.MadeSteps.{arrive-made, seal-made}
use Rattle.sb_hand.proofs.core.containers.Lists.{cond_is_some}
use Rattle.sb_hand.proofs.core.exact.Nodes.{slice_get-set_same}
use Rattle.sb_hand.specs.lane.LaneView.{LaneView, lane_of}
use Rattle.sb_hand.specs.declared.did.Did.{Did}
use Rattle.sb_hand.specs.declared.did.Did.TheVariants as did
use Rattle.sb_hand.specs.Feeding.{MayArrive, MaySeal, TakesStream}
use Rattle.sb_hand.specs.Hands.{HandView, KeepsAllButNodes, Shows}
use Rattle.sb_hand.specs.Sets.{HasLane}
use Rattle.sb_hand.specs.Showing.{Does, Stands}
use Rattle.sb_hand.specs.Stepping.{Steps}
use Rattle.sb_hand.proofs.ShownLanes.{has-its_lanes, shows-sources, takes-sources}

-- the lane at a place of the first moment
pub at-first : (plan : Shape) (bundle : ℕ) (d : Down) → IsPlace plan.steps d → lane_at (first plan bundle) d ≡ Some empty_lane
at-first plan bundle d p =
    let n = lanes_of (operator_at (slice_get plan.steps d.node)) in
    ap (λ (o : Option Node). o >>= λ x. slice_get x.lanes d.lane) (at_node plan.steps d.node p.0)
    ∙ slice_get-get_or (replicate n empty_lane) d.lane empty_lane (omega (arith, p.1, length-replicate n empty_lane))
    ∙ ap Some (get_or-replicate n d.lane empty_lane empty_lane p.1)

-- a lane that was put in a place is there
put_there : (m later : Moment) (d : Down) (lane with : CoreLane) → lane_at m d ≡ Some lane → with_lane d with m ≡ Some later → lane_at later d ≡ Some with
put_there m later d lane with at h =
    let p = lane_at-parts m d lane at in
    subst (λ x. lane_at x d ≡ Some with) (with_lane-is m d p.0 with later p.1 h)
    (ap (λ (o : Option Node). o >>= λ node. slice_get node.lanes d.lane) (slice_get-set_same m.nodes d.node p.0 (set_lane d.lane with p.0) p.1)
    ∙ slice_get-set_same p.0.lanes d.lane lane with p.2)

-- the next epoch and its floor are as before once a bundle has arrived
arrived_next : (plan : Shape) (m later : Moment) (s : Stream) (records : List Record) (d : Down) → source plan s ≡ Some d → after_arrive plan m s records ≡ Some later
    → (epoch_at later d ≡ epoch_at m d) × (floor_at later d ≡ floor_at m d)
arrived_next plan m later s records d goes h =
    let a = bind_some (source plan s) _ later h in
    let b = bind_some (lane_at m a.0) _ later a.2 in
    let c = cond_is_some _ _ later b.2 in
    let e = bind_some (lane_at m a.0) _ later c.1 in
    let g = cond_is_some _ _ later e.2 in
    let is : lane_at later a.0 ≡ Some (with_arrival (next_epoch b.0) (next_floor b.0) records e.0) = put_there m later a.0 e.0 (with_arrival (next_epoch b.0) (next_floor b.0) records e.0) e.1 g.1 in
    let same : a.0 ≡ d = same_Some a.0 d (sym a.1 ∙ goes) in
    subst (λ x. (epoch_at later x ≡ epoch_at m x) × (floor_at later x ≡ floor_at m x)) same
    (ap epoch_of is ∙ sym (ap epoch_of e.1), ap floor_of is ∙ sym (ap floor_of e.1))

-- and once an epoch is sealed, the next one begins at the mark
sealed_next : (plan : Shape) (m later : Moment) (s : Stream) (mark : ℕ) (d : Down) → source plan s ≡ Some d → after_seal plan m s mark ≡ Some later
    → (epoch_at later d ≡ epoch_at m d + 1) × (floor_at later d ≡ mark)
sealed_next plan m later s mark d goes h =
    let a = bind_some (source plan s) _ later h in
    let b = bind_some (lane_at m a.0) _ later a.2 in
    let c = cond_is_some _ _ later b.2 in
    let is : lane_at later a.0 ≡ Some (with_seal mark b.0) = put_there m later a.0 b.0 (with_seal mark b.0) b.1 c.1 in
    let same : a.0 ≡ d = same_Some a.0 d (sym a.1 ∙ goes) in
    subst (λ x. (epoch_at later x ≡ epoch_at m x + 1) × (floor_at later x ≡ mark)) same
    (ap epoch_of is ∙ length-append b.0.marks (mark ∷ []) ∙ ap (λ n. n + 1) (sym (ap epoch_of b.1)), ap floor_of is ∙ sealed_floor mark b.0)

-- a single event
one_event : (plan : Shape) (e : Event) (m later : Moment) → run plan (e ∷ []) m ≡ Some later → after plan m e ≡ Some later
one_event plan e m later h = let b = bind_some (after plan m e) (run plan []) later h in b.1 ∙ b.2

-- the hand shows a moment in which stream a goes to a lane with this next epoch and floor
abbrev pub Next : HandView → ℕ → ℕ → Type 0
Next h epoch floor = (m : Moment) × Shows h [] m × (d : Down) × (source h.plan A ≡ Some d) × (epoch_at m d ≡ epoch) × (floor_at m d ≡ floor)

module _ (h : HandView) (epoch floor : ℕ) (next : Next h epoch floor) where
  into : TakesStream h.plan A h.nodes
  into = (takes-sources h.plan h.bundle h.nodes [] h.tray next.0 next.1 A next.2 next.3).0

  in_lane : (X : Type 0) (f : Option CoreLane → X) → f (lane_at next.0 next.2) ≡ f (Some (lane_of into.lane))
  in_lane X f =
      ap (λ d. f (lane_at next.0 d)) (same_Some next.2 into.place (sym next.3 ∙ into.goes))
      ∙ ap f (shows-sources h.plan h.bundle h.nodes [] h.tray next.0 next.1 A into)

  -- a record may come, alone in a bundle
  pub may-arrive : (r : Record) (records : List Record) → records ≡ r ∷ [] → floor ≤ r.time → r.time ≤ MAX_TIME
      → MayArrive h.plan h.bundle A (record { number = 0; epoch = epoch; floor = floor; records = records }) h.nodes
  may-arrive r records are above below = record {
    into = into;
    some = subst (λ (l : List Record). 1 ≤ length l) (sym are) (omega arith);
    most = subst (λ (l : List Record). length l ≤ h.bundle) (sym are) (subst (λ n. 1 ≤ n) next.1.bundle_is next.1.sound.bundle.0);
    epoch = sym next.4 ∙ in_lane ℕ epoch_of;
    floor = sym next.5 ∙ in_lane ℕ floor_of;
    times = subst (λ l. AllByRecursion (λ (x : Record). (floor ≤ x.time) × (x.time ≤ MAX_TIME)) l) (sym are) ((above, below), tt);
  }

  -- so may a watermark
  pub may-seal : (mark : ℕ) → floor ≤ mark → mark ≤ END_MARK → MaySeal h.plan A mark h.nodes
  may-seal mark above below = record { into = into; bound = below; rises = subst (λ x. x ≤ mark) (sym next.5 ∙ in_lane ℕ floor_of) above }

  module _ (n : HandView) (rest : KeepsAllButNodes h n) where
    kept : (events : List Event) → Does h.plan h.bundle events h.nodes [] n.nodes [] [] → (m : Moment) × (run h.plan events next.0 ≡ Some m) × Shows n [] m
    kept events does =
        let r = does h.tray next.0 next.1 in
        (r.later, r.runs, subst (λ z. z) (λ i. Stands (sym rest.plan i) (sym rest.bundle i) n.nodes [] ((append-nil h.tray ∙ sym rest.tray) i) r.later) r.stands)

    pub next-arrived : (records : List Record) → Does h.plan h.bundle (Arrive A records ∷ []) h.nodes [] n.nodes [] [] → Next n epoch floor
    next-arrived records does =
        let k = kept (Arrive A records ∷ []) does in
        let e = arrived_next h.plan next.0 k.0 A records next.2 next.3 (sym (arrive-made h.plan next.0 A records) ∙ one_event h.plan (Arrive A records) next.0 k.0 k.1) in
        (k.0, k.2, next.2, subst (λ p. source p A ≡ Some next.2) (sym rest.plan) next.3, e.0 ∙ next.4, e.1 ∙ next.5)

    pub next-sealed : (mark : ℕ) → Does h.plan h.bundle (Seal A mark ∷ []) h.nodes [] n.nodes [] [] → Next n (epoch + 1) mark
    next-sealed mark does =
        let k = kept (Seal A mark ∷ []) does in
        let e = sealed_next h.plan next.0 k.0 A mark next.2 next.3 (sym (seal-made h.plan next.0 A mark) ∙ one_event h.plan (Seal A mark) next.0 k.0 k.1) in
        (k.0, k.2, next.2, subst (λ p. source p A ≡ Some next.2) (sym rest.plan) next.3, e.0 ∙ ap (λ x. x + 1) next.4, e.1)

-- a step leads from a moment to one
pub stepped : (h n : HandView) (node : ℕ) (what : Did) → Steps h.plan h.bundle node h.nodes h.tray n.nodes n.tray what → n.plan ≡ h.plan → n.bundle ≡ h.bundle
    → (m : Moment) × Shows h [] m → (m : Moment) × Shows n [] m
stepped h n node did.Bundle s plan bundle shown =
    let r = s.2.does h.tray shown.0 shown.1 in
    (r.later, subst (λ z. z) (λ i. Stands (sym plan i) (sym bundle i) n.nodes [] ((append-nil h.tray ∙ sym s.3) i) r.later) r.stands)
stepped h n node did.Closing s plan bundle shown =
    let r = s.2.does h.tray shown.0 shown.1 in
    (r.later, subst (λ z. z) (λ i. Stands (sym plan i) (sym bundle i) n.nodes [] (sym s.2.tray_is i) r.later) r.stands)
stepped h n node did.Nothing s plan bundle shown =
    (shown.0, subst (λ z. z) (λ i. Stands (sym plan i) (sym bundle i) (sym s.1 i) [] (sym s.2 i) shown.0) shown.1)

-- each node has a lane
some_lanes : (op : Operator) → 0 < lanes_of op
some_lanes (ParDo op) = omega arith
some_lanes (Windowed (Aggregated agg windows)) = omega arith
some_lanes (Windowed (Sessions agg gap)) = omega arith
some_lanes (Windowed (Joined combine windows)) = omega arith
some_lanes Sink = omega arith

pub first-lane : (h : HandView) (node : ℕ) → node ≤ length h.plan.steps → (m : Moment) × Shows h [] m → (lane : LaneView) × HasLane node 0 lane h.nodes
first-lane h node within shown =
    has-its_lanes h.plan h.bundle h.nodes [] h.tray shown.0 shown.1 node 0 within (some_lanes (operator_at (slice_get h.plan.steps node)))
