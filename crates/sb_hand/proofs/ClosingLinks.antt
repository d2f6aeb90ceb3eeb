-- The rows of a closing go to one container, which is made for them.
use Rattle.std.proofs.Common.{◌≡◌, ℕ, suc, zero, eqb, ◌+◌, ◌-◌, ◌^◌, ◌<◌, Bool, true, false, List, [], ◌∷◌, length, Some, sym, refl, ap, subst, ◌∙◌, arith, ⊎_elim}
use Rattle.std.specs.List.{slice_get, AllByRecursion}
use Rattle.std.specs.Option.{option_map}
use Rattle.std.proofs.lemmas.Option.{same_Some}
use Rattle.sb_shown.specs.diary.declared.event.DiaryEvent.{DiaryEvent}
use Rattle.sb_shown.specs.diary.declared.event.DiaryEvent.TheVariants as line
use Rattle.sb_shown.specs.base.records.declared.item.Record.{Record}
use Rattle.sb_shown.specs.base.pipeline.declared.transform.Step.{Step}
use Rattle.sb_shown.specs.base.pipeline.declared.transform.Down.{Down}
use Rattle.sb_shown.specs.base.pipeline.Shapes.{Shape}
use Rattle.sb_shown.specs.base.pipeline.Plans.{IsPlan}
use Rattle.sb_shown.specs.base.pipeline.Operators.{operator_at}
use Rattle.sb_shown.proofs.base.pipeline.Feeding.{apart}
use Rattle.sb_shown.specs.core.Bounds.{bound_at}
use Rattle.sb_shown.specs.core.Closings.{is_pardo}
use Rattle.sb_shown.specs.core.Holdings.{IsCloseOf, IsClosing, IsHeld}
use Rattle.sb_shown.specs.core.declared.held.Held.{Held}
use Rattle.sb_shown.specs.core.containers.LaneOrder.{IsLane}
use Rattle.sb_shown.specs.core.containers.Lanes.{in_epoch, next_floor, with_arrival}
use Rattle.sb_shown.specs.core.Moments.{epoch_of, floor_of}
use Rattle.sb_shown.specs.lane.Changes.{StandsAt}
use Rattle.sb_shown.specs.lane.Laws.{FitsEpoch}
use Rattle.sb_shown.specs.lane.LaneView.{LaneView, lane_of}
use Rattle.sb_shown.specs.lane.Links.{link_in}
use Rattle.sb_shown.specs.lane.Placed.{conts_of}
use Rattle.sb_shown.proofs.lane.OrderKept.{next-fits, place-kept}
use Rattle.sb_shown.specs.node.declared.closing.Closing.{Closing}
use Rattle.sb_shown.specs.node.declared.state.NodeState.{NodeState}
use Rattle.sb_shown.specs.node.LinkChanges.{FindsPlace, LinksStay}
use Rattle.sb_hand.specs.LaneGoing.{LaneGoes}
use Rattle.sb_shown.specs.Linking.{AreLinked, KeepsLinks, NoneBelow, StandsBelow}
use Rattle.sb_hand.specs.Runs.{close_of}
use Rattle.sb_shown.specs.Sets.{BeginsAt, HasLane, Turns}
use Rattle.sb_shown.specs.Showing.{CanStand}
use Rattle.sb_hand.proofs.Gives.{Puts}
use Rattle.sb_hand.proofs.Having.{has-down}
use Rattle.sb_shown.proofs.Steps.{step-of}
use Rattle.sb_hand.proofs.KeptLinks.{first-keeps, it-goes, put-keeps}
use Rattle.sb_hand.proofs.LinkedSets.{from, has-now, of-lane, of-node, one-lane}
use Rattle.sb_shown.proofs.OpenBelow.{lane-ok, lane-shown, none-before}

pub some-rows : (n : ℕ) → eqb n 0 ≡ false → 0 < n
some-rows zero h = cc
some-rows (suc n) h = omega arith

pub no-rows : (rows : List Record) → length rows ≡ 0 → rows ≡ []
no-rows [] h = refl
no-rows (r ∷ rows) h = absurd (omega (arith, h))

module _ (plan : Shape) (is_plan : IsPlan plan) (bundle : ℕ) (c : Closing) (old : List NodeState) (rows : List Record) (can : CanStand plan bundle old (close_of c rows false ∷ [])) where
  closing : IsClosing plan can.moment c.node c.lane c.epoch c.serial c.floor c.mark rows false
  closing = (subst (λ (hs : List Held). AllByRecursion (IsHeld plan can.moment) hs) can.stands.held_is can.stands.sound.holds).0

  -- a transform of single records has no rows to give when it closes
  pub other : 0 < length rows → is_pardo (operator_at (slice_get plan.steps c.node)) ≡ false
  other some = by_case (is_pardo (operator_at (slice_get plan.steps c.node))) refl
    where
      by_case : (b : Bool) → is_pardo (operator_at (slice_get plan.steps c.node)) ≡ b → b ≡ false
      by_case true e =
          let z : rows ≡ [] = (subst (λ (hs : List Held). AllByRecursion (IsCloseOf plan can.moment) hs) can.stands.held_is can.stands.sound.closes).0.0.1.1 e in
          let n : length rows ≡ 0 = ap length z in absurd (omega (arith, n, some))
      by_case false e = refl

  module _ (st : Step) (is : slice_get plan.steps c.node ≡ Some st) (under : LaneView) (has : HasLane st.down.node st.down.lane under old) where
    -- the lane below has its serial for its next epoch, and its floor
    pub next : length under.marks ≡ c.serial
    next = sym (ap epoch_of (lane-shown plan is_plan bundle old (close_of c rows false ∷ []) can.rows can.moment can.stands st.down.node st.down.lane under has)) ∙ closing.next_under refl st is

    low : next_floor (lane_of under) ≡ c.floor
    low = sym (ap floor_of (lane-shown plan is_plan bundle old (close_of c rows false ∷ []) can.rows can.moment can.stands st.down.node st.down.lane under has)) ∙ closing.under refl st is

    pub order-at : IsLane (bound_at plan st.down.node) (lane_of under)
    order-at = lane-ok plan is_plan bundle old (close_of c rows false ∷ []) can.rows can.moment can.stands st.down.node st.down.lane under has

    pub placed-at : IsLane (bound_at plan st.down.node) (record (lane_of under) { conts = in_epoch c.serial c.floor (λ c. c) (conts_of under.containers) })
    placed-at = place-kept (bound_at plan st.down.node) c.serial c.floor (lane_of under) order-at (subst (λ z. z) (λ i. FitsEpoch (next i) (low i) (lane_of under)) (next-fits (bound_at plan st.down.node) (lane_of under) order-at))

  module _ (linked : AreLinked plan old) (d : Down) (down : option_map (λ (s : Step). s.down) (slice_get plan.steps c.node) ≡ Some d) where
    abbrev st : Step
    st = (step-of plan.steps c.node d down).0

    abbrev is : slice_get plan.steps c.node ≡ Some st
    is = (step-of plan.steps c.node d down).1

    abbrev goes : st.down ≡ d
    goes = (step-of plan.steps c.node d down).2

    to-st : (at : LaneView) (nodes : List NodeState) → HasLane d.node d.lane at nodes → HasLane st.down.node st.down.lane at nodes
    to-st at nodes has = subst (λ (x : Down). HasLane x.node x.lane at nodes) (sym goes) has

    pub below : (at : LaneView) × HasLane d.node d.lane at old
    below = has-down plan bundle old (close_of c rows false ∷ []) can c.node d down

    pub order : (at : LaneView) → HasLane d.node d.lane at old → (bound : ℕ) × IsLane bound (lane_of at)
    order at has = (bound_at plan st.down.node, order-at st is at (to-st at old has))

    pub placed-order : (at : LaneView) → HasLane d.node d.lane at old → at.arrived < 2 ^ 64 - 1 → (bound : ℕ) × IsLane bound (record (lane_of at) { conts = in_epoch c.serial c.floor (λ c. c) (conts_of at.containers) })
    placed-order at has room = (bound_at plan st.down.node, placed-at st is at (to-st at old has))

    -- the step of the closing is the one of the place
    of-step : (sj : Step) (under : LaneView) (nodes : List NodeState) → slice_get plan.steps c.node ≡ Some sj → HasLane sj.down.node sj.down.lane under nodes → HasLane d.node d.lane under nodes
    of-step sj under nodes at has = let same : sj ≡ st = same_Some sj st (sym at ∙ is) in subst (λ (x : Down). HasLane x.node x.lane under nodes) (ap (λ (s : Step). s.down) same ∙ goes) has

    module _ (new : List NodeState) (records : List Record) (put : Puts d c.serial c.floor records old new) where
      abbrev told : DiaryEvent
      told = line.Arrive d.lane c.serial (below.0.arrived + 1) (length records)

      abbrev turns : Turns d.node d.lane old new below.0 (with_arrival c.serial c.floor records (lane_of below.0)) told
      turns = (put below.0 below.1).1

      now-there : (sj : Step) (under : LaneView) → slice_get plan.steps c.node ≡ Some sj → HasLane sj.down.node sj.down.lane under new → turns.now ≡ under
      now-there sj under at has = one-lane d.node d.lane turns.now under new (has-now old new d.node d.lane below.0 turns.now (of-lane d.node d.lane below.0 turns.now told old new turns.sets)) (of-step sj under new at has)

      -- the first rows
      pub first-links : (place : ℕ) → LaneGoes d.node d.lane (FindsPlace c.serial place) old new → NoneBelow plan c.node c.serial old → 0 < length rows → KeepsLinks plan old new
      first-links place g none some =
          first-keeps plan is_plan old new d.node d.lane below.0 linked c.serial c.floor records told turns bundle (close_of c rows false ∷ []) can.rows can.moment can.stands place g (none st below.0 is (to-st below.0 old below.1))
          (λ j sj at pardo to.
          let same : j ≡ c.node = apart plan is_plan j c.node sj st at is (to ∙ sym goes) in
          let z : false ≡ true = sym (other some) ∙ ap (λ k. is_pardo (operator_at (slice_get plan.steps k))) (sym same) ∙ pardo in cc)

      pub first-stands : (place : ℕ) → LaneGoes d.node d.lane (FindsPlace c.serial place) old new → StandsBelow plan c.node c.serial place new
      first-stands place g = λ sj under at has.
          let f = it-goes plan is_plan old new d.node d.lane below.0 linked (with_arrival c.serial c.floor records (lane_of below.0)) told turns (FindsPlace c.serial place) g in
          subst (λ (x : LaneView). StandsAt c.serial place x.containers) (now-there sj under at has) f.stands

      -- the next ones
      pub next-links : LaneGoes d.node d.lane LinksStay old new → KeepsLinks plan old new
      next-links g = put-keeps plan is_plan old new d.node d.lane below.0 linked c.serial c.floor records told turns g

      pub next-stands : (place : ℕ) → LaneGoes d.node d.lane LinksStay old new → StandsBelow plan c.node c.serial place old → StandsBelow plan c.node c.serial place new
      next-stands place g stands = λ sj under at has.
          let f = it-goes plan is_plan old new d.node d.lane below.0 linked (with_arrival c.serial c.floor records (lane_of below.0)) told turns LinksStay g in
          let s = stands st below.0 is (to-st below.0 old below.1) in
          subst (λ (x : LaneView). StandsAt c.serial place x.containers) (now-there sj under at has)
          (record { link = s.link; there = ap (link_in c.serial) f.links ∙ s.there; place_is = s.place_is })

    pub here : (place : ℕ) → StandsBelow plan c.node c.serial place old → (at : LaneView) → HasLane d.node d.lane at old → StandsAt c.serial place at.containers
    here place stands at has = stands st at is (to-st at old has)

-- before the first rows there is no container for them
pub none-yet : (plan : Shape) (is_plan : IsPlan plan) (bundle : ℕ) (c : Closing) (old mid : List NodeState) (lane : LaneView) → CanStand plan bundle old [] → BeginsAt c old mid lane → CanStand plan bundle mid (close_of c c.rows.items false ∷ [])
    → is_pardo (operator_at (slice_get plan.steps c.node)) ≡ false → NoneBelow plan c.node c.serial mid
none-yet plan is_plan bundle c old mid lane can b begun other_op = λ st under is has.
    let o = of-node c.node c.lane lane b.now 1 b.was b.is _ old mid b.sets in
    let n = next plan is_plan bundle c mid c.rows.items begun st is under has in
    ⊎_elim
    (λ e. absurd (omega (arith, is_plan.further c.node st is, e.0)))
    (λ e. none-before plan is_plan bundle old [] can.rows can.moment can.stands c.node st is under e.1 c.serial (omega (arith, n)) other_op refl)
    (from old mid c.node c.lane lane b.now o st.down.node st.down.lane under has)
