-- What a transform of single records gives, put below.
use Rattle.std.proofs.Common.{◌≡◌, ℕ, ◌+◌, ◌-◌, ◌^◌, ◌<◌, true, false, List, [], ◌∷◌, length, Some, None, Option, sym, refl, ap, subst, ◌∙◌, arith}
use Rattle.std.specs.List.{slice_get}
use Rattle.std.specs.Option.{option_map}
use Rattle.sb_shown.specs.diary.declared.event.DiaryEvent.{DiaryEvent}
use Rattle.sb_shown.specs.diary.declared.event.DiaryEvent.TheVariants as line
use Rattle.sb_shown.specs.base.records.declared.item.Record.{Record}
use Rattle.sb_shown.specs.base.pipeline.declared.transform.Step.{Step}
use Rattle.sb_shown.specs.base.pipeline.declared.transform.Down.{Down}
use Rattle.sb_shown.specs.base.pipeline.Shapes.{Shape}
use Rattle.sb_shown.specs.core.declared.event.Event.TheVariants.{Deliver}
use Rattle.sb_shown.specs.core.Bounds.{bound_at}
use Rattle.sb_shown.specs.core.containers.Choices.{is_empty}
use Rattle.sb_shown.specs.core.containers.LaneOrder.{IsLane}
use Rattle.sb_shown.specs.core.containers.Lanes.{in_epoch, with_arrival}
use Rattle.sb_shown.specs.lane.Changes.{StandsAt}
use Rattle.sb_shown.specs.lane.LaneView.{LaneView, lane_of}
use Rattle.sb_shown.specs.lane.Links.{down_of, link_in, links_of}
use Rattle.sb_shown.specs.lane.Placed.{conts_of}
use Rattle.sb_shown.specs.node.declared.state.NodeState.{NodeState}
use Rattle.sb_shown.specs.work.declared.claim.Claim.{Claim}
use Rattle.sb_shown.specs.node.LinkChanges.{FindsPlace, GetsLink, LinksStay}
use Rattle.sb_hand.specs.LaneGoing.{LaneGoes}
use Rattle.sb_shown.specs.Linking.{KeepsLinks}
use Rattle.sb_hand.specs.Readiness.{CanGive}
use Rattle.sb_hand.specs.Runs.{work_of, Gives}
use Rattle.sb_shown.specs.Sets.{HasLane, StaysAt, Turns}
use Rattle.sb_hand.specs.Todo.{Lowers, todo_lane, todo_seen}
use Rattle.sb_hand.proofs.Composing.{does-then}
use Rattle.sb_hand.proofs.Feeds.{stays-holding, stays-settings}
use Rattle.sb_hand.proofs.Given as given_to
use Rattle.sb_hand.proofs.Having.{has-down}
use Rattle.sb_shown.proofs.Steps.{step-of}
use Rattle.sb_hand.proofs.KeptLinks.{above-stays, give-keeps, put-keeps}
use Rattle.sb_hand.proofs.LeftToDo.{at-least, lowers-lane, lowers-then}
use Rattle.sb_hand.proofs.Works.{given-below, given-lowers, given-settings}

-- a bundle is put into a lane
abbrev pub Puts : Down → ℕ → ℕ → List Record → List NodeState → List NodeState → Type 0
Puts d epoch floor records old new =
    (at : LaneView) → HasLane d.node d.lane at old
    → (at.arrived < 2 ^ 64 - 1) × Turns d.node d.lane old new at (with_arrival epoch floor records (lane_of at)) (line.Arrive d.lane epoch (at.arrived + 1) (length records))

-- a call that shows what was there lowers nothing
stays-lowers : (k : ℕ) (old new : List NodeState) (lane : LaneView) → StaysAt k 0 old new lane → Lowers k 0 old new
stays-lowers k old new lane t =
    subst (λ (n : List NodeState). Lowers k 0 old n) (sym t.set) (lowers-lane k 0 0 old t.own t.with lane t.now t.there t.in_it t.lanes (at-least (todo_seen t.now) (todo_seen lane) (ap todo_lane t.lane_is)))

module _ (plan : Shape) (size : ℕ) (claim : Claim) (given : List Record) (old : List NodeState) (may : CanGive plan size claim given old) (d : Down) (down : option_map (λ (s : Step). s.down) (slice_get plan.steps claim.node) ≡ Some d) where
  not_empty : (rows : List Record) → 0 < length rows → is_empty rows ≡ false
  not_empty [] h = absurd (omega arith)
  not_empty (r ∷ rows) h = refl

  abbrev own : given_to.Own plan may.ready.is_plan size old claim.node claim.lane claim.bundle may.ready.can may.pardo
  own = given_to.own plan may.ready.is_plan size old claim.node claim.lane claim.bundle may.ready.can may.pardo

  pub has-own : (at : LaneView) × HasLane claim.node 0 at old
  has-own = (own.lane, own.has)

  pub below : (at : LaneView) × HasLane d.node d.lane at old
  below = has-down plan size old (work_of claim.node claim.lane claim.bundle false ∷ []) may.ready.can claim.node d down

  pub order : (at : LaneView) → HasLane d.node d.lane at old → (bound : ℕ) × IsLane bound (lane_of at)
  order at has = (bound_at plan d.node, given_to.order plan may.ready.is_plan size old claim.node claim.lane claim.bundle may.ready.can may.pardo d down at has)

  pub placed-order : (at : LaneView) → HasLane d.node d.lane at old → at.arrived < 2 ^ 64 - 1 → (bound : ℕ) × IsLane bound (record (lane_of at) { conts = in_epoch claim.bundle.epoch claim.bundle.floor (λ c. c) (conts_of at.containers) })
  placed-order at has room = (bound_at plan d.node, given_to.placed-order plan may.ready.is_plan size old claim.node claim.lane claim.bundle may.ready.can may.pardo d down at has given may.given_is (not_empty given may.some) room)

  module _ (found : Option ℕ) (found_is : (at : LaneView) → HasLane claim.node 0 at old → found ≡ down_of claim.bundle.epoch (links_of at.containers)) where
    pub there : (place : ℕ) → found ≡ Some place → (at : LaneView) → HasLane d.node d.lane at old → StandsAt claim.bundle.epoch place at.containers
    there place h at has = given_to.there plan may.ready.is_plan size old claim.node claim.lane claim.bundle may.ready.can may.pardo d down at has may.ready.linked place (sym (found_is own.lane own.has) ∙ h)

    -- where it is may.ready.linked
    pub gives-there : (new : List NodeState) → Puts d claim.bundle.epoch claim.bundle.floor given old new → Gives plan size claim.node claim.lane claim.bundle old new
    gives-there new put = record {
      does = given-below plan may.ready.is_plan size claim.node claim.lane claim.bundle old may.ready.can new d given down may.given_is may.some put;
      lowers = given-lowers plan may.ready.is_plan size claim.node claim.lane claim.bundle old may.ready.can new d given down put;
      settings = given-settings plan may.ready.is_plan size claim.node claim.lane claim.bundle old may.ready.can new d given down put;
    }

    pub keeps-there : (new : List NodeState) → Puts d claim.bundle.epoch claim.bundle.floor given old new → LaneGoes d.node d.lane LinksStay old new → KeepsLinks plan old new
    keeps-there new put g =
        put-keeps plan may.ready.is_plan old new d.node d.lane below.0 may.ready.linked claim.bundle.epoch claim.bundle.floor given (line.Arrive d.lane claim.bundle.epoch (below.0.arrived + 1) (length given)) (put below.0 below.1).1 g

    -- where it was not may.ready.linked yet
    module _ (none : found ≡ None) (mid : List NodeState) (put : Puts d claim.bundle.epoch claim.bundle.floor given old mid) (place : ℕ) (g : LaneGoes d.node d.lane (FindsPlace claim.bundle.epoch place) old mid) where
      abbrev st : Step
      st = (step-of plan.steps claim.node d down).0

      abbrev is : slice_get plan.steps claim.node ≡ Some st
      is = (step-of plan.steps claim.node d down).1

      to : st.down ≡ record { node = d.node; lane = d.lane }
      to = (step-of plan.steps claim.node d down).2

      nothing_below : link_in claim.bundle.epoch (links_of below.0.containers) ≡ None
      nothing_below = given_to.none plan may.ready.is_plan size old claim.node claim.lane claim.bundle may.ready.can may.pardo d down below.0 below.1 may.ready.linked (sym (found_is own.lane own.has) ∙ none)

      abbrev told : DiaryEvent
      told = line.Arrive d.lane claim.bundle.epoch (below.0.arrived + 1) (length given)

      pub own-stays : HasLane claim.node 0 own.lane mid
      own-stays = above-stays plan may.ready.is_plan old mid d.node d.lane below.0 may.ready.linked claim.bundle.epoch claim.bundle.floor given told (put below.0 below.1).1 size (work_of claim.node claim.lane claim.bundle false ∷ []) may.ready.can.rows may.ready.can.moment may.ready.can.stands place claim.node st is to g nothing_below own.lane own.has

      pub has-own-still : (at : LaneView) × HasLane claim.node 0 at mid
      has-own-still = (own.lane, own-stays)

      module _ (new : List NodeState) (stays : (at : LaneView) → HasLane claim.node 0 at mid → StaysAt claim.node 0 mid new at) where
        pub gives-first : Gives plan size claim.node claim.lane claim.bundle old new
        gives-first =
            let t = stays own.lane own-stays in
            record {
              does = does-then plan size (Deliver claim.node claim.lane claim.bundle.number ∷ []) [] old mid new (work_of claim.node claim.lane claim.bundle false ∷ []) (work_of claim.node claim.lane claim.bundle true ∷ []) (work_of claim.node claim.lane claim.bundle true ∷ []) [] []
                  (given-below plan may.ready.is_plan size claim.node claim.lane claim.bundle old may.ready.can mid d given down may.given_is may.some put) (stays-holding plan size mid new claim.node 0 own.lane t (work_of claim.node claim.lane claim.bundle true ∷ []));
              lowers = lowers-then claim.node 0 0 old mid new (given-lowers plan may.ready.is_plan size claim.node claim.lane claim.bundle old may.ready.can mid d given down put) (stays-lowers claim.node mid new own.lane t);
              settings = stays-settings plan size mid new claim.node 0 own.lane t ∙ given-settings plan may.ready.is_plan size claim.node claim.lane claim.bundle old may.ready.can mid d given down put;
            }

        pub keeps-first : LaneGoes claim.node 0 (GetsLink claim.bundle.epoch place) mid new → KeepsLinks plan old new
        keeps-first h =
            give-keeps plan may.ready.is_plan old mid d.node d.lane below.0 may.ready.linked claim.bundle.epoch claim.bundle.floor given told (put below.0 below.1).1 size (work_of claim.node claim.lane claim.bundle false ∷ []) may.ready.can.rows may.ready.can.moment may.ready.can.stands place claim.node st is to g nothing_below own.lane new
            (stays own.lane own-stays) h
