-- The lane below what a pass has in hand is in order, and stays so with the container that its output needs.
use Rattle.std.proofs.Common.{◌≡◌, ℕ, ◌-◌, ◌^◌, ◌≤◌, ◌<◌, true, false, not, cond, List, [], ◌∷◌, length, Some, Option, sym, refl, ap, subst, ◌∙◌, arith}
use Rattle.std.specs.Prelude.{◌&&◌}
use Rattle.std.specs.List.{slice_get}
use Rattle.std.proofs.lemmas.Bool.{eq-eqb, ne_eqb}
use Rattle.std.proofs.lemmas.Option.{same_Some}
use Rattle.sb_shown.specs.base.records.declared.item.Record.{Record}
use Rattle.sb_shown.specs.base.records.Reading.{◌>>=◌}
use Rattle.sb_shown.proofs.base.records.Numbers.{bind_some}
use Rattle.sb_shown.specs.base.pipeline.declared.transform.Down.{Down}
use Rattle.sb_shown.specs.base.pipeline.declared.transform.Step.{Step}
use Rattle.sb_shown.specs.base.pipeline.Operators.{Operator}
use Rattle.sb_shown.specs.base.pipeline.Operators.Operator.{ParDo, Windowed, Sink}
use Rattle.sb_shown.specs.core.declared.event.Event.TheVariants.{Deliver}
use Rattle.sb_shown.specs.core.declared.held.Held.{Held}
use Rattle.sb_shown.specs.core.containers.declared.container.CoreLane.{CoreLane}
use Rattle.sb_shown.specs.core.declared.moment.Node.{Node}
use Rattle.sb_shown.specs.core.Bounds.{bound_at}
use Rattle.sb_shown.specs.core.containers.Choices.{is_empty}
use Rattle.sb_shown.specs.core.Closings.{delivery, is_pardo}
use Rattle.sb_shown.specs.core.Events.{below}
use Rattle.sb_shown.specs.core.containers.LaneOrder.{IsLane}
use Rattle.sb_shown.specs.core.containers.Lanes.{in_epoch, next_floor, with_arrival}
use Rattle.sb_shown.specs.core.Laws.{concerns}
use Rattle.sb_shown.specs.core.Moments.{epoch_at, epoch_of, floor_of, lane_at, set_lane, with_held}
use Rattle.sb_shown.specs.core.Parts.{Part, held_after, only_node, with_part_first}
use Rattle.sb_shown.specs.core.Soundness.{IsSound}
use Rattle.sb_shown.proofs.core.exact.AfterExact.{not_sealed}
use Rattle.sb_shown.proofs.core.exact.Nodes.{slice_get-set_same}
use Rattle.sb_shown.proofs.core.sound.Orderly.{lawful_of}
use Rattle.sb_shown.proofs.core.parts.PartsLaw.{chain, held-parts_keep_sound, passing}
use Rattle.sb_shown.specs.lane.Laws.{FitsEpoch}
use Rattle.sb_shown.specs.lane.LaneView.{LaneView, lane_of}
use Rattle.sb_shown.specs.lane.Placed.{conts_of}
use Rattle.sb_shown.proofs.lane.OrderKept.{next-fits, place-kept, place-within}
use Rattle.sb_shown.specs.node.Changes.{HasLane}
use Rattle.sb_shown.specs.node.declared.closing.Closing.{Closing}
use Rattle.sb_shown.specs.work.declared.claim.Claim.{Claim}
use Rattle.sb_shown.proofs.LaneEvents.{put-is}
use Rattle.sb_shared.specs.declared.telling.Hands.{Hands}
use Rattle.sb_shared.specs.declared.telling.Setting.{Setting}
use Rattle.sb_shared.specs.Doings.{close_of, work_of}
use Rattle.sb_shared.specs.Found.{IsFound}
use Rattle.sb_shared.specs.SharedNodes.{SharedView}
use Rattle.sb_shared.specs.Shown.{operator_of}
use Rattle.sb_shared.specs.Views.{held_by}
use Rattle.sb_shared.proofs.entered.FoundLanes.{lane_in_moment, lane_in_part, lane_ok}
use Rattle.sb_shared.proofs.leavings.HeldEvents.{in-hand}
use Rattle.sb_shared.proofs.entered.HeldHere.{close_here, work_here}
use Rattle.sb_shared.proofs.entered.WorkNumbers.{work-number}

-- only a transform of single records gives something for a bundle
pub gives_is_pardo : (op : Operator) (records : List Record) → is_empty (delivery op records) ≡ false → is_pardo op ≡ true
gives_is_pardo (ParDo op) records h = refl
gives_is_pardo (Windowed g) records h = cc
gives_is_pardo Sink records h = cc

module _ (a : Setting) (w : Hands) (k : ℕ) (x : SharedView) (f : IsFound a w k x) where
  -- a lane that a pass finds is in order
  pub order_here : (l : ℕ) (at : LaneView) → HasLane l at x.own → (bound : ℕ) × IsLane bound (lane_of at)
  order_here l at has = (bound_at a.plan k, lane_ok a w k x f l at has)

  module _ (j : ℕ) (d : Down) (under : below a.plan j ≡ Some d) (here : d.node ≡ k) (at : LaneView) (has : HasLane d.lane at x.own) where
    -- the step above it
    abbrev st : Step
    st = (bind_some (slice_get a.plan.steps j) _ d under).0

    is : slice_get a.plan.steps j ≡ Some st
    is = (bind_some (slice_get a.plan.steps j) _ d under).1

    there : lane_at f.moment st.down ≡ Some (lane_of at)
    there =
        ap (lane_at f.moment) (same_Some st.down d (bind_some (slice_get a.plan.steps j) _ d under).2)
        ∙ ap (λ k. slice_get f.moment.nodes k >>= λ y. slice_get y.lanes d.lane) here
        ∙ lane_in_moment a w k x f d.lane (lane_of at) (lane_in_part a w k x f d.lane at has)

  module _ (c : Claim) (out : held_by w ≡ work_of c false ∷ []) (d : Down) (under : below a.plan c.node ≡ Some d) (here : d.node ≡ k) (some : is_empty (delivery (operator_of a c.node) c.bundle.records) ≡ false) (at : LaneView) (has : HasLane d.lane at x.own) where
    -- the epoch of a bundle in hand is not sealed below
    pub open_here : length at.marks ≤ c.bundle.epoch
    open_here =
        let n = not_sealed a.plan f.moment (lawful_of f.sound) c.node c.lane c.bundle.epoch c.bundle.floor c.bundle.number c.bundle.records false (st c.node d under here at has) (work_here a w k x f c false out) (gives_is_pardo (operator_of a c.node) c.bundle.records some) (is c.node d under here at has) in
        let e : epoch_at f.moment (st c.node d under here at has).down ≡ length at.marks = ap epoch_of (there c.node d under here at has) in
        omega (arith, n, e)

    module _ (room : at.arrived < 2 ^ 64 - 1) where
      abbrev given : List Record
      given = delivery (operator_of a c.node) c.bundle.records

      abbrev with : CoreLane
      with = with_arrival c.bundle.epoch c.bundle.floor given (lane_of at)

      abbrev p : Part
      p = only_node (work_of c true ∷ []) (set_lane d.lane with f.part)

      in_it : slice_get f.part.lanes d.lane ≡ Some (lane_of at)
      in_it = lane_in_part a w k x f d.lane at has

      gone : held_after a.plan a.bundle (Deliver c.node c.lane c.bundle.number) (work_of c false) f.part ≡ Some p
      gone =
          chain (below a.plan c.node) _ d _ under
          (passing _ _ _ (ap not some) (put-is d.lane c.bundle.epoch c.bundle.floor given (work_of c true ∷ []) f.part (lane_of at) in_it room))

      found : concerns (Deliver c.node c.lane c.bundle.number) (work_of c false) ≡ true
      found =
          let number_is = ne_eqb c.bundle.number 0 (λ e. let h = work-number a.plan f.moment c.node c.lane c.bundle.epoch c.bundle.floor c.bundle.number c.bundle.records false f.rest f.sound (in-hand a w k x (work_of c false) f out) in absurd (omega (arith, e, h))) in
          (λ i. cond (number_is i) false (eq-eqb c.node c.node refl i && (eq-eqb c.lane c.lane refl i && eq-eqb c.bundle.number c.bundle.number refl i)))

      still : IsSound a.plan (with_part_first k f.rest f.moment p)
      still =
          (held-parts_keep_sound a.plan f.plan f.moment (Deliver c.node c.lane c.bundle.number) (work_of c false) f.rest k f.part p
          (subst (λ (hs : List Held). IsSound a.plan (with_held hs f.moment)) (in-hand a w k x (work_of c false) f out) f.sound) found
          (ap (λ (o : Option Down). o >>= λ d. Some d.node) under ∙ ap (λ n. Some n) here) f.there
          (ap (λ b. held_after a.plan b (Deliver c.node c.lane c.bundle.number) (work_of c false) f.part) f.bundle ∙ gone)).0

      -- the lane below is in order with the container made for it
      pub work_order : (bound : ℕ) × IsLane bound (record (lane_of at) { conts = in_epoch c.bundle.epoch c.bundle.floor (λ c. c) (conts_of at.containers) })
      work_order = (
        bound_at a.plan k,
        place-within (bound_at a.plan k) c.bundle.epoch c.bundle.floor given (lane_of at) (lane_ok a w k x f d.lane at has) open_here
            (still.lanes (record { node = k; lane = d.lane }) with
            (ap (λ (o : Option Node). o >>= λ y. slice_get y.lanes d.lane) (slice_get-set_same f.moment.nodes k f.part p.node f.there) ∙ slice_get-set_same f.part.lanes d.lane (lane_of at) with in_it)),
      )

  module _ (c : Closing) (rows : List Record) (out : held_by w ≡ close_of c rows false ∷ []) (d : Down) (under : below a.plan c.node ≡ Some d) (here : d.node ≡ k) (at : LaneView) (has : HasLane d.lane at x.own) where
    -- the lane below a closing in hand has its serial for its next epoch, and its floor
    pub serial_here : length at.marks ≡ c.serial
    serial_here = sym (ap epoch_of (there c.node d under here at has)) ∙ (close_here a w k x f c rows false out).next_under refl (st c.node d under here at has) (is c.node d under here at has)

    pub floor_here : next_floor (lane_of at) ≡ c.floor
    floor_here = sym (ap floor_of (there c.node d under here at has)) ∙ (close_here a w k x f c rows false out).under refl (st c.node d under here at has) (is c.node d under here at has)

    pub rows_order : (bound : ℕ) × IsLane bound (record (lane_of at) { conts = in_epoch c.serial c.floor (λ c. c) (conts_of at.containers) })
    rows_order =
        let ok = lane_ok a w k x f d.lane at has in
        (bound_at a.plan k, place-kept (bound_at a.plan k) c.serial c.floor (lane_of at) ok (subst (λ z. z) (λ i. FitsEpoch (serial_here i) (floor_here i) (lane_of at)) (next-fits (bound_at a.plan k) (lane_of at) ok)))
