-- What a transform of single records gives goes to where its container is linked.
use Rattle.std.proofs.Common.{◌≡◌, ℕ, ◌-◌, ◌^◌, ◌≤◌, ◌<◌, Bool, true, false, not, cond, eqb, List, [], ◌∷◌, length, Some, None, Option, sym, refl, ap, subst, ◌∙◌, arith}
use Rattle.std.specs.Prelude.{◌&&◌}
use Rattle.std.specs.List.{slice_get}
use Rattle.std.specs.Option.{option_map}
use Rattle.std.proofs.lemmas.Bool.{eq-eqb, ne_eqb}
use Rattle.std.proofs.lemmas.Option.{same_Some, slice_get_within}
use Rattle.sb_shown.specs.base.bundle.declared.bundle.Bundle.{Bundle}
use Rattle.sb_shown.specs.base.records.declared.item.Record.{Record}
use Rattle.sb_shown.specs.base.records.Reading.{◌>>=◌}
use Rattle.sb_shown.specs.base.pipeline.declared.transform.Step.{Step}
use Rattle.sb_shown.specs.base.pipeline.declared.transform.Down.{Down}
use Rattle.sb_shown.specs.base.pipeline.Shapes.{Shape}
use Rattle.sb_shown.specs.base.pipeline.Plans.{IsPlan}
use Rattle.sb_shown.specs.base.pipeline.Operators.{Operator, operator_at, lanes_of}
use Rattle.sb_shown.specs.base.pipeline.Operators.Operator.{ParDo, Windowed, Sink}
use Rattle.sb_shown.specs.core.containers.declared.container.Cont.{Cont}
use Rattle.sb_shown.specs.core.containers.declared.container.CoreLane.{CoreLane}
use Rattle.sb_shown.specs.core.declared.moment.Node.{Node}
use Rattle.sb_shown.specs.core.declared.held.Held.{Held}
use Rattle.sb_shown.specs.core.declared.event.Event.TheVariants.{Deliver}
use Rattle.sb_shown.specs.core.Bounds.{bound_at}
use Rattle.sb_shown.specs.core.containers.Choices.{is_empty}
use Rattle.sb_shown.specs.core.Closings.{delivery, is_pardo}
use Rattle.sb_shown.specs.core.Events.{after, below}
use Rattle.sb_shown.specs.core.Holdings.{IsWork}
use Rattle.sb_shown.specs.core.containers.LaneOrder.{IsLane, cont_at}
use Rattle.sb_shown.specs.core.containers.Lanes.{in_epoch, with_arrival}
use Rattle.sb_shown.specs.core.Laws.{concerns}
use Rattle.sb_shown.specs.core.Moments.{epoch_at, epoch_of, lane_at, set_lane, with_held}
use Rattle.sb_shown.specs.core.Parts.{Part, held_after, only_node, put_in, with_part}
use Rattle.sb_shown.specs.core.Soundness.{IsSound}
use Rattle.sb_shown.proofs.core.exact.AfterExact.{not_sealed}
use Rattle.sb_shown.proofs.core.sound.AfterSound.{events-keep_sound}
use Rattle.sb_shown.proofs.core.exact.Nodes.{slice_get-set_same}
use Rattle.sb_shown.proofs.core.sound.Orderly.{lawful_of}
use Rattle.sb_shown.proofs.core.parts.PartsLaw.{held-parts_are_events}
use Rattle.sb_shown.specs.lane.Changes.{StandsAt}
use Rattle.sb_shown.specs.lane.LaneView.{LaneView, lane_of, link_at}
use Rattle.sb_shown.specs.lane.Links.{Link, down_of, link_of, link_in, links_of}
use Rattle.sb_shown.specs.lane.Placed.{Placed, conts_of}
use Rattle.sb_shown.proofs.lane.OrderKept.{place-within}
use Rattle.sb_shown.specs.node.declared.state.NodeState.{NodeState}
use Rattle.sb_shown.specs.Linking.{AreLinked, place_in}
use Rattle.sb_hand.specs.Runs.{work_of}
use Rattle.sb_shown.specs.Sets.{HasLane}
use Rattle.sb_shown.specs.Showing.{CanStand, ShowsNode}
use Rattle.sb_shown.proofs.Steps.{below-is, step-of}
use Rattle.sb_hand.proofs.Finishes.{the_work}
use Rattle.sb_hand.proofs.Having.{finds, lanes-are}
use Rattle.sb_shown.proofs.LaneEvents.{put-is}
use Rattle.sb_shown.proofs.LinkLists.{down-in}
use Rattle.sb_hand.proofs.Numbers.{work_number}
use Rattle.sb_shown.proofs.OpenBelow.{lane-shown, lane-ok}
use Rattle.sb_hand.proofs.Outputs.{pardo-within}
use Rattle.sb_shown.proofs.Single.{chain, passing, there-too, get-map}

one_lane_of : (o : Operator) → is_pardo o ≡ true → lanes_of o ≡ 1
one_lane_of (ParDo op) h = refl
one_lane_of (Windowed g) h = cc
one_lane_of Sink h = cc

cont-link : (epoch : ℕ) (xs : List Placed) (c : Cont) → cont_at epoch (conts_of xs) ≡ Some c → (k : Link) × (link_in epoch (links_of xs) ≡ Some k)
cont-link epoch [] c h = cc
cont-link epoch (x ∷ xs) c h = by_case (eqb x.cont.epoch epoch) h (λ z. cont-link epoch xs c z)
  where
    by_case : (b : Bool) → cond b (Some x.cont) (cont_at epoch (conts_of xs)) ≡ Some c → (cont_at epoch (conts_of xs) ≡ Some c → (k : Link) × (link_in epoch (links_of xs) ≡ Some k)) → (k : Link) × (cond b (Some (link_of x)) (link_in epoch (links_of xs)) ≡ Some k)
    by_case true h ih = (link_of x, refl)
    by_case false h ih = ih h

placed : (epoch place : ℕ) (xs : List Placed) → place_in epoch (links_of xs) ≡ Some place → StandsAt epoch place xs
placed epoch place xs h = by_link (link_in epoch (links_of xs)) refl h
  where
    by_link : (o : Option Link) → link_in epoch (links_of xs) ≡ o → option_map (λ (k : Link). k.place) o ≡ Some place → StandsAt epoch place xs
    by_link None e h = cc
    by_link (Some k) e h = record { link = k; there = e; place_is = same_Some k.place place h }

unplaced : (epoch : ℕ) (links : List Link) → place_in epoch links ≡ None → link_in epoch links ≡ None
unplaced epoch links h = by_link (link_in epoch links) refl h
  where
    by_link : (o : Option Link) → link_in epoch links ≡ o → option_map (λ (k : Link). k.place) o ≡ None → o ≡ None
    by_link None e h = refl
    by_link (Some k) e h = cc

module _ (plan : Shape) (is_plan : IsPlan plan) (size : ℕ) (old : List NodeState) (k l : ℕ) (b : Bundle) (can : CanStand plan size old (work_of k l b false ∷ [])) (pardo : is_pardo (operator_at (slice_get plan.steps k)) ≡ true) where
  work : IsWork plan can.moment k l b.epoch b.floor b.number b.records false
  work = the_work plan can.moment can.stands.sound k l b.epoch b.floor b.number b.records false can.stands.held_is

  -- the lane of the work, which is the node's only one, with the link of its container
  pub record Own : Type 0 where
    pub lane : LaneView
    pub has : HasLane k 0 lane old
    pub link : Link
    pub linked : link_at b.epoch lane ≡ Some link

  pub own : Own
  own =
      let f = finds plan size old (work_of k l b false ∷ []) can.rows can.moment can.stands (record { node = k; lane = l }) work.lane work.there in
      let within = pardo-within plan.steps k pardo in
      let n = lanes-are plan size old (work_of k l b false ∷ []) can.rows can.moment can.stands k f.has.own (omega arith) f.has.there in
      let first : l ≡ 0 = omega (arith, slice_get_within f.has.own.lanes.items l f.lane f.has.in_it, n, one_lane_of (operator_at (slice_get plan.steps k)) pardo) in
      let x = cont-link b.epoch f.lane.containers work.cont (ap (λ (c : CoreLane). cont_at b.epoch c.conts) f.lane_is ∙ work.of_epoch) in
      record { lane = f.lane; has = subst (λ z. HasLane k z f.lane old) first f.has; link = x.0; linked = x.1 }

  module _ (d : Down) (down : option_map (λ (s : Step). s.down) (slice_get plan.steps k) ≡ Some d) (under : LaneView) (has : HasLane d.node d.lane under old) where
    abbrev st : Step
    st = (step-of plan.steps k d down).0

    abbrev is : slice_get plan.steps k ≡ Some st
    is = (step-of plan.steps k d down).1

    abbrev goes : st.down ≡ d
    goes = (step-of plan.steps k d down).2

    shown : lane_at can.moment d ≡ Some (lane_of under)
    shown = lane-shown plan is_plan size old (work_of k l b false ∷ []) can.rows can.moment can.stands d.node d.lane under has

    -- its epoch is not sealed below
    pub not-sealed : length under.marks ≤ b.epoch
    not-sealed =
        let n = not_sealed plan can.moment (lawful_of can.stands.sound) k l b.epoch b.floor b.number b.records false st work pardo is in
        let e : epoch_at can.moment st.down ≡ length under.marks = ap (epoch_at can.moment) goes ∙ ap epoch_of shown in
        omega (arith, n, e)

    pub order : IsLane (bound_at plan d.node) (lane_of under)
    order = lane-ok plan is_plan size old (work_of k l b false ∷ []) can.rows can.moment can.stands d.node d.lane under has

    leads : AreLinked plan old → own.link.down ≡ place_in b.epoch (links_of under.containers)
    leads linked = linked.leads k st own.lane under is pardo own.has (subst (λ (x : Down). HasLane x.node x.lane under old) (sym goes) has) b.epoch own.link own.linked not-sealed

    pub there : AreLinked plan old → (place : ℕ) → down_of b.epoch (links_of own.lane.containers) ≡ Some place → StandsAt b.epoch place under.containers
    there linked place h = placed b.epoch place under.containers (sym (leads linked) ∙ sym (down-in b.epoch (links_of own.lane.containers) own.link own.linked) ∙ h)

    pub none : AreLinked plan old → down_of b.epoch (links_of own.lane.containers) ≡ None → link_in b.epoch (links_of under.containers) ≡ None
    none linked h = unplaced b.epoch (links_of under.containers) (sym (leads linked) ∙ sym (down-in b.epoch (links_of own.lane.containers) own.link own.linked) ∙ h)

    -- the lane below is in order with the container made
    pub placed-order : (given : List Record) → given ≡ delivery (operator_at (slice_get plan.steps k)) b.records → is_empty given ≡ false → under.arrived < 2 ^ 64 - 1 → IsLane (bound_at plan d.node) (record (lane_of under) { conts = in_epoch b.epoch b.floor (λ c. c) (conts_of under.containers) })
    placed-order given gives some room =
        place-within (bound_at plan d.node) b.epoch b.floor given (lane_of under) order not-sealed
        (sound.lanes d with (ap (λ (o : Option Node). o >>= λ x. slice_get x.lanes d.lane) (slice_get-set_same can.moment.nodes d.node at.0 p.node at.1) ∙ slice_get-set_same at.0.lanes d.lane (lane_of under) with in_it))
      where
        with : CoreLane
        with = with_arrival b.epoch b.floor given (lane_of under)

        at : (n : Node) × (slice_get can.moment.nodes d.node ≡ Some n)
        at = there-too old can.moment.nodes d.node has.own can.stands.count has.there

        sh : ShowsNode (operator_at (slice_get plan.steps d.node)) has.own at.0
        sh = can.stands.each d.node has.own at.0 has.there at.1

        in_it : slice_get at.0.lanes d.lane ≡ Some (lane_of under)
        in_it = ap (λ ls. slice_get ls d.lane) sh.lanes ∙ get-map lane_of has.own.lanes.items d.lane under has.in_it

        done : List Held
        done = work_of k l b true ∷ []

        p : Part
        p = only_node done (set_lane d.lane with at.0)

        to : below plan k ≡ Some d
        to = below-is plan k st is ∙ ap (λ x. Some x) goes

        gone : held_after plan size (Deliver k l b.number) (work_of k l b false) at.0 ≡ Some p
        gone =
            chain (below plan k) _ d _ to
            (passing _ _ _ (ap (λ x. not (is_empty x)) (sym gives) ∙ ap not some)
            (ap (λ x. put_in d.lane b.epoch b.floor x done at.0) (sym gives)
            ∙ put-is d.lane b.epoch b.floor given done at.0 (lane_of under) in_it room))

        found : concerns (Deliver k l b.number) (work_of k l b false) ≡ true
        found =
            let number_is : eqb b.number 0 ≡ false = ne_eqb b.number 0 (λ e. let h = work_number plan can.moment can.stands.sound k l b.epoch b.floor b.number b.records false can.stands.held_is in absurd (omega arith)) in
            (λ i. cond (number_is i) false (eq-eqb k k refl i && (eq-eqb l l refl i && eq-eqb b.number b.number refl i)))

        later : after plan can.moment (Deliver k l b.number) ≡ Some (with_part d.node [] can.moment p)
        later =
            let same : with_held (work_of k l b false ∷ []) can.moment ≡ can.moment = λ i. record can.moment { held = sym can.stands.held_is i } in
            ap (λ z. after plan z (Deliver k l b.number)) (sym same)
            ∙ held-parts_are_events plan can.moment (Deliver k l b.number) (work_of k l b false) [] d.node at.0 p found (ap (λ (o : Option Down). o >>= λ d. Some d.node) to) at.1
            (ap (λ z. held_after plan z (Deliver k l b.number) (work_of k l b false) at.0) can.stands.bundle_is ∙ gone)

        sound : IsSound plan (with_part d.node [] can.moment p)
        sound = (events-keep_sound plan is_plan can.moment (with_part d.node [] can.moment p) (Deliver k l b.number) later can.stands.sound).0
