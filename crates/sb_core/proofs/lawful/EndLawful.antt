-- A closing ends, a Work is finished: the moment stays lawful.
use Rattle.std.proofs.Common.{◌≡◌, ℕ, ◌+◌, ◌≤◌, Bool, true, false, cond, eqb, List, ◌∷◌, Some, sym, refl, ap, ◌∙◌, arith, ⊎_elim}
use Rattle.std.specs.Prelude.{◌≢◌, ◌⊎◌, ◌&&◌, count_by, slice_set}
use Rattle.std.specs.List.{slice_get, list_any, AllByRecursion}
use Rattle.std.proofs.lemmas.Bool.{eq-eqb, ne_eqb, cases_eq, eqb-false}
use Rattle.std.proofs.Math.Bool.{and-false}
use Rattle.std.proofs.lemmas.Option.{same_Some}
use Rattle.sb_containers.specs.base.records.declared.item.Record.{Record}
use Rattle.sb_containers.specs.declared.container.CoreLane.{CoreLane}
use Rattle.sb_containers.specs.base.pipeline.declared.transform.Down.{Down}
use Rattle.sb_core.specs.declared.moment.Node.{Node}
use Rattle.sb_containers.specs.base.pipeline.Shapes.{Shape}
use Rattle.sb_core.specs.declared.moment.Moment.{Moment}
use Rattle.sb_core.specs.declared.held.Held.{Held}
use Rattle.sb_core.specs.declared.held.Held.TheVariants.{Work, Close}
use Rattle.sb_containers.specs.Marks.{begun_count, first_is_closing, last_of_first}
use Rattle.sb_containers.specs.Lanes.{finish_in}
use Rattle.sb_core.specs.Moments.{is_work, is_close, is_close_of, lane_at, set_lane, set_node, with_held, floor_of, floor_at, epoch_of, epoch_at}
use Rattle.sb_containers.specs.LaneOrder.{IsLane}
use Rattle.sb_core.specs.Bounds.{bound_at}
use Rattle.sb_core.specs.Holdings.{IsHeld, is_unpassed}
use Rattle.sb_core.proofs.sound.Orderly.{IsLawful}
use Rattle.sb_containers.specs.base.SumLemmas.{IsReordered}
use Rattle.sb_containers.proofs.LaneLaws.{DifferInBundles, containers-differ, finish_in-differ}
use Rattle.sb_core.proofs.exact.Nodes.{lane_at-is, lane_at-cases, lane_at-there}
use Rattle.sb_containers.proofs.Begun.{begun_mark}
use Rattle.sb_containers.proofs.Taking.{differ-closing, differ-tail, finish-ready, finish-out}
use Rattle.sb_core.proofs.sound.HeldLists.{any_gone, count_gone, none_left, every_both}
use Rattle.sb_core.proofs.lawful.Changed.{work_still, close_still, below_still, lawful_still}
use Rattle.sb_containers.proofs.Ending.{shorter, end-calm, end-begun, end-mark, end-lane, end-out}

-- ---- a closing ends
pub end-lawful : (plan : Shape) (m : Moment) (node : Node) (lane : CoreLane) (y l epoch serial floor mark : ℕ) (rows : List Record) (others : List Held)
    → slice_get m.nodes y ≡ Some node → slice_get node.lanes l ≡ Some lane → IsLawful plan m → IsReordered m.held (Close y l epoch serial floor mark rows true ∷ others) → AllByRecursion (IsHeld plan m) others
    → first_is_closing lane.conts ≡ true → IsLawful plan (set_node y (set_lane l (shorter lane) node) (with_held others m))
end-lawful plan m node lane y l epoch serial floor mark rows others at in_it lawful pulled holds closing =
    lawful_still plan m y l node (set_lane l (shorter lane) node) lane (shorter lane) at in_it refl others refl begins marks lawful
    (end-lane (bound_at plan y) lane ok closing)
    (every_both one others holds left)
    (λ k. omega (arith, count_gone (is_close k) m.held others (Close y l epoch serial floor mark rows true) pulled, lawful.one_close k))
    closing_left
    (λ k s is. below_still plan m y l node (set_lane l (shorter lane) node) lane (shorter lane) at in_it refl others refl begins marks k s
    (any_gone (is_unpassed k) m.held others (Close y l epoch serial floor mark rows true) pulled (and-false (eqb y k))) (floors s.down) (epochs s.down) (lawful.below k s is))
  where
    was : lane_at m (record { node = y; lane = l }) ≡ Some lane
    was = lane_at-is m (record { node = y; lane = l }) node lane at in_it

    ok : IsLane (bound_at plan y) lane
    ok = lawful.lanes (record { node = y; lane = l }) lane was

    begins : begun_count (shorter lane) ≡ begun_count lane
    begins = end-begun (bound_at plan y) lane ok closing

    marks : begun_mark (shorter lane) ≡ begun_mark lane
    marks = end-mark (bound_at plan y) lane ok closing

    after : Moment
    after = set_node y (set_lane l (shorter lane) node) (with_held others m)

    by_place : (e : Down) → ((e ≡ record { node = y; lane = l }) × (lane_at after e ≡ Some (shorter lane)) × (lane_at m e ≡ Some lane)) ⊎ (lane_at after e ≡ lane_at m e)
    by_place e = lane_at-cases m y l node (set_lane l (shorter lane) node) lane (shorter lane) at in_it refl e

    floors : (e : Down) → floor_at after e ≡ floor_at m e
    floors e = ⊎_elim (λ c. ap floor_of c.1 ∙ sym (ap floor_of c.2)) (λ c. ap floor_of c) (by_place e)

    epochs : (e : Down) → epoch_at after e ≡ epoch_at m e
    epochs e = ⊎_elim (λ c. ap epoch_of c.1 ∙ sym (ap epoch_of c.2)) (λ c. ap epoch_of c) (by_place e)

    left : AllByRecursion (λ h. is_close y h ≡ false) others
    left = none_left (is_close y) m.held others (Close y l epoch serial floor mark rows true) pulled (lawful.one_close y) (eq-eqb y y refl)

    one : (h : Held) → IsHeld plan m h → is_close y h ≡ false → IsHeld plan after h
    one (Work k i epoch floor number records delivered) h no_close =
        work_still plan m y l node (set_lane l (shorter lane) node) lane (shorter lane) at in_it refl others k i epoch floor number records delivered h (λ e o. end-out (bound_at plan y) lane ok closing epoch floor number o)
    one (Close k i epoch serial floor c rows passed) h no_close =
        close_still plan m y l node (set_lane l (shorter lane) node) lane (shorter lane) at in_it refl others refl begins marks k i epoch serial floor c rows passed h
        (λ e. absurd (eqb-false k y no_close (ap (λ (d : Down). d.node) e))) (λ p s is. (floors s.down, epochs s.down))

    closing_left : (d : Down) (x : CoreLane) → lane_at after d ≡ Some x → first_is_closing x.conts ≡ true → list_any (is_close_of d.node d.lane) others ≡ true
    closing_left d x h c = ⊎_elim (λ e. ⊎_elim (λ f. here e f) (λ ne. there (λ k. ne (ap (λ (d : Down). d.lane) k)) (and_right ne)) (cases_eq d.lane l)) (λ ne. there (λ k. ne (ap (λ (d : Down). d.node) k)) (and_left ne)) (cases_eq d.node y)
      where
        here : d.node ≡ y → d.lane ≡ l → list_any (is_close_of d.node d.lane) others ≡ true
        here e f =
            let k : d ≡ record { node = y; lane = l } = λ i. record { node = e i; lane = f i } in
            let z : lane_at after d ≡ Some (shorter lane) = ap (lane_at after) k ∙ lane_at-there m y l node (set_lane l (shorter lane) node) lane (shorter lane) at in_it refl in
            let n : false ≡ true = sym (end-calm (bound_at plan y) lane ok closing) ∙ ap (λ (x : CoreLane). first_is_closing x.conts) (same_Some (shorter lane) x (sym z ∙ h)) ∙ c in cc

        there : d ≢ record { node = y; lane = l } → (eqb y d.node && eqb l d.lane) ≡ false → list_any (is_close_of d.node d.lane) others ≡ true
        there ne nope =
            any_gone (is_close_of d.node d.lane) m.held others (Close y l epoch serial floor mark rows true) pulled nope
            ∙ ⊎_elim (λ z. absurd (ne z.0)) (λ z. lawful.closing_held d x (sym z ∙ h) c) (by_place d)

        and_left : d.node ≢ y → (eqb y d.node && eqb l d.lane) ≡ false
        and_left ne = ap (λ b. b && eqb l d.lane) (ne_eqb y d.node (λ e. ne (sym e)))

        and_right : d.lane ≢ l → (eqb y d.node && eqb l d.lane) ≡ false
        and_right ne = ap (λ b. eqb y d.node && b) (ne_eqb l d.lane (λ e. ne (sym e))) ∙ and-false (eqb y d.node)

pub finish-lawful : (plan : Shape) (m : Moment) (node new : Node) (lane : CoreLane) (k l epoch floor number : ℕ) (records : List Record) (delivered : Bool) (others : List Held)
    → slice_get m.nodes k ≡ Some node → slice_get node.lanes l ≡ Some lane → new.lanes ≡ slice_set node.lanes l (record lane { conts = finish_in epoch number lane.conts }) → new.closings ≡ node.closings
    → IsLawful plan m → IsReordered m.held (Work k l epoch floor number records delivered ∷ others) → AllByRecursion (IsHeld plan m) others
    → count_by (is_work k l number) m.held ≤ 1 → IsLawful plan (set_node k new (with_held others m))
finish-lawful plan m node new lane k l epoch floor number records delivered others at in_it lanes closings lawful pulled holds once =
    lawful_still plan m k l node new lane (record lane { conts = finish_in epoch number lane.conts }) at in_it lanes others closings begins marks lawful
    (record { ended_in = ok.ended_in; rising = ok.rising; containers = containers-differ (bound_at plan k) lane.ended _ _ lane.conts (finish_in epoch number lane.conts) differ ok.containers; ready = finish-ready epoch number lane.conts ok.ready; others = differ-tail (bound_at plan k) lane.conts (finish_in epoch number lane.conts) differ ok.others })
    (every_both one others holds left)
    (λ j. omega (arith, count_gone (is_close j) m.held others (Work k l epoch floor number records delivered) pulled, lawful.one_close j))
    (λ d x h c. any_gone (is_close_of d.node d.lane) m.held others (Work k l epoch floor number records delivered) pulled refl ∙ ⊎_elim
    (λ y. lawful.closing_held d lane y.2 (sym closing ∙ ap (λ (x : CoreLane). first_is_closing x.conts) (same_Some (record lane { conts = finish_in epoch number lane.conts }) x (sym y.1 ∙ h)) ∙ c))
    (λ y. lawful.closing_held d x (sym y ∙ h) c) (by_place d))
    (λ j s is. below_still plan m k l node new lane (record lane { conts = finish_in epoch number lane.conts }) at in_it lanes others closings begins marks j s
    (any_gone (is_unpassed j) m.held others (Work k l epoch floor number records delivered) pulled refl) (floors s.down) (epochs s.down) (lawful.below j s is))
  where
    was : lane_at m (record { node = k; lane = l }) ≡ Some lane
    was = lane_at-is m (record { node = k; lane = l }) node lane at in_it

    ok : IsLane (bound_at plan k) lane
    ok = lawful.lanes (record { node = k; lane = l }) lane was

    differ : DifferInBundles (bound_at plan k) lane.conts (finish_in epoch number lane.conts)
    differ = finish_in-differ (bound_at plan k) epoch number lane.conts

    closing : first_is_closing (finish_in epoch number lane.conts) ≡ first_is_closing lane.conts
    closing = differ-closing (bound_at plan k) lane.conts (finish_in epoch number lane.conts) differ

    begins : begun_count (record lane { conts = finish_in epoch number lane.conts }) ≡ begun_count lane
    begins = ap (λ b. cond b (lane.ended + 1) lane.ended) closing

    marks : begun_mark (record lane { conts = finish_in epoch number lane.conts }) ≡ begun_mark lane
    marks = ap (λ n. last_of_first n lane.marks) begins

    after : Moment
    after = set_node k new (with_held others m)

    by_place : (e : Down) → ((e ≡ record { node = k; lane = l }) × (lane_at after e ≡ Some (record lane { conts = finish_in epoch number lane.conts })) × (lane_at m e ≡ Some lane)) ⊎ (lane_at after e ≡ lane_at m e)
    by_place e = lane_at-cases m k l node new lane (record lane { conts = finish_in epoch number lane.conts }) at in_it lanes e

    floors : (e : Down) → floor_at after e ≡ floor_at m e
    floors e = ⊎_elim (λ c. ap floor_of c.1 ∙ sym (ap floor_of c.2)) (λ c. ap floor_of c) (by_place e)

    epochs : (e : Down) → epoch_at after e ≡ epoch_at m e
    epochs e = ⊎_elim (λ c. ap epoch_of c.1 ∙ sym (ap epoch_of c.2)) (λ c. ap epoch_of c) (by_place e)

    left : AllByRecursion (λ h. is_work k l number h ≡ false) others
    left = none_left (is_work k l number) m.held others (Work k l epoch floor number records delivered) pulled once (λ i. eq-eqb k k refl i && (eq-eqb l l refl i && eq-eqb number number refl i))

    one : (h : Held) → IsHeld plan m h → is_work k l number h ≡ false → IsHeld plan after h
    one (Work j i e f other rs sent) h nope =
        work_still plan m k l node new lane (record lane { conts = finish_in epoch number lane.conts }) at in_it lanes others j i e f other rs sent h
        (λ p o. finish-out epoch number e f other lane.conts o.0 (differs p) o.1 o.2 o.3)
      where
        differs : ◌≡◌ {A = Down} (record { node = j; lane = i }) (record { node = k; lane = l }) → other ≢ number
        differs p e =
            let n : true ≡ false = sym (λ z. eq-eqb j k (ap (λ (d : Down). d.node) p) z && (eq-eqb i l (ap (λ (d : Down). d.lane) p) z && eq-eqb other number e z)) ∙ nope in cc
    one (Close j i e serial f c rows passed) h nope =
        close_still plan m k l node new lane (record lane { conts = finish_in epoch number lane.conts }) at in_it lanes others closings begins marks j i e serial f c rows passed h
        (λ p. (closing, refl)) (λ p s is. (floors s.down, epochs s.down))
