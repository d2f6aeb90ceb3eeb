-- A Take, a finished Work and the end of a closing keep a moment sound.
use Rattle.sb_containers.specs.base.NumberLemmas.{bind_some}
use Rattle.sb_containers.specs.base.ElementLemmas.{All-join, every}
use Rattle.sb_containers.specs.LaneOrder
use Rattle.sb_core.specs.Moments
use Rattle.sb_core.proofs.windows.WindowOperators.{kept-more}
use Rattle.sb_core.proofs.windows.WindowsAt.{windows-at}
use Rattle.sb_core.proofs.sound.Orderly.{lawful_of, tidy_of, sound_of, IsTidy}
use Rattle.std.proofs.Common.{◌≡◌, ℕ, ◌+◌, ◌≤◌, Bool, true, false, not, cond, eqb, List, [], ◌∷◌, ◌++◌, length, drop, Some, sym, refl, ap, subst, ◌∙◌, arith, ⊎_elim, add-zero, zero-add}
use Rattle.std.specs.Prelude.{◌≢◌, ◌&&◌, ◌||◌, count_by, sum_by}
use Rattle.std.specs.List.{slice_get, list_any, AllByRecursion}
use Rattle.std.proofs.lemmas.Bool.{eqb-false, eq-eqb, ne_eqb, cases_eq, eqb-true}
use Rattle.std.proofs.lemmas.List.Sums.{sum_by-cons, sum_by-le-sum_by}
use Rattle.std.proofs.Math.Bool.{and-false}
use Rattle.std.proofs.lemmas.Option.{same_Some}
use Rattle.sb_containers.specs.base.bundle.declared.bundle.Bundle.{Bundle}
use Rattle.sb_containers.specs.declared.container.Cont.{Cont}
use Rattle.sb_containers.specs.declared.container.CoreLane.{CoreLane}
use Rattle.sb_containers.specs.base.pipeline.declared.transform.Down.{Down}
use Rattle.sb_core.specs.declared.moment.Node.{Node}
use Rattle.sb_containers.specs.base.pipeline.declared.transform.Step.{Step}
use Rattle.sb_containers.specs.base.pipeline.Shapes.{Shape}
use Rattle.sb_core.specs.declared.moment.Moment.{Moment}
use Rattle.sb_core.specs.declared.held.Held.{Held}
use Rattle.sb_core.specs.declared.held.Held.TheVariants.{Work, Close}
use Rattle.sb_containers.specs.base.pipeline.Operators.{Operator, operator_at}
use Rattle.sb_containers.specs.base.records.Elements.{on_lane}
use Rattle.sb_containers.specs.base.pipeline.Plans.{IsPlan}
use Rattle.sb_containers.specs.base.OnLaneLemmas.{All-on_lane}
use Rattle.sb_containers.specs.base.pipeline.Operators.Operator.{ParDo, Windowed, Sink}
use Rattle.sb_containers.specs.Marks.{before_closing, begun_count, least_begun_mark, last_of_first, first_is_closing}
use Rattle.sb_core.specs.Moments.{is_work, is_close, lane_at, set_lane, set_node, with_held, node_at, epoch_of}
use Rattle.sb_core.specs.Closings.{kept_elements, is_pardo}
use Rattle.sb_containers.specs.Lanes.{finish_in, next_epoch, take_from}
use Rattle.sb_core.specs.MomentSteps.{after_take, after_finish, after_end}
use Rattle.sb_containers.specs.LaneOrder.{IsLane, IsReady, AreContainers}
use Rattle.sb_core.specs.Soundness.{IsOpenAtSource, out_of, numbers_of, has_cont, IsOpenBelow, AreKeptAt, IsSound}
use Rattle.sb_core.specs.Bounds.{bound_at}
use Rattle.sb_core.specs.Holdings.{IsHeld, is_unpassed, IsCloseOf}
use Rattle.sb_containers.specs.base.SumLemmas.{IsReordered}
use Rattle.sb_containers.proofs.Lists.{cond_is_some}
use Rattle.sb_core.proofs.exact.Gives.{lane_at-parts, with_lane-is}
use Rattle.sb_core.proofs.exact.Nodes.{node_at-set_other, lane_at-is}
use Rattle.sb_containers.proofs.Begun.{begun_mark, work_floor, closed_least}
use Rattle.sb_containers.proofs.LaneLaws.{DifferInBundles, take_from-differ, finish_in-differ}
use Rattle.sb_core.proofs.times.LawfulTimely.{lane_of}
use Rattle.sb_core.proofs.lawful.TakeLawful.{take-lawful}
use Rattle.sb_containers.proofs.Taking.{differ-closing}
use Rattle.sb_core.proofs.exact.AfterExact.{lone}
use Rattle.sb_core.proofs.lawful.EndLawful.{end-lawful, finish-lawful}
use Rattle.sb_containers.proofs.Ending.{shorter, end-mark}
use Rattle.sb_core.proofs.lawful.DeliverLawful.{All-drop}
use Rattle.sb_core.proofs.sound.HeldLists.{every_both, any_gone, any_same, count_gone, count_snoc, none_left, All-last}
use Rattle.sb_core.proofs.sound.TidyLanes.{SameEpochs, numbered-less, taken-sums, finished-sums, finished-none, All-same, has-same, same-differ}
use Rattle.sb_core.proofs.sound.TidyFrame.{closes_still, tidy_still}
use Rattle.sb_core.proofs.sound.PutTidy.{open_moves, lanes_move}

-- ---- a bundle is taken
pub take-sound : (plan : Shape) (is_plan : IsPlan plan) (m m' : Moment) (d : Down) (number : ℕ) → after_take m d number ≡ Some m' → IsSound plan m → IsSound plan m'
take-sound plan is_plan m m' d number h sound =
    let a = bind_some (lane_at m d) _ m' h in
    let b = bind_some (take_from number a.0.conts) _ m' a.2 in
    (sound_of (record { lawful = take-lawful plan m m' d number h (lawful_of sound); tidy = go a.0 b.0 a.1 b.1 b.2 }))
  where
    go : (lane : CoreLane) (q : Bundle × List Cont) → lane_at m d ≡ Some lane → take_from number lane.conts ≡ Some q
        → Moments.with_lane d (record lane { conts = q.1 }) (with_held (m.held ++ Work d.node d.lane q.0.epoch q.0.floor number q.0.records false ∷ []) m) ≡ Some m' → IsTidy plan m'
    go lane q at took h =
        let p = lane_at-parts m d lane at in
        let work : Held = Work d.node d.lane q.0.epoch q.0.floor number q.0.records false in
        let made = with_lane-is (with_held (m.held ++ work ∷ []) m) d p.0 (record lane { conts = q.1 }) m' p.1 h in
        let differ = take_from-differ (bound_at plan d.node) number lane.conts q took in
        let same = same-differ (bound_at plan d.node) lane.conts q.1 differ in
        let begins : begun_count (record lane { conts = q.1 }) ≡ begun_count lane = ap (λ b. cond b (lane.ended + 1) lane.ended) (differ-closing (bound_at plan d.node) lane.conts q.1 differ) in
        let unpassed : (k : ℕ) → list_any (is_unpassed k) (m.held ++ work ∷ []) ≡ list_any (is_unpassed k) m.held = λ k. any_same (is_unpassed k) (m.held ++ work ∷ []) m.held (count_snoc (is_unpassed k) m.held work ∙ add-zero _) in
        let moves : (k next e f : ℕ) → IsOpenBelow (operator_at (slice_get plan.steps k)) (node_at m k).lanes (list_any (is_unpassed k) m.held) next e f
        → IsOpenBelow (operator_at (slice_get plan.steps k)) (node_at (set_node d.node (set_lane d.lane (record lane { conts = q.1 }) p.0) (with_held (m.held ++ work ∷ []) m)) k).lanes (list_any (is_unpassed k) (m.held ++ work ∷ [])) next e f =
        λ k next e f. open_moves (operator_at (slice_get plan.steps k)) (node_at m k).lanes (node_at (set_node d.node (set_lane d.lane (record lane { conts = q.1 }) p.0) (with_held (m.held ++ work ∷ []) m)) k).lanes (list_any (is_unpassed k) m.held) (list_any (is_unpassed k) (m.held ++ work ∷ [])) next e f
        (lanes_move m d.node d.lane p.0 (set_lane d.lane (record lane { conts = q.1 }) p.0) lane (record lane { conts = q.1 }) p.1 p.2 refl (m.held ++ work ∷ []) k e f (λ z. sym (has-same e f lane.conts q.1 same) ∙ z)) (λ u. unpassed k ∙ u) in
        subst (IsTidy plan) made
        (tidy_still plan m d.node d.lane p.0 (set_lane d.lane (record lane { conts = q.1 }) p.0) lane (record lane { conts = q.1 }) p.1 p.2 refl (ap (λ n. last_of_first n lane.marks) begins) (m.held ++ work ∷ []) (tidy_of sound)
        (numbered-less lane (record lane { conts = q.1 }) refl (λ n. omega (arith, (taken-sums number n lane.conts q took).0)) ((tidy_of sound).numbers d lane at))
        (λ i. (taken-sums number i lane.conts q took).1 ∙ (λ z. (tidy_of sound).outs d lane at i z + here_is i z) ∙ sym (count_snoc (is_work d.node d.lane i) m.held work))
        (λ e ne i. count_snoc (is_work e.node e.lane i) m.held work ∙ ap (λ b. count_by (is_work e.node e.lane i) m.held + cond b 1 0) (not_here e ne i) ∙ add-zero _)
        (λ s is. All-same (λ e f. next_epoch lane ≤ e → IsOpenAtSource (next_epoch lane) e f) lane.conts q.1 same ((tidy_of sound).open_source s d lane is at))
        (λ k s is e. every (λ c z b. moves k (next_epoch lane) c.epoch c.floor (z b)) q.1
        (All-same (λ e f. next_epoch lane ≤ e → IsOpenBelow (operator_at (slice_get plan.steps k)) (node_at m k).lanes (list_any (is_unpassed k) m.held) (next_epoch lane) e f) lane.conts q.1 same ((tidy_of sound).open_below k s lane is (ap (lane_at m) e ∙ at))))
        (λ k s under is ne at_under e f b z. moves k (next_epoch under) e f z)
        (λ xs h. h)
        (λ k s own is e lone_is. (tidy_of sound).own_marks k s lane own is (ap (lane_at m) e ∙ at) lone_is)
        is_plan.further (λ all. all)
        (closes_still plan m d.node d.lane p.0 (set_lane d.lane (record lane { conts = q.1 }) p.0) lane (record lane { conts = q.1 }) p.1 p.2 refl (ap (λ n. last_of_first n lane.marks) begins) (m.held ++ work ∷ []) refl (m.held ++ work ∷ []) (All-last (IsCloseOf plan m) m.held work (tidy_of sound).closes tt)))
      where
        here_is : (i : ℕ) → cond {A = ℕ} (eqb number i) 1 0 ≡ cond (eqb d.node d.node && (eqb d.lane d.lane && eqb number i)) 1 0
        here_is i = sym (λ z. cond {A = ℕ} (eq-eqb d.node d.node refl z && (eq-eqb d.lane d.lane refl z && eqb number i)) 1 0)

        not_here : (e : Down) → e ≢ d → (i : ℕ) → (eqb d.node e.node && (eqb d.lane e.lane && eqb number i)) ≡ false
        not_here e ne i = by_case (eqb d.node e.node) (eqb d.lane e.lane) refl refl
          where
            by_case : (a b : Bool) → eqb d.node e.node ≡ a → eqb d.lane e.lane ≡ b → (a && (b && eqb number i)) ≡ false
            by_case true true p q = absurd (ne (sym (λ z. record { node = eqb-true d.node e.node p z; lane = eqb-true d.lane e.lane q z })))
            by_case true false p q = refl
            by_case false b p q = refl

-- ---- a Work is finished
pub out_once : (plan : Shape) (m : Moment) → IsTidy plan m → (d : Down) (lane : CoreLane) → lane_at m d ≡ Some lane → (n : ℕ) → sum_by (out_of n) lane.conts ≤ 1
out_once plan m tidy d lane at n = omega (arith, sum_by-le-sum_by (out_of n) (numbers_of n) lane.conts (λ c. more _ _), (tidy.numbers d lane at).once n)
  where
    more : (a b : ℕ) → b ≤ a + b
    more a b = omega arith

pub finish-sound : (plan : Shape) (is_plan : IsPlan plan) (m m' : Moment) → IsSound plan m → (q : Held × List Held) → IsReordered m.held (q.0 ∷ q.1) → IsHeld plan m q.0 × AllByRecursion (IsHeld plan m) q.1 → IsCloseOf plan m q.0 × AllByRecursion (IsCloseOf plan m) q.1
    → after_finish plan m q.0 q.1 ≡ Some m' → IsSound plan m'
finish-sound plan is_plan m m' sound (Close k l epoch serial floor mark rows passed, others) pulled held closes h = cc
finish-sound plan is_plan m m' sound (Work k l epoch floor number records delivered, others) pulled held closes h =
    let a = bind_some (slice_get m.nodes k) _ m' h in
    let b = bind_some (slice_get a.0.lanes l) _ m' a.2 in
    let c = cond_is_some _ _ m' b.2 in
    subst (IsSound plan) (same_Some _ _ c.1) (go a.0 b.0 a.1 b.1)
  where
    work : Held
    work = Work k l epoch floor number records delivered

    go : (node : Node) (lane : CoreLane) → slice_get m.nodes k ≡ Some node → slice_get node.lanes l ≡ Some lane
        → IsSound plan (with_held others (set_node k (record (set_lane l (record lane { conts = finish_in epoch number lane.conts }) node) { kept = node.kept ++ kept_elements (operator_at (slice_get plan.steps k)) (on_lane l records) }) m))
    go node lane at in_it =
        (sound_of (record {
          lawful = finish-lawful plan m node new lane k l epoch floor number records delivered others at in_it refl refl (lawful_of sound) pulled held.1 once;
          tidy = tidy_still plan m k l node new lane (record lane { conts = finish_in epoch number lane.conts }) at in_it refl (ap (λ n. last_of_first n lane.marks) begins) others (tidy_of sound)
              (numbered-less lane (record lane { conts = finish_in epoch number lane.conts }) refl (λ n. (finished-sums epoch number n lane.conts).0) ((tidy_of sound).numbers place lane was))
              outs_here outs_other
              (λ s is. All-same (λ e f. next_epoch lane ≤ e → IsOpenAtSource (next_epoch lane) e f) lane.conts (finish_in epoch number lane.conts) same ((tidy_of sound).open_source s place lane is was))
              (λ j s is e. every (λ c z b. moves j (next_epoch lane) c.epoch c.floor (z b)) (finish_in epoch number lane.conts)
              (All-same (λ e f. next_epoch lane ≤ e → IsOpenBelow (operator_at (slice_get plan.steps j)) (node_at m j).lanes (list_any (is_unpassed j) m.held) (next_epoch lane) e f) lane.conts (finish_in epoch number lane.conts) same ((tidy_of sound).open_below j s lane is (ap (lane_at m) e ∙ was))))
              (λ j s under is ne at_under e f b z. moves j (next_epoch under) e f z)
              (λ xs h. h)
              (λ j s own is e lone_is. (tidy_of sound).own_marks j s lane own is (ap (lane_at m) e ∙ was) lone_is)
              is_plan.further
              (by_operator (operator_at (slice_get plan.steps k)) refl)
              (closes_still plan m k l node new lane (record lane { conts = finish_in epoch number lane.conts }) at in_it refl (ap (λ n. last_of_first n lane.marks) begins) others refl others closes.1);
        }))
      where
        new : Node
        new = record (set_lane l (record lane { conts = finish_in epoch number lane.conts }) node) { kept = node.kept ++ kept_elements (operator_at (slice_get plan.steps k)) (on_lane l records) }

        place : Down
        place = record { node = k; lane = l }

        was : lane_at m (record { node = k; lane = l }) ≡ Some lane
        was = lane_at-is m (record { node = k; lane = l }) node lane at in_it

        is_lane : held.0.lane ≡ lane
        is_lane = same_Some held.0.lane lane (sym held.0.there ∙ was)

        ok : IsLane (bound_at plan k) lane
        ok = (lawful_of sound).lanes (record { node = k; lane = l }) lane was

        differ : DifferInBundles (bound_at plan k) lane.conts (finish_in epoch number lane.conts)
        differ = finish_in-differ (bound_at plan k) epoch number lane.conts

        same : SameEpochs lane.conts (finish_in epoch number lane.conts)
        same = same-differ (bound_at plan k) lane.conts (finish_in epoch number lane.conts) (finish_in-differ (bound_at plan k) epoch number lane.conts)

        begins : begun_count (record lane { conts = finish_in epoch number lane.conts }) ≡ begun_count lane
        begins = ap (λ b. cond b (lane.ended + 1) lane.ended) (differ-closing (bound_at plan k) lane.conts (finish_in epoch number lane.conts) (finish_in-differ (bound_at plan k) epoch number lane.conts))

        once : count_by (is_work k l number) m.held ≤ 1
        once = omega (arith, out_once plan m (tidy_of sound) (record { node = k; lane = l }) lane was number, (tidy_of sound).outs (record { node = k; lane = l }) lane was number)

        this_one : is_work k l number (Work k l epoch floor number records delivered) ≡ true
        this_one = λ i. eq-eqb k k refl i && (eq-eqb l l refl i && eq-eqb number number refl i)

        outs_here : (i : ℕ) → sum_by (out_of i) (finish_in epoch number lane.conts) ≡ count_by (is_work k l i) others
        outs_here i = ⊎_elim
            (λ e. ap (λ i. sum_by (out_of i) (finish_in epoch number lane.conts)) e
            ∙ finished-none epoch number lane.conts held.0.cont (ap (λ (x : CoreLane). LaneOrder.cont_at epoch x.conts) (sym is_lane) ∙ held.0.of_epoch) held.0.is_out (out_once plan m (tidy_of sound) (record { node = k; lane = l }) lane was number)
            ∙ none_now ∙ ap (λ i. count_by (is_work k l i) others) (sym e))
            (λ ne. (finished-sums epoch number i lane.conts).1 ne ∙ (tidy_of sound).outs (record { node = k; lane = l }) lane was i ∙ count_gone (is_work k l i) m.held others (Work k l epoch floor number records delivered) pulled
            ∙ ap (λ b. cond b 1 0 + count_by (is_work k l i) others) (other_number i ne) ∙ zero-add _) (cases_eq i number)
          where
            none_now : 0 ≡ count_by (is_work k l number) others
            none_now = let g = count_gone (is_work k l number) m.held others (Work k l epoch floor number records delivered) pulled in let c : cond {A = ℕ} (is_work k l number (Work k l epoch floor number records delivered)) 1 0 ≡ 1 = ap (λ b. cond {A = ℕ} b 1 0) this_one in omega (arith, once)

            other_number : (i : ℕ) → i ≢ number → (eqb k k && (eqb l l && eqb number i)) ≡ false
            other_number i ne = (λ z. eq-eqb k k refl z && (eq-eqb l l refl z && ne_eqb number i (λ e. ne (sym e)) z))

        outs_other : (d : Down) → d ≢ record { node = k; lane = l } → (i : ℕ) → count_by (is_work d.node d.lane i) others ≡ count_by (is_work d.node d.lane i) m.held
        outs_other d ne i = sym (count_gone (is_work d.node d.lane i) m.held others (Work k l epoch floor number records delivered) pulled ∙ ap (λ b. cond b 1 0 + count_by (is_work d.node d.lane i) others) (by_case (eqb k d.node) (eqb l d.lane) refl refl) ∙ zero-add _)
          where
            by_case : (a b : Bool) → eqb k d.node ≡ a → eqb l d.lane ≡ b → (a && (b && eqb number i)) ≡ false
            by_case true true p q = absurd (ne (sym (λ z. record { node = eqb-true k d.node p z; lane = eqb-true l d.lane q z })))
            by_case true false p q = refl
            by_case false b p q = refl

        moves : (j next e f : ℕ) → IsOpenBelow (operator_at (slice_get plan.steps j)) (node_at m j).lanes (list_any (is_unpassed j) m.held) next e f
            → IsOpenBelow (operator_at (slice_get plan.steps j)) (node_at (set_node k new (with_held others m)) j).lanes (list_any (is_unpassed j) others) next e f
        moves j next e f =
            open_moves (operator_at (slice_get plan.steps j)) (node_at m j).lanes (node_at (set_node k new (with_held others m)) j).lanes (list_any (is_unpassed j) m.held) (list_any (is_unpassed j) others) next e f
            (lanes_move m k l node new lane (record lane { conts = finish_in epoch number lane.conts }) at in_it refl others j e f (λ z. sym (has-same e f lane.conts (finish_in epoch number lane.conts) same) ∙ z))
            (λ u. any_gone (is_unpassed j) m.held others (Work k l epoch floor number records delivered) pulled refl ∙ u)

        -- the Work's records are from the closed mark on
        late : least_begun_mark node.lanes ≤ floor
        late =
            let a : least_begun_mark node.lanes ≤ begun_mark lane = closed_least node.lanes l lane in_it in
            let b : begun_mark lane ≤ held.0.cont.floor = work_floor (bound_at plan k) lane ok epoch number held.0.cont (ap (λ (x : CoreLane). LaneOrder.cont_at epoch x.conts) (sym is_lane) ∙ held.0.of_epoch) held.0.is_out in
            omega (arith, held.0.floor_is)

        in_time : AllByRecursion (λ e. (least_begun_mark node.lanes ≤ e.rec.time) × (e.rec.time ≤ bound_at plan k)) (on_lane l records)
        in_time = All-on_lane (λ r. (least_begun_mark node.lanes ≤ r.time) × (r.time ≤ bound_at plan k)) l records (every (λ r w. (omega (arith, late, w.0), w.1)) records held.0.times)

        by_operator : (o : Operator) → operator_at (slice_get plan.steps k) ≡ o → AreKeptAt o (least_begun_mark node.lanes) (bound_at plan k) node.kept → AreKeptAt o (least_begun_mark node.lanes) (bound_at plan k) (node.kept ++ kept_elements o (on_lane l records))
        by_operator (ParDo op) e all = All-join (λ e. ⊥) node.kept [] all tt
        by_operator (Windowed g) e all = kept-more (windows-at plan is_plan k g e) (least_begun_mark node.lanes) (bound_at plan k) node.kept (on_lane l records) in_time all
        by_operator Sink e all = All-join (λ e. (least_begun_mark node.lanes ≤ e.rec.time) × (e.rec.time ≤ bound_at plan k)) node.kept (on_lane l records) all in_time

-- ---- a closing ends
-- what has an epoch after the first container's is still there
end-has : (bound : ℕ) (lane : CoreLane) → IsLane bound lane → first_is_closing lane.conts ≡ true → (e f : ℕ) → lane.ended + 1 ≤ e → has_cont e f lane ≡ true → has_cont e f (shorter lane) ≡ true
end-has bound lane ok closing e f later = go lane.conts (drop lane.ended lane.marks) ok.containers closing
  where
    go : (cs : List Cont) (ms : List ℕ) → AreContainers bound lane.ended (last_of_first lane.ended lane.marks) ms cs → first_is_closing cs ≡ true → list_any (λ c. (eqb c.epoch e) && (eqb c.floor f)) cs ≡ true → list_any (λ c. (eqb c.epoch e) && (eqb c.floor f)) (drop 1 cs) ≡ true
    go [] ms are c h = cc
    go (x ∷ cs) [] are c h = let k : false ≡ true = sym are.0.not_closing ∙ c in cc
    go (x ∷ cs) (m ∷ ms) are c h = ap (λ b. (b && eqb x.floor f) || list_any (λ c. (eqb c.epoch e) && (eqb c.floor f)) cs) (sym (ne_eqb x.epoch e (λ q. absurd (omega (arith, are.0.epoch_is))))) ∙ h

drop_sum : (g : Cont → ℕ) (cs : List Cont) → sum_by g (drop 1 cs) ≤ sum_by g cs
drop_sum g [] = omega arith
drop_sum g (c ∷ cs) = omega (arith, sum_by-cons g c cs)

-- the container that goes has nothing out
end-outs : (i : ℕ) (cs : List Cont) → IsReady cs → first_is_closing cs ≡ true → sum_by (out_of i) (drop 1 cs) ≡ sum_by (out_of i) cs
end-outs i [] ready c = refl
end-outs i (x ∷ cs) ready c = let k : out_of i x ≡ 0 = ap (count_by (λ n. eqb n i)) (ready c).1 in sym (sum_by-cons (out_of i) x cs ∙ (λ z. k z + sum_by (out_of i) cs) ∙ zero-add _)

none_any : {X : Type 0} (p : X → Bool) (xs : List X) → AllByRecursion (λ x. p x ≡ false) xs → list_any p xs ≡ false
none_any p [] all = refl
none_any p (x ∷ xs) all = (λ i. all.0 i || list_any p xs) ∙ none_any p xs all.1

pub end-sound : (plan : Shape) (is_plan : IsPlan plan) (m m' : Moment) → IsSound plan m → (q : Held × List Held) → IsReordered m.held (q.0 ∷ q.1) → IsHeld plan m q.0 × AllByRecursion (IsHeld plan m) q.1 → IsCloseOf plan m q.0 × AllByRecursion (IsCloseOf plan m) q.1
    → after_end m q.0 q.1 ≡ Some m' → IsSound plan m'
end-sound plan is_plan m m' sound (Work k l epoch floor number records delivered, others) pulled held closes h = cc
end-sound plan is_plan m m' sound (Close y l epoch serial floor mark rows passed, others) pulled held closes h =
    let a = bind_some (lane_at m (record { node = y; lane = l })) _ m' h in
    let c = cond_is_some passed _ m' a.2 in
    let p = lane_at-parts m (record { node = y; lane = l }) a.0 a.1 in
    subst (IsSound plan) (with_lane-is (with_held others m) (record { node = y; lane = l }) p.0 (shorter a.0) m' p.1 c.1)
    (go p.0 a.0 p.1 p.2 (subst (λ (x : CoreLane). first_is_closing x.conts ≡ true) (same_Some held.0.lane a.0 (sym held.0.there ∙ a.1)) held.0.closing)
    (λ f. pulled f ∙ ap (λ b. sum_by f (Close y l epoch serial floor mark rows b ∷ others)) c.0))
  where
    go : (node : Node) (lane : CoreLane) → slice_get m.nodes y ≡ Some node → slice_get node.lanes l ≡ Some lane → first_is_closing lane.conts ≡ true → IsReordered m.held (Close y l epoch serial floor mark rows true ∷ others)
        → IsSound plan (set_node y (set_lane l (shorter lane) node) (with_held others m))
    go node lane at in_it closing first =
        (sound_of (record {
          lawful = end-lawful plan m node lane y l epoch serial floor mark rows others at in_it (lawful_of sound) first held.1 closing;
          tidy = tidy_still plan m y l node (set_lane l (shorter lane) node) lane (shorter lane) at in_it refl (end-mark (bound_at plan y) lane ok closing) others (tidy_of sound)
              (numbered-less lane (shorter lane) refl (λ n. drop_sum (numbers_of n) lane.conts) ((tidy_of sound).numbers (record { node = y; lane = l }) lane was))
              (λ i. end-outs i lane.conts ok.ready closing ∙ (tidy_of sound).outs (record { node = y; lane = l }) lane was i ∙ sym (works y l i))
              (λ d ne i. works d.node d.lane i)
              (λ s is. All-drop (λ c. next_epoch lane ≤ c.epoch → IsOpenAtSource (next_epoch lane) c.epoch c.floor) 1 lane.conts ((tidy_of sound).open_source s (record { node = y; lane = l }) lane is was))
              (λ k s is e. every (λ c z b. moves k s lane is (ap (lane_at m) e ∙ was) c.epoch c.floor b (z b)) (drop 1 lane.conts)
              (All-drop (λ c. next_epoch lane ≤ c.epoch → IsOpenBelow (operator_at (slice_get plan.steps k)) (node_at m k).lanes (list_any (is_unpassed k) m.held) (next_epoch lane) c.epoch c.floor) 1 lane.conts ((tidy_of sound).open_below k s lane is (ap (lane_at m) e ∙ was))))
              (λ k s under is ne at_under e f b z. moves k s under is at_under e f b z)
              (λ xs h. h)
              (λ k s own is e lone_is. (tidy_of sound).own_marks k s lane own is (ap (lane_at m) e ∙ was) lone_is)
              is_plan.further (λ all. all) closes_now;
        }))
      where
        was : lane_at m (record { node = y; lane = l }) ≡ Some lane
        was = lane_at-is m (record { node = y; lane = l }) node lane at in_it

        ok : IsLane (bound_at plan y) lane
        ok = (lawful_of sound).lanes (record { node = y; lane = l }) lane was

        after : Moment
        after = set_node y (set_lane l (shorter lane) node) (with_held others m)

        works : (k j i : ℕ) → count_by (is_work k j i) others ≡ count_by (is_work k j i) m.held
        works k j i = let g : count_by (is_work k j i) m.held ≡ 0 + count_by (is_work k j i) others = count_gone (is_work k j i) m.held others (Close y l epoch serial floor mark rows true) first in omega arith

        same_unpassed : (k : ℕ) → list_any (is_unpassed k) others ≡ list_any (is_unpassed k) m.held
        same_unpassed k = any_gone (is_unpassed k) m.held others (Close y l epoch serial floor mark rows true) first (and-false (eqb y k))

        left : AllByRecursion (λ h. is_close y h ≡ false) others
        left = none_left (is_close y) m.held others (Close y l epoch serial floor mark rows true) first ((lawful_of sound).one_close y) (eq-eqb y y refl)

        -- the others are of other nodes
        closes_now : AllByRecursion (IsCloseOf plan (set_node y (set_lane l (shorter lane) node) (with_held others m))) others
        closes_now = every_both one others closes.1 left
          where
            one : (h : Held) → IsCloseOf plan m h → is_close y h ≡ false → IsCloseOf plan (set_node y (set_lane l (shorter lane) node) (with_held others m)) h
            one (Work k i e f n rs b) h z = h
            one (Close k i e s f c rs b) h z = (h.0, h.1 ∙ ap (λ (x : Node). before_closing x.lanes) (sym (node_at-set_other m y node (set_lane l (shorter lane) node) at k (eqb-false k y z))))

        -- the node's only Close is passed
        none_unpassed : list_any (is_unpassed y) m.held ≡ false
        none_unpassed = sym (same_unpassed y) ∙ none_any (is_unpassed y) others (every (λ h z. no_close h z) others (none_left (is_close y) m.held others (Close y l epoch serial floor mark rows true) first ((lawful_of sound).one_close y) (eq-eqb y y refl)))
          where
            no_close : (h : Held) → is_close y h ≡ false → is_unpassed y h ≡ false
            no_close (Work k i e f n rs b) z = refl
            no_close (Close k i e s f c rs b) z = ap (λ a. a && not b) z

        moves : (k : ℕ) (s : Step) (under : CoreLane) → slice_get plan.steps k ≡ Some s → lane_at m s.down ≡ Some under → (e f : ℕ) → next_epoch under ≤ e
            → IsOpenBelow (operator_at (slice_get plan.steps k)) (node_at m k).lanes (list_any (is_unpassed k) m.held) (next_epoch under) e f
            → IsOpenBelow (operator_at (slice_get plan.steps k)) (node_at (set_node y (set_lane l (shorter lane) node) (with_held others m)) k).lanes (list_any (is_unpassed k) others) (next_epoch under) e f
        moves k s under is at_under e f b z = by_operator (operator_at (slice_get plan.steps k)) refl z
          where
            by_operator : (o : Operator) → operator_at (slice_get plan.steps k) ≡ o → IsOpenBelow o (node_at m k).lanes (list_any (is_unpassed k) m.held) (next_epoch under) e f
                → IsOpenBelow o (node_at (set_node y (set_lane l (shorter lane) node) (with_held others m)) k).lanes (list_any (is_unpassed k) others) (next_epoch under) e f
            by_operator (Windowed g) q z = (same_unpassed k ∙ z.0, z.1)
            by_operator Sink q z = z
            by_operator (ParDo op) q z = ⊎_elim
                (λ i. lanes_move m y l node (set_lane l (shorter lane) node) lane (shorter lane) at in_it refl others k e f (end-has (bound_at plan y) lane ok closing e f (later i)) z)
                (λ ne. ap (λ (x : Node). list_any (has_cont e f) x.lanes) (node_at-set_other m y node (set_lane l (shorter lane) node) at k ne) ∙ z) (cases_eq k y)
              where
                later : k ≡ y → lane.ended + 1 ≤ e
                later i =
                    let one : length (node_at m y).lanes ≡ 1 = ap (λ k. length (node_at m k).lanes) (sym i) ∙ (lawful_of sound).one_lane k (ap is_pardo q) in
                    let many : (node_at m y).closings ≡ begun_count lane = (lawful_of sound).closings y ∙ lone (node_at m y).lanes l lane one (lane_of plan m (lawful_of sound) y l lane was) in
                    let begins : begun_count lane ≡ lane.ended + 1 = ap (λ b. cond b (lane.ended + 1) lane.ended) closing in
                    let next : next_epoch under ≡ (node_at m k).closings = sym (ap epoch_of at_under) ∙ ((lawful_of sound).below k s is).as_many (ap (λ k. list_any (is_unpassed k) m.held) i ∙ none_unpassed) in
                    let same : (node_at m k).closings ≡ (node_at m y).closings = ap (λ k. (node_at m k).closings) i in
                    omega arith
