-- A seal and a passed mark keep a moment sound.
use Rattle.sb_containers.specs.base.NumberLemmas.{bind_some}
use Rattle.sb_containers.specs.base.ElementLemmas.{every}
use Rattle.sb_core.specs.Moments
use Rattle.sb_containers.specs.base.FeedingLemmas as Feeding
use Rattle.sb_core.proofs.sound.Orderly.{lawful_of, tidy_of, sound_of, IsLawful, IsTidy}
use Rattle.std.proofs.Common.{◌≡◌, ℕ, suc, zero, ◌+◌, ◌-◌, ◌≤◌, ◌<◌, Bool, true, false, not, cond, eqb, List, [], ◌∷◌, ◌++◌, length, Some, sym, refl, ap, subst, ◌∙◌, arith, get_or, length-append}
use Rattle.std.specs.Prelude.{◌≢◌, ◌&&◌, nat_le, count_by, sum_by}
use Rattle.std.specs.List.{slice_get, list_any, AllByRecursion}
use Rattle.std.proofs.lemmas.Bool.{ne_eqb, not-true, and_parts}
use Rattle.std.proofs.lemmas.Option.{same_Some}
use Rattle.sb_containers.specs.declared.container.Cont.{Cont}
use Rattle.sb_containers.specs.declared.container.CoreLane.{CoreLane}
use Rattle.sb_containers.specs.base.records.declared.item.Stream.{Stream}
use Rattle.sb_containers.specs.base.pipeline.declared.transform.Down.{Down}
use Rattle.sb_core.specs.declared.moment.Node.{Node}
use Rattle.sb_containers.specs.base.pipeline.declared.transform.Step.{Step}
use Rattle.sb_containers.specs.base.pipeline.Shapes.{Shape, source}
use Rattle.sb_core.specs.declared.moment.Moment.{Moment}
use Rattle.sb_core.specs.declared.held.Held.{Held}
use Rattle.sb_core.specs.declared.held.Held.TheVariants.{Work, Close}
use Rattle.sb_containers.specs.base.pipeline.Operators.{Operator, operator_at}
use Rattle.sb_containers.specs.base.pipeline.Plans.{IsPlan}
use Rattle.sb_containers.specs.base.pipeline.Operators.Operator.{ParDo, Windowed, Sink}
use Rattle.sb_containers.specs.Marks.{begun_count, last_of_first}
use Rattle.sb_core.specs.Moments.{is_work, lane_at, set_lane, set_node, with_held, node_at, floor_of, floor_at, epoch_of, epoch_at}
use Rattle.sb_containers.specs.Choices.{is_empty}
use Rattle.sb_containers.specs.Lanes.{next_epoch, next_floor, with_seal}
use Rattle.sb_core.specs.Events.{below}
use Rattle.sb_core.specs.MomentSteps.{after_seal, after_pass}
use Rattle.sb_containers.specs.base.records.declared.item.TheConstants.{END_MARK}
use Rattle.sb_containers.specs.LaneOrder.{IsLane}
use Rattle.sb_core.specs.Bounds.{bound_at}
use Rattle.sb_core.specs.Closings.{is_pardo}
use Rattle.sb_core.specs.Holdings.{IsClosing, IsHeld, is_unpassed, IsCloseOf}
use Rattle.sb_core.specs.Soundness.{has_cont, Begins, IsOpenAtSource, IsOpenBelow, IsSound}
use Rattle.sb_containers.specs.base.SumLemmas.{IsReordered}
use Rattle.sb_containers.proofs.Lists.{cond_is_some, empty_is}
use Rattle.sb_core.proofs.exact.Gives.{lane_at-parts, with_lane-is}
use Rattle.sb_core.proofs.exact.Nodes.{lane_at-is}
use Rattle.sb_containers.proofs.Begun.{begun_mark, begun_within, last_of_first-longer}
use Rattle.sb_containers.proofs.LaneLaws.{MarkFits}
use Rattle.sb_core.proofs.times.LawfulTimely.{lane_of}
use Rattle.sb_core.proofs.exact.EventExact.{nat_le-le, below-is}
use Rattle.sb_containers.proofs.Sealing.{seal_calm, marks_fit}
use Rattle.sb_core.proofs.exact.AfterExact.{lone}
use Rattle.sb_containers.proofs.Ordered.{closing_fits, has_one}
use Rattle.sb_core.proofs.lawful.SealLawful.{seal-lawful, pass-lawful}
use Rattle.sb_core.proofs.sound.PutSound.{lone_has, lone_closed}
use Rattle.sb_core.proofs.sound.HeldLists.{any_swap, count_swap, All-last}
use Rattle.sb_core.proofs.sound.TidyLanes.{numbered-less, numbered-seal, outs-seal, All-in_epoch, has-in_epoch}
use Rattle.sb_core.proofs.sound.TidyFrame.{closes_still, tidy_still}
use Rattle.sb_core.proofs.sound.PutTidy.{open_moves, lanes_move}

begins-longer : (mark : ℕ) (xs ms : List ℕ) → Begins xs ms → Begins xs (ms ++ mark ∷ [])
begins-longer mark [] ms h = tt
begins-longer mark (x ∷ xs) [] h = absurd h
begins-longer mark (x ∷ xs) (m ∷ ms) h = (h.0, begins-longer mark xs ms h.1)

begins-more : (xs ms : List ℕ) → Begins xs ms → length xs < length ms → Begins (xs ++ get_or ms (length xs) 0 ∷ []) ms
begins-more [] [] h b = absurd (omega arith)
begins-more [] (m ∷ ms) h b = (refl, tt)
begins-more (x ∷ xs) [] h b = absurd h
begins-more (x ∷ xs) (m ∷ ms) h b = (h.0, begins-more xs ms h.1 (omega arith))

-- after a seal
later_open : (o : Operator) (lanes later : List CoreLane) (unpassed then : Bool) (next after e f : ℕ) → (list_any (has_cont e f) lanes ≡ true → list_any (has_cont e f) later ≡ true) → next + 1 ≡ after → after ≤ e
    → IsOpenBelow o lanes unpassed next e f → IsOpenBelow o later then after e f
later_open (ParDo op) lanes later unpassed then next after e f has n b h = has h
later_open (Windowed g) lanes later unpassed then next after e f has n b h = absurd (let k : e ≡ next = h.1 in omega arith)
later_open Sink lanes later unpassed then next after e f has n b h = h

pub seal-tidy : (plan : Shape) (is_plan : IsPlan plan) (m : Moment) (d : Down) (node : Node) (lane : CoreLane) (mark : ℕ) (held : List Held)
    → slice_get m.nodes d.node ≡ Some node → slice_get node.lanes d.lane ≡ Some lane → IsLawful plan m → next_floor lane ≤ mark → MarkFits mark (next_epoch lane) lane.conts → IsTidy plan m
    → ((k l i : ℕ) → count_by (is_work k l i) held ≡ count_by (is_work k l i) m.held)
    → ((k : ℕ) (s : Step) → slice_get plan.steps k ≡ Some s → s.down ≢ d → list_any (is_unpassed k) m.held ≡ true → list_any (is_unpassed k) held ≡ true)
    → ((k : ℕ) (s : Step) (own : CoreLane) → slice_get plan.steps k ≡ Some s → s.down ≡ d → (node_at m k).lanes ≡ own ∷ [] → Begins (lane.marks ++ mark ∷ []) own.marks)
    → AllByRecursion (IsCloseOf plan m) held
    → IsTidy plan (set_node d.node (set_lane d.lane (with_seal mark lane) node) (with_held held m))
seal-tidy plan is_plan m d node lane mark held at in_it lawful up fits tidy works unpassed marks_here closes =
    tidy_still plan m d.node d.lane node (set_lane d.lane (with_seal mark lane) node) lane (with_seal mark lane) at in_it refl (seal_calm (bound_at plan d.node) mark lane ok) held tidy
    (numbered-less lane (with_seal mark lane) refl (λ n. omega (arith, numbered-seal mark n lane)) (tidy.numbers d lane was))
    (λ i. outs-seal mark i lane ∙ tidy.outs d lane was i ∙ sym (works d.node d.lane i))
    (λ e ne i. works e.node e.lane i)
    (λ s is. All-in_epoch (next_epoch lane) (next_floor lane) change (λ c. refl) (λ c. refl) (λ e f. length (lane.marks ++ mark ∷ []) ≤ e → IsOpenAtSource (length (lane.marks ++ mark ∷ [])) e f) (λ b. absurd (omega (arith, more))) lane.conts
    (every (λ c z b. absurd (let k : c.epoch ≡ next_epoch lane = (z (omega (arith, more))).0 in omega (arith, more))) lane.conts (tidy.open_source s d lane is was)))
    (λ k s is e. All-in_epoch (next_epoch lane) (next_floor lane) change (λ c. refl) (λ c. refl)
    (λ e f. length (lane.marks ++ mark ∷ []) ≤ e → IsOpenBelow (operator_at (slice_get plan.steps k)) (node_at after k).lanes (list_any (is_unpassed k) held) (length (lane.marks ++ mark ∷ [])) e f)
    (λ b. absurd (omega (arith, more))) lane.conts
    (every (λ c z b. later_open (operator_at (slice_get plan.steps k)) (node_at m k).lanes (node_at after k).lanes (list_any (is_unpassed k) m.held) (list_any (is_unpassed k) held) (next_epoch lane) (length (lane.marks ++ mark ∷ [])) c.epoch c.floor
    (moves k c.epoch c.floor) (sym more) b (z (omega (arith, more)))) lane.conts (tidy.open_below k s lane is (ap (lane_at m) e ∙ was))))
    (λ k s under is ne at_under e f b z. open_moves (operator_at (slice_get plan.steps k)) (node_at m k).lanes (node_at after k).lanes (list_any (is_unpassed k) m.held) (list_any (is_unpassed k) held) (next_epoch under) e f (moves k e f) (unpassed k s is ne) z)
    (λ xs h. begins-longer mark xs lane.marks h)
    marks_here is_plan.further (λ all. all)
    (closes_still plan m d.node d.lane node (set_lane d.lane (with_seal mark lane) node) lane (with_seal mark lane) at in_it refl (seal_calm (bound_at plan d.node) mark lane ok) held (last_of_first-longer lane.ended mark lane.marks ok.ended_in) held closes)
  where
    change : Cont → Cont
    change c = record c { mark = Some mark }

    after : Moment
    after = set_node d.node (set_lane d.lane (with_seal mark lane) node) (with_held held m)

    more : length (lane.marks ++ mark ∷ []) ≡ length lane.marks + 1
    more = length-append lane.marks (mark ∷ [])

    was : lane_at m d ≡ Some lane
    was = lane_at-is m d node lane at in_it

    ok : IsLane (bound_at plan d.node) lane
    ok = lawful.lanes d lane was

    moves : (k e f : ℕ) → list_any (has_cont e f) (node_at m k).lanes ≡ true → list_any (has_cont e f) (node_at (set_node d.node (set_lane d.lane (with_seal mark lane) node) (with_held held m)) k).lanes ≡ true
    moves k e f = lanes_move m d.node d.lane node (set_lane d.lane (with_seal mark lane) node) lane (with_seal mark lane) at in_it refl held k e f (has-in_epoch (next_epoch lane) (next_floor lane) (λ c. record c { mark = Some mark }) (λ c. refl) (λ c. refl) e f lane.conts)

-- ---- a stream's lane is sealed
pub seal-sound : (plan : Shape) (is_plan : IsPlan plan) (m m' : Moment) (s : Stream) (mark : ℕ) → after_seal plan m s mark ≡ Some m' → IsSound plan m → IsSound plan m'
seal-sound plan is_plan m m' s mark h sound =
    let a = bind_some (source plan s) _ m' h in
    let b = bind_some (lane_at m a.0) _ m' a.2 in
    let c = cond_is_some _ _ m' b.2 in
    go a.0 b.0 a.1 b.1 c.0 c.1
  where
    go : (d : Down) (lane : CoreLane) → source plan s ≡ Some d → lane_at m d ≡ Some lane → (nat_le mark END_MARK && nat_le (next_floor lane) mark) ≡ true → Moments.with_lane d (with_seal mark lane) m ≡ Some m' → IsSound plan m'
    go d lane is at test h =
        let p = lane_at-parts m d lane at in
        let made = with_lane-is m d p.0 (with_seal mark lane) m' p.1 h in
        let up : next_floor lane ≤ mark = nat_le-le (next_floor lane) mark (and_parts (nat_le mark END_MARK) (nat_le (next_floor lane) mark) test).1 in
        let fits : MarkFits mark (next_epoch lane) lane.conts = marks_fit mark (next_epoch lane) lane.conts (every (λ c z b. (z b).0) lane.conts ((tidy_of sound).open_source s d lane is at)) in
        subst (IsSound plan) made ((sound_of (record {
          lawful = seal-lawful plan m d p.0 lane mark p.1 p.2 (lawful_of sound) up fits (λ k t it. Feeding.sources_apart plan is_plan s d k t is it);
          tidy = seal-tidy plan is_plan m d p.0 lane mark m.held p.1 p.2 (lawful_of sound) up fits (tidy_of sound) (λ k l i. refl) (λ k t it ne u. u) (λ k t own it e lone. absurd (Feeding.sources_apart plan is_plan s d k t is it e)) (tidy_of sound).closes;
        })))

-- ---- a mark is passed
pub pass-sound : (plan : Shape) (is_plan : IsPlan plan) (m m' : Moment) → IsSound plan m → (q : Held × List Held) → IsReordered m.held (q.0 ∷ q.1) → IsHeld plan m q.0 × AllByRecursion (IsHeld plan m) q.1 → IsCloseOf plan m q.0 × AllByRecursion (IsCloseOf plan m) q.1
    → after_pass plan m q.0 q.1 ≡ Some m' → IsSound plan m'
pass-sound plan is_plan m m' sound (Work k l epoch floor number records delivered, others) pulled held closes h = cc
pass-sound plan is_plan m m' sound (Close y l epoch serial floor mark rows passed, others) pulled held closes h =
    let a = bind_some (below plan y) _ m' h in
    let b = bind_some (lane_at m a.0) _ m' a.2 in
    let c = cond_is_some (not passed && is_empty rows) _ m' b.2 in
    let d = below-is plan y a.0 a.1 in
    let t = and_parts (not passed) (is_empty rows) c.0 in
    go a.0 b.0 d.0 d.1 d.2 b.1 (not-true passed t.0) (empty_is rows t.1) c.1
  where
    lawful : IsLawful plan m
    lawful = (lawful_of sound)

    -- the open containers below fit the mark
    fit : (o : Operator) → operator_at (slice_get plan.steps y) ≡ o → (close : IsClosing plan m y l epoch serial floor mark rows false) → (next : ℕ) → next ≡ serial → (conts : List Cont)
        → AllByRecursion (λ c. next ≤ c.epoch → IsOpenBelow o (node_at m y).lanes (list_any (is_unpassed y) m.held) next c.epoch c.floor) conts → MarkFits mark next conts
    fit (Windowed g) e close next n conts all = marks_fit mark next conts (every (λ c z b. (z b).1) conts all)
    fit Sink e close next n conts all = every (λ c z b. absurd (z (omega arith))) conts all
    fit (ParDo op) e close next n conts all =
        let own : IsLane (bound_at plan y) close.lane = lawful.lanes (record { node = y; lane = l }) close.lane close.there in
        let one : length (node_at m y).lanes ≡ 1 = lawful.one_lane y (ap is_pardo e) in
        let in_node : slice_get (node_at m y).lanes l ≡ Some close.lane = lane_of plan m lawful y l close.lane close.there in
        let many : (node_at m y).closings ≡ begun_count close.lane = lawful.closings y ∙ lone (node_at m y).lanes l close.lane one in_node in
        let begins : begun_count close.lane ≡ close.lane.ended + 1 = ap (λ b. cond b (close.lane.ended + 1) close.lane.ended) close.closing in
        let ended : next ≡ close.lane.ended = omega (arith, close.serial_is) in
        let mark_is : mark ≡ begun_mark close.lane = close.mark_is ∙ lone_closed plan is_plan m m sound (node_at m y).lanes l close.lane one in_node in
        every (λ c z b.
        let has = sym (lone_has plan is_plan m m sound (node_at m y).lanes l c.epoch c.floor close.lane one in_node) ∙ z (omega arith) in
        let k = has_one (λ e f. close.lane.ended < e → (begun_mark close.lane ≤ f) × (e ≡ close.lane.ended + 1 → f ≡ begun_mark close.lane)) c.epoch c.floor close.lane.conts (closing_fits (bound_at plan y) close.lane own close.closing) has (omega arith) in
        (omega (arith, k.0), λ q. k.1 (omega arith) ∙ sym mark_is)) conts all

    -- the marks below, with this one, begin those of the lane
    marks : (close : IsClosing plan m y l epoch serial floor mark rows false) (s : Step) (lane own : CoreLane) → slice_get plan.steps y ≡ Some s → lane_at m s.down ≡ Some lane → next_epoch lane ≡ serial → (node_at m y).lanes ≡ own ∷ [] → Begins (lane.marks ++ mark ∷ []) own.marks
    marks close s lane own is at n lone_is =
        let in_node : slice_get (node_at m y).lanes l ≡ Some close.lane = lane_of plan m lawful y l close.lane close.there in
        let one : length (node_at m y).lanes ≡ 1 = ap length lone_is in
        let many : (node_at m y).closings ≡ begun_count close.lane = lawful.closings y ∙ lone (node_at m y).lanes l close.lane one in_node in
        let same : own ≡ close.lane = only own l close.lane (ap (λ ls. slice_get ls l) (sym lone_is) ∙ in_node) in
        let within : begun_count close.lane ≤ length close.lane.marks = begun_within (bound_at plan y) close.lane (lawful.lanes (record { node = y; lane = l }) close.lane close.there) in
        let old : Begins lane.marks own.marks = (tidy_of sound).own_marks y s lane own is at lone_is in
        let begins : begun_count close.lane ≡ length lane.marks + 1 = omega (arith, close.serial_is) in
        let mark_is : mark ≡ get_or own.marks (length lane.marks) 0 =
        close.mark_is ∙ lone_closed plan is_plan m m sound (node_at m y).lanes l close.lane one in_node ∙ ap (λ n. last_of_first n close.lane.marks) begins ∙ last_is (length lane.marks) close.lane.marks ∙ ap (λ (x : CoreLane). get_or x.marks (length lane.marks) 0) (sym same) in
        subst (λ z. Begins (lane.marks ++ z ∷ []) own.marks) (sym mark_is) (begins-more lane.marks own.marks old (subst (λ (x : CoreLane). length lane.marks < length x.marks) (sym same) (omega arith)))
      where
        only : (own : CoreLane) (l : ℕ) (lane : CoreLane) → slice_get (own ∷ []) l ≡ Some lane → own ≡ lane
        only own zero lane h = same_Some own lane h
        only own (suc l) lane h = cc

        last_is : (n : ℕ) (ms : List ℕ) → last_of_first (n + 1) ms ≡ get_or ms n 0
        last_is n ms = ap (λ b. cond b 0 (get_or ms (n + 1 - 1) 0)) (ne_eqb (n + 1) 0 (λ e. absurd (omega arith))) ∙ ap (λ j. get_or ms j 0) (less n)
          where
            less : (n : ℕ) → n + 1 - 1 ≡ n
            less n = omega arith

    go : (d : Down) (lane : CoreLane) (s : Step) → slice_get plan.steps y ≡ Some s → s.down ≡ d → lane_at m d ≡ Some lane → passed ≡ false → rows ≡ []
        → Moments.with_lane d (with_seal mark lane) (with_held (others ++ Close y l epoch serial floor mark rows true ∷ []) m) ≡ Some m' → IsSound plan m'
    go d lane s is down at unpassed none h =
        let p = lane_at-parts m d lane at in
        let done : List Held = others ++ Close y l epoch serial floor mark rows true ∷ [] in
        let made = with_lane-is (with_held done m) d p.0 (with_seal mark lane) m' p.1 h in
        let close : IsClosing plan m y l epoch serial floor mark rows false = subst (λ b. IsClosing plan m y l epoch serial floor mark rows b) unpassed held.0 in
        let first : IsReordered m.held (Close y l epoch serial floor mark rows false ∷ others) = λ f. pulled f ∙ ap (λ b. sum_by f (Close y l epoch serial floor mark rows b ∷ others)) unpassed in
        let next : next_epoch lane ≡ serial = sym (ap epoch_of at) ∙ ap (epoch_at m) (sym down) ∙ close.next_under refl s is in
        let low : next_floor lane ≡ floor = sym (ap floor_of at) ∙ ap (floor_at m) (sym down) ∙ close.under refl s is in
        let up : next_floor lane ≤ mark = omega (arith, close.rises) in
        let under : lane_at m s.down ≡ Some lane = ap (lane_at m) down ∙ at in
        let fits : MarkFits mark (next_epoch lane) lane.conts = fit (operator_at (slice_get plan.steps y)) refl close (next_epoch lane) next lane.conts ((tidy_of sound).open_below y s lane is under) in
        subst (IsSound plan) made ((sound_of (record {
          lawful = pass-lawful plan is_plan m d p.0 lane y l epoch serial floor mark rows others s p.1 p.2 lawful first held.1 close none is down up fits;
          tidy = seal-tidy plan is_plan m d p.0 lane mark done p.1 p.2 lawful up fits (tidy_of sound)
              (λ k i j. count_swap (is_work k i j) m.held others (Close y l epoch serial floor mark rows false) (Close y l epoch serial floor mark rows true) first refl)
              (λ k t it ne u. any_swap (is_unpassed k) m.held others (Close y l epoch serial floor mark rows false) (Close y l epoch serial floor mark rows true) first
              (other_node k (λ e. ne (ap (λ (t : Step). t.down) (same_Some t s (sym it ∙ ap (slice_get plan.steps) e ∙ is)) ∙ down))) ∙ u)
              (λ k t own it e lone_is. marks close s lane own is under next (ap (λ k. (node_at m k).lanes) (Feeding.apart plan is_plan y k s t is it (down ∙ sym e)) ∙ lone_is))
              (All-last (IsCloseOf plan m) others (Close y l epoch serial floor mark rows true) closes.1 ((closes.0.0.0, ((λ _. refl), closes.0.0.1.1)), closes.0.1));
        })))
      where
        other_node : (k : ℕ) → k ≢ y → (eqb y k && not true) ≡ (eqb y k && not false)
        other_node k ne = ap (λ b. b && not true) (ne_eqb y k (λ e. ne (sym e))) ∙ sym (ap (λ b. b && not false) (ne_eqb y k (λ e. ne (sym e))))
