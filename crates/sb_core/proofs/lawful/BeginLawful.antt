-- A closing begins: the moment stays lawful.
use Rattle.sb_containers.specs.base.ElementLemmas.{All-passed}
use Rattle.sb_containers.specs.base.EarlierLemmas.{at_least-high}
use Rattle.sb_containers.specs.base.SortingLemmas.{All-in_order}
use Rattle.std.proofs.Common.{◌≡◌, ℕ, suc, zero, ◌+◌, ◌≤◌, ◌<◌, Bool, true, false, not, cond, eqb, List, [], ◌∷◌, ◌++◌, length, drop, Some, Option, sym, refl, ap, subst, ◌∙◌, arith, ⊎_elim, length-drop, set as slice_set, length-set}
use Rattle.std.specs.Prelude.{◌&&◌, ◌||◌, ◌≢◌, ◌⊎◌, count_by, sum_by, nat_lt, is_some}
use Rattle.std.specs.List.{slice_get, list_any, AllByRecursion}
use Rattle.std.proofs.lemmas.Bool.{eq-eqb, ne_eqb, cases_eq, eqb-true, eqb-false, ltb-true, ltb-false, and_parts, or_parts}
use Rattle.std.proofs.lemmas.List.Sums.{sum_by-append}
use Rattle.std.proofs.lemmas.List.Folds.{list_any-append}
use Rattle.std.proofs.Math.Bool.{or-true}
use Rattle.std.proofs.lemmas.Option.{same_Some}
use Rattle.sb_containers.specs.base.records.declared.item.Record.{Record}
use Rattle.sb_containers.specs.declared.container.Cont.{Cont}
use Rattle.sb_containers.specs.declared.container.CoreLane.{CoreLane}
use Rattle.sb_containers.specs.base.pipeline.declared.transform.Down.{Down}
use Rattle.sb_core.specs.declared.moment.Node.{Node}
use Rattle.sb_containers.specs.base.pipeline.declared.transform.Step.{Step}
use Rattle.sb_containers.specs.base.pipeline.Shapes.{Shape}
use Rattle.sb_core.specs.declared.moment.Moment.{Moment}
use Rattle.sb_core.specs.declared.held.Held.{Held}
use Rattle.sb_core.specs.declared.held.Held.TheVariants.{Work, Close}
use Rattle.sb_containers.specs.base.records.declared.element.KeptRec.{KeptRec}
use Rattle.sb_containers.specs.base.records.Records.{record_cmp, before, at_least}
use Rattle.sb_containers.specs.base.pipeline.Operators.{Operator, operator_at, operator_rows}
use Rattle.sb_containers.specs.base.pipeline.Operators.Operator.{ParDo, Windowed, Sink}
use Rattle.sb_containers.specs.base.records.Reading.{◌>>=◌}
use Rattle.sb_containers.specs.base.SumLemmas.{any_by_count}
use Rattle.sb_containers.specs.base.window.declared.windows.TheConstants.{MAX_SIZE}
use Rattle.sb_containers.specs.Marks.{begun_count, least_begun_mark, last_of_first, first_is_closing}
use Rattle.sb_containers.specs.Lanes.{closable, with_first_closing}
use Rattle.sb_containers.specs.Choices.{is_empty}
use Rattle.sb_core.specs.Closings.{is_sink, rows_at}
use Rattle.sb_core.specs.Moments.{is_close, is_close_of, lane_at, set_node, with_held, node_at, floor_of, floor_at, epoch_of, epoch_at}
use Rattle.sb_containers.specs.LaneOrder.{IsWithin, AreContainers, IsLane, cont_at}
use Rattle.sb_core.specs.Bounds.{bound_at}
use Rattle.sb_core.specs.Holdings.{IsHeld, is_unpassed}
use Rattle.sb_core.specs.Soundness.{IsSealedBelow}
use Rattle.sb_core.proofs.sound.Orderly.{IsLawful}
use Rattle.sb_containers.proofs.Lists.{cond_is_some, empty_is}
use Rattle.sb_core.proofs.exact.Nodes.{lane_at-set, lane_at-cases, node_at-same, node_at-set_same, node_at-set_other, sum_by-set_get, lane_at-is, lane_at-there, of_each_node}
use Rattle.sb_containers.proofs.Begun.{begun_mark, last_of_first-rises}
use Rattle.sb_core.proofs.sound.HeldLists.{All-last}
use Rattle.sb_core.proofs.exact.EventExact.{transform_is}
use Rattle.sb_core.proofs.exact.BeginExact.{begun_lane, closing_mark, begun_node, new_close, after_beginning}
use Rattle.sb_containers.proofs.LaneLaws.{same-bundles}
use Rattle.sb_core.proofs.lawful.HeldStill.{beside}
use Rattle.sb_core.proofs.lawful.Changed.{work_still}

-- ---- the first container may close
pub record IsClosable (epoch : ℕ) (cs : List Cont) (c : Cont) : Type 0 where
  rest : List Cont
  is : cs ≡ c ∷ rest
  of_epoch : c.epoch ≡ epoch
  marked : is_some c.mark ≡ true
  none_waits : c.waiting ≡ []
  none_out : c.out ≡ []

pub closable-is : (epoch : ℕ) (cs : List Cont) (c : Cont) → closable epoch cs ≡ Some c → IsClosable epoch cs c
closable-is epoch [] c h = cc
closable-is epoch (x ∷ cs) c h =
    let a = cond_is_some ((eqb x.epoch epoch) && (is_some x.mark && (is_empty x.waiting && is_empty x.out))) (Some x) c h in
    let b = and_parts (eqb x.epoch epoch) _ a.0 in
    let d = and_parts (is_some x.mark) _ b.1 in
    let e = and_parts (is_empty x.waiting) (is_empty x.out) d.1 in
    let same : x ≡ c = same_Some x c a.1 in
    subst (IsClosable epoch (x ∷ cs)) same (record { rest = cs; is = refl; of_epoch = eqb-true x.epoch epoch b.0; marked = d.0; none_waits = empty_is x.waiting e.0; none_out = empty_is x.out e.1 })

-- the least over the lanes rises with one of them
closed-set_rises : (lanes : List CoreLane) (l : ℕ) (lane with : CoreLane) → slice_get lanes l ≡ Some lane → begun_mark lane ≤ begun_mark with → least_begun_mark lanes ≤ least_begun_mark (slice_set lanes l with)
closed-set_rises [] l lane with h e = cc
closed-set_rises (first ∷ []) zero lane with h e = let k : begun_mark first ≡ begun_mark lane = cc in omega arith
closed-set_rises (first ∷ []) (suc l) lane with h e = cc
closed-set_rises (first ∷ second ∷ lanes) zero lane with h e = let k : begun_mark first ≡ begun_mark lane = cc in omega arith
closed-set_rises (first ∷ second ∷ lanes) (suc zero) lane with h e = let k : least_begun_mark (second ∷ lanes) ≤ least_begun_mark (with ∷ lanes) = closed-set_rises (second ∷ lanes) zero lane with h e in omega arith
closed-set_rises (first ∷ second ∷ lanes) (suc (suc l)) lane with h e = let k : least_begun_mark (second ∷ lanes) ≤ least_begun_mark (second ∷ slice_set lanes l with) = closed-set_rises (second ∷ lanes) (suc l) lane with h e in omega arith

-- the lane with its first container closing
begun-lane : (bound : ℕ) (lane : CoreLane) (c : Cont) → IsLane bound lane → IsClosable lane.ended lane.conts c → IsLane bound (record lane { conts = with_first_closing lane.conts }) × (lane.ended + 1 ≤ length lane.marks)
begun-lane bound lane c ok h = go lane.conts h.is (drop lane.ended lane.marks) refl ok.containers ok.others
  where
    go : (cs : List Cont) → cs ≡ c ∷ h.rest → (ms : List ℕ) → drop lane.ended lane.marks ≡ ms → AreContainers bound lane.ended (last_of_first lane.ended lane.marks) ms cs → AllByRecursion (λ c. c.closing ≡ false) (drop 1 cs)
        → IsLane bound (record lane { conts = with_first_closing cs }) × (lane.ended + 1 ≤ length lane.marks)
    go [] e ms em are others = cc
    go (x ∷ cs) e [] em are others =
        let same : x ≡ c = cc in
        let k : true ≡ false = sym (ap (λ (c : Cont). is_some c.mark) same ∙ h.marked) ∙ ap is_some are.0.no_mark in cc
    go (x ∷ cs) e (m ∷ ms) em are others =
        let same : x ≡ c = cc in
        let long : length (drop lane.ended lane.marks) ≡ suc (length ms) = ap length em in (
          record {
            ended_in = ok.ended_in;
            rising = ok.rising;
            containers = subst (λ ms. AreContainers bound lane.ended (last_of_first lane.ended lane.marks) ms (record x { closing = true } ∷ cs)) (sym em)
                (record { epoch_is = are.0.epoch_is; floor_is = are.0.floor_is; mark_is = are.0.mark_is; bundles = same-bundles bound x _ refl refl x.waiting are.0.bundles }, are.1);
            ready = λ _. (ap (λ (c : Cont). c.waiting) same ∙ h.none_waits, ap (λ (c : Cont). c.out) same ∙ h.none_out);
            others = others;
          },
          omega (arith, length-drop lane.ended lane.marks),
        )

-- what is out of a container of the lane
begun-out : (epoch number : ℕ) (cs : List Cont) (c : Cont) → cont_at epoch cs ≡ Some c → list_any (λ n. eqb n number) c.out ≡ true
    → (d : Cont) × (cont_at epoch (with_first_closing cs) ≡ Some d) × (d.floor ≡ c.floor) × (list_any (λ n. eqb n number) d.out ≡ true)
begun-out epoch number [] c h out = cc
begun-out epoch number (x ∷ cs) c h out = by_case (eqb x.epoch epoch) refl h
  where
    by_case : (b : Bool) → eqb x.epoch epoch ≡ b → cond b (Some x) (cont_at epoch cs) ≡ Some c
        → (d : Cont) × (cond (eqb x.epoch epoch) (Some (record x { closing = true })) (cont_at epoch cs) ≡ Some d) × (d.floor ≡ c.floor) × (list_any (λ n. eqb n number) d.out ≡ true)
    by_case true e h =
        let k : x ≡ c = same_Some x c h in
        (record x { closing = true }, ap (λ b. cond b (Some (record x { closing = true })) (cont_at epoch cs)) e, ap (λ (c : Cont). c.floor) k, ap (λ (c : Cont). list_any (λ n. eqb n number) c.out) k ∙ out)
    by_case false e h = (c, ap (λ b. cond b (Some (record x { closing = true })) (cont_at epoch cs)) e ∙ h, refl, out)

-- ---- the rows of a Close lie from its floor to its mark
-- between floor and mark
abbrev IsBetween : ℕ → ℕ → Record → Type 0
IsBetween floor mark r = (floor ≤ r.time) × (r.time < mark)

rows-between : (o : Operator) (floor mark : ℕ) (kept : List KeptRec) → AllByRecursion (IsBetween floor mark) (rows_at o floor mark kept)
rows-between (ParDo op) floor mark kept = tt
rows-between (Windowed g) floor mark kept =
    All-in_order (IsBetween floor mark) record_cmp (before mark (at_least floor (operator_rows g kept)))
    (All-passed (λ r. floor ≤ r.time) (IsBetween floor mark) (λ r. nat_lt r.time mark) (λ r a b. (a, ltb-true r.time mark b)) (at_least floor (operator_rows g kept))
    (at_least-high floor (operator_rows g kept)))
rows-between Sink floor mark kept = tt

both_within : (floor mark bound : ℕ) (l : List Record) → AllByRecursion (IsBetween floor mark) l → AllByRecursion (λ r. r.time ≤ bound) l → IsWithin floor bound l × AllByRecursion (λ r. r.time < mark) l
both_within floor mark bound [] a b = (tt, tt)
both_within floor mark bound (r ∷ l) a b = let k = both_within floor mark bound l a.1 b.1 in (((a.0.0, b.0), k.0), (a.0.1, k.1))

-- nothing of a node without a Close is closing
pub idle-calm : (plan : Shape) (m : Moment) (n : ℕ) (node : Node) → slice_get m.nodes n ≡ Some node → list_any (is_close n) m.held ≡ false → IsLawful plan m → (i : ℕ) (x : CoreLane) → slice_get node.lanes i ≡ Some x → first_is_closing x.conts ≡ false
idle-calm plan m n node at idle lawful i x h = by_case (first_is_closing x.conts) refl
  where
    of_lane : (hs : List Held) → list_any (is_close_of n i) hs ≡ true → list_any (is_close n) hs ≡ true
    of_lane [] h = cc
    of_lane (Work k j epoch floor number records delivered ∷ hs) h = of_lane hs h
    of_lane (Close k j epoch serial floor _ rows passed ∷ hs) h = one (eqb k n) (eqb j i) h (λ k. of_lane hs k)
      where
        one : (a b : Bool) → ((a && b) || list_any (is_close_of n i) hs) ≡ true → (list_any (is_close_of n i) hs ≡ true → list_any (is_close n) hs ≡ true) → (a || list_any (is_close n) hs) ≡ true
        one true b h ih = refl
        one false b h ih = ih h

    by_case : (b : Bool) → first_is_closing x.conts ≡ b → b ≡ false
    by_case true e = sym (of_lane m.held (lawful.closing_held (record { node = n; lane = i }) x (ap (λ (o : Option Node). o >>= λ z. slice_get z.lanes i) at ∙ h) e)) ∙ idle
    by_case false e = refl

-- ---- the event
module _ (plan : Shape) (m : Moment) (n l : ℕ) (node : Node) (lane : CoreLane) (c : Cont) (at : slice_get m.nodes n ≡ Some node) (in_it : slice_get node.lanes l ≡ Some lane)
    (closes : IsClosable lane.ended lane.conts c) (idle : list_any (is_close n) m.held ≡ false) (lawful : IsLawful plan m) where
  abbrev after : Moment
  after = after_beginning plan m n l node lane c.epoch

  abbrev begun_l : CoreLane
  begun_l = begun_lane plan m n l node lane c.epoch

  abbrev begun_n : Node
  begun_n = begun_node plan m n l node lane c.epoch

  abbrev close : Held
  close = new_close plan m n l node lane c.epoch

  place : Down
  place = record { node = n; lane = l }

  was : lane_at m (record { node = n; lane = l }) ≡ Some lane
  was = lane_at-is m (record { node = n; lane = l }) node lane at in_it

  is_now : lane_at after (record { node = n; lane = l }) ≡ Some begun_l
  is_now = lane_at-there m n l node begun_n lane begun_l at in_it refl

  ok : IsLane (bound_at plan n) begun_l × (lane.ended + 1 ≤ length lane.marks)
  ok = begun-lane (bound_at plan n) lane c (lawful.lanes (record { node = n; lane = l }) lane was) closes

  -- nothing of the lane was closing
  idle_lane : first_is_closing lane.conts ≡ false
  idle_lane = idle-calm plan m n node at idle lawful l lane in_it

  begun_closing : first_is_closing begun_l.conts ≡ true
  begun_closing = ap (λ cs. first_is_closing (with_first_closing cs)) closes.is

  begun_before : begun_count lane ≡ lane.ended
  begun_before = ap (λ b. cond b (lane.ended + 1) lane.ended) idle_lane

  begun_after : begun_count begun_l ≡ lane.ended + 1
  begun_after = ap (λ b. cond b (lane.ended + 1) lane.ended) begun_closing

  pub rises : least_begun_mark node.lanes ≤ closing_mark plan m n l node lane c.epoch
  rises = closed-set_rises node.lanes l lane begun_l in_it (subst (λ a. last_of_first a lane.marks ≤ begun_mark begun_l) (sym begun_before) (subst (λ a. last_of_first lane.ended lane.marks ≤ last_of_first a lane.marks) (sym begun_after) (last_of_first-rises lane.marks lane.ended (lane.ended + 1) (lawful.lanes (record { node = n; lane = l }) lane was).rising (omega arith) ok.1)))

  floor_same : (e : Down) → floor_at after e ≡ floor_at m e
  floor_same e = lane_at-set m n l node begun_n lane begun_l at in_it refl floor_of refl e

  epoch_same : (e : Down) → epoch_at after e ≡ epoch_at m e
  epoch_same e = lane_at-set m n l node begun_n lane begun_l at in_it refl epoch_of refl e

  cases : (e : Down) → ((e ≡ record { node = n; lane = l }) × (lane_at after e ≡ Some begun_l) × (lane_at m e ≡ Some lane)) ⊎ (lane_at after e ≡ lane_at m e)
  cases e = lane_at-cases m n l node begun_n lane begun_l at in_it refl e

  other_node : (k : ℕ) → k ≢ n → node_at after k ≡ node_at m k
  other_node k ne = node_at-set_other m n node begun_n at k ne

  this_node : node_at after n ≡ begun_n
  this_node = node_at-set_same m n node begun_n at

  -- a held Close is of another node
  holds_still : (h : Held) → is_close n h ≡ false → IsHeld plan m h → IsHeld plan after h
  holds_still (Work k i epoch floor number records delivered) no_close h =
      beside plan (set_node n begun_n (with_held after.held m)) after.held after.rows (Work k i epoch floor number records delivered)
      (work_still plan m n l node begun_n lane begun_l at in_it refl after.held k i epoch floor number records delivered h
      (λ _ o. let x = begun-out epoch number lane.conts o.0 o.1 o.3 in (x.0, x.1, x.2 ∙ o.2, x.3)))
  holds_still (Close k i epoch serial floor mark rows passed) no_close h =
      let other : node_at after k ≡ node_at m k = other_node k (eqb-false k n no_close) in
      record {
        lane = h.lane;
        there = ⊎_elim (λ x. absurd (eqb-false k n no_close (ap (λ (d : Down). d.node) x.0))) (λ e. e ∙ h.there) (cases (record { node = k; lane = i }));
        closing = h.closing;
        epoch_is = h.epoch_is;
        mark_is = h.mark_is ∙ ap (λ (x : Node). least_begun_mark x.lanes) (sym other);
        rises = h.rises;
        serial_is = h.serial_is ∙ ap (λ (x : Node). x.closings) (sym other);
        times = h.times;
        before_mark = h.before_mark;
        no_rows = h.no_rows;
        under = λ p s is. floor_same s.down ∙ h.under p s is;
        next_under = λ p s is. epoch_same s.down ∙ h.next_under p s is;
      }

  none_is : (hs : List Held) → list_any (is_close n) hs ≡ false → AllByRecursion (IsHeld plan m) hs → AllByRecursion (IsHeld plan after) hs
  none_is [] h all = tt
  none_is (x ∷ hs) h all = let k = or_parts (is_close n x) (list_any (is_close n) hs) h in (holds_still x k.0 all.0, none_is hs k.1 all.1)

  unpassed_is : (k : ℕ) (hs : List Held) → list_any (is_close k) hs ≡ false → list_any (is_unpassed k) hs ≡ false
  unpassed_is k [] h = refl
  unpassed_is k (Work x i epoch floor number records delivered ∷ hs) h = unpassed_is k hs h
  unpassed_is k (Close x i epoch serial floor mark rows passed ∷ hs) h = one (eqb x k) h (λ z. unpassed_is k hs z)
    where
      one : (a : Bool) → (a || list_any (is_close k) hs) ≡ false → (list_any (is_close k) hs ≡ false → list_any (is_unpassed k) hs ≡ false) → ((a && not passed) || list_any (is_unpassed k) hs) ≡ false
      one true h ih = cc
      one false h ih = ih h

  module _ (bounded : AllByRecursion (λ r. r.time ≤ bound_at plan n + MAX_SIZE) (rows_at (operator_at (slice_get plan.steps n)) (least_begun_mark node.lanes) (closing_mark plan m n l node lane c.epoch) node.kept)) where
    new_is : IsHeld plan after close
    new_is =
        let w = both_within (least_begun_mark node.lanes) (closing_mark plan m n l node lane c.epoch) (bound_at plan n + MAX_SIZE) (rows_at (operator_at (slice_get plan.steps n)) (least_begun_mark node.lanes) (closing_mark plan m n l node lane c.epoch) node.kept) (rows-between (operator_at (slice_get plan.steps n)) (least_begun_mark node.lanes) (closing_mark plan m n l node lane c.epoch) node.kept) bounded in
        record {
          lane = begun_l;
          there = is_now;
          closing = begun_closing;
          epoch_is = closes.of_epoch;
          mark_is = ap (λ (x : Node). least_begun_mark x.lanes) (sym this_node);
          rises = rises;
          serial_is = ap (λ (x : Node). x.closings) (sym this_node);
          times = w.0;
          before_mark = w.1;
          no_rows = no_rows (operator_at (slice_get plan.steps n));
          under = λ p s is. floor_same s.down ∙ (lawful.below n s is).as_passed (unpassed_is n m.held idle) ∙ ap (λ (x : Node). least_begun_mark x.lanes) (node_at-same m n node node at);
          next_under = λ p s is. epoch_same s.down ∙ (lawful.below n s is).as_many (unpassed_is n m.held idle) ∙ ap (λ (x : Node). x.closings) (node_at-same m n node node at);
        }
      where
        no_rows : (o : Operator) → is_sink o ≡ true → rows_at o (least_begun_mark node.lanes) (closing_mark plan m n l node lane c.epoch) node.kept ≡ []
        no_rows (ParDo op) h = cc
        no_rows (Windowed g) h = cc
        no_rows Sink h = refl

    count_none : (k : ℕ) (hs : List Held) → list_any (is_close k) hs ≡ false → count_by (is_close k) hs ≡ 0
    count_none k hs h = omega (arith, ltb-false 0 (count_by (is_close k) hs) (sym (any_by_count (is_close k) hs) ∙ h))

    pub begin-lawful : IsLawful plan after
    begin-lawful =
        record {
          nodes = length-set m.nodes n begun_n ∙ lawful.nodes;
          lanes = λ e x h. ⊎_elim (λ y. subst (λ z. IsLane (bound_at plan e.node) z) (same_Some begun_l x (sym y.1 ∙ h)) (subst (λ (e : Down). IsLane (bound_at plan e.node) begun_l) (sym y.0) ok.0)) (λ y. lawful.lanes e x (sym y ∙ h)) (cases e);
          one_lane = λ k h. of_each_node m n node begun_n at (λ x. length x.lanes) (length-set node.lanes l begun_l) k ∙ lawful.one_lane k h;
          holds = All-last (IsHeld plan after) m.held close (none_is m.held idle lawful.holds) new_is;
          one_close = one_close;
          closing_held = λ e x h z. list_any-append (is_close_of e.node e.lane) m.held (close ∷ []) ∙ ⊎_elim
              (λ y. ap (λ (d : Down). list_any (is_close_of d.node d.lane) m.held || (((eqb n d.node) && (eqb l d.lane)) || false)) y.0 ∙ (λ i. list_any (is_close_of n l) m.held || ((eq-eqb n n refl i && eq-eqb l l refl i) || false)) ∙ or-true (list_any (is_close_of n l) m.held))
              (λ y. ap (λ b. b || list_any (is_close_of e.node e.lane) (close ∷ [])) (lawful.closing_held e x (sym y ∙ h) z)) (cases e);
          below = below;
          closings = closings;
          sources = λ s e is. let x = lawful.sources s e is in ⊎_elim (λ y. (begun_l, y.1)) (λ y. (x.0, y ∙ x.1)) (cases e);
        }
      where
        one_close : (k : ℕ) → count_by (is_close k) (m.held ++ close ∷ []) ≤ 1
        one_close k = ⊎_elim
            (λ e. let z : count_by (is_close k) m.held ≡ 0 = count_none k m.held (ap (λ k. list_any (is_close k) m.held) e ∙ idle) in omega (arith, sum_by-append (λ h. cond (is_close k h) 1 0) m.held (close ∷ []), small (eqb n k)))
            (λ ne. let z : cond {A = ℕ} (eqb n k) 1 0 ≡ 0 = ap (λ b. cond {A = ℕ} b 1 0) (ne_eqb n k (λ e. ne (sym e))) in omega (arith, sum_by-append (λ h. cond (is_close k h) 1 0) m.held (close ∷ []), lawful.one_close k)) (cases_eq k n)
          where
            small : (b : Bool) → cond {A = ℕ} b 1 0 ≤ 1
            small true = omega arith
            small false = omega arith

        below : (k : ℕ) (s : Step) → slice_get plan.steps k ≡ Some s → IsSealedBelow after k s.down
        below k s is =
            let b = lawful.below k s is in
            let x : (x : CoreLane) × (lane_at after s.down ≡ Some x) = ⊎_elim (λ y. (begun_l, y.1)) (λ y. (b.lane, y ∙ b.there)) (cases s.down) in
            record {
              further = b.further;
              lane = x.0;
              there = x.1;
              as_many = λ h. epoch_same s.down ∙ ⊎_elim (λ e. absurd (never k s is e h)) (λ ne. b.as_many (old k h) ∙ ap (λ (x : Node). x.closings) (sym (other_node k ne))) (cases_eq k n);
              as_passed = λ h. floor_same s.down ∙ ⊎_elim (λ e. absurd (never k s is e h)) (λ ne. b.as_passed (old k h) ∙ ap (λ (x : Node). least_begun_mark x.lanes) (sym (other_node k ne))) (cases_eq k n);
            }
          where
            old : (k : ℕ) → list_any (is_unpassed k) (m.held ++ close ∷ []) ≡ false → list_any (is_unpassed k) m.held ≡ false
            old k h = (or_parts (list_any (is_unpassed k) m.held) _ (sym (list_any-append (is_unpassed k) m.held (close ∷ [])) ∙ h)).0

            never : (k : ℕ) (s : Step) → slice_get plan.steps k ≡ Some s → k ≡ n → list_any (is_unpassed k) (m.held ++ close ∷ []) ≡ false → ⊥
            never k s is e h =
                let a : (list_any (is_unpassed k) m.held || ((eqb n k && not (is_sink (operator_at (slice_get plan.steps n)))) || false)) ≡ false = sym (list_any-append (is_unpassed k) m.held (close ∷ [])) ∙ h in
                let t : is_sink (operator_at (slice_get plan.steps n)) ≡ false = ap (λ k. is_sink (operator_at (slice_get plan.steps k))) (sym e) ∙ transform_is plan k s is in
                let b : (list_any (is_unpassed k) m.held || ((true && not false) || false)) ≡ false = (λ i. list_any (is_unpassed k) m.held || ((sym (eq-eqb n k (sym e)) i && not (sym t i)) || false)) ∙ a in
                let c : true ≡ false = sym (or-true (list_any (is_unpassed k) m.held)) ∙ b in cc

        closings : (k : ℕ) → (node_at after k).closings ≡ sum_by begun_count (node_at after k).lanes
        closings k = ⊎_elim here (λ ne. ap (λ (x : Node). x.closings) (other_node k ne) ∙ lawful.closings k ∙ ap (λ (x : Node). sum_by begun_count x.lanes) (sym (other_node k ne))) (cases_eq k n)
          where
            here : k ≡ n → (node_at after k).closings ≡ sum_by begun_count (node_at after k).lanes
            here e =
                let a : sum_by begun_count (slice_set node.lanes l begun_l) + begun_count lane ≡ sum_by begun_count node.lanes + begun_count begun_l = sum_by-set_get begun_count node.lanes l lane begun_l in_it in
                let b : node.closings ≡ sum_by begun_count node.lanes = ap (λ (x : Node). x.closings) (sym (node_at-same m n node node at)) ∙ lawful.closings n ∙ ap (λ (x : Node). sum_by begun_count x.lanes) (node_at-same m n node node at) in
                let d : node.closings + 1 ≡ sum_by begun_count (slice_set node.lanes l begun_l) = omega (arith, begun_before, begun_after) in
                ap (λ k. (node_at after k).closings) e ∙ ap (λ (x : Node). x.closings) this_node ∙ d ∙ sym (ap (λ k. sum_by begun_count (node_at after k).lanes) e ∙ ap (λ (x : Node). sum_by begun_count x.lanes) this_node)
