-- A bundle is finished: each node gives what it gave.
use Rattle.std.proofs.Common.{◌≡◌, ℕ, ◌+◌, Bool, true, false, not, cond, eqb, List, [], ◌∷◌, ◌++◌, Some, sym, refl, ap, subst, ◌∙◌, arith, ⊎_elim}
use Rattle.std.specs.Prelude.{◌&&◌, ◌||◌, ◌≢◌, nat_lt}
use Rattle.std.specs.List.{filter, flat_map, sum_by, slice_get}
use Rattle.std.proofs.lemmas.Bool.{eq-eqb, ne_eqb, cases_eq}
use Rattle.std.proofs.lemmas.List.Sums.{sum_by-append}
use Rattle.std.proofs.lemmas.List.Concat.{flat_map-append}
use Rattle.sb_containers.specs.base.records.declared.item.Record.{Record}
use Rattle.sb_containers.specs.base.records.declared.element.KeptRec.{KeptRec}
use Rattle.sb_containers.specs.base.pardo.declared.operation.Op.{Op}
use Rattle.sb_core.specs.declared.moment.Node.{Node}
use Rattle.sb_core.specs.declared.held.Held.{Held}
use Rattle.sb_core.specs.declared.held.Held.TheVariants.{Work}
use Rattle.sb_containers.specs.base.pipeline.Shapes.{Shape}
use Rattle.sb_core.specs.declared.moment.Moment.{Moment}
use Rattle.sb_containers.specs.declared.container.Cont.{Cont}
use Rattle.sb_containers.specs.declared.container.CoreLane.{CoreLane}
use Rattle.sb_containers.specs.base.records.Records.{at_least}
use Rattle.sb_containers.specs.base.pipeline.Operators.{Operator, operator_at, operator_rows}
use Rattle.sb_containers.specs.base.pardo.Outputs.{outputs_of}
use Rattle.sb_containers.specs.base.records.Elements.{on_lane, all_records}
use Rattle.sb_containers.specs.base.pipeline.Operators.Operator.{ParDo, Windowed, Sink}
use Rattle.sb_containers.specs.Marks.{least_begun_mark, first_is_closing, last_of_first}
use Rattle.sb_containers.specs.Choices.{is_empty}
use Rattle.sb_core.specs.Closings.{delivery, kept_elements}
use Rattle.sb_core.specs.Moments.{set_lane, set_node, with_held, node_at}
use Rattle.sb_containers.specs.Lanes.{finish_in}
use Rattle.sb_core.specs.Exactness.{waiting_in, waiting_from, work_in, rows_left_in, rest, gives, gives_by}
use Rattle.sb_containers.specs.base.SumLemmas.{IsReordered, IsReordered-map, IsReordered-flat_map, IsReordered-filter}
use Rattle.sb_containers.proofs.Lists.{waiting_of, of_cont, empty_is}
use Rattle.sb_core.proofs.exact.Nodes.{closed-set, sum_by-waiting_set, node_at-same, node_at-set_same, node_at-set_other}
use Rattle.sb_core.proofs.windows.Groupings.{grouped-order, all_records-append, all_records-on_lane}
use Rattle.sb_core.proofs.exact.Gives.{sum_by-rest, gives-less}

-- finishing moves nothing that waits
waiting-finish_in : (epoch number : ℕ) (cs : List Cont) → waiting_of (finish_in epoch number cs) ≡ waiting_of cs
waiting-finish_in epoch number [] = refl
waiting-finish_in epoch number (c ∷ cs) = λ i. one (eqb c.epoch epoch) i ++ waiting-finish_in epoch number cs i
  where
    one : (b : Bool) → of_cont (cond b (record c { out = filter (λ n. not (eqb n number)) c.out }) c) ≡ of_cont c
    one true = refl
    one false = refl

closing-finish_in : (epoch number : ℕ) (cs : List Cont) → first_is_closing (finish_in epoch number cs) ≡ first_is_closing cs
closing-finish_in epoch number [] = refl
closing-finish_in epoch number (c ∷ cs) = one (eqb c.epoch epoch)
  where
    one : (b : Bool) → (cond b (record c { out = filter (λ n. not (eqb n number)) c.out }) c).closing ≡ c.closing
    one true = refl
    one false = refl

-- whether the node may have delivered a Work before it is finished
abbrev pub is_pardo : Operator → Bool
is_pardo (ParDo op) = true
is_pardo (Windowed grouping) = false
is_pardo Sink = false

-- the node of the Work
finishing-gives : (o : Operator) (k l epoch floor number : ℕ) (node after : Node) (held others : List Held) (records : List Record) (delivered : Bool) (rows : List Record) (es fs : List KeptRec)
    → IsReordered held (Work k l epoch floor number records delivered ∷ others)
    → ((f : KeptRec → ℕ) → sum_by f (waiting_from 0 after.lanes) ≡ sum_by f (waiting_from 0 node.lanes))
    → least_begun_mark after.lanes ≡ least_begun_mark node.lanes
    → after.kept ≡ node.kept ++ kept_elements o (on_lane l records)
    → (delivered || is_empty (delivery o records)) ≡ true → (delivered ≡ true → is_pardo o ≡ true)
    → IsReordered es fs
    → IsReordered (gives_by o k node held rows es) (gives_by o k after others rows fs)
finishing-gives o k l epoch floor number node after held others records delivered rows es fs pulled waits mark kept done honest same = by_operator o kept done honest
  where
    work : Held
    work = Work k l epoch floor number records delivered

    und : IsReordered (flat_map (rows_left_in k) held) (flat_map (rows_left_in k) others)
    und = IsReordered-flat_map (rows_left_in k) held (work ∷ others) pulled

    -- the records of the Work go
    rest_less : IsReordered (rest k node held es) (work_in k work ++ rest k after others fs)
    rest_less f =
        let a : sum_by f (rest k node held es) ≡ (sum_by f (waiting_from 0 node.lanes) + sum_by f (flat_map (work_in k) held)) + sum_by f es = sum_by-rest f k node held es in
        let b : sum_by f (rest k after others fs) ≡ (sum_by f (waiting_from 0 after.lanes) + sum_by f (flat_map (work_in k) others)) + sum_by f fs = sum_by-rest f k after others fs in
        let c : sum_by f (flat_map (work_in k) held) ≡ sum_by f (work_in k work) + sum_by f (flat_map (work_in k) others) =
        IsReordered-flat_map (work_in k) held (work ∷ others) pulled f ∙ sum_by-append f (work_in k work) (flat_map (work_in k) others) in
        let d : sum_by f (work_in k work ++ rest k after others fs) ≡ sum_by f (work_in k work) + sum_by f (rest k after others fs) = sum_by-append f (work_in k work) (rest k after others fs) in
        omega (arith, same f, waits f)

    undone : delivered ≡ false → work_in k work ≡ on_lane l records
    undone e = λ i. cond (eq-eqb k k refl i && not (e i)) (on_lane l records) []

    taken_in : after.kept ≡ node.kept ++ on_lane l records → delivered ≡ false → IsReordered (node.kept ++ rest k node held es) (after.kept ++ rest k after others fs)
    taken_in kept e f =
        let a : sum_by f (node.kept ++ rest k node held es) ≡ sum_by f node.kept + sum_by f (rest k node held es) = sum_by-append f node.kept (rest k node held es) in
        let b : sum_by f (work_in k work ++ rest k after others fs) ≡ sum_by f (on_lane l records) + sum_by f (rest k after others fs) = ap (λ w. sum_by f (w ++ rest k after others fs)) (undone e) ∙ sum_by-append f (on_lane l records) (rest k after others fs) in
        let c : sum_by f (after.kept ++ rest k after others fs) ≡ sum_by f after.kept + sum_by f (rest k after others fs) = sum_by-append f after.kept (rest k after others fs) in
        let d : sum_by f after.kept ≡ sum_by f node.kept + sum_by f (on_lane l records) = ap (sum_by f) kept ∙ sum_by-append f node.kept (on_lane l records) in
        omega (arith, rest_less f)

    -- a delivered Work, or one whose images are none, gives nothing more
    none_left : (op : Op) → (delivered || is_empty (flat_map (outputs_of op) records)) ≡ true → flat_map (outputs_of op) (all_records (work_in k work)) ≡ []
    none_left op done = by_case delivered done
      where
        by_case : (d : Bool) → (d || is_empty (flat_map (outputs_of op) records)) ≡ true → flat_map (outputs_of op) (all_records (cond (eqb k k && not d) (on_lane l records) [])) ≡ []
        by_case true h = ap (λ b. flat_map (outputs_of op) (all_records (cond (b && false) (on_lane l records) []))) (eq-eqb k k refl)
        by_case false h = ap (λ b. flat_map (outputs_of op) (all_records (cond (b && true) (on_lane l records) []))) (eq-eqb k k refl) ∙ ap (flat_map (outputs_of op)) (all_records-on_lane l records) ∙ empty_is (flat_map (outputs_of op) records) h

    unfinished : (o : Operator) → is_pardo o ≡ false → (delivered ≡ true → is_pardo o ≡ true) → delivered ≡ false
    unfinished o never honest = by_case delivered honest
      where
        by_case : (d : Bool) → (d ≡ true → is_pardo o ≡ true) → d ≡ false
        by_case true h = sym (h refl) ∙ never
        by_case false h = refl

    by_operator : (o : Operator) → after.kept ≡ node.kept ++ kept_elements o (on_lane l records) → (delivered || is_empty (delivery o records)) ≡ true → (delivered ≡ true → is_pardo o ≡ true)
        → IsReordered (gives_by o k node held rows es) (gives_by o k after others rows fs)
    by_operator (ParDo op) kept done honest f =
        let a : sum_by f (flat_map (outputs_of op) (all_records (rest k node held es))) ≡ sum_by f (flat_map (outputs_of op) (all_records (work_in k work ++ rest k after others fs))) =
        IsReordered-flat_map (outputs_of op) (all_records (rest k node held es)) (all_records (work_in k work ++ rest k after others fs)) (IsReordered-map (λ e. e.rec) (rest k node held es) (work_in k work ++ rest k after others fs) rest_less) f in
        let b : sum_by f (flat_map (outputs_of op) (all_records (work_in k work ++ rest k after others fs))) ≡ sum_by f (flat_map (outputs_of op) (all_records (rest k after others fs))) =
        ap (λ l. sum_by f (flat_map (outputs_of op) l)) (all_records-append (work_in k work) (rest k after others fs)) ∙ ap (sum_by f) (flat_map-append (outputs_of op) (all_records (work_in k work)) (all_records (rest k after others fs)))
        ∙ ap (λ l. sum_by f (l ++ flat_map (outputs_of op) (all_records (rest k after others fs)))) (none_left op done) in
        sum_by-append f (flat_map (rows_left_in k) held) (flat_map (outputs_of op) (all_records (rest k node held es)))
        ∙ (λ i. und f i + (a ∙ b) i) ∙ sym (sum_by-append f (flat_map (rows_left_in k) others) (flat_map (outputs_of op) (all_records (rest k after others fs))))
    by_operator (Windowed g) kept done honest f =
        sum_by-append f (flat_map (rows_left_in k) held) (at_least (least_begun_mark node.lanes) (operator_rows g (node.kept ++ rest k node held es)))
        ∙ (λ i. und f i + IsReordered-filter (λ r. not (nat_lt r.time (least_begun_mark node.lanes))) (operator_rows g (node.kept ++ rest k node held es)) (operator_rows g (after.kept ++ rest k after others fs))
        (grouped-order g (node.kept ++ rest k node held es) (after.kept ++ rest k after others fs) (taken_in kept (unfinished (Windowed g) refl honest))) f i)
        ∙ ap (λ n. sum_by f (flat_map (rows_left_in k) others) + sum_by f (at_least n (operator_rows g (after.kept ++ rest k after others fs)))) (sym mark)
        ∙ sym (sum_by-append f (flat_map (rows_left_in k) others) (at_least (least_begun_mark after.lanes) (operator_rows g (after.kept ++ rest k after others fs))))
    by_operator Sink kept done honest f =
        sum_by-append f rows (all_records (node.kept ++ rest k node held es))
        ∙ ap (λ n. sum_by f rows + n) (IsReordered-map (λ e. e.rec) (node.kept ++ rest k node held es) (after.kept ++ rest k after others fs) (taken_in kept (unfinished Sink refl honest)) f)
        ∙ sym (sum_by-append f rows (all_records (after.kept ++ rest k after others fs)))

-- ---- the event
module _ (plan : Shape) (m : Moment) (k l epoch floor number : ℕ) (records : List Record) (delivered : Bool) (others : List Held) (node : Node) (lane : CoreLane) where
  abbrev pub finished_lane : CoreLane
  finished_lane = record lane { conts = finish_in epoch number lane.conts }

  abbrev pub finished_node : Node
  finished_node = record (set_lane l finished_lane node) { kept = node.kept ++ kept_elements (operator_at (slice_get plan.steps k)) (on_lane l records) }

  abbrev pub after_finishing : Moment
  after_finishing = with_held others (set_node k finished_node m)

  pub finished-gives : IsReordered m.held (Work k l epoch floor number records delivered ∷ others) → slice_get m.nodes k ≡ Some node → slice_get node.lanes l ≡ Some lane
      → (delivered || is_empty (delivery (operator_at (slice_get plan.steps k)) records)) ≡ true → (delivered ≡ true → is_pardo (operator_at (slice_get plan.steps k)) ≡ true)
      → (n : ℕ) (es fs : List KeptRec) → IsReordered es fs → IsReordered (gives plan m n es) (gives plan after_finishing n fs)
  finished-gives pulled at in_it done honest n es fs same = ⊎_elim (λ e. subst (λ n. IsReordered (gives plan m n es) (gives plan after_finishing n fs)) (sym e) here) elsewhere (cases_eq n k)
    where
      o : Operator
      o = operator_at (slice_get plan.steps k)

      waits : (f : KeptRec → ℕ) → sum_by f (waiting_from 0 finished_node.lanes) ≡ sum_by f (waiting_from 0 node.lanes)
      waits f =
          let a : sum_by f (waiting_from 0 finished_node.lanes) + sum_by f (on_lane (0 + l) (waiting_in lane)) ≡ sum_by f (waiting_from 0 node.lanes) + sum_by f (on_lane (0 + l) (waiting_in finished_lane)) = sum_by-waiting_set f 0 node.lanes l lane finished_lane in_it in
          let b : sum_by f (on_lane (0 + l) (waiting_in finished_lane)) ≡ sum_by f (on_lane (0 + l) (waiting_in lane)) = ap (λ r. sum_by f (on_lane (0 + l) r)) (waiting-finish_in epoch number lane.conts) in
          omega arith

      mark : least_begun_mark finished_node.lanes ≡ least_begun_mark node.lanes
      mark = closed-set node.lanes l lane finished_lane in_it (ap (λ b. last_of_first (cond b (lane.ended + 1) lane.ended) lane.marks) (closing-finish_in epoch number lane.conts))

      here : IsReordered (gives plan m k es) (gives plan after_finishing k fs)
      here =
          subst (λ x. IsReordered (gives_by (operator_at (slice_get plan.steps k)) k x m.held m.rows es) (gives plan after_finishing k fs)) (sym (node_at-same m k node finished_node at)) (
          subst (λ x. IsReordered (gives_by (operator_at (slice_get plan.steps k)) k node m.held m.rows es) (gives_by (operator_at (slice_get plan.steps k)) k x others m.rows fs)) (sym (node_at-set_same m k node finished_node at)) (
          finishing-gives (operator_at (slice_get plan.steps k)) k l epoch floor number node finished_node m.held others records delivered m.rows es fs pulled waits mark refl done honest same))

      elsewhere : n ≢ k → IsReordered (gives plan m n es) (gives plan after_finishing n fs)
      elsewhere ne =
          let other : node_at (set_node k finished_node m) n ≡ node_at m n = node_at-set_other m k node finished_node at n ne in
          gives-less (operator_at (slice_get plan.steps n)) n (node_at m n) (node_at (set_node k finished_node m) n) m.held others m.rows m.rows [] es fs
          (IsReordered-flat_map (rows_left_in n) m.held (Work k l epoch floor number records delivered ∷ others) pulled)
          (λ f.
          let c : sum_by f (rest n (node_at (set_node k finished_node m) n) others fs) ≡ (sum_by f (waiting_from 0 (node_at m n).lanes) + sum_by f (flat_map (work_in n) others)) + sum_by f fs =
          sum_by-rest f n (node_at (set_node k finished_node m) n) others fs ∙ ap (λ (x : Node). (sum_by f (waiting_from 0 x.lanes) + sum_by f (flat_map (work_in n) others)) + sum_by f fs) other in
          let d : sum_by f (rest n (node_at m n) m.held es) ≡ (sum_by f (waiting_from 0 (node_at m n).lanes) + sum_by f (flat_map (work_in n) m.held)) + sum_by f es = sum_by-rest f n (node_at m n) m.held es in
          let e : sum_by f (flat_map (work_in n) m.held) ≡ sum_by f (flat_map (work_in n) others) =
          IsReordered-flat_map (work_in n) m.held (Work k l epoch floor number records delivered ∷ others) pulled f
          ∙ ap (λ b. sum_by f (cond (b && not delivered) (on_lane l records) [] ++ flat_map (work_in n) others)) (ne_eqb k n (λ e. ne (sym e))) in
          omega (arith, same f))
          (ap (λ (x : Node). x.kept) other) (ap (λ (x : Node). least_begun_mark x.lanes) other) (λ _. refl) (λ _. refl)
