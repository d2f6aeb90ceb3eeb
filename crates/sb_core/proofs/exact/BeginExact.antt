-- A closing begins: each node gives what it gave.
use Rattle.std.proofs.Common.{◌≡◌, ℕ, ◌+◌, ◌≤◌, true, false, not, cond, List, [], ◌∷◌, ◌++◌, length, Some, None, Option, sym, refl, ap, subst, ◌∙◌, arith, ⊎_elim, append-nil}
use Rattle.std.specs.Prelude.{◌≢◌, nat_lt}
use Rattle.std.specs.List.{filter, flat_map, sum_by, slice_get, slice_set}
use Rattle.std.proofs.lemmas.Bool.{eq-eqb, ne_eqb, cases_eq}
use Rattle.std.proofs.lemmas.Option.{slice_get_cases}
use Rattle.std.proofs.lemmas.List.Sums.{sum_by-append}
use Rattle.std.proofs.lemmas.List.Filters.{sum_by-filter_both}
use Rattle.sb_containers.specs.base.records.declared.item.Record.{Record}
use Rattle.sb_containers.specs.base.records.declared.element.KeptRec.{KeptRec}
use Rattle.sb_containers.specs.base.pipeline.declared.transform.Kind.{Kind}
use Rattle.sb_containers.specs.base.pipeline.declared.transform.Kind.TheVariants.{Do, Group, Session, Join}
use Rattle.sb_core.specs.declared.moment.Node.{Node}
use Rattle.sb_core.specs.declared.held.Held.{Held}
use Rattle.sb_core.specs.declared.held.Held.TheVariants.{Close}
use Rattle.sb_containers.specs.base.pipeline.declared.transform.Step.{Step}
use Rattle.sb_containers.specs.base.pipeline.Shapes.{Shape}
use Rattle.sb_core.specs.declared.moment.Moment.{Moment}
use Rattle.sb_containers.specs.declared.container.Cont.{Cont}
use Rattle.sb_containers.specs.declared.container.CoreLane.{CoreLane}
use Rattle.sb_containers.specs.base.records.Records.{sorted_records, before, at_least, record_cmp}
use Rattle.sb_containers.specs.base.pipeline.Operators.{Operator, WindowOperator, operator_of, operator_at, operator_rows}
use Rattle.sb_containers.specs.base.pardo.Outputs.{outputs_of}
use Rattle.sb_containers.specs.base.records.Elements.{on_lane, all_records}
use Rattle.sb_containers.specs.base.pipeline.Operators.Operator.{ParDo, Windowed, Sink}
use Rattle.sb_containers.specs.Marks.{least_begun_mark}
use Rattle.sb_core.specs.Closings.{is_sink, kept_at, rows_at, rows_at_sink, still_open}
use Rattle.sb_containers.specs.Lanes.{with_first_closing}
use Rattle.sb_core.specs.Moments.{set_lane, node_at}
use Rattle.sb_core.specs.Exactness.{waiting_in, waiting_from, work_in, rows_left_in, rest, gives, gives_by}
use Rattle.sb_containers.specs.base.SumLemmas.{IsReordered, sum_by-agree, IsReordered-map, IsReordered-flat_map, IsReordered-filter}
use Rattle.sb_containers.proofs.Lists.{waiting_of}
use Rattle.sb_core.proofs.times.Timely.{late, late_for, IsTimely, no_sink, rest_in_time}
use Rattle.sb_core.proofs.exact.Nodes.{lane_at-set, sum_by-waiting_set, node_at-same, node_at-set_same, node_at-set_other}
use Rattle.sb_core.proofs.windows.WindowOperators.{IsGrouping, closing}
use Rattle.sb_core.proofs.windows.Groupings.{early_one, all_records-append, all_records-filter, none_early}
use Rattle.sb_containers.specs.base.SortingLemmas.{IsReordered-in_order}
use Rattle.sb_core.proofs.exact.Gives.{sum_by-rest, gives-less, sum_by-held_push}

waiting-first_closing : (cs : List Cont) → waiting_of (with_first_closing cs) ≡ waiting_of cs
waiting-first_closing [] = refl
waiting-first_closing (c ∷ cs) = refl

-- the sink gives the same, with the rows before the mark among its rows
sink_closing : (mark : ℕ) (rows : List Record) (kept es fs : List KeptRec) → IsReordered es fs
    → IsReordered (rows ++ all_records (kept ++ es)) ((rows ++ sorted_records (before mark (all_records kept))) ++ all_records (filter (λ e. not (nat_lt e.rec.time mark)) kept ++ fs))
sink_closing mark rows kept es fs same f =
    let a : sum_by f (rows ++ all_records (kept ++ es)) ≡ sum_by f rows + sum_by f (all_records (kept ++ es)) = sum_by-append f rows (all_records (kept ++ es)) in
    let b : sum_by f (all_records (kept ++ es)) ≡ sum_by f (all_records kept) + sum_by f (all_records es) = ap (sum_by f) (all_records-append kept es) ∙ sum_by-append f (all_records kept) (all_records es) in
    let later = filter (λ e. not (nat_lt e.rec.time mark)) kept in
    let c : sum_by f (all_records (later ++ fs)) ≡ sum_by f (all_records later) + sum_by f (all_records fs) = ap (sum_by f) (all_records-append later fs) ∙ sum_by-append f (all_records later) (all_records fs) in
    let d : sum_by f (all_records later) ≡ sum_by f (at_least mark (all_records kept)) = ap (sum_by f) (all_records-filter (λ r. not (nat_lt r.time mark)) kept) in
    let e : sum_by f (before mark (all_records kept)) + sum_by f (at_least mark (all_records kept)) ≡ sum_by f (all_records kept) = sum_by-filter_both (λ r. nat_lt r.time mark) (λ r. not (nat_lt r.time mark)) (λ r. refl) f (all_records kept) in
    let g : sum_by f (sorted_records (before mark (all_records kept))) ≡ sum_by f (before mark (all_records kept)) = IsReordered-in_order record_cmp (before mark (all_records kept)) f in
    let h : sum_by f (all_records es) ≡ sum_by f (all_records fs) = IsReordered-map (λ e. e.rec) es fs same f in
    let i : sum_by f ((rows ++ sorted_records (before mark (all_records kept))) ++ all_records (later ++ fs)) ≡ (sum_by f rows + sum_by f (sorted_records (before mark (all_records kept)))) + sum_by f (all_records (later ++ fs)) =
    sum_by-append f (rows ++ sorted_records (before mark (all_records kept))) (all_records (later ++ fs)) ∙ ap (λ n. n + sum_by f (all_records (later ++ fs))) (sum_by-append f rows (sorted_records (before mark (all_records kept)))) in
    omega arith

-- the node that closes, by what it does
closing-gives : (o : Operator) → ((g : WindowOperator) → o ≡ Windowed g → IsGrouping g) → (k : ℕ) (node after : Node) (held : List Held) (h : Held) (rows : List Record) (floor mark : ℕ) (es fs : List KeptRec)
    → least_begun_mark node.lanes ≡ floor → least_begun_mark after.lanes ≡ mark → floor ≤ mark
    → after.kept ≡ kept_at o mark node.kept
    → ((f : KeptRec → ℕ) → sum_by f (waiting_from 0 after.lanes) ≡ sum_by f (waiting_from 0 node.lanes))
    → ((f : KeptRec → ℕ) → sum_by f (work_in k h) ≡ 0)
    → rows_left_in k h ≡ rows_at o floor mark node.kept
    → sum_by (early_one mark) (rest k node held es) ≡ 0
    → IsReordered es fs
    → IsReordered (gives_by o k node held rows es) (gives_by o k after (held ++ h ∷ []) (rows ++ rows_at_sink o mark node.kept) fs)
closing-gives o groups k node after held h rows floor mark es fs is_floor is_mark rises kept waits idle given late same = by_operator o groups kept given
  where
    later : List Held
    later = held ++ h ∷ []

    rest_same : IsReordered (rest k node held es) (rest k after later fs)
    rest_same f =
        let a : sum_by f (rest k node held es) ≡ (sum_by f (waiting_from 0 node.lanes) + sum_by f (flat_map (work_in k) held)) + sum_by f es = sum_by-rest f k node held es in
        let b : sum_by f (rest k after later fs) ≡ (sum_by f (waiting_from 0 after.lanes) + sum_by f (flat_map (work_in k) later)) + sum_by f fs = sum_by-rest f k after later fs in
        let c : sum_by f (flat_map (work_in k) later) ≡ sum_by f (flat_map (work_in k) held) + sum_by f (work_in k h) = sum_by-held_push f (work_in k) held h in
        omega (arith, same f, waits f, idle f)

    by_operator : (o : Operator) → ((g : WindowOperator) → o ≡ Windowed g → IsGrouping g) → after.kept ≡ kept_at o mark node.kept → rows_left_in k h ≡ rows_at o floor mark node.kept
        → IsReordered (gives_by o k node held rows es) (gives_by o k after later (rows ++ rows_at_sink o mark node.kept) fs)
    by_operator (ParDo op) groups kept given f =
        let d : sum_by f (flat_map (rows_left_in k) later) ≡ sum_by f (flat_map (rows_left_in k) held) = sum_by-held_push f (rows_left_in k) held h ∙ ap (λ l. sum_by f (flat_map (rows_left_in k) held) + sum_by f l) given ∙ omega arith in
        sum_by-append f (flat_map (rows_left_in k) held) (flat_map (outputs_of op) (all_records (rest k node held es)))
        ∙ (λ i. sym d i
        + IsReordered-flat_map (outputs_of op) (all_records (rest k node held es)) (all_records (rest k after later fs)) (IsReordered-map (λ e. e.rec) (rest k node held es) (rest k after later fs) rest_same) f i)
        ∙ sym (sum_by-append f (flat_map (rows_left_in k) later) (flat_map (outputs_of op) (all_records (rest k after later fs))))
    by_operator (Windowed g) groups kept given f =
        let some : List KeptRec = rest k node held es in
        let a : sum_by f (gives_by (Windowed g) k node held rows es) ≡ sum_by f (flat_map (rows_left_in k) held) + sum_by f (at_least floor (operator_rows g (node.kept ++ some))) =
        sum_by-append f (flat_map (rows_left_in k) held) (at_least (least_begun_mark node.lanes) (operator_rows g (node.kept ++ some))) ∙ ap (λ n. sum_by f (flat_map (rows_left_in k) held) + sum_by f (at_least n (operator_rows g (node.kept ++ some)))) is_floor in
        let b : sum_by f (at_least floor (operator_rows g (node.kept ++ some))) ≡ sum_by f (rows_at (Windowed g) floor mark node.kept) + sum_by f (at_least mark (operator_rows g (still_open g mark node.kept ++ some))) =
        closing (groups g refl) floor mark node.kept some rises (none_early mark some late) f ∙ sum_by-append f (rows_at (Windowed g) floor mark node.kept) (at_least mark (operator_rows g (still_open g mark node.kept ++ some))) in
        let c : sum_by f (at_least mark (operator_rows g (still_open g mark node.kept ++ some))) ≡ sum_by f (at_least mark (operator_rows g (after.kept ++ rest k after later fs))) =
        IsReordered-filter (λ r. not (nat_lt r.time mark)) (operator_rows g (still_open g mark node.kept ++ some)) (operator_rows g (after.kept ++ rest k after later fs))
        ((groups g refl).order (still_open g mark node.kept ++ some) (after.kept ++ rest k after later fs)
        (λ f. sum_by-append f (still_open g mark node.kept) some ∙ (λ i. sum_by f (sym kept i) + rest_same f i) ∙ sym (sum_by-append f after.kept (rest k after later fs)))) f in
        let d : sum_by f (flat_map (rows_left_in k) later) ≡ sum_by f (flat_map (rows_left_in k) held) + sum_by f (rows_at (Windowed g) floor mark node.kept) =
        sum_by-held_push f (rows_left_in k) held h ∙ ap (λ l. sum_by f (flat_map (rows_left_in k) held) + sum_by f l) given in
        let e : sum_by f (gives_by (Windowed g) k after later (rows ++ []) fs) ≡ sum_by f (flat_map (rows_left_in k) later) + sum_by f (at_least mark (operator_rows g (after.kept ++ rest k after later fs))) =
        sum_by-append f (flat_map (rows_left_in k) later) (at_least (least_begun_mark after.lanes) (operator_rows g (after.kept ++ rest k after later fs))) ∙ ap (λ n. sum_by f (flat_map (rows_left_in k) later) + sum_by f (at_least n (operator_rows g (after.kept ++ rest k after later fs)))) is_mark in
        omega arith
    by_operator Sink groups kept given f =
        sink_closing mark rows node.kept (rest k node held es) (rest k after later fs) rest_same f
        ∙ ap (λ l. sum_by f ((rows ++ sorted_records (before mark (all_records node.kept))) ++ all_records (l ++ rest k after later fs))) (sym kept)

-- a transform adds no rows
collects_none : (kind : Kind) (mark : ℕ) (es : List KeptRec) → rows_at_sink (operator_of kind) mark es ≡ []
collects_none (Do op) mark es = refl
collects_none (Group agg windows) mark es = refl
collects_none (Session agg gap) mark es = refl
collects_none (Join combine windows) mark es = refl

pub none_past : {X : Type 0} (xs : List X) (j : ℕ) → slice_get xs j ≡ None → length xs ≤ j
none_past xs j h = ⊎_elim (λ a. let k : Some a.0 ≡ None = sym a.2 ∙ h in cc) (λ b. b.0) (slice_get_cases xs j).1

-- the rows of the sink change only where the sink closes
rows_of_others : (plan : Shape) (k n mark : ℕ) (rows : List Record) (es : List KeptRec) → k ≤ length plan.steps → n ≤ length plan.steps → k ≢ n
    → is_sink (operator_at (slice_get plan.steps k)) ≡ true → rows ++ rows_at_sink (operator_at (slice_get plan.steps n)) mark es ≡ rows
rows_of_others plan k n mark rows es within_k within_n ne sink = by_case (slice_get plan.steps n) refl (slice_get plan.steps k) refl sink
  where
    past : (j : ℕ) → j ≤ length plan.steps → slice_get plan.steps j ≡ None → j ≡ length plan.steps
    past j w h = omega (arith, none_past plan.steps j h)

    by_case : (o : Option Step) → slice_get plan.steps n ≡ o → (p : Option Step) → slice_get plan.steps k ≡ p → is_sink (operator_at p) ≡ true → rows ++ rows_at_sink (operator_at o) mark es ≡ rows
    by_case (Some s) e p f sink = ap (λ l. rows ++ l) (collects_none s.kind mark es) ∙ append-nil rows
    by_case None e (Some s) f sink = let k : false ≡ true = sym (no_sink s.kind) ∙ sink in cc
    by_case None e None f sink = absurd (ne (past k within_k f ∙ sym (past n within_n e)))

-- ---- the event
module _ (plan : Shape) (m : Moment) (n l : ℕ) (node : Node) (lane : CoreLane) (epoch : ℕ) where
  abbrev pub begun_lane : CoreLane
  begun_lane = record lane { conts = with_first_closing lane.conts }

  abbrev pub closing_mark : ℕ
  closing_mark = least_begun_mark (slice_set node.lanes l begun_lane)

  abbrev pub begun_node : Node
  begun_node = record (set_lane l begun_lane node) { kept = kept_at (operator_at (slice_get plan.steps n)) closing_mark node.kept; closings = node.closings + 1 }

  abbrev pub new_close : Held
  new_close = Close n l epoch node.closings (least_begun_mark node.lanes) closing_mark (rows_at (operator_at (slice_get plan.steps n)) (least_begun_mark node.lanes) closing_mark node.kept) (is_sink (operator_at (slice_get plan.steps n)))

  abbrev pub after_beginning : Moment
  after_beginning = record m { nodes = slice_set m.nodes n begun_node; held = m.held ++ new_close ∷ []; rows = m.rows ++ rows_at_sink (operator_at (slice_get plan.steps n)) closing_mark node.kept }

  module _ (groups : (g : WindowOperator) → operator_at (slice_get plan.steps n) ≡ Windowed g → IsGrouping g) (at : slice_get m.nodes n ≡ Some node) (in_it : slice_get node.lanes l ≡ Some lane) (rises : least_begun_mark node.lanes ≤ closing_mark) (timely : IsTimely plan after_beginning) where
    waits : (f : KeptRec → ℕ) → sum_by f (waiting_from 0 begun_node.lanes) ≡ sum_by f (waiting_from 0 node.lanes)
    waits f =
        let a : sum_by f (waiting_from 0 begun_node.lanes) + sum_by f (on_lane (0 + l) (waiting_in lane)) ≡ sum_by f (waiting_from 0 node.lanes) + sum_by f (on_lane (0 + l) (waiting_in begun_lane)) = sum_by-waiting_set f 0 node.lanes l lane begun_lane in_it in
        let b : sum_by f (on_lane (0 + l) (waiting_in begun_lane)) ≡ sum_by f (on_lane (0 + l) (waiting_in lane)) = ap (λ r. sum_by f (on_lane (0 + l) r)) (waiting-first_closing lane.conts) in
        omega arith

    late_same : (k : ℕ) (e : KeptRec) → late after_beginning k e ≡ late m k e
    late_same k e = lane_at-set m n l node begun_node lane begun_lane at in_it refl (λ o. late_for o e.rec.time) refl (record { node = k; lane = e.lane })

    new_node_is : node_at after_beginning n ≡ begun_node
    new_node_is = node_at-set_same m n node begun_node at

    rest_late : (es : List KeptRec) → sum_by (late m n) es ≡ 0 → sum_by (early_one closing_mark) (rest n node m.held es) ≡ 0
    rest_late es h =
        let a : sum_by (early_one (least_begun_mark (node_at after_beginning n).lanes)) (rest n (node_at after_beginning n) after_beginning.held es) ≡ 0 =
        rest_in_time plan after_beginning timely n es (sum_by-agree (late after_beginning n) (late m n) (late_same n) es ∙ h) in
        let b : sum_by (early_one closing_mark) (rest n begun_node after_beginning.held es) ≡ 0 =
        subst (λ (x : Node). sum_by (early_one (least_begun_mark x.lanes)) (rest n x after_beginning.held es) ≡ 0) new_node_is a in
        let f : KeptRec → ℕ = early_one closing_mark in
        let c : sum_by f (rest n begun_node after_beginning.held es) ≡ (sum_by f (waiting_from 0 begun_node.lanes) + sum_by f (flat_map (work_in n) after_beginning.held)) + sum_by f es = sum_by-rest f n begun_node after_beginning.held es in
        let d : sum_by f (rest n node m.held es) ≡ (sum_by f (waiting_from 0 node.lanes) + sum_by f (flat_map (work_in n) m.held)) + sum_by f es = sum_by-rest f n node m.held es in
        let e : sum_by f (flat_map (work_in n) after_beginning.held) ≡ sum_by f (flat_map (work_in n) m.held) + 0 = sum_by-held_push f (work_in n) m.held new_close in
        omega (arith, waits f)

    closes : (es fs : List KeptRec) → sum_by (late m n) es ≡ 0 → IsReordered es fs → IsReordered (gives plan m n es) (gives plan after_beginning n fs)
    closes es fs h same =
        subst (λ x. IsReordered (gives_by (operator_at (slice_get plan.steps n)) n x m.held m.rows es) (gives plan after_beginning n fs)) (sym (node_at-same m n node begun_node at)) (
        subst (λ x. IsReordered (gives_by (operator_at (slice_get plan.steps n)) n node m.held m.rows es) (gives_by (operator_at (slice_get plan.steps n)) n x after_beginning.held after_beginning.rows fs)) (sym new_node_is) (
        closing-gives (operator_at (slice_get plan.steps n)) groups n node begun_node m.held new_close m.rows (least_begun_mark node.lanes) closing_mark es fs refl refl rises refl waits (λ f. refl)
        (ap (λ b. cond b (rows_at (operator_at (slice_get plan.steps n)) (least_begun_mark node.lanes) closing_mark node.kept) []) (eq-eqb n n refl))
        (rest_late es h) same))

    elsewhere : (k : ℕ) → k ≢ n → k ≤ length plan.steps → n ≤ length plan.steps → (es fs : List KeptRec) → IsReordered es fs → IsReordered (gives plan m k es) (gives plan after_beginning k fs)
    elsewhere k ne within_k within_n es fs same =
        let other : node_at after_beginning k ≡ node_at m k = node_at-set_other m n node begun_node at k ne in
        gives-less (operator_at (slice_get plan.steps k)) k (node_at m k) (node_at after_beginning k) m.held after_beginning.held m.rows after_beginning.rows [] es fs
        (λ f. sym (sum_by-held_push f (rows_left_in k) m.held new_close ∙ ap (λ b. sum_by f (flat_map (rows_left_in k) m.held) + sum_by f (cond b (rows_at (operator_at (slice_get plan.steps n)) (least_begun_mark node.lanes) closing_mark node.kept) [])) (ne_eqb n k (λ e. ne (sym e))) ∙ omega arith))
        (λ f.
        let c : sum_by f (rest k (node_at after_beginning k) after_beginning.held fs) ≡ (sum_by f (waiting_from 0 (node_at m k).lanes) + sum_by f (flat_map (work_in k) after_beginning.held)) + sum_by f fs =
        sum_by-rest f k (node_at after_beginning k) after_beginning.held fs ∙ ap (λ (x : Node). (sum_by f (waiting_from 0 x.lanes) + sum_by f (flat_map (work_in k) after_beginning.held)) + sum_by f fs) other in
        let d : sum_by f (rest k (node_at m k) m.held es) ≡ (sum_by f (waiting_from 0 (node_at m k).lanes) + sum_by f (flat_map (work_in k) m.held)) + sum_by f es = sum_by-rest f k (node_at m k) m.held es in
        let e : sum_by f (flat_map (work_in k) after_beginning.held) ≡ sum_by f (flat_map (work_in k) m.held) + 0 = sum_by-held_push f (work_in k) m.held new_close in
        omega (arith, same f))
        (ap (λ (x : Node). x.kept) other) (ap (λ (x : Node). least_begun_mark x.lanes) other) (λ _. refl)
        (rows_of_others plan k n closing_mark m.rows node.kept within_k within_n ne)

    pub begun-gives : n ≤ length plan.steps → (k : ℕ) (es fs : List KeptRec) → k ≤ length plan.steps → sum_by (late m k) es ≡ 0 → IsReordered es fs → IsReordered (gives plan m k es) (gives plan after_beginning k fs)
    begun-gives within_n k es fs within in_time same = ⊎_elim
        (λ e. subst (λ k. sum_by (late m k) es ≡ 0 → IsReordered (gives plan m k es) (gives plan after_beginning k fs)) (sym e) (λ h. closes es fs h same) in_time)
        (λ ne. elsewhere k ne within within_n es fs same) (cases_eq k n)
