-- What a node gives, where its state changes.
use Rattle.sb_containers.specs.base.NumberLemmas.{bind_some}
use Rattle.std.proofs.Common.{◌≡◌, ℕ, ◌+◌, true, false, not, cond, eqb, ltb, List, [], ◌∷◌, ◌++◌, Some, sym, refl, ap, ◌∙◌, arith, add_assoc}
use Rattle.std.specs.Prelude.{◌&&◌}
use Rattle.std.specs.List.{flat_map, sum_by, slice_get}
use Rattle.std.proofs.lemmas.List.Sums.{sum_by-append}
use Rattle.std.proofs.lemmas.List.Concat.{flat_map-append}
use Rattle.std.proofs.lemmas.Option.{same_Some}
use Rattle.sb_containers.specs.base.records.declared.item.Record.{Record}
use Rattle.sb_containers.specs.base.records.declared.element.KeptRec.{KeptRec}
use Rattle.sb_core.specs.declared.moment.Node.{Node}
use Rattle.sb_core.specs.declared.held.Held.{Held}
use Rattle.sb_containers.specs.base.pipeline.declared.transform.Down.{Down}
use Rattle.sb_core.specs.declared.held.Held.TheVariants.{Work}
use Rattle.sb_containers.specs.base.pipeline.Shapes.{Shape}
use Rattle.sb_core.specs.declared.moment.Moment.{Moment}
use Rattle.sb_containers.specs.declared.container.CoreLane.{CoreLane}
use Rattle.sb_containers.specs.base.records.Records.{at_least}
use Rattle.sb_containers.specs.base.pipeline.Operators.{Operator, operator_at, operator_rows}
use Rattle.sb_containers.specs.base.pardo.Outputs.{outputs_of}
use Rattle.sb_containers.specs.base.records.Elements.{on_lane, all_records}
use Rattle.sb_containers.specs.base.pipeline.Operators.Operator.{ParDo, Windowed, Sink}
use Rattle.sb_containers.specs.Marks.{least_begun_mark}
use Rattle.sb_core.specs.Closings.{is_sink}
use Rattle.sb_core.specs.Moments.{lane_at, with_lane, set_lane, set_node, with_held, node_at}
use Rattle.sb_core.specs.Exactness.{waiting_in, waiting_from, work_in, rows_left_in, rest, gives_by, gives}
use Rattle.sb_containers.specs.base.SumLemmas.{IsReordered, IsReordered-map, IsReordered-flat_map, IsReordered-filter}
use Rattle.sb_core.proofs.exact.Flow.{brought}
use Rattle.sb_core.proofs.windows.Groupings.{grouped-order}
use Rattle.sb_core.proofs.exact.Nodes.{waiting-changed, kept-changed, closed-changed}
use Rattle.sb_containers.proofs.Begun.{begun_mark}

pub sum_by-rest : (f : KeptRec → ℕ) (k : ℕ) (node : Node) (held : List Held) (es : List KeptRec)
    → sum_by f (rest k node held es) ≡ (sum_by f (waiting_from 0 node.lanes) + sum_by f (flat_map (work_in k) held)) + sum_by f es
sum_by-rest f k node held es =
    sum_by-append f (waiting_from 0 node.lanes ++ flat_map (work_in k) held) es ∙ ap (λ n. n + sum_by f es) (sum_by-append f (waiting_from 0 node.lanes) (flat_map (work_in k) held))

-- a node that gives u less, and has the same left to work off
pub gives-less : (o : Operator) (k : ℕ) (node after : Node) (held later : List Held) (rows more : List Record) (u : List Record) (es fs : List KeptRec)
    → IsReordered (flat_map (rows_left_in k) held) (u ++ flat_map (rows_left_in k) later)
    → IsReordered (rest k node held es) (rest k after later fs)
    → after.kept ≡ node.kept → least_begun_mark after.lanes ≡ least_begun_mark node.lanes → (is_sink o ≡ true → u ≡ []) → (is_sink o ≡ true → more ≡ rows)
    → IsReordered (gives_by o k node held rows es) (u ++ gives_by o k after later more fs)
gives-less (ParDo op) k node after held later rows more u es fs und same kept mark sink more_is f =
    sum_by-append f (flat_map (rows_left_in k) held) (flat_map (outputs_of op) (all_records (rest k node held es)))
    ∙ (λ i. und f i + IsReordered-flat_map (outputs_of op) (all_records (rest k node held es)) (all_records (rest k after later fs)) (IsReordered-map (λ e. e.rec) (rest k node held es) (rest k after later fs) same) f i)
    ∙ ap (λ n. n + sum_by f (flat_map (outputs_of op) (all_records (rest k after later fs)))) (sum_by-append f u (flat_map (rows_left_in k) later))
    ∙ add_assoc _ _ _
    ∙ ap (λ n. sum_by f u + n) (sym (sum_by-append f (flat_map (rows_left_in k) later) (flat_map (outputs_of op) (all_records (rest k after later fs)))))
    ∙ sym (sum_by-append f u (gives_by (ParDo op) k after later more fs))
gives-less (Windowed g) k node after held later rows more u es fs und same kept mark sink more_is f =
    sum_by-append f (flat_map (rows_left_in k) held) (at_least (least_begun_mark node.lanes) (operator_rows g (node.kept ++ rest k node held es)))
    ∙ (λ i. und f i + IsReordered-filter (λ r. not (ltb r.time (least_begun_mark node.lanes))) (operator_rows g (node.kept ++ rest k node held es)) (operator_rows g (after.kept ++ rest k after later fs)) (grouped-order g (node.kept ++ rest k node held es) (after.kept ++ rest k after later fs) all) f i)
    ∙ ap (λ n. sum_by f (u ++ flat_map (rows_left_in k) later) + sum_by f (at_least n (operator_rows g (after.kept ++ rest k after later fs)))) (sym mark)
    ∙ ap (λ n. n + sum_by f (at_least (least_begun_mark after.lanes) (operator_rows g (after.kept ++ rest k after later fs)))) (sum_by-append f u (flat_map (rows_left_in k) later))
    ∙ add_assoc _ _ _
    ∙ ap (λ n. sum_by f u + n) (sym (sum_by-append f (flat_map (rows_left_in k) later) (at_least (least_begun_mark after.lanes) (operator_rows g (after.kept ++ rest k after later fs)))))
    ∙ sym (sum_by-append f u (gives_by (Windowed g) k after later more fs))
  where
    all : IsReordered (node.kept ++ rest k node held es) (after.kept ++ rest k after later fs)
    all f = sum_by-append f node.kept (rest k node held es) ∙ (λ i. sum_by f (sym kept i) + same f i) ∙ sym (sum_by-append f after.kept (rest k after later fs))
gives-less Sink k node after held later rows more u es fs und same kept mark sink more_is f =
    sum_by-append f rows (all_records (node.kept ++ rest k node held es))
    ∙ ap (λ n. sum_by f rows + n) (IsReordered-map (λ e. e.rec) (node.kept ++ rest k node held es) (after.kept ++ rest k after later fs) all f)
    ∙ sym (sum_by-append f rows (all_records (after.kept ++ rest k after later fs)))
    ∙ ap (λ l. sum_by f (l ++ all_records (after.kept ++ rest k after later fs))) (sym (more_is refl))
    ∙ ap (λ l. sum_by f (l ++ gives_by Sink k after later more fs)) (sym (sink refl))
  where
    all : IsReordered (node.kept ++ rest k node held es) (after.kept ++ rest k after later fs)
    all f = sum_by-append f node.kept (rest k node held es) ∙ (λ i. sum_by f (sym kept i) + same f i) ∙ sym (sum_by-append f after.kept (rest k after later fs))

-- ---- where a lane is
pub lane_at-parts : (m : Moment) (d : Down) (lane : CoreLane) → lane_at m d ≡ Some lane → (node : Node) × (slice_get m.nodes d.node ≡ Some node) × (slice_get node.lanes d.lane ≡ Some lane)
lane_at-parts m d lane h = bind_some (slice_get m.nodes d.node) _ lane h

pub with_lane-is : (m : Moment) (d : Down) (node : Node) (lane : CoreLane) (m' : Moment) → slice_get m.nodes d.node ≡ Some node → with_lane d lane m ≡ Some m' → set_node d.node (set_lane d.lane lane node) m ≡ m'
with_lane-is m d node lane m' at h =
    let b = bind_some (slice_get m.nodes d.node) _ m' h in
    let same : b.0 ≡ node = same_Some _ _ (sym b.1 ∙ at) in
    ap (λ n. set_node d.node (set_lane d.lane lane n) m) (sym same) ∙ same_Some _ _ b.2

-- a Work that is not delivered is work of its node
pub working_is : (f : KeptRec → ℕ) (k : ℕ) (d : Down) (epoch floor number : ℕ) (records : List Record)
    → sum_by f (work_in k (Work d.node d.lane epoch floor number records false)) ≡ sum_by f (brought k (record { down = d; records = records }))
working_is f k d epoch floor number records = elim (eqb d.node k) as (λ b. sum_by f (cond (b && true) (on_lane d.lane records) []) ≡ sum_by f (cond b (on_lane d.lane records) [])) [ true ↦ refl | false ↦ refl ]

-- one more is held
pub sum_by-held_push : {X : Type 0} (f : X → ℕ) (g : Held → List X) (held : List Held) (h : Held) → sum_by f (flat_map g (held ++ h ∷ [])) ≡ sum_by f (flat_map g held) + sum_by f (g h)
sum_by-held_push f g held h = ap (sum_by f) (flat_map-append g held (h ∷ [])) ∙ sum_by-append f (flat_map g held) (g h ++ []) ∙ ap (λ n. sum_by f (flat_map g held) + n) (sum_by-append f (g h) [] ∙ omega arith)

-- a moment in which one lane and what is held are other
module _ (plan : Shape) (m : Moment) (d : Down) (node : Node) (lane with : CoreLane) (held : List Held) where
  pub lane-gives : slice_get m.nodes d.node ≡ Some node → slice_get node.lanes d.lane ≡ Some lane → begun_mark with ≡ begun_mark lane
      → (k : ℕ) (es fs : List KeptRec) (u : List Record)
      → IsReordered (flat_map (rows_left_in k) m.held) (u ++ flat_map (rows_left_in k) held)
      → ((f : KeptRec → ℕ) → sum_by f (brought k (record { down = d; records = waiting_in lane })) + (sum_by f (flat_map (work_in k) m.held) + sum_by f es)
      ≡ sum_by f (brought k (record { down = d; records = waiting_in with })) + (sum_by f (flat_map (work_in k) held) + sum_by f fs))
      → (is_sink (operator_at (slice_get plan.steps k)) ≡ true → u ≡ [])
      → IsReordered (gives plan m k es) (u ++ gives plan (set_node d.node (set_lane d.lane with node) (with_held held m)) k fs)
  lane-gives at in_it mark k es fs u und same sink =
      gives-less (operator_at (slice_get plan.steps k)) k (node_at m k) (node_at (set_node d.node (set_lane d.lane with node) m) k) m.held held m.rows m.rows u es fs und
      (λ f.
      let a : sum_by f (rest k (node_at m k) m.held es) ≡ (sum_by f (waiting_from 0 (node_at m k).lanes) + sum_by f (flat_map (work_in k) m.held)) + sum_by f es = sum_by-rest f k (node_at m k) m.held es in
      let b : sum_by f (rest k (node_at (set_node d.node (set_lane d.lane with node) m) k) held fs) ≡ (sum_by f (waiting_from 0 (node_at (set_node d.node (set_lane d.lane with node) m) k).lanes) + sum_by f (flat_map (work_in k) held)) + sum_by f fs = sum_by-rest f k (node_at (set_node d.node (set_lane d.lane with node) m) k) held fs in
      let c : sum_by f (waiting_from 0 (node_at (set_node d.node (set_lane d.lane with node) m) k).lanes) + sum_by f (brought k (record { down = d; records = waiting_in lane }))
      ≡ sum_by f (waiting_from 0 (node_at m k).lanes) + sum_by f (brought k (record { down = d; records = waiting_in with })) = waiting-changed m d node lane with at in_it f k in
      omega (arith, same f))
      (kept-changed m d node lane with at in_it k)
      (closed-changed m d node lane with at in_it mark k)
      sink (λ _. refl)
