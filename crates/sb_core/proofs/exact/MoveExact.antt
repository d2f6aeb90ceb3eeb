-- Arrivals, deliveries, seals and ends: what each node gives.
use Rattle.std.proofs.Common.{◌≡◌, ℕ, ◌+◌, ◌<◌, Bool, true, false, cond, eqb, List, [], ◌∷◌, ◌++◌, take, drop, Some, sym, refl, ap, ◌∙◌, arith, ⊎_elim}
use Rattle.std.specs.Prelude.{◌&&◌, ◌≢◌}
use Rattle.std.specs.List.{flat_map, sum_by, slice_get}
use Rattle.std.proofs.lemmas.Bool.{eq-eqb, ne_eqb, cases_eq, lt-ltb, le-ltb, cases_lt}
use Rattle.std.proofs.lemmas.List.Sums.{sum_by-append, sum_by-take-drop}
use Rattle.std.proofs.lemmas.List.Concat.{flat_map-append}
use Rattle.sb_containers.specs.base.records.declared.item.Record.{Record}
use Rattle.sb_containers.specs.base.records.declared.element.KeptRec.{KeptRec}
use Rattle.sb_containers.specs.base.pardo.declared.operation.Op.{Op}
use Rattle.sb_core.specs.declared.moment.Node.{Node}
use Rattle.sb_core.specs.declared.held.Held.{Held}
use Rattle.sb_core.specs.declared.held.Held.TheVariants.{Work, Close}
use Rattle.sb_containers.specs.base.pipeline.declared.transform.Down.{Down}
use Rattle.sb_containers.specs.base.pipeline.Shapes.{Shape}
use Rattle.sb_core.specs.declared.moment.Moment.{Moment}
use Rattle.sb_containers.specs.declared.container.CoreLane.{CoreLane}
use Rattle.sb_containers.specs.base.pipeline.Operators.{operator_at}
use Rattle.sb_containers.specs.base.pardo.Outputs.{outputs_of}
use Rattle.sb_containers.specs.base.records.Elements.{on_lane, all_records}
use Rattle.sb_containers.specs.base.pipeline.Operators.Operator.{ParDo}
use Rattle.sb_core.specs.Closings.{is_sink}
use Rattle.sb_core.specs.Moments.{set_lane, set_node, with_held, node_at}
use Rattle.sb_containers.specs.Lanes.{with_arrival, with_seal, with_bundle, next_epoch, next_floor}
use Rattle.sb_core.specs.Exactness.{waiting_in, waiting_from, work_in, rows_left_in, rest, gives, gives_by}
use Rattle.sb_containers.specs.base.SumLemmas.{IsReordered, IsReordered-map, IsReordered-flat_map}
use Rattle.sb_core.proofs.exact.Flow.{brought, sum_by-brought, in_flight, extra}
use Rattle.sb_containers.proofs.Lists.{waiting-in_epoch, waiting-with_bundle}
use Rattle.sb_core.proofs.exact.Nodes.{node_at-set_other}
use Rattle.sb_containers.proofs.Begun.{begun_mark}
use Rattle.sb_core.proofs.windows.Groupings.{all_records-append, all_records-on_lane}
use Rattle.sb_core.proofs.exact.Gives.{sum_by-rest, lane-gives, sum_by-held_push}

-- one more bundle waits
waiting-with_arrival : (epoch floor : ℕ) (records : List Record) (lane : CoreLane) → IsReordered (waiting_in (with_arrival epoch floor records lane)) (records ++ waiting_in lane)
waiting-with_arrival epoch floor records lane =
    waiting-in_epoch epoch floor (with_bundle (record { number = lane.arrived + 1; epoch = epoch; floor = floor; records = records })) records (waiting-with_bundle (record { number = lane.arrived + 1; epoch = epoch; floor = floor; records = records })) lane.conts

pub waiting-with_seal : (mark : ℕ) (lane : CoreLane) → IsReordered (waiting_in (with_seal mark lane)) (waiting_in lane)
waiting-with_seal mark lane = waiting-in_epoch (next_epoch lane) (next_floor lane) (λ c. record c { mark = Some mark }) [] (λ c f. refl) lane.conts

module _ (plan : Shape) (m : Moment) (d : Down) (node : Node) (lane : CoreLane) (at : slice_get m.nodes d.node ≡ Some node) (in_it : slice_get node.lanes d.lane ≡ Some lane) where
  -- a bundle comes, and what is held changes: a node that gives u less and works off the same
  pub arrival-gives : (epoch floor : ℕ) (records : List Record) (held : List Held) → begun_mark (with_arrival epoch floor records lane) ≡ begun_mark lane
      → (k : ℕ) (es fs : List KeptRec) (u : List Record)
      → IsReordered (flat_map (rows_left_in k) m.held) (u ++ flat_map (rows_left_in k) held)
      → IsReordered (flat_map (work_in k) m.held) (flat_map (work_in k) held)
      → (is_sink (operator_at (slice_get plan.steps k)) ≡ true → u ≡ [])
      → IsReordered es (brought k (record { down = d; records = records }) ++ fs)
      → IsReordered (gives plan m k es) (u ++ gives plan (set_node d.node (set_lane d.lane (with_arrival epoch floor records lane) node) (with_held held m)) k fs)
  arrival-gives epoch floor records held mark k es fs u und work sink same =
      lane-gives plan m d node lane (with_arrival epoch floor records lane) held at in_it mark k es fs u und
      (λ f.
      let a : sum_by f (brought k (record { down = d; records = waiting_in (with_arrival epoch floor records lane) })) ≡ sum_by f (brought k (record { down = d; records = records })) + sum_by f (brought k (record { down = d; records = waiting_in lane })) =
      sum_by-brought f k d (waiting_in (with_arrival epoch floor records lane)) records (waiting_in lane) (waiting-with_arrival epoch floor records lane) in
      let b : sum_by f es ≡ sum_by f (brought k (record { down = d; records = records })) + sum_by f fs = same f ∙ sum_by-append f (brought k (record { down = d; records = records })) fs in
      omega (arith, work f))
      sink

  -- a lane in which the same waits
  pub calm-gives : (with : CoreLane) (held : List Held) → begun_mark with ≡ begun_mark lane → IsReordered (waiting_in with) (waiting_in lane)
      → ((k : ℕ) → IsReordered (flat_map (rows_left_in k) m.held) (flat_map (rows_left_in k) held))
      → ((k : ℕ) → IsReordered (flat_map (work_in k) m.held) (flat_map (work_in k) held))
      → (k : ℕ) (es fs : List KeptRec) → IsReordered es fs
      → IsReordered (gives plan m k es) (gives plan (set_node d.node (set_lane d.lane with node) (with_held held m)) k fs)
  calm-gives with held mark waits und work k es fs same =
      lane-gives plan m d node lane with held at in_it mark k es fs [] (und k)
      (λ f.
      let a : sum_by f (brought k (record { down = d; records = waiting_in with })) ≡ sum_by f (brought k (record { down = d; records = [] })) + sum_by f (brought k (record { down = d; records = waiting_in lane })) =
      sum_by-brought f k d (waiting_in with) [] (waiting_in lane) waits in
      let b : sum_by f (brought k (record { down = d; records = [] })) ≡ 0 = none f (eqb d.node k) in
      omega (arith, work k f, same f))
      (λ _. refl)
    where
      none : (f : KeptRec → ℕ) (b : Bool) → sum_by f (cond b (on_lane d.lane []) []) ≡ 0
      none f true = refl
      none f false = refl

-- what is in flight from a node to one further down, is what the place below has more
in_flight_is : (y : ℕ) (d : Down) (moved : List Record) (k : ℕ) → y < d.node → in_flight y d moved k k ≡ brought k (record { down = d; records = moved })
in_flight_is y d moved k h = ⊎_elim
    (λ b. ap (λ b. cond b (brought k (record { down = d; records = moved })) []) (lt-ltb y k b))
    (λ a. ap (λ b. cond b (brought k (record { down = d; records = moved })) []) (le-ltb y k a) ∙ sym (ap (λ b. cond b (on_lane d.lane moved) []) (ne_eqb d.node k (λ e. omega arith))))
    (cases_lt y k)

-- ---- a ParDo's Work is delivered
module _ (plan : Shape) (m : Moment) (op : Op) (y l epoch floor number : ℕ) (records : List Record) (others : List Held) (d : Down) (node : Node) (lane : CoreLane)
    (at : slice_get m.nodes d.node ≡ Some node) (in_it : slice_get node.lanes d.lane ≡ Some lane)
    (pulled : IsReordered m.held (Work y l epoch floor number records false ∷ others)) (down : y < d.node) (is : operator_at (slice_get plan.steps y) ≡ ParDo op) where
  abbrev pub images : List Record
  images = flat_map (outputs_of op) records

  abbrev pub held_after : List Held
  held_after = others ++ Work y l epoch floor number records true ∷ []

  abbrev pub after_delivery : Moment
  after_delivery = set_node d.node (set_lane d.lane (with_arrival epoch floor images lane) node) (with_held held_after m)

  und_same : (k : ℕ) → IsReordered (flat_map (rows_left_in k) m.held) (flat_map (rows_left_in k) held_after)
  und_same k f = IsReordered-flat_map (rows_left_in k) m.held (Work y l epoch floor number records false ∷ others) pulled f ∙ sym (sum_by-held_push f (rows_left_in k) others (Work y l epoch floor number records true) ∙ omega arith)

  work_less : (k : ℕ) → IsReordered (flat_map (work_in k) m.held) (cond (eqb y k) (on_lane l records) [] ++ flat_map (work_in k) held_after)
  work_less k f =
      IsReordered-flat_map (work_in k) m.held (Work y l epoch floor number records false ∷ others) pulled f
      ∙ ap (λ z. sum_by f (z ++ flat_map (work_in k) others)) (open_work (eqb y k))
      ∙ sum_by-append f (cond (eqb y k) (on_lane l records) []) (flat_map (work_in k) others)
      ∙ ap (λ n. sum_by f (cond (eqb y k) (on_lane l records) []) + n) (sym (sum_by-held_push f (work_in k) others (Work y l epoch floor number records true) ∙ ap (λ z. sum_by f (flat_map (work_in k) others) + sum_by f z) (done_work (eqb y k)) ∙ omega arith))
      ∙ sym (sum_by-append f (cond (eqb y k) (on_lane l records) []) (flat_map (work_in k) held_after))
    where
      open_work : (b : Bool) → cond {A = List KeptRec} (b && true) (on_lane l records) [] ≡ cond b (on_lane l records) []
      open_work true = refl
      open_work false = refl

      done_work : (b : Bool) → cond {A = List KeptRec} (b && false) (on_lane l records) [] ≡ []
      done_work true = refl
      done_work false = refl

  -- the ParDo itself
  gives_images : (es fs : List KeptRec) → IsReordered es fs → IsReordered (gives plan m y es) (images ++ gives plan after_delivery y fs)
  gives_images es fs same f =
      ap (λ o. sum_by f (gives_by o y (node_at m y) m.held m.rows es)) is
      ∙ by_pardo
      ∙ ap (λ (x : Node). sum_by f (images ++ gives_by (ParDo op) y x held_after m.rows fs)) (sym other)
      ∙ ap (λ o. sum_by f (images ++ gives_by o y (node_at after_delivery y) held_after m.rows fs)) (sym is)
    where
      other : node_at after_delivery y ≡ node_at m y
      other = node_at-set_other m d.node node (set_lane d.lane (with_arrival epoch floor images lane) node) at y (λ e. omega (arith, down))

      rest_less : IsReordered (rest y (node_at m y) m.held es) (on_lane l records ++ rest y (node_at m y) held_after fs)
      rest_less g =
          let a : sum_by g (rest y (node_at m y) m.held es) ≡ (sum_by g (waiting_from 0 (node_at m y).lanes) + sum_by g (flat_map (work_in y) m.held)) + sum_by g es = sum_by-rest g y (node_at m y) m.held es in
          let b : sum_by g (rest y (node_at m y) held_after fs) ≡ (sum_by g (waiting_from 0 (node_at m y).lanes) + sum_by g (flat_map (work_in y) held_after)) + sum_by g fs = sum_by-rest g y (node_at m y) held_after fs in
          let c : sum_by g (flat_map (work_in y) m.held) ≡ sum_by g (on_lane l records) + sum_by g (flat_map (work_in y) held_after) =
          work_less y g ∙ ap (λ b. sum_by g (cond b (on_lane l records) [] ++ flat_map (work_in y) held_after)) (eq-eqb y y refl) ∙ sum_by-append g (on_lane l records) (flat_map (work_in y) held_after) in
          let e : sum_by g (on_lane l records ++ rest y (node_at m y) held_after fs) ≡ sum_by g (on_lane l records) + sum_by g (rest y (node_at m y) held_after fs) = sum_by-append g (on_lane l records) (rest y (node_at m y) held_after fs) in
          omega (arith, same g)

      by_pardo : sum_by f (gives_by (ParDo op) y (node_at m y) m.held m.rows es) ≡ sum_by f (images ++ gives_by (ParDo op) y (node_at m y) held_after m.rows fs)
      by_pardo =
          let some = rest y (node_at m y) m.held es in
          let left = rest y (node_at m y) held_after fs in
          let a : sum_by f (gives_by (ParDo op) y (node_at m y) m.held m.rows es) ≡ sum_by f (flat_map (rows_left_in y) m.held) + sum_by f (flat_map (outputs_of op) (all_records some)) = sum_by-append f (flat_map (rows_left_in y) m.held) (flat_map (outputs_of op) (all_records some)) in
          let b : sum_by f (flat_map (outputs_of op) (all_records some)) ≡ sum_by f images + sum_by f (flat_map (outputs_of op) (all_records left)) =
          IsReordered-flat_map (outputs_of op) (all_records some) (all_records (on_lane l records ++ left)) (IsReordered-map (λ e. e.rec) some (on_lane l records ++ left) rest_less) f
          ∙ ap (λ r. sum_by f (flat_map (outputs_of op) r)) (all_records-append (on_lane l records) left ∙ ap (λ r. r ++ all_records left) (all_records-on_lane l records))
          ∙ ap (sum_by f) (flat_map-append (outputs_of op) records (all_records left)) ∙ sum_by-append f images (flat_map (outputs_of op) (all_records left)) in
          let c : sum_by f (images ++ gives_by (ParDo op) y (node_at m y) held_after m.rows fs) ≡ sum_by f images + sum_by f (gives_by (ParDo op) y (node_at m y) held_after m.rows fs) = sum_by-append f images (gives_by (ParDo op) y (node_at m y) held_after m.rows fs) in
          let e : sum_by f (gives_by (ParDo op) y (node_at m y) held_after m.rows fs) ≡ sum_by f (flat_map (rows_left_in y) held_after) + sum_by f (flat_map (outputs_of op) (all_records left)) = sum_by-append f (flat_map (rows_left_in y) held_after) (flat_map (outputs_of op) (all_records left)) in
          omega (arith, und_same y f)

  pub delivery-gives : begun_mark (with_arrival epoch floor images lane) ≡ begun_mark lane → (k : ℕ) (es fs : List KeptRec) → IsReordered es (in_flight y d images k k ++ fs)
      → IsReordered (gives plan m k es) (extra y images k ++ gives plan after_delivery k fs)
  delivery-gives mark k es fs same = ⊎_elim here elsewhere (cases_eq k y)
    where
      here : k ≡ y → IsReordered (gives plan m k es) (extra y images k ++ gives plan after_delivery k fs)
      here e f =
          let plain : IsReordered es fs = λ g. same g ∙ ap (λ b. sum_by g (cond b (brought k (record { down = d; records = images })) [] ++ fs)) (le-ltb y k (omega arith)) in
          ap (λ k. sum_by f (gives plan m k es)) e ∙ gives_images es fs plain f
          ∙ ap (λ k. sum_by f (images ++ gives plan after_delivery k fs)) (sym e) ∙ ap (λ b. sum_by f (cond b images [] ++ gives plan after_delivery k fs)) (sym (eq-eqb k y e))

      elsewhere : k ≢ y → IsReordered (gives plan m k es) (extra y images k ++ gives plan after_delivery k fs)
      elsewhere ne f =
          arrival-gives plan m d node lane at in_it epoch floor images held_after mark k es fs [] (und_same k)
          (λ g. work_less k g ∙ ap (λ b. sum_by g (cond b (on_lane l records) [] ++ flat_map (work_in k) held_after)) (ne_eqb y k (λ e. ne (sym e))))
          (λ _. refl) (λ g. same g ∙ ap (λ z. sum_by g (z ++ fs)) (in_flight_is y d images k down)) f
          ∙ ap (λ b. sum_by f (cond b images [] ++ gives plan after_delivery k fs)) (sym (ne_eqb k y ne))

-- ---- the next rows of a Close are delivered
module _ (plan : Shape) (m : Moment) (y l epoch serial floor mark : ℕ) (rows : List Record) (passed : Bool) (others : List Held) (count : ℕ) (d : Down) (node : Node) (lane : CoreLane)
    (at : slice_get m.nodes d.node ≡ Some node) (in_it : slice_get node.lanes d.lane ≡ Some lane)
    (pulled : IsReordered m.held (Close y l epoch serial floor mark rows passed ∷ others)) (down : y < d.node) (no_sink : is_sink (operator_at (slice_get plan.steps y)) ≡ false) where
  abbrev pub held_less : List Held
  held_less = others ++ Close y l epoch serial floor mark (drop count rows) passed ∷ []

  pub rows-gives : begun_mark (with_arrival serial floor (take count rows) lane) ≡ begun_mark lane → (k : ℕ) (es fs : List KeptRec) → IsReordered es (in_flight y d (take count rows) k k ++ fs)
      → IsReordered (gives plan m k es) (extra y (take count rows) k ++ gives plan (set_node d.node (set_lane d.lane (with_arrival serial floor (take count rows) lane) node) (with_held held_less m)) k fs)
  rows-gives calm k es fs same =
      arrival-gives plan m d node lane at in_it serial floor (take count rows) held_less calm k es fs (extra y (take count rows) k)
      (λ f.
      let a : sum_by f (flat_map (rows_left_in k) m.held) ≡ sum_by f (cond (eqb y k) rows []) + sum_by f (flat_map (rows_left_in k) others) =
      IsReordered-flat_map (rows_left_in k) m.held (Close y l epoch serial floor mark rows passed ∷ others) pulled f ∙ sum_by-append f (cond (eqb y k) rows []) (flat_map (rows_left_in k) others) in
      let b : sum_by f (flat_map (rows_left_in k) held_less) ≡ sum_by f (flat_map (rows_left_in k) others) + sum_by f (cond (eqb y k) (drop count rows) []) = sum_by-held_push f (rows_left_in k) others (Close y l epoch serial floor mark (drop count rows) passed) in
      let c : sum_by f (cond (eqb y k) rows []) ≡ sum_by f (extra y (take count rows) k) + sum_by f (cond (eqb y k) (drop count rows) []) =
      cut f (eqb y k) ∙ ap (λ b. sum_by f (cond b (take count rows) []) + sum_by f (cond (eqb y k) (drop count rows) [])) (flip y k) in
      let e : sum_by f (extra y (take count rows) k ++ flat_map (rows_left_in k) held_less) ≡ sum_by f (extra y (take count rows) k) + sum_by f (flat_map (rows_left_in k) held_less) = sum_by-append f (extra y (take count rows) k) (flat_map (rows_left_in k) held_less) in
      omega arith)
      (λ f. IsReordered-flat_map (work_in k) m.held (Close y l epoch serial floor mark rows passed ∷ others) pulled f ∙ sym (sum_by-held_push f (work_in k) others (Close y l epoch serial floor mark (drop count rows) passed) ∙ omega arith))
      (λ sink. ⊎_elim (λ e. let x : true ≡ false = sym sink ∙ ap (λ k. is_sink (operator_at (slice_get plan.steps k))) e ∙ no_sink in cc) (λ ne. ap (λ b. cond b (take count rows) []) (ne_eqb k y ne)) (cases_eq k y))
      (λ g. same g ∙ ap (λ z. sum_by g (z ++ fs)) (in_flight_is y d (take count rows) k down))
    where
      cut : (f : Record → ℕ) (b : Bool) → sum_by f (cond b rows []) ≡ sum_by f (cond b (take count rows) []) + sum_by f (cond b (drop count rows) [])
      cut f true = sym (sum_by-take-drop f rows count)
      cut f false = refl

      flip : (a b : ℕ) → eqb a b ≡ eqb b a
      flip a b = ⊎_elim (λ e. eq-eqb a b e ∙ sym (eq-eqb b a (sym e))) (λ ne. ne_eqb a b ne ∙ sym (ne_eqb b a (λ e. ne (sym e)))) (cases_eq a b)
