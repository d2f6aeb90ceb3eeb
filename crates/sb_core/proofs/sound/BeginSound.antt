-- The beginning of a closing keeps a moment sound.
use Rattle.sb_containers.specs.base.EarlierLemmas.{ascending-join}
use Rattle.sb_containers.specs.base.NumberLemmas.{bind_some}
use Rattle.sb_containers.specs.base.ElementLemmas.{All-join, All-passed, every}
use Rattle.sb_core.proofs.windows.WindowOperators.{IsGrouping, kept-closed}
use Rattle.sb_core.proofs.windows.WindowsAt.{windows-at}
use Rattle.sb_core.proofs.sound.Orderly.{lawful_of, tidy_of, sound_of, IsLawful, IsTidy}
use Rattle.std.proofs.Common.{cond, length-set, ◌≡◌, ℕ, suc, ◌+◌, ◌≤◌, ◌<◌, true, false, not, ltb, List, [], ◌∷◌, ◌++◌, length, Some, None, Option, sym, refl, ap, subst, ◌∙◌, arith, ⊎_elim, append-nil, set as slice_set, add-zero}
use Rattle.std.specs.Prelude.{min, ◌⊎◌, ◌≢◌, ◌||◌, nat_lt, sum_by}
use Rattle.std.specs.List.{slice_get, list_any, AllByRecursion}
use Rattle.std.proofs.lemmas.Bool.{cases_eq, ltb-true, ltb-false, not-true}
use Rattle.std.proofs.lemmas.List.Sums.{sum_by-cons}
use Rattle.std.proofs.lemmas.List.Folds.{list_any-append}
use Rattle.std.proofs.lemmas.Option.{slice_get_within, same_Some}
use Rattle.sb_containers.specs.base.records.declared.element.KeptRec.{KeptRec}
use Rattle.sb_containers.specs.declared.container.Cont.{Cont}
use Rattle.sb_containers.specs.declared.container.CoreLane.{CoreLane}
use Rattle.sb_containers.specs.base.pipeline.declared.transform.Down.{Down}
use Rattle.sb_core.specs.declared.moment.Node.{Node}
use Rattle.sb_containers.specs.base.pipeline.declared.transform.Step.{Step}
use Rattle.sb_core.specs.Soundness.{IsOpenAtSource, out_of, numbers_of, Begins, IsOpenBelow, AreKeptAt, IsSound}
use Rattle.sb_containers.specs.base.pipeline.Shapes.{Shape}
use Rattle.sb_core.specs.declared.moment.Moment.{Moment}
use Rattle.sb_core.specs.declared.held.Held.{Held}
use Rattle.sb_core.specs.declared.held.Held.TheVariants.{Work, Close}
use Rattle.sb_containers.specs.base.records.Orders.{IsAscending}
use Rattle.sb_containers.specs.base.records.Records.{record_cmp, before, at_least}
use Rattle.sb_containers.specs.base.pipeline.Operators.{Operator, operator_rows, operator_at, WindowOperator}
use Rattle.sb_containers.specs.base.records.Elements.{all_records}
use Rattle.sb_containers.specs.base.pipeline.Plans.{IsPlan}
use Rattle.sb_containers.specs.base.pipeline.Operators.Operator.{ParDo, Windowed, Sink}
use Rattle.sb_containers.specs.base.OnLaneLemmas.{All-all_records}
use Rattle.sb_containers.specs.Marks.{before_closing, first_is_closing, last_of_first, least_begun_mark}
use Rattle.sb_core.specs.Moments.{is_close, is_work, lane_at, node_at}
use Rattle.sb_containers.specs.Lanes.{closable, next_epoch, with_first_closing}
use Rattle.sb_core.specs.Closings.{is_sink, kept_at, rows_at, rows_at_sink, is_pardo}
use Rattle.sb_core.specs.MomentSteps.{after_begin}
use Rattle.sb_core.specs.Bounds.{bound_at}
use Rattle.sb_core.specs.Holdings.{is_unpassed, IsCloseOf}
use Rattle.sb_containers.proofs.Lists.{cond_is_some}
use Rattle.sb_core.proofs.exact.Nodes.{lane_at-cases, node_at-same, node_at-set_same, node_at-set_other, lane_at-is, of_each_node}
use Rattle.sb_containers.specs.base.SortingLemmas.{records_total, in_order-ascending, All-in_order}
use Rattle.sb_core.proofs.exact.EventExact.{transform_is}
use Rattle.sb_core.proofs.exact.BeginExact.{none_past, begun_lane, closing_mark, begun_node, new_close, after_beginning}
use Rattle.sb_core.proofs.lawful.BeginLawful.{IsClosable, closable-is, rises, begin-lawful, idle-calm}
use Rattle.sb_core.proofs.sound.HeldLists.{count_snoc, All-last}
use Rattle.sb_core.proofs.sound.TidyLanes.{SameEpochs, numbered-less, All-same, has-same, same_epochs, same-first_closing}
use Rattle.sb_core.proofs.sound.TidyFrame.{before-set, lone_set}
use Rattle.sb_core.proofs.sound.PutTidy.{open_moves, lanes_move}
use Rattle.sb_core.proofs.times.WithinBound.{rows-bounded}

first_closing_sum : (g : Cont → ℕ) → ((c : Cont) → g (record c { closing = true }) ≡ g c) → (cs : List Cont) → sum_by g (with_first_closing cs) ≡ sum_by g cs
first_closing_sum g same [] = refl
first_closing_sum g same (c ∷ cs) = sum_by-cons g (record c { closing = true }) cs ∙ ap (λ n. n + sum_by g cs) (same c) ∙ sym (sum_by-cons g c cs)

module _ (plan : Shape) (is_plan : IsPlan plan) (m : Moment) (n l : ℕ) (node : Node) (lane : CoreLane) (c : Cont) (at : slice_get m.nodes n ≡ Some node) (in_it : slice_get node.lanes l ≡ Some lane)
    (closes : IsClosable lane.ended lane.conts c) (idle : list_any (is_close n) m.held ≡ false) (sound : IsSound plan m) where
  lawful : IsLawful plan m
  lawful = (lawful_of sound)

  tidy : IsTidy plan m
  tidy = (tidy_of sound)

  abbrev after : Moment
  after = after_beginning plan m n l node lane c.epoch

  abbrev with : CoreLane
  with = begun_lane plan m n l node lane c.epoch

  abbrev new : Node
  new = begun_node plan m n l node lane c.epoch

  abbrev close : Held
  close = new_close plan m n l node lane c.epoch

  abbrev mark : ℕ
  mark = closing_mark plan m n l node lane c.epoch

  abbrev o : Operator
  o = operator_at (slice_get plan.steps n)

  was : lane_at m (record { node = n; lane = l }) ≡ Some lane
  was = lane_at-is m (record { node = n; lane = l }) node lane at in_it

  up : least_begun_mark node.lanes ≤ mark
  up = rises plan m n l node lane c at in_it closes idle lawful

  by_place : (d : Down) → ((d ≡ record { node = n; lane = l }) × (lane_at after d ≡ Some with) × (lane_at m d ≡ Some lane)) ⊎ (lane_at after d ≡ lane_at m d)
  by_place d = lane_at-cases m n l node new lane with at in_it refl d

  kept_before : AreKeptAt o (least_begun_mark node.lanes) (bound_at plan n) node.kept
  kept_before = subst (λ (x : Node). AreKeptAt (operator_at (slice_get plan.steps n)) (least_begun_mark x.lanes) (bound_at plan n) x.kept) (node_at-same m n node new at) (tidy.kept n)

  -- a place where the lane began to close, or a lane as it was
  lane_was : (P : CoreLane → CoreLane → Type 0) → P lane with → ((x : CoreLane) → P x x) → (d : Down) (x : CoreLane) → lane_at after d ≡ Some x → (y : CoreLane) × (lane_at m d ≡ Some y) × P y x
  lane_was P here same d x h = ⊎_elim
      (λ z. (lane, z.2, subst (λ x. P lane x) (same_Some with x (sym z.1 ∙ h)) here))
      (λ z. (x, sym z ∙ h, same x)) (by_place d)

  abbrev IsAsBefore : CoreLane → CoreLane → Type 0
  IsAsBefore y x = (x.marks ≡ y.marks) × (SameEpochs y.conts x.conts) × (x.arrived ≡ y.arrived) × ((i : ℕ) → (sum_by (numbers_of i) x.conts ≡ sum_by (numbers_of i) y.conts) × (sum_by (out_of i) x.conts ≡ sum_by (out_of i) y.conts))

  as_before : (d : Down) (x : CoreLane) → lane_at after d ≡ Some x → (y : CoreLane) × (lane_at m d ≡ Some y) × IsAsBefore y x
  as_before = lane_was IsAsBefore
      (refl, same-first_closing lane.conts, refl, λ i. (first_closing_sum (numbers_of i) (λ c. refl) lane.conts, first_closing_sum (out_of i) (λ c. refl) lane.conts))
      (λ x. (refl, same_epochs x.conts, refl, λ i. (refl, refl)))

  more_unpassed : (k : ℕ) → list_any (is_unpassed k) m.held ≡ true → list_any (is_unpassed k) (m.held ++ close ∷ []) ≡ true
  more_unpassed k h = list_any-append (is_unpassed k) m.held (close ∷ []) ∙ ap (λ b. b || list_any (is_unpassed k) (close ∷ [])) h

  moves : (k next e f : ℕ) → IsOpenBelow (operator_at (slice_get plan.steps k)) (node_at m k).lanes (list_any (is_unpassed k) m.held) next e f
      → IsOpenBelow (operator_at (slice_get plan.steps k)) (node_at after k).lanes (list_any (is_unpassed k) (m.held ++ close ∷ [])) next e f
  moves k next e f =
      open_moves (operator_at (slice_get plan.steps k)) (node_at m k).lanes (node_at after k).lanes (list_any (is_unpassed k) m.held) (list_any (is_unpassed k) (m.held ++ close ∷ [])) next e f
      (lanes_move m n l node new lane with at in_it refl m.held k e f (λ z. sym (has-same e f lane.conts (with_first_closing lane.conts) (same-first_closing lane.conts)) ∙ z))
      (more_unpassed k)

  -- ---- what is kept
  kept_after : (o : Operator) → ((g : WindowOperator) → o ≡ Windowed g → IsGrouping g) → (w bound : ℕ) (kept : List KeptRec) → AreKeptAt o w bound kept → AreKeptAt o mark bound (kept_at o mark kept)
  kept_after (ParDo op) groups w bound kept all = all
  kept_after (Windowed g) groups w bound kept all = kept-closed (groups g refl) mark bound kept (every (λ e h. h.1) kept all)
  kept_after Sink groups w bound kept all =
      All-passed (λ e. (w ≤ e.rec.time) × (e.rec.time ≤ bound)) (λ e. (mark ≤ e.rec.time) × (e.rec.time ≤ bound)) _ (λ e h p. (ltb-false e.rec.time mark (not-true (ltb e.rec.time mark) p), h.1)) kept all

  -- ---- the rows of the sink
  collected_between : (o : Operator) → AreKeptAt o (least_begun_mark node.lanes) (bound_at plan n) node.kept → AllByRecursion (λ r. (least_begun_mark node.lanes ≤ r.time) × (r.time < mark)) (rows_at_sink o mark node.kept)
  collected_between (ParDo op) all = tt
  collected_between (Windowed g) all = tt
  collected_between Sink all =
      All-in_order (λ r. (least_begun_mark node.lanes ≤ r.time) × (r.time < mark)) record_cmp (before mark (all_records node.kept))
      (All-passed (λ r. least_begun_mark node.lanes ≤ r.time) (λ r. (least_begun_mark node.lanes ≤ r.time) × (r.time < mark)) (λ r. nat_lt r.time mark) (λ r a b. (a, ltb-true r.time mark b)) (all_records node.kept) (All-all_records (λ r. least_begun_mark node.lanes ≤ r.time) node.kept (every (λ e h. h.0) node.kept all)))

  collected_sorted : (o : Operator) → IsAscending record_cmp (rows_at_sink o mark node.kept)
  collected_sorted (ParDo op) = tt
  collected_sorted (Windowed g) = tt
  collected_sorted Sink = in_order-ascending records_total (before mark (all_records node.kept))

  rows_sorted : (o : Operator) → IsAscending record_cmp (rows_at o (least_begun_mark node.lanes) mark node.kept)
  rows_sorted (ParDo op) = tt
  rows_sorted (Windowed g) = in_order-ascending records_total (before mark (at_least (least_begun_mark node.lanes) (operator_rows g node.kept)))
  rows_sorted Sink = tt

  none_of_pardo : (o : Operator) → is_pardo o ≡ true → rows_at o (least_begun_mark node.lanes) mark node.kept ≡ []
  none_of_pardo (ParDo op) h = refl
  none_of_pardo (Windowed g) h = cc
  none_of_pardo Sink h = cc

  collects_none : (o : Operator) → is_sink o ≡ false → rows_at_sink o mark node.kept ≡ []
  collects_none (ParDo op) h = refl
  collects_none (Windowed g) h = refl
  collects_none Sink h = cc

  within : n < length plan.steps + 1
  within = subst (λ z. n < z) lawful.nodes (slice_get_within m.nodes n node at)

  -- of a transform nothing is collected
  none_collected : n ≢ length plan.steps → rows_at_sink o mark node.kept ≡ []
  none_collected ne = collects_none o (by_step (slice_get plan.steps n) refl)
    where
      by_step : (s : Option Step) → slice_get plan.steps n ≡ s → is_sink (operator_at (slice_get plan.steps n)) ≡ false
      by_step (Some s) e = transform_is plan n s e
      by_step None e = absurd (ne (omega (arith, within, none_past plan.steps n e)))

  sink_was : n ≡ length plan.steps → least_begun_mark (node_at m (length plan.steps)).lanes ≡ least_begun_mark node.lanes
  sink_was e = ap (λ k. least_begun_mark (node_at m k).lanes) (sym e) ∙ ap (λ (x : Node). least_begun_mark x.lanes) (node_at-same m n node new at)

  sorted_after : IsAscending record_cmp (m.rows ++ rows_at_sink o mark node.kept)
  sorted_after = ⊎_elim
      (λ e. ascending-join (least_begun_mark node.lanes) m.rows (rows_at_sink o mark node.kept) tidy.sorted (collected_sorted o) (subst (λ z. AllByRecursion (λ r. r.time < z) m.rows) (sink_was e) tidy.written) (every (λ r h. h.0) (rows_at_sink o mark node.kept) (collected_between o kept_before)))
      (λ ne. subst (λ l. IsAscending record_cmp (m.rows ++ l)) (sym (none_collected ne)) (subst (IsAscending record_cmp) (sym (append-nil m.rows)) tidy.sorted))
      (cases_eq n (length plan.steps))

  written_after : AllByRecursion (λ r. r.time < least_begun_mark (node_at after (length plan.steps)).lanes) (m.rows ++ rows_at_sink o mark node.kept)
  written_after = ⊎_elim
      (λ e. subst (λ z. AllByRecursion (λ r. r.time < z) (m.rows ++ rows_at_sink o mark node.kept)) (sym (ap (λ k. least_begun_mark (node_at after k).lanes) (sym e) ∙ ap (λ (x : Node). least_begun_mark x.lanes) (node_at-set_same m n node new at)))
      (All-join (λ r. r.time < mark) m.rows (rows_at_sink o mark node.kept)
      (every (λ r h. omega (arith, h, up)) m.rows (subst (λ z. AllByRecursion (λ r. r.time < z) m.rows) (sink_was e) tidy.written))
      (every (λ r h. h.1) (rows_at_sink o mark node.kept) (collected_between o kept_before))))
      (λ ne. subst (λ l. AllByRecursion (λ r. r.time < least_begun_mark (node_at after (length plan.steps)).lanes) (m.rows ++ l)) (sym (none_collected ne))
      (subst (λ l. AllByRecursion (λ r. r.time < least_begun_mark (node_at after (length plan.steps)).lanes) l) (sym (append-nil m.rows))
      (subst (λ (x : Node). AllByRecursion (λ r. r.time < least_begun_mark x.lanes) m.rows) (sym (node_at-set_other m n node new at (length plan.steps) (λ e. ne (sym e)))) tidy.written)))
      (cases_eq n (length plan.steps))

  -- ---- where the node had closed before
  before_node : before_closing (slice_set node.lanes l with) ≡ before_closing node.lanes
  before_node = before-set node.lanes l lane with in_it refl

  close_still : (h : Held) → IsCloseOf plan m h → IsCloseOf plan after h
  close_still (Work k i epoch floor number records delivered) h = h
  close_still (Close k i epoch serial floor c rows passed) h = (h.0, h.1 ∙ sym (of_each_node m n node new at (λ x. before_closing x.lanes) before_node k))

  calm_closed : (lanes : List CoreLane) → ((i : ℕ) (x : CoreLane) → slice_get lanes i ≡ Some x → first_is_closing x.conts ≡ false) → least_begun_mark lanes ≡ before_closing lanes
  calm_closed [] each = refl
  calm_closed (x ∷ []) each = ap (λ b. last_of_first (cond b (x.ended + 1) x.ended) x.marks) (each 0 x refl)
  calm_closed (x ∷ y ∷ lanes) each = λ i. min (last_of_first (cond (each 0 x refl i) (x.ended + 1) x.ended) x.marks) (calm_closed (y ∷ lanes) (λ j z h. each (suc j) z h) i)

  floor_is : least_begun_mark node.lanes ≡ before_closing (node_at after n).lanes
  floor_is = calm_closed node.lanes (idle-calm plan m n node at idle lawful) ∙ sym before_node ∙ ap (λ (x : Node). before_closing x.lanes) (sym (node_at-set_same m n node new at))

  pub begin-sound : IsSound plan after
  begin-sound =
      (sound_of (record {
        lawful = begin-lawful plan m n l node lane c at in_it closes idle lawful (rows-bounded plan o n (least_begun_mark node.lanes) (least_begun_mark node.lanes) mark node.kept (windows-at plan is_plan n) kept_before);
        tidy = record {
          bundle = tidy.bundle;
          lanes = λ k b. of_each_node m n node new at (λ x. length x.lanes) (length-set node.lanes l with) k ∙ tidy.lanes k b;
          numbers = λ d x h. let b = as_before d x h in numbered-less b.0 x b.2.2 (λ i. omega (arith, (b.2.3 i).0)) (tidy.numbers d b.0 b.1);
          outs = λ d x h i. let b = as_before d x h in (b.2.3 i).1 ∙ tidy.outs d b.0 b.1 i ∙ sym (count_snoc (is_work d.node d.lane i) m.held close ∙ add-zero _);
          open_source = λ s d x is h. let b = as_before d x h in subst (λ z. AllByRecursion (λ c. z ≤ c.epoch → IsOpenAtSource z c.epoch c.floor) x.conts) (ap length (sym b.2.0)) (All-same (λ e f. next_epoch b.0 ≤ e → IsOpenAtSource (next_epoch b.0) e f) b.0.conts x.conts b.2.1 (tidy.open_source s d b.0 is b.1));
          open_below = λ k s x is h. let b = as_before s.down x h in
              subst (λ z. AllByRecursion (λ c. z ≤ c.epoch → IsOpenBelow (operator_at (slice_get plan.steps k)) (node_at after k).lanes (list_any (is_unpassed k) (m.held ++ close ∷ [])) z c.epoch c.floor) x.conts) (ap length (sym b.2.0))
              (All-same (λ e f. next_epoch b.0 ≤ e → IsOpenBelow (operator_at (slice_get plan.steps k)) (node_at after k).lanes (list_any (is_unpassed k) (m.held ++ close ∷ [])) (next_epoch b.0) e f) b.0.conts x.conts b.2.1
              (every (λ c z w. moves k (next_epoch b.0) c.epoch c.floor (z w)) b.0.conts (tidy.open_below k s b.0 is b.1)));
          own_marks = own_marks;
          kept = λ k. ⊎_elim
              (λ e. subst (λ k. AreKeptAt (operator_at (slice_get plan.steps k)) (least_begun_mark (node_at after k).lanes) (bound_at plan k) (node_at after k).kept) (sym e)
              (subst (λ (x : Node). AreKeptAt (operator_at (slice_get plan.steps n)) (least_begun_mark x.lanes) (bound_at plan n) x.kept) (sym (node_at-set_same m n node new at)) (kept_after o (windows-at plan is_plan n) (least_begun_mark node.lanes) (bound_at plan n) node.kept kept_before)))
              (λ ne. subst (λ (x : Node). AreKeptAt (operator_at (slice_get plan.steps k)) (least_begun_mark x.lanes) (bound_at plan k) x.kept) (sym (node_at-set_other m n node new at k ne)) (tidy.kept k)) (cases_eq k n);
          closes = All-last (IsCloseOf plan after) m.held close (every close_still m.held tidy.closes) ((rows_sorted o, ((λ h. h), none_of_pardo o)), floor_is);
          sorted = sorted_after;
          written = written_after;
        };
      }))
    where
      own_marks : (k : ℕ) (s : Step) (x own : CoreLane) → slice_get plan.steps k ≡ Some s → lane_at after s.down ≡ Some x → (node_at after k).lanes ≡ own ∷ [] → Begins x.marks own.marks
      own_marks k s x own is h lone_is =
          let b = as_before s.down x h in
          subst (λ z. Begins z own.marks) (sym b.2.0) (⊎_elim
          (λ e. let z : slice_set node.lanes l with ≡ own ∷ [] = ap (λ (x : Node). x.lanes) (sym (node_at-set_same m n node new at)) ∙ ap (λ k. (node_at after k).lanes) (sym e) ∙ lone_is in
          let q = lone_set node.lanes l lane with own in_it z in
          subst (λ (own : CoreLane). Begins b.0.marks own.marks) (sym q.1) (tidy.own_marks k s b.0 lane is b.1 (ap (λ k. (node_at m k).lanes) e ∙ ap (λ (x : Node). x.lanes) (node_at-same m n node new at) ∙ q.0)))
          (λ ne. tidy.own_marks k s b.0 own is b.1 (ap (λ (x : Node). x.lanes) (sym (node_at-set_other m n node new at k ne)) ∙ lone_is)) (cases_eq k n))

-- ---- the event
pub begins-sound : (plan : Shape) (is_plan : IsPlan plan) (m m' : Moment) (n l : ℕ) → after_begin plan m n l ≡ Some m' → IsSound plan m → IsSound plan m'
begins-sound plan is_plan m m' n l h sound =
    let a = bind_some (slice_get m.nodes n) _ m' h in
    let b = bind_some (slice_get a.0.lanes l) _ m' a.2 in
    let c = bind_some (closable b.0.ended b.0.conts) _ m' b.2 in
    let d = cond_is_some (not (list_any (is_close n) m.held)) _ m' c.2 in
    subst (IsSound plan) (same_Some _ _ d.1) (begin-sound plan is_plan m n l a.0 b.0 c.0 a.1 b.1 (closable-is b.0.ended b.0.conts c.0 c.1) (not-true (list_any (is_close n) m.held) d.0) sound)
