-- A lane is sealed: the moment stays lawful.
use Rattle.sb_containers.specs.base.ElementLemmas.{every}
use Rattle.sb_containers.specs.base.FeedingLemmas as Feeding
use Rattle.std.proofs.Common.{◌≡◌, ℕ, ◌+◌, ◌-◌, ◌≤◌, Bool, true, false, not, List, [], ◌∷◌, ◌++◌, length, Some, sym, refl, ap, ◌∙◌, arith, ⊎_elim, length-append}
use Rattle.std.specs.Prelude.{◌≢◌, ◌⊎◌, ◌&&◌, count_by}
use Rattle.std.specs.List.{slice_get, list_any, AllByRecursion}
use Rattle.std.proofs.lemmas.Bool.{eq-eqb, ne_eqb, cases_eq, eqb-false}
use Rattle.std.proofs.lemmas.Option.{same_Some}
use Rattle.sb_containers.specs.base.records.declared.item.Record.{Record}
use Rattle.sb_containers.specs.declared.container.CoreLane.{CoreLane}
use Rattle.sb_containers.specs.base.pipeline.declared.transform.Down.{Down}
use Rattle.sb_core.specs.declared.moment.Node.{Node}
use Rattle.sb_containers.specs.base.pipeline.declared.transform.Step.{Step}
use Rattle.sb_containers.specs.base.pipeline.Shapes.{Shape}
use Rattle.sb_core.specs.declared.moment.Moment.{Moment}
use Rattle.sb_core.specs.declared.held.Held.{Held}
use Rattle.sb_core.specs.declared.held.Held.TheVariants.{Work, Close}
use Rattle.sb_containers.specs.base.pipeline.Plans.{IsPlan}
use Rattle.sb_containers.specs.Marks.{begun_count, least_begun_mark, first_is_closing}
use Rattle.sb_containers.specs.Lanes.{next_epoch, next_floor, with_seal}
use Rattle.sb_core.specs.Moments.{is_close, is_close_of, lane_at, set_lane, set_node, with_held, node_at, floor_of, floor_at, epoch_of, epoch_at}
use Rattle.sb_containers.specs.LaneOrder.{IsLane}
use Rattle.sb_core.specs.Bounds.{bound_at}
use Rattle.sb_core.specs.Holdings.{IsWork, IsClosing, IsHeld, is_unpassed}
use Rattle.sb_core.specs.Soundness.{IsSealedBelow}
use Rattle.sb_core.proofs.sound.Orderly.{IsLawful}
use Rattle.sb_containers.specs.base.SumLemmas.{IsReordered}
use Rattle.sb_containers.proofs.LaneLaws.{MarkFits}
use Rattle.sb_core.proofs.exact.Nodes.{lane_at-is, lane_at-cases, lane_at-there, lane_at-other}
use Rattle.sb_containers.proofs.Begun.{begun_mark}
use Rattle.sb_containers.proofs.Sealing.{seal_calm, sealed_floor, seal-lane, seal-closing, seal-begun, seal-out}
use Rattle.sb_core.proofs.sound.HeldLists.{any_same, any_swap, count_swap, none_left, every_both, All-last}
use Rattle.sb_core.proofs.lawful.Changed.{work_still, close_still, below_still, lawful_still}
use Rattle.sb_core.proofs.lawful.HeldStill.{goes-on}

-- ---- a moment in which a lane is sealed
module _ (plan : Shape) (m : Moment) (d : Down) (node : Node) (lane : CoreLane) (mark : ℕ) (at : slice_get m.nodes d.node ≡ Some node) (in_it : slice_get node.lanes d.lane ≡ Some lane)
    (lawful : IsLawful plan m) (up : next_floor lane ≤ mark) (fits : MarkFits mark (next_epoch lane) lane.conts) (held : List Held) where
  was : lane_at m d ≡ Some lane
  was = lane_at-is m d node lane at in_it

  ok : IsLane (bound_at plan d.node) lane
  ok = lawful.lanes d lane was

  abbrev pub with : CoreLane
  with = with_seal mark lane

  abbrev pub now : Moment
  now = set_node d.node (set_lane d.lane (with_seal mark lane) node) (with_held held m)

  sealed_begun : begun_count (with_seal mark lane) ≡ begun_count lane
  sealed_begun = seal-begun (bound_at plan d.node) mark lane ok up fits

  sealed_mark : begun_mark (with_seal mark lane) ≡ begun_mark lane
  sealed_mark = seal_calm (bound_at plan d.node) mark lane ok

  pub sealed_cases : (e : Down) → ((e ≡ d) × (lane_at now e ≡ Some (with_seal mark lane)) × (lane_at m e ≡ Some lane)) ⊎ (lane_at now e ≡ lane_at m e)
  sealed_cases e = lane_at-cases m d.node d.lane node (set_lane d.lane with node) lane with at in_it refl e

  pub sealed_place : lane_at now d ≡ Some (with_seal mark lane)
  sealed_place = lane_at-there m d.node d.lane node (set_lane d.lane with node) lane with at in_it refl

  pub sealed_other : (e : Down) → e ≢ d → lane_at now e ≡ lane_at m e
  sealed_other e ne = lane_at-other m d.node d.lane node (set_lane d.lane with node) lane with at in_it refl e ne

  pub sealed_work : (k i epoch floor number : ℕ) (records : List Record) (delivered : Bool) → IsWork plan m k i epoch floor number records delivered → IsWork plan now k i epoch floor number records delivered
  sealed_work k i epoch floor number records delivered h =
      work_still plan m d.node d.lane node (set_lane d.lane with node) lane with at in_it refl held k i epoch floor number records delivered h (λ e o. seal-out (bound_at plan d.node) mark lane ok up fits epoch floor number o)

  pub sealed_close : (k i epoch serial floor c : ℕ) (rows : List Record) (passed : Bool) → IsClosing plan m k i epoch serial floor c rows passed
      → (passed ≡ false → (s : Step) → slice_get plan.steps k ≡ Some s → s.down ≢ d) → IsClosing plan now k i epoch serial floor c rows passed
  sealed_close k i epoch serial floor c rows passed h apart =
      close_still plan m d.node d.lane node (set_lane d.lane with node) lane with at in_it refl held refl sealed_begun sealed_mark k i epoch serial floor c rows passed h
      (λ e. (seal-closing (bound_at plan d.node) mark lane ok up fits, refl)) (λ p s is. (ap floor_of (sealed_other s.down (apart p s is)), ap epoch_of (sealed_other s.down (apart p s is))))

  pub sealed_below : (k : ℕ) (s : Step) → slice_get plan.steps k ≡ Some s → s.down ≢ d → list_any (is_unpassed k) held ≡ list_any (is_unpassed k) m.held → IsSealedBelow now k s.down
  sealed_below k s is ne unpassed =
      below_still plan m d.node d.lane node (set_lane d.lane with node) lane with at in_it refl held refl sealed_begun sealed_mark k s unpassed (ap floor_of (sealed_other s.down ne)) (ap epoch_of (sealed_other s.down ne)) (lawful.below k s is)

  pub sealed_lawful : AllByRecursion (IsHeld plan now) held
      → ((p : Held → Bool) → ((k i e s f c : ℕ) (rows : List Record) (a b : Bool) → p (Close k i e s f c rows a) ≡ p (Close k i e s f c rows b)) → count_by p held ≡ count_by p m.held)
      → ((k : ℕ) (s : Step) → slice_get plan.steps k ≡ Some s → IsSealedBelow now k s.down) → IsLawful plan now
  sealed_lawful holds counts below =
      lawful_still plan m d.node d.lane node (set_lane d.lane with node) lane with at in_it refl held refl sealed_begun sealed_mark lawful (seal-lane (bound_at plan d.node) mark lane ok up fits) holds
      (λ k. omega (arith, counts (is_close k) (λ k i e s f c rows a b. refl), lawful.one_close k))
      (λ e x h c. any_same (is_close_of e.node e.lane) held m.held (counts (is_close_of e.node e.lane) (λ k i e s f c rows a b. refl)) ∙ ⊎_elim
      (λ y. lawful.closing_held e lane y.2 (sym (seal-closing (bound_at plan d.node) mark lane ok up fits) ∙ ap (λ (x : CoreLane). first_is_closing x.conts) (same_Some with x (sym y.1 ∙ h)) ∙ c))
      (λ y. lawful.closing_held e x (sym y ∙ h) c) (sealed_cases e))
      below

-- ---- a stream's lane
pub seal-lawful : (plan : Shape) (m : Moment) (d : Down) (node : Node) (lane : CoreLane) (mark : ℕ) → slice_get m.nodes d.node ≡ Some node → slice_get node.lanes d.lane ≡ Some lane
    → IsLawful plan m → next_floor lane ≤ mark → MarkFits mark (next_epoch lane) lane.conts → ((k : ℕ) (s : Step) → slice_get plan.steps k ≡ Some s → s.down ≢ d)
    → IsLawful plan (set_node d.node (set_lane d.lane (with_seal mark lane) node) (with_held m.held m))
seal-lawful plan m d node lane mark at in_it lawful up fits apart =
    sealed_lawful plan m d node lane mark at in_it lawful up fits m.held (every one m.held lawful.holds) (λ p h. refl) (λ k s is. sealed_below plan m d node lane mark at in_it lawful up fits m.held k s is (apart k s is) refl)
  where
    one : (h : Held) → IsHeld plan m h → IsHeld plan (set_node d.node (set_lane d.lane (with_seal mark lane) node) (with_held m.held m)) h
    one (Work k i epoch floor number records delivered) h = sealed_work plan m d node lane mark at in_it lawful up fits m.held k i epoch floor number records delivered h
    one (Close k i epoch serial floor c rows passed) h = sealed_close plan m d node lane mark at in_it lawful up fits m.held k i epoch serial floor c rows passed h (λ p s is. apart k s is)

-- ---- the lane below a Close
pub pass-lawful : (plan : Shape) (is_plan : IsPlan plan) (m : Moment) (d : Down) (node : Node) (lane : CoreLane) (y l epoch serial floor mark : ℕ) (rows : List Record) (others : List Held) (s : Step)
    → slice_get m.nodes d.node ≡ Some node → slice_get node.lanes d.lane ≡ Some lane → IsLawful plan m → IsReordered m.held (Close y l epoch serial floor mark rows false ∷ others) → AllByRecursion (IsHeld plan m) others
    → IsClosing plan m y l epoch serial floor mark rows false → rows ≡ [] → slice_get plan.steps y ≡ Some s → s.down ≡ d → next_floor lane ≤ mark → MarkFits mark (next_epoch lane) lane.conts
    → IsLawful plan (set_node d.node (set_lane d.lane (with_seal mark lane) node) (with_held (others ++ Close y l epoch serial floor mark rows true ∷ []) m))
pass-lawful plan is_plan m d node lane y l epoch serial floor mark rows others s at in_it lawful pulled holds closing none is down up fits =
    sealed_lawful plan m d node lane mark at in_it lawful up fits done
    (All-last (IsHeld plan after) others (Close y l epoch serial floor mark rows true) (every_both one others holds left) passed_now)
    (λ p same. count_swap p m.held others (Close y l epoch serial floor mark rows false) (Close y l epoch serial floor mark rows true) pulled (same y l epoch serial floor mark rows true false))
    below
  where
    done : List Held
    done = others ++ Close y l epoch serial floor mark rows true ∷ []

    after : Moment
    after = set_node d.node (set_lane d.lane (with_seal mark lane) node) (with_held (others ++ Close y l epoch serial floor mark rows true ∷ []) m)

    left : AllByRecursion (λ h. is_close y h ≡ false) others
    left = none_left (is_close y) m.held others (Close y l epoch serial floor mark rows false) pulled (lawful.one_close y) (eq-eqb y y refl)

    one : (h : Held) → IsHeld plan m h → is_close y h ≡ false → IsHeld plan after h
    one (Work k i epoch floor number records delivered) h no_close = sealed_work plan m d node lane mark at in_it lawful up fits done k i epoch floor number records delivered h
    one (Close k i epoch serial floor c rows passed) h no_close =
        sealed_close plan m d node lane mark at in_it lawful up fits done k i epoch serial floor c rows passed h (λ p t it e. eqb-false k y no_close (Feeding.apart plan is_plan k y t s it is (e ∙ sym down)))

    passed_now : IsClosing plan after y l epoch serial floor mark rows true
    passed_now =
        sealed_close plan m d node lane mark at in_it lawful up fits done y l epoch serial floor mark rows true
        (goes-on closing rows true closing.times closing.before_mark (λ _. none))
        (λ f. cc)

    below : (k : ℕ) (t : Step) → slice_get plan.steps k ≡ Some t → IsSealedBelow after k t.down
    below k t it = ⊎_elim here there (cases_eq k y)
      where
        here : k ≡ y → IsSealedBelow after k t.down
        here e =
            let same : t ≡ s = same_Some t s (sym it ∙ ap (slice_get plan.steps) e ∙ is) in
            let to : t.down ≡ d = ap (λ (s : Step). s.down) same ∙ down in
            let was : lane_at m d ≡ Some lane = lane_at-is m d node lane at in_it in
            let now : lane_at after d ≡ Some (with_seal mark lane) = sealed_place plan m d node lane mark at in_it lawful up fits done in
            let many : length (lane.marks ++ mark ∷ []) ≡ length lane.marks + 1 = length-append lane.marks (mark ∷ []) in
            let epoch_under : length lane.marks ≡ serial = sym (ap epoch_of was) ∙ ap (epoch_at m) (sym down) ∙ closing.next_under refl s is in
            record {
              further = (lawful.below k t it).further;
              lane = with_seal mark lane;
              there = ap (lane_at after) to ∙ now;
              as_many = λ _. ap (epoch_at after) to ∙ ap epoch_of now ∙ many ∙ ap (λ n. n + 1) epoch_under ∙ passed_now.serial_is ∙ ap (λ k. (node_at after k).closings) (sym e);
              as_passed = λ _. ap (floor_at after) to ∙ ap floor_of now ∙ sealed_floor mark lane ∙ passed_now.mark_is ∙ ap (λ k. least_begun_mark (node_at after k).lanes) (sym e);
            }

        there : k ≢ y → IsSealedBelow after k t.down
        there ne =
            sealed_below plan m d node lane mark at in_it lawful up fits done k t it (λ e. ne (Feeding.apart plan is_plan k y t s it is (e ∙ sym down)))
            (any_swap (is_unpassed k) m.held others (Close y l epoch serial floor mark rows false) (Close y l epoch serial floor mark rows true) pulled (ap (λ b. b && not true) (ne_eqb y k (λ e. ne (sym e))) ∙ sym (ap (λ b. b && not false) (ne_eqb y k (λ e. ne (sym e))))))
