-- A lane changes and begins the same marks: what stays tidy.
use Rattle.sb_containers.specs.base.ElementLemmas.{every}
use Rattle.std.proofs.Common.{length-set, refl, ◌≡◌, ℕ, suc, zero, ◌≤◌, ◌<◌, List, [], ◌∷◌, length, Some, sym, ap, subst, ◌∙◌, arith, ⊎_elim, inl, inr, set as slice_set}
use Rattle.std.specs.Prelude.{◌⊎◌, ◌≢◌, count_by, sum_by}
use Rattle.std.specs.List.{slice_get, list_any, AllByRecursion}
use Rattle.std.proofs.lemmas.Bool.{cases_eq}
use Rattle.std.proofs.lemmas.Option.{same_Some}
use Rattle.sb_containers.specs.declared.container.CoreLane.{CoreLane}
use Rattle.sb_containers.specs.base.records.declared.item.Stream.{Stream}
use Rattle.sb_containers.specs.base.pipeline.declared.transform.Down.{Down}
use Rattle.sb_core.specs.declared.moment.Node.{Node}
use Rattle.sb_containers.specs.base.pipeline.declared.transform.Step.{Step}
use Rattle.sb_core.specs.Soundness.{IsOpenAtSource, out_of, AreNumbered, Begins, IsOpenBelow, AreKeptAt}
use Rattle.sb_containers.specs.base.pipeline.Shapes.{Shape, source}
use Rattle.sb_core.specs.declared.moment.Moment.{Moment}
use Rattle.sb_core.specs.declared.held.Held.{Held}
use Rattle.sb_core.specs.declared.held.Held.TheVariants.{Work, Close}
use Rattle.sb_containers.specs.base.pipeline.Operators.{operator_at}
use Rattle.sb_containers.specs.Marks.{before_closing, last_of_first, least_begun_mark}
use Rattle.sb_core.specs.Moments.{is_work, lane_at, set_node, with_held, node_at}
use Rattle.sb_containers.specs.Lanes.{next_epoch}
use Rattle.sb_core.specs.Bounds.{bound_at}
use Rattle.sb_core.specs.Holdings.{is_unpassed, IsCloseOf}
use Rattle.sb_core.proofs.sound.Orderly.{IsTidy}
use Rattle.sb_core.proofs.exact.Nodes.{closed-set, least-set, lane_at-cases, lane_at-there, lane_at-other, of_each_node, node_at-same, node_at-set_same, node_at-set_other}
use Rattle.sb_containers.proofs.Begun.{begun_mark}

-- is it the place
pub place_or : (n l : ℕ) (d : Down) → (d ≡ record { node = n; lane = l }) ⊎ (d ≢ record { node = n; lane = l })
place_or n l d = ⊎_elim (λ e. ⊎_elim (λ f. inl (here e f)) (λ ne. inr (λ k. ne (ap (λ (d : Down). d.lane) k))) (cases_eq d.lane l)) (λ ne. inr (λ k. ne (ap (λ (d : Down). d.node) k))) (cases_eq d.node n)
  where
    here : d.node ≡ n → d.lane ≡ l → d ≡ record { node = n; lane = l }
    here e f = λ i. record { node = e i; lane = f i }

-- one lane of one
pub lone_set : (lanes : List CoreLane) (l : ℕ) (lane with own : CoreLane) → slice_get lanes l ≡ Some lane → slice_set lanes l with ≡ own ∷ [] → (lanes ≡ lane ∷ []) × (own ≡ with)
lone_set [] l lane with own at e = cc
lone_set (x ∷ []) zero lane with own at e = let k : x ≡ lane = same_Some x lane at in (ap (λ x. x ∷ []) k, cc)
lone_set (x ∷ []) (suc l) lane with own at e = cc
lone_set (x ∷ y ∷ lanes) zero lane with own at e = cc
lone_set (x ∷ y ∷ lanes) (suc zero) lane with own at e = cc
lone_set (x ∷ y ∷ lanes) (suc (suc l)) lane with own at e = cc

-- the mark of the last epoch that has ended, or 0
abbrev pub ended_mark : CoreLane → ℕ
ended_mark lane = last_of_first lane.ended lane.marks

pub before-set : (lanes : List CoreLane) (l : ℕ) (lane with : CoreLane) → slice_get lanes l ≡ Some lane → ended_mark with ≡ ended_mark lane → before_closing (slice_set lanes l with) ≡ before_closing lanes
before-set = least-set ended_mark before_closing (λ x. refl) (λ x y xs. refl)

module _ (plan : Shape) (m : Moment) (n l : ℕ) (node new : Node) (lane with : CoreLane) (at : slice_get m.nodes n ≡ Some node) (in_it : slice_get node.lanes l ≡ Some lane)
    (lanes : new.lanes ≡ slice_set node.lanes l with) (mark_same : begun_mark with ≡ begun_mark lane) (held : List Held) where
  abbrev now : Moment
  now = set_node n new (with_held held m)

  -- what is held is as it was, where the lane's last ended mark is
  pub closes_still : ended_mark with ≡ ended_mark lane → (hs : List Held) → AllByRecursion (IsCloseOf plan m) hs → AllByRecursion (IsCloseOf plan now) hs
  closes_still same hs all = every one hs all
    where
      one : (h : Held) → IsCloseOf plan m h → IsCloseOf plan now h
      one (Work k i epoch floor number records delivered) h = h
      one (Close k i epoch serial floor mark rows passed) h =
          (h.0, h.1 ∙ sym (of_each_node m n node new at (λ x. before_closing x.lanes) (ap before_closing lanes ∙ before-set node.lanes l lane with in_it same) k))

  pub tidy_still : IsTidy plan m → AreNumbered with
      → ((i : ℕ) → sum_by (out_of i) with.conts ≡ count_by (is_work n l i) held)
      → ((d : Down) → d ≢ record { node = n; lane = l } → (i : ℕ) → count_by (is_work d.node d.lane i) held ≡ count_by (is_work d.node d.lane i) m.held)
      → ((s : Stream) → source plan s ≡ Some (record { node = n; lane = l }) → AllByRecursion (λ c. next_epoch with ≤ c.epoch → IsOpenAtSource (next_epoch with) c.epoch c.floor) with.conts)
      → ((k : ℕ) (s : Step) → slice_get plan.steps k ≡ Some s → s.down ≡ record { node = n; lane = l }
      → AllByRecursion (λ c. next_epoch with ≤ c.epoch → IsOpenBelow (operator_at (slice_get plan.steps k)) (node_at now k).lanes (list_any (is_unpassed k) held) (next_epoch with) c.epoch c.floor) with.conts)
      → ((k : ℕ) (s : Step) (under : CoreLane) → slice_get plan.steps k ≡ Some s → s.down ≢ record { node = n; lane = l } → lane_at m s.down ≡ Some under → (e f : ℕ) → next_epoch under ≤ e
      → IsOpenBelow (operator_at (slice_get plan.steps k)) (node_at m k).lanes (list_any (is_unpassed k) m.held) (next_epoch under) e f
      → IsOpenBelow (operator_at (slice_get plan.steps k)) (node_at now k).lanes (list_any (is_unpassed k) held) (next_epoch under) e f)
      → ((xs : List ℕ) → Begins xs lane.marks → Begins xs with.marks)
      → ((k : ℕ) (s : Step) (own : CoreLane) → slice_get plan.steps k ≡ Some s → s.down ≡ record { node = n; lane = l } → (node_at m k).lanes ≡ own ∷ [] → Begins with.marks own.marks)
      → ((k : ℕ) (s : Step) → slice_get plan.steps k ≡ Some s → k < s.down.node)
      → (AreKeptAt (operator_at (slice_get plan.steps n)) (least_begun_mark node.lanes) (bound_at plan n) node.kept → AreKeptAt (operator_at (slice_get plan.steps n)) (least_begun_mark node.lanes) (bound_at plan n) new.kept)
      → AllByRecursion (IsCloseOf plan now) held
      → IsTidy plan now
  tidy_still tidy numbers outs_here outs_other source_here below_here below_other grows marks_here further kept_new closes =
      record {
        bundle = tidy.bundle;
        lanes = λ k b. of_each_node m n node new at (λ x. length x.lanes) (ap length lanes ∙ length-set node.lanes l with) k ∙ tidy.lanes k b;
        numbers = λ d x h. ⊎_elim (λ c. subst AreNumbered (same_Some with x (sym c.1 ∙ h)) numbers) (λ c. tidy.numbers d x (sym c ∙ h)) (by_place d);
        outs = outs;
        open_source = λ s d x is h. ⊎_elim
            (λ e. subst (λ (x : CoreLane). AllByRecursion (λ c. next_epoch x ≤ c.epoch → IsOpenAtSource (next_epoch x) c.epoch c.floor) x.conts) (same_Some with x (sym (placed d e) ∙ h)) (source_here s (is ∙ ap Some e)))
            (λ ne. tidy.open_source s d x is (sym (elsewhere d ne) ∙ h)) (place_or n l d);
        open_below = open_below;
        own_marks = own_marks;
        kept = λ k. ⊎_elim (λ e. subst (λ k. AreKeptAt (operator_at (slice_get plan.steps k)) (least_begun_mark (node_at now k).lanes) (bound_at plan k) (node_at now k).kept) (sym e) kept_here)
            (λ ne. subst (λ (x : Node). AreKeptAt (operator_at (slice_get plan.steps k)) (least_begun_mark x.lanes) (bound_at plan k) x.kept) (sym (node_at-set_other m n node new at k ne)) (tidy.kept k)) (cases_eq k n);
        closes = closes;
        sorted = tidy.sorted;
        written = subst (λ z. AllByRecursion (λ r. r.time < z) m.rows) (sym (of_each_node m n node new at (λ x. least_begun_mark x.lanes) (ap least_begun_mark lanes ∙ closed-set node.lanes l lane with in_it mark_same) (length plan.steps))) tidy.written;
      }
    where
      by_place : (d : Down) → ((d ≡ record { node = n; lane = l }) × (lane_at now d ≡ Some with) × (lane_at m d ≡ Some lane)) ⊎ (lane_at now d ≡ lane_at m d)
      by_place d = lane_at-cases m n l node new lane with at in_it lanes d

      placed : (d : Down) → d ≡ record { node = n; lane = l } → lane_at now d ≡ Some with
      placed d e = ap (lane_at now) e ∙ lane_at-there m n l node new lane with at in_it lanes

      elsewhere : (d : Down) → d ≢ record { node = n; lane = l } → lane_at now d ≡ lane_at m d
      elsewhere d ne = lane_at-other m n l node new lane with at in_it lanes d ne

      outs : (d : Down) (x : CoreLane) → lane_at now d ≡ Some x → (i : ℕ) → sum_by (out_of i) x.conts ≡ count_by (is_work d.node d.lane i) held
      outs d x h i = ⊎_elim
          (λ e. ap (λ (x : CoreLane). sum_by (out_of i) x.conts) (sym (same_Some with x (sym (placed d e) ∙ h))) ∙ outs_here i ∙ ap (λ (d : Down). count_by (is_work d.node d.lane i) held) (sym e))
          (λ ne. tidy.outs d x (sym (elsewhere d ne) ∙ h) i ∙ sym (outs_other d ne i)) (place_or n l d)

      open_below : (k : ℕ) (s : Step) (x : CoreLane) → slice_get plan.steps k ≡ Some s → lane_at now s.down ≡ Some x
          → AllByRecursion (λ c. next_epoch x ≤ c.epoch → IsOpenBelow (operator_at (slice_get plan.steps k)) (node_at now k).lanes (list_any (is_unpassed k) held) (next_epoch x) c.epoch c.floor) x.conts
      open_below k s x is h = ⊎_elim
          (λ e. subst (λ (x : CoreLane). AllByRecursion (λ c. next_epoch x ≤ c.epoch → IsOpenBelow (operator_at (slice_get plan.steps k)) (node_at now k).lanes (list_any (is_unpassed k) held) (next_epoch x) c.epoch c.floor) x.conts) (same_Some with x (sym (placed s.down e) ∙ h)) (below_here k s is e))
          (λ ne. let was : lane_at m s.down ≡ Some x = sym (elsewhere s.down ne) ∙ h in every (λ c z b. below_other k s x is ne was c.epoch c.floor b (z b)) x.conts (tidy.open_below k s x is was)) (place_or n l s.down)

      own_marks : (k : ℕ) (s : Step) (x own : CoreLane) → slice_get plan.steps k ≡ Some s → lane_at now s.down ≡ Some x → (node_at now k).lanes ≡ own ∷ [] → Begins x.marks own.marks
      own_marks k s x own is h lone = ⊎_elim this not_this (cases_eq k n)
        where
          this : k ≡ n → Begins x.marks own.marks
          this e =
              let z : slice_set node.lanes l with ≡ own ∷ [] = sym lanes ∙ ap (λ (x : Node). x.lanes) (sym (node_at-set_same m n node new at)) ∙ ap (λ k. (node_at now k).lanes) (sym e) ∙ lone in
              let o = lone_set node.lanes l lane with own in_it z in
              let lower : k < s.down.node = further k s is in
              let ne : s.down ≢ record { node = n; lane = l } = λ q. let y : s.down.node ≡ n = ap (λ (d : Down). d.node) q in absurd (omega arith) in
              let old : Begins x.marks lane.marks = tidy.own_marks k s x lane is (sym (elsewhere s.down ne) ∙ h) (ap (λ k. (node_at m k).lanes) e ∙ ap (λ (x : Node). x.lanes) (node_at-same m n node new at) ∙ o.0) in
              subst (λ (own : CoreLane). Begins x.marks own.marks) (sym o.1) (grows x.marks old)

          not_this : k ≢ n → Begins x.marks own.marks
          not_this ne =
              let z : (node_at m k).lanes ≡ own ∷ [] = ap (λ (x : Node). x.lanes) (sym (node_at-set_other m n node new at k ne)) ∙ lone in
              ⊎_elim (λ e. subst (λ (x : CoreLane). Begins x.marks own.marks) (same_Some with x (sym (placed s.down e) ∙ h)) (marks_here k s own is e z)) (λ o. tidy.own_marks k s x own is (sym (elsewhere s.down o) ∙ h) z) (place_or n l s.down)

      kept_here : AreKeptAt (operator_at (slice_get plan.steps n)) (least_begun_mark (node_at now n).lanes) (bound_at plan n) (node_at now n).kept
      kept_here =
          subst (λ (x : Node). AreKeptAt (operator_at (slice_get plan.steps n)) (least_begun_mark x.lanes) (bound_at plan n) x.kept) (sym (node_at-set_same m n node new at))
          (subst (λ w. AreKeptAt (operator_at (slice_get plan.steps n)) w (bound_at plan n) new.kept) (sym (ap least_begun_mark lanes ∙ closed-set node.lanes l lane with in_it mark_same))
          (kept_new (subst (λ (x : Node). AreKeptAt (operator_at (slice_get plan.steps n)) (least_begun_mark x.lanes) (bound_at plan n) x.kept) (node_at-same m n node new at) (tidy.kept n))))
