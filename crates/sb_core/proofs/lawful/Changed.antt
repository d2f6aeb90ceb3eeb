-- A lane changes and begins the same marks: what stays lawful.
use Rattle.std.proofs.Common.{◌≡◌, ℕ, ◌≤◌, Bool, true, false, List, length, Some, sym, ap, subst, ◌∙◌, ⊎_elim, set as slice_set, length-set}
use Rattle.std.specs.Prelude.{◌⊎◌, count_by, sum_by}
use Rattle.std.specs.List.{slice_get, list_any, AllByRecursion}
use Rattle.std.proofs.lemmas.Option.{same_Some}
use Rattle.sb_containers.specs.base.records.declared.item.Record.{Record}
use Rattle.sb_containers.specs.declared.container.CoreLane.{CoreLane}
use Rattle.sb_containers.specs.base.pipeline.declared.transform.Down.{Down}
use Rattle.sb_core.specs.declared.moment.Node.{Node}
use Rattle.sb_containers.specs.base.pipeline.declared.transform.Step.{Step}
use Rattle.sb_containers.specs.base.pipeline.Shapes.{Shape}
use Rattle.sb_core.specs.declared.moment.Moment.{Moment}
use Rattle.sb_core.specs.declared.held.Held.{Held}
use Rattle.sb_containers.specs.Marks.{begun_count, least_begun_mark, first_is_closing}
use Rattle.sb_core.specs.Moments.{is_close, is_close_of, lane_at, set_node, with_held, node_at, floor_at, epoch_at}
use Rattle.sb_containers.specs.LaneOrder.{IsLane, cont_at}
use Rattle.sb_core.specs.Bounds.{bound_at}
use Rattle.sb_core.specs.Holdings.{IsWork, IsClosing, IsHeld, is_unpassed}
use Rattle.sb_core.specs.Soundness.{IsSealedBelow}
use Rattle.sb_core.proofs.sound.Orderly.{IsLawful}
use Rattle.sb_core.proofs.exact.Nodes.{closed-set, lane_at-cases, of_each_node, sum_by-set_at}
use Rattle.sb_containers.proofs.Begun.{begun_mark}
use Rattle.sb_containers.proofs.Stays.{IsOutAt}

module _ (plan : Shape) (m : Moment) (n l : ℕ) (node new : Node) (lane with : CoreLane) (at : slice_get m.nodes n ≡ Some node) (in_it : slice_get node.lanes l ≡ Some lane) (lanes : new.lanes ≡ slice_set node.lanes l with) (held : List Held) where
  abbrev now : Moment
  now = set_node n new (with_held held m)

  cases : (e : Down) → ((e ≡ record { node = n; lane = l }) × (lane_at now e ≡ Some with) × (lane_at m e ≡ Some lane)) ⊎ (lane_at now e ≡ lane_at m e)
  cases e = lane_at-cases m n l node new lane with at in_it lanes e

  pub work_still : (k i epoch floor number : ℕ) (records : List Record) (delivered : Bool) → IsWork plan m k i epoch floor number records delivered
      → (◌≡◌ {A = Down} (record { node = k; lane = i }) (record { node = n; lane = l }) → IsOutAt epoch floor number lane → IsOutAt epoch floor number with) → IsWork plan now k i epoch floor number records delivered
  work_still k i epoch floor number records delivered h still = ⊎_elim here there (cases (record { node = k; lane = i }))
    where
      here : (◌≡◌ {A = Down} (record { node = k; lane = i }) (record { node = n; lane = l })) × (lane_at now (record { node = k; lane = i }) ≡ Some with) × (lane_at m (record { node = k; lane = i }) ≡ Some lane) → IsWork plan now k i epoch floor number records delivered
      here c =
          let same : h.lane ≡ lane = same_Some h.lane lane (sym h.there ∙ c.2) in
          let o = still c.0 (h.cont, ap (λ (x : CoreLane). cont_at epoch x.conts) (sym same) ∙ h.of_epoch, h.floor_is, h.is_out) in
          record { lane = with; there = c.1; cont = o.0; of_epoch = o.1; floor_is = o.2; is_out = o.3; times = h.times; only_pardo = h.only_pardo }

      there : lane_at now (record { node = k; lane = i }) ≡ lane_at m (record { node = k; lane = i }) → IsWork plan now k i epoch floor number records delivered
      there e = record { lane = h.lane; there = e ∙ h.there; cont = h.cont; of_epoch = h.of_epoch; floor_is = h.floor_is; is_out = h.is_out; times = h.times; only_pardo = h.only_pardo }

  -- where the lane begins the same marks, and its node as many closings
  module _ (closings_same : new.closings ≡ node.closings) (begun_same : begun_count with ≡ begun_count lane) (mark_same : begun_mark with ≡ begun_mark lane) where
    closed_same : (k : ℕ) → least_begun_mark (node_at now k).lanes ≡ least_begun_mark (node_at m k).lanes
    closed_same k = of_each_node m n node new at (λ x. least_begun_mark x.lanes) (ap least_begun_mark lanes ∙ closed-set node.lanes l lane with in_it mark_same) k

    pub close_still : (k i epoch serial floor mark : ℕ) (rows : List Record) (passed : Bool) → IsClosing plan m k i epoch serial floor mark rows passed
        → (◌≡◌ {A = Down} (record { node = k; lane = i }) (record { node = n; lane = l }) → (first_is_closing with.conts ≡ first_is_closing lane.conts) × (with.ended ≡ lane.ended))
        → (passed ≡ false → (s : Step) → slice_get plan.steps k ≡ Some s → (floor_at now s.down ≡ floor_at m s.down) × (epoch_at now s.down ≡ epoch_at m s.down)) → IsClosing plan now k i epoch serial floor mark rows passed
    close_still k i epoch serial floor mark rows passed h still same =
        let lane_now = ⊎_elim here there (cases (record { node = k; lane = i })) in
        record {
          lane = lane_now.0;
          there = lane_now.1;
          closing = lane_now.2;
          epoch_is = lane_now.3;
          mark_is = h.mark_is ∙ sym (closed_same k);
          rises = h.rises;
          serial_is = h.serial_is ∙ sym (of_each_node m n node new at (λ x. x.closings) closings_same k);
          times = h.times;
          before_mark = h.before_mark;
          no_rows = h.no_rows;
          under = λ p s is. (same p s is).0 ∙ h.under p s is;
          next_under = λ p s is. (same p s is).1 ∙ h.next_under p s is;
        }
      where
        here : (◌≡◌ {A = Down} (record { node = k; lane = i }) (record { node = n; lane = l })) × (lane_at now (record { node = k; lane = i }) ≡ Some with) × (lane_at m (record { node = k; lane = i }) ≡ Some lane) → (x : CoreLane) × (lane_at now (record { node = k; lane = i }) ≡ Some x) × (first_is_closing x.conts ≡ true) × (epoch ≡ x.ended)
        here c =
            let e : h.lane ≡ lane = same_Some h.lane lane (sym h.there ∙ c.2) in
            let z = still c.0 in
            (with, c.1, z.0 ∙ ap (λ (x : CoreLane). first_is_closing x.conts) (sym e) ∙ h.closing, h.epoch_is ∙ ap (λ (x : CoreLane). x.ended) e ∙ sym z.1)

        there : lane_at now (record { node = k; lane = i }) ≡ lane_at m (record { node = k; lane = i }) → (x : CoreLane) × (lane_at now (record { node = k; lane = i }) ≡ Some x) × (first_is_closing x.conts ≡ true) × (epoch ≡ x.ended)
        there e = (h.lane, e ∙ h.there, h.closing, h.epoch_is)

    pub below_still : (k : ℕ) (s : Step) → (list_any (is_unpassed k) held ≡ list_any (is_unpassed k) m.held) → (floor_at now s.down ≡ floor_at m s.down) → (epoch_at now s.down ≡ epoch_at m s.down) → IsSealedBelow m k s.down → IsSealedBelow now k s.down
    below_still k s unpassed floors epochs b =
        let x : (x : CoreLane) × (lane_at now s.down ≡ Some x) = ⊎_elim (λ c. (with, c.1)) (λ c. (b.lane, c ∙ b.there)) (cases s.down) in
        record {
          further = b.further;
          lane = x.0;
          there = x.1;
          as_many = λ h. epochs ∙ b.as_many (sym unpassed ∙ h) ∙ sym (of_each_node m n node new at (λ x. x.closings) closings_same k);
          as_passed = λ h. floors ∙ b.as_passed (sym unpassed ∙ h) ∙ sym (closed_same k);
        }

    pub lawful_still : IsLawful plan m → IsLane (bound_at plan n) with → AllByRecursion (IsHeld plan now) held
        → ((k : ℕ) → count_by (is_close k) held ≤ 1)
        → ((d : Down) (x : CoreLane) → lane_at now d ≡ Some x → first_is_closing x.conts ≡ true → list_any (is_close_of d.node d.lane) held ≡ true)
        → ((k : ℕ) (s : Step) → slice_get plan.steps k ≡ Some s → IsSealedBelow now k s.down) → IsLawful plan now
    lawful_still lawful ok holds one closing below =
        record {
          nodes = length-set m.nodes n new ∙ lawful.nodes;
          lanes = λ e x h. ⊎_elim (λ c. subst (λ y. IsLane (bound_at plan e.node) y) (same_Some with x (sym c.1 ∙ h)) (subst (λ (e : Down). IsLane (bound_at plan e.node) with) (sym c.0) ok)) (λ c. lawful.lanes e x (sym c ∙ h)) (cases e);
          one_lane = λ k h. of_each_node m n node new at (λ x. length x.lanes) (ap length lanes ∙ length-set node.lanes l with) k ∙ lawful.one_lane k h;
          holds = holds;
          one_close = one;
          closing_held = closing;
          below = below;
          closings = λ k. of_each_node m n node new at (λ x. x.closings) closings_same k ∙ lawful.closings k ∙ sym (of_each_node m n node new at (λ x. sum_by begun_count x.lanes) (ap (sum_by begun_count) lanes ∙ sum_by-set_at begun_count node.lanes l lane with in_it begun_same) k);
          sources = λ s e is. let x = lawful.sources s e is in ⊎_elim (λ c. (with, c.1)) (λ c. (x.0, c ∙ x.1)) (cases e);
        }
