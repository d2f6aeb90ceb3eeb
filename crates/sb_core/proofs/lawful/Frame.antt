-- A lane changes in its bundles alone, so it begins the same marks: what stays lawful.
use Rattle.std.proofs.Common.{◌≡◌, ℕ, ◌-◌, ◌≤◌, List, length, Some, sym, refl, ap, ◌∙◌, arith, ⊎_elim, get_or}
use Rattle.std.specs.Prelude.{◌⊎◌, count_by}
use Rattle.std.specs.List.{slice_get, list_any, AllByRecursion}
use Rattle.std.proofs.lemmas.Option.{same_Some}
use Rattle.sb_containers.specs.declared.container.CoreLane.{CoreLane}
use Rattle.sb_containers.specs.base.pipeline.declared.transform.Down.{Down}
use Rattle.sb_core.specs.declared.moment.Node.{Node}
use Rattle.sb_containers.specs.base.pipeline.Shapes.{Shape}
use Rattle.sb_core.specs.declared.moment.Moment.{Moment}
use Rattle.sb_core.specs.declared.held.Held.{Held}
use Rattle.sb_core.specs.declared.held.Held.TheVariants.{Work, Close}
use Rattle.sb_containers.specs.Marks.{first_is_closing}
use Rattle.sb_core.specs.Moments.{is_close, is_close_of, set_lane, set_node, with_held, floor_of, floor_at, epoch_of, epoch_at}
use Rattle.sb_containers.specs.LaneOrder.{IsLane}
use Rattle.sb_core.specs.Bounds.{bound_at}
use Rattle.sb_core.specs.Holdings.{IsHeld, is_unpassed}
use Rattle.sb_core.proofs.sound.Orderly.{IsLawful}
use Rattle.sb_core.proofs.exact.Nodes.{lane_at-set, lane_at-cases}
use Rattle.sb_core.proofs.lawful.Changed.{work_still, close_still, below_still, lawful_still}
use Rattle.sb_containers.proofs.Stays.{IsKept, begun-kept, mark-kept}

module _ (plan : Shape) (m : Moment) (d : Down) (node : Node) (lane with : CoreLane) (at : slice_get m.nodes d.node ≡ Some node) (in_it : slice_get node.lanes d.lane ≡ Some lane) (kept : IsKept lane with) (held : List Held) where
  abbrev now : Moment
  now = set_node d.node (set_lane d.lane with node) (with_held held m)

  floor_same : (e : Down) → floor_at now e ≡ floor_at m e
  floor_same e = lane_at-set m d.node d.lane node (set_lane d.lane with node) lane with at in_it refl floor_of (λ i. get_or (kept.marks i) (length (kept.marks i) - 1) 0) e

  epoch_same : (e : Down) → epoch_at now e ≡ epoch_at m e
  epoch_same e = lane_at-set m d.node d.lane node (set_lane d.lane with node) lane with at in_it refl epoch_of (λ i. length (kept.marks i)) e

  pub holds_still : (h : Held) → IsHeld plan m h → IsHeld plan now h
  holds_still (Work k l epoch floor number records delivered) h =
      work_still plan m d.node d.lane node (set_lane d.lane with node) lane with at in_it refl held k l epoch floor number records delivered h
      (λ _ o. let x = kept.out epoch number o.0 o.1 o.3 in (x.0, x.1, x.2 ∙ o.2, x.3))
  holds_still (Close k l epoch serial floor mark rows passed) h =
      close_still plan m d.node d.lane node (set_lane d.lane with node) lane with at in_it refl held refl (begun-kept kept) (mark-kept kept) k l epoch serial floor mark rows passed h
      (λ _. (kept.closing, kept.ended)) (λ _ s _. (floor_same s.down, epoch_same s.down))

  -- the moment is lawful, where the lane is in order and what is held is
  pub frame : IsLawful plan m → IsLane (bound_at plan d.node) with → AllByRecursion (IsHeld plan now) held
      → ((k : ℕ) → count_by (is_close k) held ≤ count_by (is_close k) m.held)
      → ((e : Down) → list_any (is_close_of e.node e.lane) held ≡ list_any (is_close_of e.node e.lane) m.held)
      → ((k : ℕ) → list_any (is_unpassed k) held ≡ list_any (is_unpassed k) m.held) → IsLawful plan now
  frame lawful ok holds one closings unpassed =
      lawful_still plan m d.node d.lane node (set_lane d.lane with node) lane with at in_it refl held refl (begun-kept kept) (mark-kept kept) lawful ok holds
      (λ k. omega (arith, one k, lawful.one_close k))
      (λ e x h c. closings e ∙ ⊎_elim
      (λ y. lawful.closing_held e lane y.2 (sym kept.closing ∙ ap (λ (x : CoreLane). first_is_closing x.conts) (same_Some with x (sym y.1 ∙ h)) ∙ c))
      (λ y. lawful.closing_held e x (sym y ∙ h) c) (lane_at-cases m d.node d.lane node (set_lane d.lane with node) lane with at in_it refl e))
      (λ k s is. below_still plan m d.node d.lane node (set_lane d.lane with node) lane with at in_it refl held refl (begun-kept kept) (mark-kept kept) k s (unpassed k) (floor_same s.down) (epoch_same s.down) (lawful.below k s is))
