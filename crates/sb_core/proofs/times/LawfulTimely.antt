-- A lawful moment is timely.
use Rattle.sb_containers.specs.base.NumberLemmas.{bind_some}
use Rattle.std.proofs.Common.{◌≡◌, ℕ, suc, ◌+◌, ◌≤◌, ◌<◌, Bool, true, false, not, cond, eqb, List, [], ◌∷◌, length, Some, None, Option, sym, refl, ap, ◌∙◌, arith, ⊎_elim}
use Rattle.std.specs.Prelude.{◌&&◌, ◌||◌, ◌≢◌}
use Rattle.std.specs.List.{flat_map, sum_by, slice_get, list_any, AllByRecursion}
use Rattle.std.proofs.lemmas.Bool.{ne_eqb, cases_eq, eqb-true, cases_lt}
use Rattle.std.proofs.lemmas.List.Sums.{sum_by-append, sum_by-cons}
use Rattle.std.proofs.lemmas.List.{get_or_past}
use Rattle.std.proofs.lemmas.Option.{get_or_from_slice_get, slice_get-get_or}
use Rattle.sb_containers.specs.base.records.declared.item.Record.{Record}
use Rattle.sb_containers.specs.declared.container.CoreLane.{CoreLane}
use Rattle.sb_core.specs.declared.moment.Node.{Node}
use Rattle.sb_containers.specs.base.pipeline.declared.transform.Step.{Step}
use Rattle.sb_containers.specs.base.pipeline.Shapes.{Shape}
use Rattle.sb_core.specs.declared.moment.Moment.{Moment}
use Rattle.sb_core.specs.declared.held.Held.{Held}
use Rattle.sb_core.specs.declared.held.Held.TheVariants.{Work, Close}
use Rattle.sb_containers.specs.base.records.Elements.{on_lane}
use Rattle.sb_containers.specs.base.records.Reading.{◌>>=◌}
use Rattle.sb_containers.specs.Marks.{least_begun_mark}
use Rattle.sb_containers.specs.Lanes.{next_floor}
use Rattle.sb_core.specs.Moments.{lane_at, node_at, no_node, floor_of, floor_at}
use Rattle.sb_core.specs.Exactness.{waiting_in, waiting_from, work_in, rows_left_in}
use Rattle.sb_containers.specs.LaneOrder.{IsWithin}
use Rattle.sb_core.specs.Bounds.{bound_at}
use Rattle.sb_core.specs.Holdings.{IsHeld, is_unpassed}
use Rattle.sb_core.specs.Soundness.{IsSealedBelow}
use Rattle.sb_core.proofs.sound.Orderly.{IsLawful}
use Rattle.sb_containers.specs.base.SumLemmas.{sum_by-flat_map, sum_by-map}
use Rattle.sb_containers.specs.base.window.declared.windows.TheConstants.{MAX_SIZE}
use Rattle.sb_containers.proofs.Begun.{begun_mark, work_floor, begun_behind, closed_least}
use Rattle.sb_core.proofs.windows.Groupings.{early, early_one}
use Rattle.sb_core.proofs.times.Timely.{zero_early, early_weaker, IsTimelyAt, IsTimely}
use Rattle.sb_core.proofs.times.InTime.{lane_late}

on_lane_late : (low l : ℕ) (rs : List Record) → sum_by (early low) rs ≡ 0 → sum_by (early_one low) (on_lane l rs) ≡ 0
on_lane_late low l rs h = sum_by-map (early_one low) (λ r. record { lane = l; rec = r }) rs ∙ h

within_late : (low floor bound : ℕ) → low ≤ floor → (l : List Record) → IsWithin floor bound l → sum_by (early low) l ≡ 0
within_late low floor bound h [] all = refl
within_late low floor bound h (r ∷ l) all = sum_by-cons (early low) r l ∙ (λ i. zero_early low r.time (omega (arith, all.0.0)) i + within_late low floor bound h l all.1 i)

module _ (plan : Shape) (m : Moment) (lawful : IsLawful plan m) where
  -- node k's lanes are those of the moment
  pub lane_of : (k l : ℕ) (lane : CoreLane) → lane_at m (record { node = k; lane = l }) ≡ Some lane → slice_get (node_at m k).lanes l ≡ Some lane
  lane_of k l lane h =
      let b = bind_some (slice_get m.nodes k) _ lane h in
      ap (λ (n : Node). slice_get n.lanes l) (get_or_from_slice_get m.nodes k b.0 no_node b.1) ∙ b.2

  pub of_node : (k l : ℕ) (lane : CoreLane) → slice_get (node_at m k).lanes l ≡ Some lane → lane_at m (record { node = k; lane = l }) ≡ Some lane
  of_node k l lane h = ⊎_elim inside outside (cases_lt k (length m.nodes))
    where
      inside : k < length m.nodes → lane_at m (record { node = k; lane = l }) ≡ Some lane
      inside b = ap (λ (o : Option Node). o >>= λ n. slice_get n.lanes l) (slice_get-get_or m.nodes k no_node b) ∙ h

      outside : length m.nodes ≤ k → lane_at m (record { node = k; lane = l }) ≡ Some lane
      outside b = let n : slice_get (node_at m k).lanes l ≡ None = ap (λ (n : Node). slice_get n.lanes l) (get_or_past m.nodes k no_node b) in let x : None ≡ Some lane = sym n ∙ h in cc

  closed_before : (k l : ℕ) (lane : CoreLane) → lane_at m (record { node = k; lane = l }) ≡ Some lane → least_begun_mark (node_at m k).lanes ≤ begun_mark lane
  closed_before k l lane h = closed_least (node_at m k).lanes l lane (lane_of k l lane h)

  waiting_late : (k : ℕ) → sum_by (early_one (least_begun_mark (node_at m k).lanes)) (waiting_from 0 (node_at m k).lanes) ≡ 0
  waiting_late k = go (node_at m k).lanes 0 (λ l lane h. early_weaker (least_begun_mark (node_at m k).lanes) (begun_mark lane) (closed_least (node_at m k).lanes l lane h) (waiting_in lane) (lane_late (bound_at plan k) lane (lawful.lanes (record { node = k; lane = l }) lane (of_node k l lane h))))
    where
      go : (lanes : List CoreLane) (i : ℕ) → ((l : ℕ) (lane : CoreLane) → slice_get lanes l ≡ Some lane → sum_by (early (least_begun_mark (node_at m k).lanes)) (waiting_in lane) ≡ 0) → sum_by (early_one (least_begun_mark (node_at m k).lanes)) (waiting_from i lanes) ≡ 0
      go [] i each = refl
      go (lane ∷ lanes) i each =
          sum_by-append (early_one (least_begun_mark (node_at m k).lanes)) (on_lane i (waiting_in lane)) (waiting_from (i + 1) lanes)
          ∙ (λ z. on_lane_late (least_begun_mark (node_at m k).lanes) i (waiting_in lane) (each 0 lane refl) z + go lanes (i + 1) (λ l x h. each (suc l) x h) z)

  works_late : (k : ℕ) → sum_by (early_one (least_begun_mark (node_at m k).lanes)) (flat_map (work_in k) m.held) ≡ 0
  works_late k = sum_by-flat_map (early_one (least_begun_mark (node_at m k).lanes)) (work_in k) m.held ∙ go m.held lawful.holds
    where
      one : (h : Held) → IsHeld plan m h → sum_by (early_one (least_begun_mark (node_at m k).lanes)) (work_in k h) ≡ 0
      one (Close n l epoch serial floor mark rows passed) h = refl
      one (Work n l epoch floor number records delivered) h = ⊎_elim here elsewhere (cases_eq n k)
        where
          here : n ≡ k → sum_by (early_one (least_begun_mark (node_at m k).lanes)) (cond (eqb n k && not delivered) (on_lane l records) []) ≡ 0
          here e = by_case (eqb n k && not delivered)
            where
              late : sum_by (early_one (least_begun_mark (node_at m k).lanes)) (on_lane l records) ≡ 0
              late =
                  let a : least_begun_mark (node_at m n).lanes ≤ begun_mark h.lane = closed_before n l h.lane h.there in
                  let b : begun_mark h.lane ≤ h.cont.floor = work_floor (bound_at plan n) h.lane (lawful.lanes (record { node = n; lane = l }) h.lane h.there) epoch number h.cont h.of_epoch h.is_out in
                  let c : least_begun_mark (node_at m n).lanes ≡ least_begun_mark (node_at m k).lanes = ap (λ k. least_begun_mark (node_at m k).lanes) e in
                  on_lane_late (least_begun_mark (node_at m k).lanes) l records (within_late (least_begun_mark (node_at m k).lanes) floor (bound_at plan n) (omega (arith, h.floor_is)) records h.times)

              by_case : (b : Bool) → sum_by (early_one (least_begun_mark (node_at m k).lanes)) (cond b (on_lane l records) []) ≡ 0
              by_case true = late
              by_case false = refl

          elsewhere : n ≢ k → sum_by (early_one (least_begun_mark (node_at m k).lanes)) (cond (eqb n k && not delivered) (on_lane l records) []) ≡ 0
          elsewhere ne = ap (λ b. sum_by (early_one (least_begun_mark (node_at m k).lanes)) (cond (b && not delivered) (on_lane l records) [])) (ne_eqb n k ne)

      go : (hs : List Held) → AllByRecursion (IsHeld plan m) hs → sum_by (λ h. sum_by (early_one (least_begun_mark (node_at m k).lanes)) (work_in k h)) hs ≡ 0
      go [] all = refl
      go (h ∷ hs) all = sum_by-cons (λ h. sum_by (early_one (least_begun_mark (node_at m k).lanes)) (work_in k h)) h hs ∙ (λ i. one h all.0 i + go hs all.1 i)

  -- the lane below a transform
  below : (k : ℕ) (s : Step) → slice_get plan.steps k ≡ Some s → IsTimelyAt m k s.down
  below k s is = record { lane = b.lane; there = b.there; rows = rows; behind = behind }
    where
      b : IsSealedBelow m k s.down
      b = lawful.below k s is

      floor_is : floor_at m s.down ≡ next_floor b.lane
      floor_is = ap floor_of b.there

      -- an unpassed Close is at the floor of the lane below, and its mark is where the node is
      at_close : (hs : List Held) → AllByRecursion (IsHeld plan m) hs → list_any (is_unpassed k) hs ≡ true → floor_at m s.down ≤ least_begun_mark (node_at m k).lanes
      at_close [] all h = cc
      at_close (Work n l epoch floor number records delivered ∷ hs) all h = at_close hs all.1 h
      at_close (Close n l epoch serial floor mark rows passed ∷ hs) all h = by_case (eqb n k) passed refl refl h (λ k. at_close hs all.1 k)
        where
          by_case : (a p : Bool) → eqb n k ≡ a → passed ≡ p → ((a && not p) || list_any (is_unpassed k) hs) ≡ true → (list_any (is_unpassed k) hs ≡ true → floor_at m s.down ≤ least_begun_mark (node_at m k).lanes) → floor_at m s.down ≤ least_begun_mark (node_at m k).lanes
          by_case true false e f h ih =
              let nk : n ≡ k = eqb-true n k e in
              let x : floor_at m s.down ≡ floor = all.0.under f s (ap (slice_get plan.steps) nk ∙ is) in
              let y : mark ≡ least_begun_mark (node_at m k).lanes = all.0.mark_is ∙ ap (λ k. least_begun_mark (node_at m k).lanes) nk in
              omega (arith, all.0.rises)
          by_case true true e f h ih = ih h
          by_case false p e f h ih = ih h

      behind : next_floor b.lane ≤ least_begun_mark (node_at m k).lanes
      behind = by_case (list_any (is_unpassed k) m.held) refl
        where
          by_case : (a : Bool) → list_any (is_unpassed k) m.held ≡ a → next_floor b.lane ≤ least_begun_mark (node_at m k).lanes
          by_case true e = let x : floor_at m s.down ≤ least_begun_mark (node_at m k).lanes = at_close m.held lawful.holds e in omega (arith, floor_is)
          by_case false e = omega (arith, floor_is, b.as_passed e)

      one : (h : Held) → IsHeld plan m h → sum_by (early (next_floor b.lane)) (rows_left_in k h) ≡ 0
      one (Work n l epoch floor number records delivered) h = refl
      one (Close n l epoch serial floor mark rows passed) h = by_case (eqb n k) passed refl refl
        where
          by_case : (a p : Bool) → eqb n k ≡ a → passed ≡ p → sum_by (early (next_floor b.lane)) (cond a rows []) ≡ 0
          by_case false p e f = refl
          by_case true true e f = ap (sum_by (early (next_floor b.lane))) (h.no_rows f)
          by_case true false e f =
              let x : floor_at m s.down ≡ floor = h.under f s (ap (slice_get plan.steps) (eqb-true n k e) ∙ is) in
              within_late (next_floor b.lane) floor (bound_at plan n + MAX_SIZE) (omega (arith, floor_is)) rows h.times

      rows : sum_by (early (next_floor b.lane)) (flat_map (rows_left_in k) m.held) ≡ 0
      rows = sum_by-flat_map (early (next_floor b.lane)) (rows_left_in k) m.held ∙ go m.held lawful.holds
        where
          go : (hs : List Held) → AllByRecursion (IsHeld plan m) hs → sum_by (λ h. sum_by (early (next_floor b.lane)) (rows_left_in k h)) hs ≡ 0
          go [] all = refl
          go (h ∷ hs) all = sum_by-cons (λ h. sum_by (early (next_floor b.lane)) (rows_left_in k h)) h hs ∙ (λ i. one h all.0 i + go hs all.1 i)

  pub lawful-timely : IsTimely plan m
  lawful-timely =
      record {
        below = below;
        waiting = waiting_late;
        works = works_late;
        seals = λ k l lane h. omega (arith, closed_before k l lane h, begun_behind (bound_at plan k) lane (lawful.lanes (record { node = k; lane = l }) lane h));
        sources = lawful.sources;
      }
