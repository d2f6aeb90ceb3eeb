-- The first moment of a plan is sound, and exact for nothing fed.
use Rattle.sb_containers.specs.base.NumberLemmas.{bind_some}
use Rattle.sb_containers.specs.base.bundle.declared.bundle.TheConstants.{MAX_BUNDLE}
use Rattle.sb_containers.specs.base.StepLemmas.{place-at}
use Rattle.sb_containers.specs.base.FeedingLemmas as Feeding
use Rattle.sb_core.proofs.sound.Orderly.{sound_of, IsLawful}
use Rattle.std.proofs.Common.{◌≡◌, ℕ, suc, zero, ◌+◌, ◌≤◌, ◌<◌, true, false, not, cond, List, [], ◌∷◌, ◌++◌, length, map, Some, Option, sym, refl, ap, subst, ◌∙◌, arith, zero-add, ⊎_elim}
use Rattle.std.specs.Prelude.{min, replicate, sum_by}
use Rattle.std.specs.List.{flat_map, slice_get, AllByRecursion}
use Rattle.std.proofs.lemmas.Bool.{le-ltb, cases_lt}
use Rattle.std.proofs.lemmas.List.Sums.{sum_by-cons}
use Rattle.std.proofs.lemmas.Option.{get_or_from_slice_get, same_Some, slice_get-get_or, slice_get_within}
use Rattle.std.proofs.lemmas.List.{length-replicate, get_or-replicate, get_or_past}
use Rattle.sb_containers.specs.base.records.declared.item.Record.{Record}
use Rattle.sb_containers.specs.base.records.declared.element.KeptRec.{KeptRec}
use Rattle.sb_containers.specs.base.pipeline.declared.transform.Down.{Down}
use Rattle.sb_containers.specs.base.pipeline.declared.transform.Step.{Step}
use Rattle.sb_core.specs.declared.moment.Node.{Node}
use Rattle.sb_containers.specs.declared.container.CoreLane.{CoreLane}
use Rattle.sb_core.specs.Soundness.{IsOpenAtSource, out_of, AreNumbered, Begins, IsOpenBelow, AreKeptAt, IsSound}
use Rattle.sb_containers.specs.base.pipeline.Shapes.{Shape}
use Rattle.sb_containers.specs.base.records.Records.{at_least}
use Rattle.sb_containers.specs.base.pipeline.Operators.{Operator, operator_of, operator_at, lanes_of, operator_rows, output}
use Rattle.sb_containers.specs.base.pardo.Outputs.{outputs_of}
use Rattle.sb_containers.specs.base.records.Elements.{all_records}
use Rattle.sb_containers.specs.base.pipeline.Flow.{arrivals_at, from_streams}
use Rattle.sb_containers.specs.base.pipeline.Plans.{IsPlace, IsPlan}
use Rattle.sb_containers.specs.base.pipeline.Operators.Operator.{ParDo, Windowed, Sink}
use Rattle.sb_containers.specs.base.records.Reading.{◌>>=◌}
use Rattle.sb_containers.specs.Marks.{begun_count, least_begun_mark, first_is_closing}
use Rattle.sb_core.specs.Moments.{lane_at, empty_lane, empty_node, first, node_at, no_node, floor_of, epoch_of}
use Rattle.sb_containers.specs.Lanes.{next_epoch}
use Rattle.sb_core.specs.Exactness.{waiting_from, gives, gives_by, IsExact}
use Rattle.sb_containers.specs.LaneOrder.{IsLane}
use Rattle.sb_core.specs.Bounds.{bound_at}
use Rattle.sb_core.specs.Closings.{is_pardo}
use Rattle.sb_core.specs.Laws.{RunsAreSound}
use Rattle.sb_containers.specs.base.SumLemmas.{IsReordered, IsReordered-map, IsReordered-flat_map}
use Rattle.sb_core.proofs.exact.Flow.{brought_none, flow_same}
use Rattle.sb_core.proofs.windows.Groupings.{grouped-order}
use Rattle.sb_core.proofs.sound.AfterSound.{runs-keep}

-- ---- nodes
pub at_node : (steps : List Step) (k : ℕ) → k ≤ length steps → slice_get (map (λ s. empty_node (operator_of s.kind)) steps ++ empty_node Sink ∷ []) k ≡ Some (empty_node (operator_at (slice_get steps k)))
at_node [] zero b = refl
at_node [] (suc k) b = absurd (omega arith)
at_node (s ∷ steps) zero b = refl
at_node (s ∷ steps) (suc k) b = at_node steps k (omega arith)

past_nodes : (steps : List Step) (k : ℕ) (node : Node) → slice_get (map (λ s. empty_node (operator_of s.kind)) steps ++ empty_node Sink ∷ []) k ≡ Some node → k ≤ length steps
past_nodes [] zero node h = omega arith
past_nodes [] (suc k) node h = cc
past_nodes (s ∷ steps) zero node h = omega arith
past_nodes (s ∷ steps) (suc k) node h = let z : k ≤ length steps = past_nodes steps k node h in omega arith

pub node_count : (steps : List Step) → length (map (λ s. empty_node (operator_of s.kind)) steps ++ empty_node Sink ∷ []) ≡ length steps + 1
node_count [] = refl
node_count (s ∷ steps) = let k : length (map (λ s. empty_node (operator_of s.kind)) steps ++ empty_node Sink ∷ []) ≡ length steps + 1 = node_count steps in omega arith

at_lane : (n l : ℕ) → l < n → slice_get (replicate n empty_lane) l ≡ Some empty_lane
at_lane n l b = slice_get-get_or (replicate n empty_lane) l empty_lane (omega (arith, b, length-replicate n empty_lane)) ∙ ap Some (get_or-replicate n l empty_lane empty_lane b)

same_lanes : (n l : ℕ) (lane : CoreLane) → slice_get (replicate n empty_lane) l ≡ Some lane → lane ≡ empty_lane
same_lanes n l lane h = same_Some lane empty_lane (sym h ∙ at_lane n l (omega (arith, length-replicate n empty_lane, slice_get_within (replicate n empty_lane) l lane h)))

none_closed : (n : ℕ) → least_begun_mark (replicate n empty_lane) ≡ 0
none_closed zero = refl
none_closed (suc zero) = refl
none_closed (suc (suc n)) = ap (λ z. min 0 z) (none_closed (suc n))

none_begun : (n : ℕ) → sum_by begun_count (replicate n empty_lane) ≡ 0
none_begun zero = refl
none_begun (suc n) = sum_by-cons begun_count empty_lane (replicate n empty_lane) ∙ ap (λ z. 0 + z) (none_begun n)

none_waits : (i n : ℕ) → waiting_from i (replicate n empty_lane) ≡ []
none_waits i zero = refl
none_waits i (suc n) = none_waits (i + 1) n

module _ (plan : Shape) (is_plan : IsPlan plan) (bundle : ℕ) where
  -- a node of the plan, or none
  node_is : (k : ℕ) → k ≤ length plan.steps → node_at (first plan bundle) k ≡ empty_node (operator_at (slice_get plan.steps k))
  node_is k b = get_or_from_slice_get (first plan bundle).nodes k (empty_node (operator_at (slice_get plan.steps k))) no_node (at_node plan.steps k b)

  by_node : (P : Node → Type 0) → ((o : Operator) → P (empty_node o)) → P no_node → (k : ℕ) → P (node_at (first plan bundle) k)
  by_node P one none k = ⊎_elim
      (λ b. subst P (sym (node_is k (omega arith))) (one (operator_at (slice_get plan.steps k))))
      (λ b. subst P (sym (get_or_past (first plan bundle).nodes k no_node (subst (λ z. z ≤ k) (sym (node_count plan.steps)) b))) none) (cases_lt k (length plan.steps + 1))

  only_empty : (d : Down) (lane : CoreLane) → lane_at (first plan bundle) d ≡ Some lane → lane ≡ empty_lane
  only_empty d lane h =
      let b = bind_some (slice_get (first plan bundle).nodes d.node) (λ node. slice_get node.lanes d.lane) lane h in
      let w : d.node ≤ length plan.steps = past_nodes plan.steps d.node b.0 b.1 in
      let is : b.0 ≡ empty_node (operator_at (slice_get plan.steps d.node)) = same_Some _ _ (sym b.1 ∙ at_node plan.steps d.node w) in
      same_lanes (lanes_of (operator_at (slice_get plan.steps d.node))) d.lane lane (ap (λ (x : Node). slice_get x.lanes d.lane) (sym is) ∙ b.2)

  in_place : (d : Down) → IsPlace plan.steps d → lane_at (first plan bundle) d ≡ Some empty_lane
  in_place d p = ap (λ (o : Option Node). o >>= λ x. slice_get x.lanes d.lane) (at_node plan.steps d.node p.0) ∙ at_lane (lanes_of (operator_at (slice_get plan.steps d.node))) d.lane p.1

  lane_ok : (bound : ℕ) → IsLane bound empty_lane
  lane_ok bound = record { ended_in = omega arith; rising = tt; containers = tt; ready = tt; others = tt }

  is_transform : (k : ℕ) → is_pardo (operator_at (slice_get plan.steps k)) ≡ true → k ≤ length plan.steps
  is_transform k h = go plan.steps k h
    where
      go : (steps : List Step) (k : ℕ) → is_pardo (operator_at (slice_get steps k)) ≡ true → k ≤ length steps
      go [] k h = cc
      go (s ∷ steps) zero h = omega arith
      go (s ∷ steps) (suc k) h = let z : k ≤ length steps = go steps k h in omega arith

  one_lane : (o : Operator) → is_pardo o ≡ true → length (empty_node o).lanes ≡ 1
  one_lane (ParDo op) h = refl
  one_lane (Windowed g) h = cc
  one_lane Sink h = cc

  closings_none : (k : ℕ) → (node_at (first plan bundle) k).closings ≡ 0
  closings_none = by_node (λ x. x.closings ≡ 0) (λ o. refl) refl

  closed_none : (k : ℕ) → least_begun_mark (node_at (first plan bundle) k).lanes ≡ 0
  closed_none = by_node (λ x. least_begun_mark x.lanes ≡ 0) (λ o. none_closed (lanes_of o)) refl

  kept_none : (k : ℕ) → (node_at (first plan bundle) k).kept ≡ []
  kept_none = by_node (λ x. x.kept ≡ []) (λ o. refl) refl

  pub first-lawful : IsLawful plan (first plan bundle)
  first-lawful =
      record {
        nodes = node_count plan.steps;
        lanes = λ d lane h. subst (IsLane (bound_at plan d.node)) (sym (only_empty d lane h)) (lane_ok (bound_at plan d.node));
        one_lane = λ k h. ap (λ (x : Node). length x.lanes) (node_is k (is_transform k h)) ∙ one_lane (operator_at (slice_get plan.steps k)) h;
        holds = tt;
        one_close = λ k. omega arith;
        closing_held = λ d lane h c. let k : false ≡ true = ap (λ (x : CoreLane). first_is_closing x.conts) (sym (only_empty d lane h)) ∙ c in cc;
        below = λ k s is. record {
          further = is_plan.further k s is;
          lane = empty_lane;
          there = in_place s.down (place-at plan is_plan k s is);
          as_many = λ _. ap epoch_of (in_place s.down (place-at plan is_plan k s is)) ∙ sym (closings_none k);
          as_passed = λ _. ap floor_of (in_place s.down (place-at plan is_plan k s is)) ∙ sym (closed_none k);
        };
        closings = λ k. closings_none k ∙ sym (by_node (λ x. sum_by begun_count x.lanes ≡ 0) (λ o. none_begun (lanes_of o)) refl k);
        sources = λ s d is. (empty_lane, in_place d (Feeding.sources plan is_plan s d is));
      }

  numbered_none : AreNumbered empty_lane
  numbered_none = record { once = λ n. omega arith; given = λ n h. absurd (omega arith) }

  pub first-sound : 1 ≤ bundle → bundle ≤ MAX_BUNDLE → IsSound plan (first plan bundle)
  first-sound low high =
      (sound_of (record {
        lawful = first-lawful;
        tidy = record {
          bundle = (low, high);
          lanes = λ k b. ap (λ (x : Node). length x.lanes) (node_is k b) ∙ length-replicate (lanes_of (operator_at (slice_get plan.steps k))) empty_lane;
          numbers = λ d lane h. subst AreNumbered (sym (only_empty d lane h)) numbered_none;
          outs = λ d lane h n. ap (λ (x : CoreLane). sum_by (out_of n) x.conts) (only_empty d lane h);
          open_source = λ s d lane is h. subst (λ (x : CoreLane). AllByRecursion (λ c. next_epoch x ≤ c.epoch → IsOpenAtSource (next_epoch x) c.epoch c.floor) x.conts) (sym (only_empty d lane h)) tt;
          open_below = λ k s lane is h. subst (λ (x : CoreLane). AllByRecursion (λ c. next_epoch x ≤ c.epoch → IsOpenBelow (operator_at (slice_get plan.steps k)) (node_at (first plan bundle) k).lanes false (next_epoch x) c.epoch c.floor) x.conts) (sym (only_empty s.down lane h)) tt;
          own_marks = λ k s lane own is h e. subst (λ (x : CoreLane). Begins x.marks own.marks) (sym (only_empty s.down lane h)) tt;
          kept = λ k. subst (AreKeptAt (operator_at (slice_get plan.steps k)) (least_begun_mark (node_at (first plan bundle) k).lanes) (bound_at plan k)) (sym (kept_none k)) tt;
          closes = tt;
          sorted = tt;
          written = tt;
        };
      }))

  -- ---- exact
  from_zero : (l : List Record) → at_least 0 l ≡ l
  from_zero [] = refl
  from_zero (r ∷ l) = (λ i. cond (not (le-ltb r.time 0 (omega arith) i)) (r ∷ at_least 0 l) (at_least 0 l)) ∙ ap (λ m. r ∷ m) (from_zero l)

  same_by : (o : Operator) (k : ℕ) (node : Node) → waiting_from 0 node.lanes ≡ [] → node.kept ≡ [] → least_begun_mark node.lanes ≡ 0 → (es fs : List KeptRec) → IsReordered es fs → IsReordered (gives_by o k node [] [] es) (output o fs)
  same_by (ParDo op) k node waits kept none es fs h f =
      ap (λ w. sum_by f (flat_map (outputs_of op) (all_records ((w ++ []) ++ es)))) waits ∙ IsReordered-flat_map (outputs_of op) (all_records es) (all_records fs) (IsReordered-map (λ e. e.rec) es fs h) f
  same_by (Windowed g) k node waits kept none es fs h f =
      (λ i. sum_by f (at_least (none i) (operator_rows g (kept i ++ ((waits i ++ []) ++ es))))) ∙ ap (sum_by f) (from_zero (operator_rows g es)) ∙ grouped-order g es fs h f
  same_by Sink k node waits kept none es fs h f =
      (λ i. sum_by f (all_records (kept i ++ ((waits i ++ []) ++ es)))) ∙ IsReordered-map (λ e. e.rec) es fs h f

  pub same_first : (k : ℕ) (es fs : List KeptRec) → IsReordered es fs → IsReordered (gives plan (first plan bundle) k es) (output (operator_at (slice_get plan.steps k)) fs)
  same_first k es fs h =
      same_by (operator_at (slice_get plan.steps k)) k (node_at (first plan bundle) k) (by_node (λ x. waiting_from 0 x.lanes ≡ []) (λ o. none_waits 0 (lanes_of o)) refl k) (kept_none k) (closed_none k) es fs h

  pub first-exact : IsExact plan (first plan bundle) (λ s. [])
  first-exact coming ok f =
      flow_same plan (gives plan (first plan bundle)) (λ k es. output (operator_at (slice_get plan.steps k)) es) (λ _ _. []) (λ _. []) (λ _ _. 0)
      (λ k es fs within in_time h. same_first k es fs h) (λ k es s is h. none (gives plan (first plan bundle) k es))
      (λ f i n s is. zero-add _ ∙ brought_none f n s.down) refl coming coming (λ n. none (arrivals_at n (from_streams plan coming))) (λ n f. refl) f
    where
      none : {X : Type 0} (l : List X) → sum_by (λ x. 0) l ≡ 0
      none [] = refl
      none (x ∷ l) = sum_by-cons (λ x. 0) x l ∙ (λ i. 0 + none l i)

pub runs-are_sound : RunsAreSound
runs-are_sound plan is_plan bundle low high events m h =
    runs-keep plan is_plan events (first plan bundle) m (λ s. []) h (first-sound plan is_plan bundle low high) (first-exact plan is_plan bundle)
