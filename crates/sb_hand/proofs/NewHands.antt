-- The nodes of a new hand show the first moment of their plan.
use Rattle.std.proofs.Common.{◌≡◌, ℕ, suc, zero, ◌+◌, ◌≤◌, Bool, List, [], ◌∷◌, ◌++◌, length, map, Some, sym, refl, ap, subst, ◌∙◌, arith, inl, inr, ⊎_elim}
use Rattle.std.specs.Prelude.{◌⊎◌, replicate}
use Rattle.std.specs.List.{slice_get}
use Rattle.std.proofs.lemmas.Option.{same_Some, slice_get_within}
use Rattle.sb_shown.specs.base.bundle.declared.bundle.TheConstants.{MAX_BUNDLE}
use Rattle.sb_shown.specs.base.pipeline.declared.transform.Step.{Step}
use Rattle.sb_shown.specs.base.pipeline.Shapes.{Shape}
use Rattle.sb_shown.specs.base.pipeline.Operators.{Operator, operator_of, operator_at, lanes_of}
use Rattle.sb_shown.specs.base.pipeline.Operators.Operator.{ParDo, Windowed, Sink}
use Rattle.sb_shown.specs.base.pipeline.Operators.WindowOperator.{Aggregated, Sessions, Joined}
use Rattle.sb_shown.specs.base.pipeline.Plans.{IsPlan}
use Rattle.sb_shown.specs.core.containers.Marks.{least_begun_mark}
use Rattle.sb_shown.specs.core.Moments as moments
use Rattle.sb_shown.proofs.core.sound.FirstMoment.{at_node, node_count, first-sound}
use Rattle.sb_shown.specs.lane.LaneView.{LaneView, empty_lane, lane_of}
use Rattle.sb_shown.specs.node.declared.state.NodeState.{NodeState}
use Rattle.sb_hand.specs.NewNodes.{AreNewNodes, IsNewNode}
use Rattle.sb_shown.specs.Showing.{ShowsNode, Stands, diaries_of, settings_at, settings_for, settings_of}

-- ---- so many nodes, and one more
pushed : {X : Type 0} (xs : List X) (x : X) (k : ℕ) (y : X) → slice_get (xs ++ x ∷ []) k ≡ Some y → (slice_get xs k ≡ Some y) ⊎ ((length xs ≡ k) × (x ≡ y))
pushed [] x zero y h = inr (refl, same_Some x y h)
pushed [] x (suc k) y h = cc
pushed (z ∷ xs) x zero y h = inl h
pushed (z ∷ xs) x (suc k) y h = ⊎_elim (λ a. inl a) (λ b. inr (let e = b.0 in omega (arith, e), b.1)) (pushed xs x k y h)

one_longer : {X : Type 0} (xs : List X) (x : X) → length (xs ++ x ∷ []) ≡ length xs + 1
one_longer [] x = refl
one_longer (z ∷ xs) x = let e = one_longer xs x in omega (arith, e)

pub none-made : (plan : Shape) (pending : ℕ) (keeps : Bool) (nodes : List NodeState) → nodes ≡ [] → AreNewNodes plan pending keeps 0 nodes
none-made plan pending keeps nodes e = subst (AreNewNodes plan pending keeps 0) (sym e) (record { count_is = refl; each = λ k own h. cc })

pub one-made : (plan : Shape) (pending : ℕ) (keeps : Bool) (count : ℕ) (nodes : List NodeState) (own : NodeState) → AreNewNodes plan pending keeps count nodes
    → IsNewNode (operator_at (slice_get plan.steps count)) pending keeps own → AreNewNodes plan pending keeps (count + 1) (nodes ++ own ∷ [])
one-made plan pending keeps count nodes own are new = record {
  count_is = one_longer nodes own ∙ ap (λ n. n + 1) are.count_is;
  each = λ k x h. ⊎_elim
      (λ a. are.each k x a)
      (λ b. subst (λ z. z) (λ i. IsNewNode (operator_at (slice_get plan.steps ((sym are.count_is ∙ b.0) i))) pending keeps (b.1 i)) new)
      (pushed nodes own k x h);
}

-- ---- what they show
map-replicate : {X Y : Type 0} (f : X → Y) (n : ℕ) (x : X) → map f (replicate n x) ≡ replicate n (f x)
map-replicate f zero x = refl
map-replicate f (suc n) x = ap (λ l. f x ∷ l) (map-replicate f n x)

none_closed : (op : Operator) → least_begun_mark (replicate (lanes_of op) moments.empty_lane) ≡ 0
none_closed (ParDo op) = refl
none_closed (Windowed (Aggregated agg windows)) = refl
none_closed (Windowed (Sessions agg gap)) = refl
none_closed (Windowed (Joined combine windows)) = refl
none_closed Sink = refl

shows : (op : Operator) (pending : ℕ) (keeps : Bool) (own : NodeState) → IsNewNode op pending keeps own → ShowsNode op own (moments.empty_node op)
shows op pending keeps own new = record {
  lanes = sym (ap (map lane_of) new.lanes ∙ map-replicate lane_of (lanes_of op) (empty_lane pending));
  closings = sym new.closings;
  kept = record { made = new.made; unspent = new.unspent; closed_is = new.closed_is ∙ sym (none_closed op); kept = new.kept };
}

-- a list over the nodes, by what they do
by_node : {X : Type 0} (f : NodeState → X) (g : Operator → X) (steps : List Step) (nodes : List NodeState) → length nodes ≡ length steps + 1
    → ((k : ℕ) (own : NodeState) → slice_get nodes k ≡ Some own → f own ≡ g (operator_at (slice_get steps k)))
    → map f nodes ≡ map (λ s. g (operator_of s.kind)) steps ++ g Sink ∷ []
by_node f g [] [] long each = absurd (omega (arith, long))
by_node f g [] (x ∷ []) long each = ap (λ y. y ∷ []) (each 0 x refl)
by_node f g [] (x ∷ y ∷ nodes) long each = absurd (omega (arith, long))
by_node f g (s ∷ steps) [] long each = absurd (omega (arith, long))
by_node f g (s ∷ steps) (x ∷ nodes) long each = λ i. each 0 x refl i ∷ by_node f g steps nodes (omega (arith, long)) (λ k own h. each (suc k) own h) i

all_one : {X : Type 0} (f : NodeState → X) (x : X) (n : ℕ) (nodes : List NodeState) → length nodes ≡ n → ((k : ℕ) (own : NodeState) → slice_get nodes k ≡ Some own → f own ≡ x) → map f nodes ≡ replicate n x
all_one f x zero [] long each = refl
all_one f x zero (y ∷ nodes) long each = absurd (omega (arith, long))
all_one f x (suc n) [] long each = absurd (omega (arith, long))
all_one f x (suc n) (y ∷ nodes) long each = λ i. each 0 y refl i ∷ all_one f x n nodes (omega (arith, long)) (λ k own h. each (suc k) own h) i

module _ (plan : Shape) (pending : ℕ) (keeps : Bool) (nodes : List NodeState) (are : AreNewNodes plan pending keeps (length plan.steps + 1) nodes) where
  pub new-shows : IsPlan plan → (bundle : ℕ) → 1 ≤ bundle → bundle ≤ MAX_BUNDLE → Stands plan bundle nodes [] [] (moments.first plan bundle)
  new-shows is_plan bundle some most = record {
    bundle_is = refl;
    count = node_count plan.steps ∙ sym are.count_is;
    each = λ k own n there at.
        let within = slice_get_within nodes k own there in
        let small : k ≤ length plan.steps = omega (arith, within, are.count_is) in
        let e : moments.empty_node (operator_at (slice_get plan.steps k)) ≡ n = same_Some (moments.empty_node (operator_at (slice_get plan.steps k))) n (sym (at_node plan.steps k small) ∙ at) in
        subst (ShowsNode (operator_at (slice_get plan.steps k)) own) e (shows (operator_at (slice_get plan.steps k)) pending keeps own (are.each k own there));
    held_is = refl;
    rows_is = refl;
    sound = first-sound plan is_plan bundle some most;
  }

  pub new-diaries : diaries_of nodes ≡ replicate (length plan.steps + 1) []
  new-diaries = all_one (λ (n : NodeState). n.diary.events) [] (length plan.steps + 1) nodes are.count_is (λ k own there. (are.each k own there).diary)

  pub new-settings : settings_of nodes ≡ settings_at keeps pending plan
  new-settings = by_node (λ (n : NodeState). record { keeps = n.diary.keeps; limits = map (λ (l : LaneView). l.pending) n.lanes.items }) (settings_for keeps pending) plan.steps nodes are.count_is
      (λ k own there.
      let new = are.each k own there in
      λ i. record { keeps = new.keeps_is i; limits = (ap (map (λ (l : LaneView). l.pending)) new.lanes ∙ map-replicate (λ (l : LaneView). l.pending) (lanes_of (operator_at (slice_get plan.steps k))) (empty_lane pending)) i })
