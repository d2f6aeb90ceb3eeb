-- What the code finds for a closing that is to begin.
use Rattle.std.proofs.Common.{◌≡◌, ℕ, ◌+◌, ◌≤◌, ◌<◌, Bool, true, false, not, List, [], ◌∷◌, ◌++◌, length, get_or, Some, None, Option, is_some, sym, refl, ap, subst, ◌∙◌, arith, ⊎_elim, set as slice_set}
use Rattle.std.specs.Prelude.{All, ◌&&◌, ◌==◌, sum_by}
use Rattle.std.specs.List.{slice_get, list_any, AllByRecursion}
use Rattle.std.specs.Option.{option_map}
use Rattle.std.proofs.lemmas.Option.{slice_get_cases, slice_get_within, slice_get-get_or, get_or_from_slice_get, same_Some}
use Rattle.std.proofs.lemmas.Bool.{eq-eqb, ne_eqb}
use Rattle.std.proofs.lemmas.List.Elements.{All-from_recursion}
use Rattle.sb_slow.specs.base.records.declared.item.TheConstants.{END_MARK}
use Rattle.sb_slow.specs.base.ElementLemmas.{every}
use Rattle.sb_slow.specs.base.records.declared.element.KeptRec.{KeptRec}
use Rattle.sb_slow.specs.base.pipeline.declared.transform.Step.{Step}
use Rattle.sb_slow.specs.base.pipeline.Operators.{Operator, operator_at, lanes_of}
use Rattle.sb_slow.specs.base.pipeline.Operators.Operator.{ParDo, Windowed, Sink}
use Rattle.sb_slow.specs.base.pipeline.Operators.WindowOperator.{Aggregated, Sessions, Joined}
use Rattle.sb_slow.specs.base.pipeline.Plans.{IsPlan}
use Rattle.sb_slow.specs.base.pipeline.Shapes.{Shape}
use Rattle.sb_machine.specs.declared.begin.Closing.{Closing}
use Rattle.sb_core.specs.declared.held.Held.TheVariants.{Close}
use Rattle.sb_core.specs.containers.declared.container.Cont.{Cont}
use Rattle.sb_core.specs.containers.declared.container.CoreLane.{CoreLane}
use Rattle.sb_core.specs.declared.moment.Moment.{Moment}
use Rattle.sb_core.specs.declared.moment.Node.{Node}
use Rattle.sb_core.specs.Bounds.{bound_at}
use Rattle.sb_core.specs.containers.Choices.{is_empty, only_if}
use Rattle.sb_machine.specs.Beginnings.{IsBeginningOf}
use Rattle.sb_core.specs.Closings.{rows_at_sink, is_sink, kept_at, rows_at}
use Rattle.sb_core.specs.MomentSteps.{after_begin}
use Rattle.sb_core.specs.Finding.{IsFirst}
use Rattle.sb_core.specs.containers.Lanes.{closable, with_first_closing}
use Rattle.sb_core.specs.containers.Marks.{begun_count, least_begun_mark}
use Rattle.sb_core.specs.Moments.{is_close, no_node, node_at}
use Rattle.sb_core.specs.Soundness.{IsSound, AreKeptAt}
use Rattle.sb_core.proofs.times.TimeBounds.{bound-before_end}
use Rattle.sb_core.proofs.places.InPlace.{then_some, lane-there}
use Rattle.sb_core.proofs.containers.Begun.{begun_within}
use Rattle.sb_core.proofs.containers.Lists.{cond_is_some, any-pulled}
use Rattle.sb_core.proofs.times.Timely.{sink-last}

pub any-first : {X : Type 0} (p : X → Bool) (xs : List X) (place : Option ℕ) → IsFirst p xs place → list_any p xs ≡ is_some place
any-first p xs None none = any-pulled p xs ∙ ap is_some none
any-first p xs (Some i) first = any-pulled p xs ∙ ap is_some first.3

-- the container that may close is the first
pub closable-first : (epoch : ℕ) (cs : List Cont) (c : Cont) → closable epoch cs ≡ Some c → (rest : List Cont) × (cs ≡ c ∷ rest)
closable-first epoch [] c h = cc
closable-first epoch (x ∷ cs) c h =
    let a = cond_is_some ((x.epoch == epoch) && (is_some x.mark && (is_empty x.waiting && is_empty x.out))) (Some x) c h in
    (cs, ap (λ c. c ∷ cs) (same_Some x c a.1))

-- the container whose epoch the code found
pub closable-found : (o : Option Cont) (epoch : ℕ) → Some epoch ≡ option_map (λ (c : Cont). c.epoch) o → (c : Cont) × (o ≡ Some c) × (epoch ≡ c.epoch)
closable-found None epoch h = cc
closable-found (Some c) epoch h = (c, refl, same_Some epoch c.epoch h)

lanes_of-most : (o : Operator) → lanes_of o ≤ 2
lanes_of-most (ParDo op) = omega arith
lanes_of-most (Windowed (Aggregated agg windows)) = omega arith
lanes_of-most (Windowed (Sessions agg gap)) = omega arith
lanes_of-most (Windowed (Joined combine windows)) = omega arith
lanes_of-most Sink = omega arith

kept-bounded : (o : Operator) (mark bound : ℕ) (kept : List KeptRec) → AreKeptAt o mark bound kept → AllByRecursion (λ e. e.rec.time ≤ bound) kept
kept-bounded (ParDo op) mark bound kept all = every (λ e h. absurd h) kept all
kept-bounded (Windowed grouping) mark bound kept all = every (λ e h. h.1) kept all
kept-bounded Sink mark bound kept all = every (λ e h. h.1) kept all

module _ (plan : Shape) (is_plan : IsPlan plan) (m : Moment) (sound : IsSound plan m) (k : ℕ) (node : Node) (at : slice_get m.nodes k ≡ Some node) where
  node-is : node_at m k ≡ node
  node-is = get_or_from_slice_get m.nodes k node no_node at

  pub node-within : k ≤ length plan.steps
  node-within = omega (arith, slice_get_within m.nodes k node at, sound.nodes)

  pub kept-times : All (λ e. e.rec.time < END_MARK) node.kept
  kept-times =
      All-from_recursion (λ (e : KeptRec). e.rec.time < END_MARK) node.kept
      (every (λ e h. omega (arith, h, bound-before_end plan is_plan k)) node.kept
      (subst (λ (n : Node). AllByRecursion (λ e. e.rec.time ≤ bound_at plan k) n.kept) node-is (kept-bounded (operator_at (slice_get plan.steps k)) (least_begun_mark (node_at m k).lanes) (bound_at plan k) (node_at m k).kept (sound.kept k))))

  pub lanes-few : length node.lanes ≤ 2
  lanes-few = omega (arith, ap (λ (n : Node). length n.lanes) (sym node-is), sound.lanes_there k node-within, lanes_of-most (operator_at (slice_get plan.steps k)))

  pub lanes-begun : All (λ lane. begun_count lane ≤ length lane.marks) node.lanes
  lanes-begun i d within =
      begun_within (bound_at plan k) (get_or node.lanes i d) (sound.lanes (record { node = k; lane = i }) (get_or node.lanes i d) (lane-there m k node at i (get_or node.lanes i d) (slice_get-get_or node.lanes i d within)))

  pub begun-is : node.closings ≡ sum_by begun_count node.lanes
  begun-is = subst (λ (n : Node). n.closings ≡ sum_by begun_count n.lanes) node-is (sound.closings k)

-- a node with a Close begins no other
pub begin-refused : (plan : Shape) (m : Moment) (k l : ℕ) (node : Node) (lane : CoreLane) (c : Cont) → slice_get m.nodes k ≡ Some node → slice_get node.lanes l ≡ Some lane → closable lane.ended lane.conts ≡ Some c
    → list_any (is_close k) m.held ≡ true → after_begin plan m k l ≡ None
begin-refused plan m k l node lane c at in_it closes busy =
    then_some (slice_get m.nodes k) node _ at ∙ then_some (slice_get node.lanes l) lane _ in_it ∙ then_some (closable lane.ended lane.conts) c _ closes
    ∙ refused (list_any (is_close k) m.held) _ busy
  where
    refused : (b : Bool) (o : Option Moment) → b ≡ true → only_if (not b) o ≡ None
    refused b o e = ap (λ b. only_if (not b) o) e

accepted : (b : Bool) (o : Option Moment) → b ≡ false → only_if (not b) o ≡ o
accepted b o e = ap (λ b. only_if (not b) o) e

module _ (plan : Shape) (m : Moment) (k l : ℕ) (closing : Closing) (found : IsBeginningOf plan m k l closing) where
  abbrev lane : CoreLane
  lane = found.lane

  abbrev lanes : List CoreLane
  lanes = slice_set found.node.lanes l (record lane { conts = with_first_closing lane.conts })

  abbrev o : Operator
  o = operator_at (slice_get plan.steps k)

  rows_is : closing.rows ≡ rows_at o (least_begun_mark found.node.lanes) (least_begun_mark lanes) found.node.kept
  rows_is = found.rows ∙ (λ i. rows_at o (found.floor i) (found.mark i) found.node.kept)

  kept_is : closing.kept ≡ kept_at o (least_begun_mark lanes) found.node.kept
  kept_is = found.kept ∙ ap (λ w. kept_at o w found.node.kept) found.mark

  collected_is : closing.collected ≡ rows_at_sink o (least_begun_mark lanes) found.node.kept
  collected_is = found.collected ∙ ap (λ w. rows_at_sink o w found.node.kept) found.mark

  -- the moment after a closing that begins, by what was found for it
  pub begin-done : after_begin plan m k l
      ≡ Some (record m {
        nodes = slice_set m.nodes k (record { lanes = slice_set found.node.lanes l (record found.lane { conts = with_first_closing found.lane.conts }); kept = closing.kept; closings = closing.serial + 1 });
        held = m.held ++ Close k l closing.epoch closing.serial closing.floor closing.mark closing.rows closing.passed ∷ [];
        rows = m.rows ++ closing.collected;
      })
  begin-done =
      then_some (slice_get m.nodes k) found.node _ found.there ∙ then_some (slice_get found.node.lanes l) lane _ found.in_it ∙ then_some (closable lane.ended lane.conts) found.cont _ found.closes
      ∙ accepted (list_any (is_close k) m.held) _ found.idle
      ∙ sym (λ i. Some (record m {
        nodes = slice_set m.nodes k (record { lanes = lanes; kept = kept_is i; closings = found.serial i + 1 });
        held = m.held ++ Close k l (found.epoch i) (found.serial i) (found.floor i) (found.mark i) (rows_is i) (found.passed i) ∷ [];
        rows = m.rows ++ collected_is i;
      }))
