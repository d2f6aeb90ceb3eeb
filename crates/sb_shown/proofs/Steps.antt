-- The steps of a plan, the lanes of their nodes, and what a closing that begins is in the core.
use Rattle.std.proofs.Common.{◌≡◌, ℕ, ◌+◌, ◌≤◌, List, [], ◌∷◌, Option, None, Some, ap, refl, arith}
use Rattle.std.specs.List.{slice_get}
use Rattle.std.specs.Option.{option_map}
use Rattle.std.proofs.lemmas.Option.{same_Some}
use Rattle.sb_node.specs.base.records.Reading.{◌>>=◌}
use Rattle.sb_node.specs.base.pipeline.declared.transform.Down.{Down}
use Rattle.sb_node.specs.base.pipeline.declared.transform.Step.{Step}
use Rattle.sb_node.specs.base.pipeline.Shapes.{Shape}
use Rattle.sb_node.specs.base.pipeline.Operators.{Operator, lanes_of}
use Rattle.sb_node.specs.base.pipeline.Operators.Operator.{ParDo, Windowed, Sink}
use Rattle.sb_node.specs.base.pipeline.Operators.WindowOperator.{Aggregated, Sessions, Joined}
use Rattle.sb_tally.specs.core.containers.declared.container.Cont.{Cont}
use Rattle.sb_tally.specs.core.containers.declared.container.CoreLane.{CoreLane}
use Rattle.sb_tally.specs.core.declared.moment.Node.{Node}
use Rattle.sb_tally.specs.core.declared.held.Held.TheVariants.{Close}
use Rattle.sb_tally.specs.core.Closings.{kept_at, rows_at, rows_at_sink, is_sink}
use Rattle.sb_tally.specs.core.Events.{below}
use Rattle.sb_tally.specs.core.containers.Lanes.{with_first_closing}
use Rattle.sb_tally.specs.core.containers.Marks.{least_begun_mark}
use Rattle.sb_tally.specs.core.Moments.{set_lane}
use Rattle.sb_tally.specs.core.Parts.{Part}

pub lanes_two : (op : Operator) → lanes_of op ≤ 2
lanes_two (ParDo op) = omega arith
lanes_two (Windowed (Aggregated agg windows)) = omega arith
lanes_two (Windowed (Sessions agg gap)) = omega arith
lanes_two (Windowed (Joined combine windows)) = omega arith
lanes_two Sink = omega arith

-- what begins, as the core has it
abbrev pub begun_part : Operator → ℕ → ℕ → Node → CoreLane → Cont → Part
begun_part op k l n lane c =
    let begun = set_lane l (record lane { conts = with_first_closing lane.conts }) n in
    record {
      node = record begun { kept = kept_at op (least_begun_mark begun.lanes) n.kept; closings = n.closings + 1 };
      held = Close k l c.epoch n.closings (least_begun_mark n.lanes) (least_begun_mark begun.lanes) (rows_at op (least_begun_mark n.lanes) (least_begun_mark begun.lanes) n.kept) (is_sink op) ∷ [];
      rows = rows_at_sink op (least_begun_mark begun.lanes) n.kept;
    }

-- the transform of a number, by where what it gives goes
pub step-of : (steps : List Step) (k : ℕ) (d : Down) → option_map (λ (s : Step). s.down) (slice_get steps k) ≡ Some d → (st : Step) × (slice_get steps k ≡ Some st) × (st.down ≡ d)
step-of steps k d h = go (slice_get steps k) refl h
  where
    go : (o : Option Step) → slice_get steps k ≡ o → option_map (λ (s : Step). s.down) o ≡ Some d → (st : Step) × (slice_get steps k ≡ Some st) × (st.down ≡ d)
    go None e h = cc
    go (Some st) e h = (st, e, same_Some st.down d h)

-- where what a transform gives goes
pub below-is : (plan : Shape) (k : ℕ) (st : Step) → slice_get plan.steps k ≡ Some st → below plan k ≡ Some st.down
below-is plan k st h = ap (λ (o : Option Step). o >>= λ s. Some s.down) h
