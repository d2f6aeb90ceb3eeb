use Rattle.std.proofs.Common.{◌≡◌, ◌≤◌, [], ◌∷◌, ◌++◌, length, rules, sym, ap, subst, ◌∙◌, arith}
use Rattle.std.specs.Prelude.{replicate, slice_get}
use Rattle.std.proofs.lemmas.List.{take_all}
use Rattle.sb_slow.specs.base.pipeline.Operators.{operator_at}
use Rattle.sb_core.specs.declared.moment.Node.{Node}
use Rattle.sb_core.specs.declared.moment.Moment.{Moment}
use Rattle.sb_core.specs.Exactness.{IsExact}
use Rattle.sb_core.specs.Soundness.{IsSound}
use Rattle.sb_core.specs.Moments.{empty_lane, empty_node, first}
use Rattle.sb_core.proofs.sound.FirstMoment.{at_node, node_count, first-sound, first-exact}
use Rattle.sb_machine.proofs.Nodewise.{take_more}
use Rattle.sb_machine.proofs.machine.first.Goals as goal

pub loop-node-preserved : goal.loop-node-preserved
loop-node-preserved c =
    let steps = c.args.plan.now.steps in
    let node = c.loop-node.node in
    let all = (first c.args.plan.now c.args.bundle).nodes in
    let new : Node = record { lanes = c.in_ok-lanes.lanes; kept = c.new-in-loop-node.result; closings = 0 } in
    let pushed : c.push.new.self.items ≡ c.loop-node.nodes.items ++ new ∷ [] = search rules in
    let is : new ≡ empty_node (operator_at (slice_get steps node)) =
    λ i. record { lanes = (c.in_ok-lanes.ensures ∙ ap (λ n. replicate n empty_lane) c.lanes.ensures) i; kept = (c.new-in-loop-node.ensures ∙ c.new.ensures.items) i; closings = 0 } in
    let within : node ≤ length steps = omega (arith, c.loop-node-test.true, c.transforms-node-end.ensures.value) in
    pushed ∙ (λ i. c.loop-node.invariant i ++ is i ∷ []) ∙ sym (take_more all node (empty_node (operator_at (slice_get steps node))) (at_node steps node within))

pub returns : goal.returns
returns c =
    let plan = c.args.plan.now in
    let bundle = c.args.bundle in
    let past : length (first plan bundle).nodes ≤ c.loop-node.node = omega (arith, c.loop-node-test.false, c.transforms-node-end.ensures.value, node_count plan.steps) in
    let nodes : c.new-2.result ≡ (first plan bundle).nodes = c.new-2.ensures ∙ c.loop-node.invariant ∙ take_all c.loop-node.node (first plan bundle).nodes past in
    let is : ◌≡◌ {A = Moment} (record { bundle = bundle; nodes = c.new-2.result; held = c.new-4.result; rows = c.new-6.result }) (first plan bundle) =
    λ i. record { bundle = bundle; nodes = nodes i; held = (c.new-4.ensures ∙ c.new-3.ensures.items) i; rows = (c.new-6.ensures ∙ c.new-5.ensures.items) i } in
    record {
      value = is;
      sound = subst (IsSound plan) (sym is) (first-sound plan c.transforms-node-end.ensures.sound bundle c.requires.some c.requires.most);
      exact = subst (λ m. IsExact plan m (λ s. [])) (sym is) (first-exact plan c.transforms-node-end.ensures.sound bundle);
    }
