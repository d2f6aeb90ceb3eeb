use Rattle.std.proofs.Common.{◌≡◌, [], refl, sym, subst, ◌∙◌}
use Rattle.std.specs.Prelude.{All}
use Rattle.std.proofs.lemmas.Option.{same_Some}
use Rattle.sb_shown.specs.node.declared.state.NodeState.{NodeState}
use Rattle.sb_shown.specs.node.Looking.{NoneWaits}
use Rattle.sb_hand.proofs.Having.{node-there}
use Rattle.sb_hand.proofs.steps.step_node.Goals as goal

pub waiting_lane-requires : goal.waiting_lane-requires
waiting_lane-requires c =
    let own = node-there c.args.plan.now c.args.size c.args.nodes.now.items [] c.requires.ready.can c.args.node c.requires.node c.index.result.now c.index.ensures in
    record { few = own.few }

pub work_off-requires-clause-waits : goal.work_off-requires-clause-waits
work_off-requires-clause-waits c =
    let own = node-there c.args.plan.now c.args.size c.args.nodes.now.items [] c.requires.ready.can c.args.node c.requires.node c.index.result.now c.index.ensures in
    let s = c.in-Some.ensures.some in
    (s.0, record { own = c.index.result.now; there = own.there; in_it = s.1 }, s.2)

pub close_step-requires-clause-idle : goal.close_step-requires-clause-idle
close_step-requires-clause-idle c = λ x h.
    let own = node-there c.args.plan.now c.args.size c.args.nodes.now.items [] c.requires.ready.can c.args.node c.requires.node c.index.result.now c.index.ensures in
    let same : c.index.result.now ≡ x = same_Some c.index.result.now x (sym own.there ∙ h) in
    subst (λ (n : NodeState). All NoneWaits n.lanes.items) same c.in-None.ensures.none

pub returns-in_ok-work_off-in-Some-clause-steps : goal.returns-in_ok-work_off-in-Some-clause-steps
returns-in_ok-work_off-in-Some-clause-steps c =
    let own = node-there c.args.plan.now c.args.size c.args.nodes.now.items [] c.requires.ready.can c.args.node c.requires.node c.index.result.now c.index.ensures in
    let s = c.in-Some.ensures.some in (
      c.in-Some.lane,
      record {
        lane = s.0;
        has = record { own = c.index.result.now; there = own.there; in_it = s.1 };
        waits = s.2;
      },
      c.in_ok-work_off-in-Some.ensures.works,
      refl,
    )
