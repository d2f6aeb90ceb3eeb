use Rattle.std.proofs.Common.{◌≡◌, [], length, refl, sym, ap, subst, ◌∙◌, arith, List}
use Rattle.std.specs.Prelude.{All, slice_get}
use Rattle.std.proofs.lemmas.Option.{same_Some}
use Rattle.sb_shown.specs.lane.Looks.{look_of}
use Rattle.sb_shown.specs.lane.LaneView.{LaneView}
use Rattle.sb_shown.specs.lane.Placed.{conts_of}
use Rattle.sb_shown.specs.node.declared.state.NodeState.{NodeState}
use Rattle.sb_shown.specs.node.Looking.{CannotClose}
use Rattle.sb_hand.proofs.LinkedEvents.{keeps-none}
use Rattle.sb_hand.proofs.Having.{node-there}
use Rattle.sb_hand.proofs.steps.close_step.Goals as goal

pub closable_lane-requires : goal.closable_lane-requires
closable_lane-requires c =
    let own = node-there c.args.plan.now c.args.size c.args.nodes.now.items [] c.requires.ready.can c.args.node c.requires.node c.index.result.now c.index.ensures in
    omega (arith, own.few, ap length c.as_slice.ensures.value)

pub close_node-requires-clause-at : goal.close_node-requires-clause-at
close_node-requires-clause-at c =
    let own = node-there c.args.plan.now c.args.size c.args.nodes.now.items [] c.requires.ready.can c.args.node c.requires.node c.index.result.now c.index.ensures in
    let s = c.in-Some.ensures.some in
    (s.0, record { own = c.index.result.now; there = own.there; in_it = ap (λ ls. slice_get ls c.in-Some.lane) (sym c.as_slice.ensures.value) ∙ s.1 })

pub close_node-requires-clause-looks : goal.close_node-requires-clause-looks
close_node-requires-clause-looks c = λ at h.
    let own = node-there c.args.plan.now c.args.size c.args.nodes.now.items [] c.requires.ready.can c.args.node c.requires.node c.index.result.now c.index.ensures in
    let s = c.in-Some.ensures.some in
    let same : h.own ≡ c.index.result.now = same_Some h.own c.index.result.now (sym h.there ∙ own.there) in
    let at_is : s.0 ≡ at = same_Some s.0 at (sym s.1 ∙ ap (λ ls. slice_get ls c.in-Some.lane) c.as_slice.ensures.value ∙ ap (λ (n : NodeState). slice_get n.lanes.items c.in-Some.lane) (sym same) ∙ h.in_it) in
    (s.2, ap (λ (x : LaneView). look_of (conts_of x.containers)) (sym at_is) ∙ s.3, s.4)

pub returns-in-None-clause-steps : goal.returns-in-None-clause-steps
returns-in-None-clause-steps c =
    let own = node-there c.args.plan.now c.args.size c.args.nodes.now.items [] c.requires.ready.can c.args.node c.requires.node c.index.result.now c.index.ensures in (
      record {
        own = c.index.result.now;
        there = own.there;
        waits = c.requires.idle c.index.result.now own.there;
        closes = subst (λ (ls : List LaneView). All CannotClose ls) c.as_slice.ensures.value c.in-None.ensures.none;
      },
      refl,
      refl,
    )

pub returns-in_ok-close_node-in-Some-clause-steps : goal.returns-in_ok-close_node-in-Some-clause-steps
returns-in_ok-close_node-in-Some-clause-steps c =
    let own = node-there c.args.plan.now c.args.size c.args.nodes.now.items [] c.requires.ready.can c.args.node c.requires.node c.index.result.now c.index.ensures in
    let s = c.in-Some.ensures.some in (
      c.in-Some.lane,
      record {
        lane = s.0;
        has = record { own = c.index.result.now; there = own.there; in_it = ap (λ ls. slice_get ls c.in-Some.lane) (sym c.as_slice.ensures.value) ∙ s.1 };
        none = c.requires.idle c.index.result.now own.there;
        close = s.2;
        looks = s.3;
      },
      c.in_ok-close_node-in-Some.ensures.closes,
    )

pub returns-in-None-clause-links : goal.returns-in-None-clause-links
returns-in-None-clause-links c = keeps-none c.args.plan.now c.args.nodes.now.items c.requires.ready.linked
