use Rattle.std.proofs.Common.{rules}
use Rattle.sb_hand.proofs.Stepwise.{can-steps, settings-step}
use Rattle.sb_hand.proofs.hand.Hand.step.Goals as goal

pub step_node-requires-clause-ready : goal.step_node-requires-clause-ready
step_node-requires-clause-ready c =
    let known = c.self.invariant c.if-self.false in
    record { is_plan = search rules; can = known.0; linked = known.1 }

pub invariant_of-self-2 : goal.invariant_of-self-2
invariant_of-self-2 c = λ e.
    let s = c.self.inside in
    (can-steps s.plan s.bundle c.args.node s.nodes.items c.step_node.new.nodes.items s.tray.items c.step_node.new.tray.items c.in_ok-did.did c.in_ok-did.ensures.steps (c.self.invariant c.if-self.false).0, c.in_ok-did.ensures.links.linked)

pub returns-clause-steps : goal.returns-clause-steps
returns-clause-steps c = rw (← c.self.view_is) c.in_ok-did.ensures.steps

pub returns-clause-settings : goal.returns-clause-settings
returns-clause-settings c =
    let s = c.self.inside in
    rw (← c.self.view_is) (settings-step s.plan s.bundle c.args.node s.nodes.items c.step_node.new.nodes.items s.tray.items c.step_node.new.tray.items c.in_ok-did.did c.in_ok-did.ensures.steps)

pub returns-clause-searches : goal.returns-clause-searches
returns-clause-searches c = rw (← c.self.view_is) c.in_ok-did.ensures.links.searches
