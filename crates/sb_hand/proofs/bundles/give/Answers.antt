use Rattle.std.proofs.Common.{List, sym, subst}
use Rattle.sb_shown.proofs.lane.Results.{on_ok, both_ok}
use Rattle.sb_shown.specs.node.declared.state.NodeState.{NodeState}
use Rattle.sb_shown.specs.Sets.{HasLane}
use Rattle.sb_hand.proofs.Gives.{below, gives-first, gives-there, has-own, has-own-still, keeps-first, keeps-there, order, placed-order, there}
use Rattle.sb_hand.proofs.bundles.give.Goals as goal

pub down_at-requires : goal.down_at-requires
down_at-requires c =
    let down = rw c.node-node.ensures at c.down-below.ensures.down in
    let own = has-own c.args.plan.now c.args.size c.args.claim.now c.args.given c.args.nodes.now.items c.requires c.down-below.result down in
    rw c.node-node.ensures (own.0, subst (λ (n : List NodeState). HasLane c.args.claim.now.node 0 own.0 n) (sym c.as_slice.ensures.value) own.1)

pub put_at-requires-clause-at : goal.put_at-requires-clause-at
put_at-requires-clause-at c =
    let down = rw c.node-node.ensures at c.down-below.ensures.down in
    below c.args.plan.now c.args.size c.args.claim.now c.args.given c.args.nodes.now.items c.requires c.down-below.result down

pub put_at-requires-clause-here : goal.put_at-requires-clause-here
put_at-requires-clause-here c =
    let down = rw c.node-node.ensures at c.down-below.ensures.down in
    let found = rw (c.node-node.ensures, c.epoch-epoch.ensures) at c.down_at.ensures in
    rw c.epoch-epoch.ensures (there c.args.plan.now c.args.size c.args.claim.now c.args.given c.args.nodes.now.items c.requires c.down-below.result down c.down_at.result (λ at h. found at (subst (λ (n : List NodeState). HasLane c.args.claim.now.node 0 at n) (sym c.as_slice.ensures.value) h)) c.in-Some.place c.in-Some.is)

pub put_at-requires-clause-order : goal.put_at-requires-clause-order
put_at-requires-clause-order c =
    let down = rw c.node-node.ensures at c.down-below.ensures.down in
    order c.args.plan.now c.args.size c.args.claim.now c.args.given c.args.nodes.now.items c.requires c.down-below.result down

pub put_first-requires-clause-at : goal.put_first-requires-clause-at
put_first-requires-clause-at c =
    let down = rw c.node-node.ensures at c.down-below.ensures.down in
    below c.args.plan.now c.args.size c.args.claim.now c.args.given c.args.nodes.now.items c.requires c.down-below.result down

pub put_first-requires-clause-order : goal.put_first-requires-clause-order
put_first-requires-clause-order c =
    let down = rw c.node-node.ensures at c.down-below.ensures.down in
    rw (c.epoch-epoch.ensures, c.floor-floor.ensures) (placed-order c.args.plan.now c.args.size c.args.claim.now c.args.given c.args.nodes.now.items c.requires c.down-below.result down)

pub link_at-requires : goal.link_at-requires
link_at-requires c =
    let down = rw c.node-node.ensures at c.down-below.ensures.down in
    let found = rw (c.node-node.ensures, c.epoch-epoch.ensures) at c.down_at.ensures in
    rw c.node-node.ensures (has-own-still c.args.plan.now c.args.size c.args.claim.now c.args.given c.args.nodes.now.items c.requires c.down-below.result down c.down_at.result (λ at h. found at (subst (λ (n : List NodeState). HasLane c.args.claim.now.node 0 at n) (sym c.as_slice.ensures.value) h)) c.in-None.is c.put_first.new.nodes.items (rw (c.epoch-epoch.ensures, c.floor-floor.ensures) at c.in_ok-place-in-None.ensures.puts) c.in_ok-place-in-None.place (rw c.epoch-epoch.ensures at c.in_ok-place-in-None.ensures.links))

pub returns-in-Some-clause-gives : goal.returns-in-Some-clause-gives
returns-in-Some-clause-gives c =
    let down = rw c.node-node.ensures at c.down-below.ensures.down in
    let found = rw (c.node-node.ensures, c.epoch-epoch.ensures) at c.down_at.ensures in
    on_ok c.put_at.result (gives-there c.args.plan.now c.args.size c.args.claim.now c.args.given c.args.nodes.now.items c.requires c.down-below.result down c.down_at.result (λ at h. found at (subst (λ (n : List NodeState). HasLane c.args.claim.now.node 0 at n) (sym c.as_slice.ensures.value) h)) c.put_at.new.nodes.items) (rw (c.epoch-epoch.ensures, c.floor-floor.ensures) at c.put_at.ensures.puts)

pub returns-in-Some-clause-links : goal.returns-in-Some-clause-links
returns-in-Some-clause-links c =
    let down = rw c.node-node.ensures at c.down-below.ensures.down in
    let found = rw (c.node-node.ensures, c.epoch-epoch.ensures) at c.down_at.ensures in
    both_ok c.put_at.result (keeps-there c.args.plan.now c.args.size c.args.claim.now c.args.given c.args.nodes.now.items c.requires c.down-below.result down c.down_at.result (λ at h. found at (subst (λ (n : List NodeState). HasLane c.args.claim.now.node 0 at n) (sym c.as_slice.ensures.value) h)) c.put_at.new.nodes.items) (rw (c.epoch-epoch.ensures, c.floor-floor.ensures) at c.put_at.ensures.puts) c.put_at.ensures.links

pub returns-in_ok-place-in-None-clause-gives : goal.returns-in_ok-place-in-None-clause-gives
returns-in_ok-place-in-None-clause-gives c =
    let down = rw c.node-node.ensures at c.down-below.ensures.down in
    let found = rw (c.node-node.ensures, c.epoch-epoch.ensures) at c.down_at.ensures in
    gives-first c.args.plan.now c.args.size c.args.claim.now c.args.given c.args.nodes.now.items c.requires c.down-below.result down c.down_at.result (λ at h. found at (subst (λ (n : List NodeState). HasLane c.args.claim.now.node 0 at n) (sym c.as_slice.ensures.value) h)) c.in-None.is c.put_first.new.nodes.items (rw (c.epoch-epoch.ensures, c.floor-floor.ensures) at c.in_ok-place-in-None.ensures.puts) c.in_ok-place-in-None.place (rw c.epoch-epoch.ensures at c.in_ok-place-in-None.ensures.links) c.link_at.new.nodes.items (rw c.node-node.ensures at c.link_at.ensures.stays)

pub returns-in_ok-place-in-None-clause-links : goal.returns-in_ok-place-in-None-clause-links
returns-in_ok-place-in-None-clause-links c =
    let down = rw c.node-node.ensures at c.down-below.ensures.down in
    let found = rw (c.node-node.ensures, c.epoch-epoch.ensures) at c.down_at.ensures in
    keeps-first c.args.plan.now c.args.size c.args.claim.now c.args.given c.args.nodes.now.items c.requires c.down-below.result down c.down_at.result (λ at h. found at (subst (λ (n : List NodeState). HasLane c.args.claim.now.node 0 at n) (sym c.as_slice.ensures.value) h)) c.in-None.is c.put_first.new.nodes.items (rw (c.epoch-epoch.ensures, c.floor-floor.ensures) at c.in_ok-place-in-None.ensures.puts) c.in_ok-place-in-None.place (rw c.epoch-epoch.ensures at c.in_ok-place-in-None.ensures.links) c.link_at.new.nodes.items (rw c.node-node.ensures at c.link_at.ensures.stays) (rw (c.node-node.ensures, c.epoch-epoch.ensures) at c.link_at.ensures.links)
