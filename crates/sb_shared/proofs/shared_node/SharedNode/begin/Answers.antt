use Rattle.std.proofs.Common.{rules, ◌≡◌, ◌+◌, subst, max}
use Rattle.sb_shown.specs.diary.Diaries.{with_spare}
use Rattle.sb_shown.specs.node.declared.state.NodeState.{NodeState}
use Rattle.sb_shared.proofs.diaries.Rooms.{room-reserved, room-is}
use Rattle.std.specs.Prelude.{false}
use Rattle.sb_shown.specs.node.Looking.{IsNotYet}
use Rattle.sb_shared.proofs.entered.Begins.{begins-reserved, room-begun}
use Rattle.sb_shared.proofs.shared_node.SharedNode.begin.Goals as goal
use Rattle.sb_shared.proofs.shared_node.SharedNode.begin.Goals.{then-self, else-self}

pub returns-in-Err-clause-stops : goal.returns-in-Err-clause-stops
returns-in-Err-clause-stops c =
    let e : c.deref_mut-own.result.now ≡ c.args.self.now.own = search rules in
    (subst (λ (o : NodeState). IsNotYet o.lanes.items c.in-Err.why) e c.in-Err.ensures.err, search rules)

pub invariant_of-self-in-Ok-close : goal.invariant_of-self-in-Ok-close
invariant_of-self-in-Ok-close c =
    let has_room = room-is c.self.inside.promised c.deref_mut-own.result.now c.self.inside.own.value c.deref_mut-own.ensures.value c.self.invariant in
    let own = c.deref_mut-own.result.now in
    let p = c.self.inside.promised in
    let is : c.reserve.new.self ≡ with_spare (max own.diary.spare (p + 2)) own.diary = search rules in
    let room = room-reserved p own c.reserve.new.self _ is c.reserve.ensures.most has_room in
    room-begun p c.args.is_sink c.in-Ok-close.closing _ _ c.in-Ok-close.ensures.begins.1 c.in-Ok-close.ensures.line.0 c.in-Ok-close.ensures.line.1 room.0 room.1

pub returns-in-Ok-close-clause-begins : goal.returns-in-Ok-close-clause-begins
returns-in-Ok-close-clause-begins c =
    let own = c.deref_mut-own.result.now in
    let p = c.self.inside.promised in
    let mid : NodeState = record own { diary = c.reserve.new.self } in
    let full : c.if-self.is_full ≡ false = search rules in
    let unspent : c.self.inside.spent ≡ false = elim c.if-self.branch [ then-self w ↦ search rules | else-self w ↦ search rules ] in
    let unspent_too : c.args.self.now.spent ≡ false = search rules in
    let begun = begins-reserved c.args.is_sink c.in-Ok-close.closing c.args.self.now mid c.close.new.own (max own.diary.spare (p + 2)) c.close.new.tray.items (search rules) unspent_too (search rules) in
    (search rules, search rules)
