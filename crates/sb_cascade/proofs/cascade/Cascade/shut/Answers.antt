use Rattle.std.proofs.Common.{◌≡◌, ◌∙◌, List, [], sym, subst}
use Rattle.sb_hand.specs.node.declared.state.NodeState.{NodeState}
use Rattle.sb_hand.specs.Linking.{AreLinked}
use Rattle.sb_hand.specs.Showing.{CanStand}
use Rattle.sb_shared.specs.turn.Passes.{about}
use Rattle.sb_shared.specs.declared.telling.Setting.{Setting}
use Rattle.sb_cascade.specs.Calls.{view_of}
use Rattle.sb_cascade.specs.Ends.{IsShut}
use Rattle.sb_shared.specs.SharedNodes.{SharedView}
use Rattle.sb_cascade.proofs.lives.GivingBack.{gives_back, shut_can}
use Rattle.sb_cascade.proofs.lives.Shutting.{shuts}
use Rattle.sb_cascade.proofs.cascade.Cascade.shut.Goals as goal

pub from_parts-requires-clause-can : goal.from_parts-requires-clause-can
from_parts-requires-clause-can c =
    let self = c.args.self in
    let v = view_of c.args.pass in
    let states : List SharedView = c.close.result.items in
    let of : about self.turns ≡ self.setting = self.same in
    let shut : IsShut self.setting v states = subst (λ (a : Setting). IsShut a v states) of (shuts (about self.turns) v states c.requires.pass.2.held c.close.ensures) in
    let g = c.gather-nodes.ensures in
    λ off. subst (λ (l : List NodeState). CanStand self.setting.plan self.setting.bundle l []) (sym g.nodes) (shut_can self.setting v states shut (sym g.spent ∙ off))

pub returns : goal.returns
returns c =
    let self = c.args.self in
    let v = view_of c.args.pass in
    let states : List SharedView = c.close.result.items in
    let of : about self.turns ≡ self.setting = self.same in
    let shut : IsShut self.setting v states = subst (λ (a : Setting). IsShut a v states) of (shuts (about self.turns) v states c.requires.pass.2.held c.close.ensures) in
    let g = c.gather-nodes in
    let f = c.from_parts in
    gives_back self.setting v states shut g.result.tray.items g.ensures.tray f.result f.ensures.plan f.ensures.bundle f.ensures.pending
    (sym g.ensures.nodes ∙ f.ensures.nodes) f.ensures.tray (sym g.ensures.spent ∙ f.ensures.spent)

pub from_parts-requires-clause-linked : goal.from_parts-requires-clause-linked
from_parts-requires-clause-linked c =
    let self = c.args.self in
    let v = view_of c.args.pass in
    let states : List SharedView = c.close.result.items in
    let of : about self.turns ≡ self.setting = self.same in
    let shut : IsShut self.setting v states = subst (λ (a : Setting). IsShut a v states) of (shuts (about self.turns) v states c.requires.pass.2.held c.close.ensures) in
    let g = c.gather-nodes.ensures in
    λ off. subst (λ (l : List NodeState). AreLinked self.setting.plan l) (sym g.nodes) shut.linked
