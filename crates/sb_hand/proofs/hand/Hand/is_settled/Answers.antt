use Rattle.std.proofs.Common.{List, ap, subst, ◌∙◌}
use Rattle.std.specs.Prelude.{◌↔◌, IsTrue}
use Rattle.sb_shown.specs.node.declared.state.NodeState.{NodeState}
use Rattle.sb_hand.specs.Hands.{HandView, NoneLeft}
use Rattle.sb_hand.proofs.hand.Hand.is_settled.Goals as goal

pub returns : goal.returns
returns c =
    subst (λ (nodes : List NodeState). IsTrue c.is_none_left.result ↔ NoneLeft nodes) (c.as_slice.ensures.value ∙ ap (λ (h : HandView). h.nodes) c.self.view_is)
    c.is_none_left.ensures
