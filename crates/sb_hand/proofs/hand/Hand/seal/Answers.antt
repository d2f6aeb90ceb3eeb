use Rattle.std.proofs.Common.{ap, sym, subst, ◌∙◌}
use Rattle.sb_hand.specs.Feeding.{MaySeal}
use Rattle.sb_hand.specs.Hands.{HandView}
use Rattle.sb_shown.specs.Searching.{SearchesStay}
use Rattle.sb_hand.proofs.hand.Hand.seal.Goals as goal

pub seal-requires-clause-may : goal.seal-requires-clause-may
seal-requires-clause-may c =
    subst (λ (h : HandView). MaySeal h.plan c.args.stream c.args.mark h.nodes) (sym c.self.view_is)
    (c.requires (ap (λ (h : HandView). h.spent) (sym c.self.view_is) ∙ c.if-self.false))

pub returns-clause-searches : goal.returns-clause-searches
returns-clause-searches c = subst (λ (h : HandView). SearchesStay h.nodes c.seal.new.nodes.items) c.self.view_is c.seal.ensures.searches
