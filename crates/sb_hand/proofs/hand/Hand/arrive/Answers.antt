use Rattle.std.proofs.Common.{◌≡◌, ◌+◌, ◌<◌, ap, sym, subst, ◌∙◌}
use Rattle.std.specs.Prelude.{IfOk, OnOk}
use Rattle.sb_shown.specs.lane.Placed.{conts_of}
use Rattle.sb_shown.specs.lane.Unfinished.{unfinished_of}
use Rattle.sb_hand.specs.Feeding.{MayArrive, TakesStream}
use Rattle.sb_hand.specs.Hands.{HandView}
use Rattle.sb_shown.specs.Searching.{SearchesStay}
use Rattle.sb_hand.proofs.hand.Hand.arrive.Goals as goal

pub arrive-requires-clause-may : goal.arrive-requires-clause-may
arrive-requires-clause-may c =
    subst (λ (h : HandView). MayArrive h.plan h.bundle c.args.stream c.args.bundle h.nodes) (sym c.self.view_is)
    (c.requires (ap (λ (h : HandView). h.spent) (sym c.self.view_is) ∙ c.if-self.false))

pub returns-clause-number : goal.returns-clause-number
returns-clause-number c =
    subst (λ (h : HandView). IfOk c.arrive.result (λ n. (into : TakesStream h.plan c.args.stream h.nodes) → n ≡ into.lane.arrived + 1)) c.self.view_is
    c.arrive.ensures.number

pub returns-clause-fewer : goal.returns-clause-fewer
returns-clause-fewer c =
    subst (λ (h : HandView). OnOk c.arrive.result ((into : TakesStream h.plan c.args.stream h.nodes) → unfinished_of (conts_of into.lane.containers) < into.lane.pending)) c.self.view_is
    c.arrive.ensures.fewer

pub returns-clause-searches : goal.returns-clause-searches
returns-clause-searches c = subst (λ (h : HandView). SearchesStay h.nodes c.arrive.new.nodes.items) c.self.view_is c.arrive.ensures.searches
