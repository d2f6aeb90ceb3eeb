use Rattle.std.proofs.Common.{rules, ◌∙◌, sym, ap, subst}
use Rattle.std.specs.Prelude.{slice_get, map}
use Rattle.sb_hand.specs.base.pipeline.Plans.{IsPlan}
use Rattle.sb_hand.specs.Hands.{HandView}
use Rattle.sb_shared.specs.turn.Passes.{AllShort}
use Rattle.sb_shared.specs.declared.telling.Setting.{Setting}
use Rattle.sb_cascade.specs.Ends.{fresh_state}
use Rattle.sb_shared.specs.SharedNodes.{lines_of}
use Rattle.sb_cascade.proofs.lives.Opening.{fresh_owes_none, fresh_short, starts}
use Rattle.sb_cascade.proofs.lives.Sharing.{first_says, new_for, shared}
use Rattle.sb_cascade.proofs.cascade.Cascade.share.Goals as goal

pub fresh_states-requires : goal.fresh_states-requires
fresh_states-requires c =
    let parts = c.into_parts-parts in
    let h : HandView = c.args.hand in
    let a : Setting = record { plan = parts.result.plan; bundle = parts.result.bundle; pending = parts.result.pending; keeps = c.keeps-keeps.result } in
    let new = new_for h a c.requires parts.ensures.plan parts.ensures.bundle parts.ensures.pending c.diary.result.now c.diary.ensures c.keeps-keeps.ensures in
    let ok : IsPlan a.plan = search rules in
    λ k own e. fresh_owes_none a h ok new k own (ap (λ l. slice_get l k) (sym parts.ensures.nodes) ∙ e)

pub new-requires-clause-rule : goal.new-requires-clause-rule
new-requires-clause-rule c =
    let parts = c.into_parts-parts in
    let h : HandView = c.args.hand in
    let a : Setting = record { plan = parts.result.plan; bundle = parts.result.bundle; pending = parts.result.pending; keeps = c.keeps-keeps.result } in
    let new = new_for h a c.requires parts.ensures.plan parts.ensures.bundle parts.ensures.pending c.diary.result.now c.diary.ensures c.keeps-keeps.ensures in
    let ok : IsPlan a.plan = search rules in
    starts a h ok new c.in_ok-states.states.items (c.in_ok-states.ensures ∙ ap (map fresh_state) parts.ensures.nodes)

pub new-requires-clause-lines : goal.new-requires-clause-lines
new-requires-clause-lines c =
    let parts = c.into_parts-parts in
    let h : HandView = c.args.hand in
    let a : Setting = record { plan = parts.result.plan; bundle = parts.result.bundle; pending = parts.result.pending; keeps = c.keeps-keeps.result } in
    let new = new_for h a c.requires parts.ensures.plan parts.ensures.bundle parts.ensures.pending c.diary.result.now c.diary.ensures c.keeps-keeps.ensures in
    let ok : IsPlan a.plan = search rules in
    let short : AllShort lines_of c.in_ok-states.states.items = subst (AllShort lines_of) (sym (c.in_ok-states.ensures ∙ ap (map fresh_state) parts.ensures.nodes)) (fresh_short a h ok new) in
    λ k d near. search (rules, short)

pub returns-clause-cascade : goal.returns-clause-cascade
returns-clause-cascade c =
    let parts = c.into_parts-parts in
    let h : HandView = c.args.hand in
    let a : Setting = record { plan = parts.result.plan; bundle = parts.result.bundle; pending = parts.result.pending; keeps = c.keeps-keeps.result } in
    λ plan bundle pending keeps new. shared plan bundle pending keeps h new a parts.ensures.plan parts.ensures.bundle parts.ensures.pending
    (c.keeps-keeps.ensures ∙ first_says plan bundle pending keeps h new c.diary.result.now c.diary.ensures)
