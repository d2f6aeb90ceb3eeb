use Rattle.std.proofs.Common.{rules, ◌≡◌, ◌∙◌, ◌||◌, ◌++◌, ◌∷◌, [], sym, ap}
use Rattle.sb_cascade.proofs.lives.GivingBack.{last_push, own_push, spent_push}
use Rattle.sb_shared.specs.SharedNodes.{SharedView}
use Rattle.sb_cascade.proofs.life.gather.Goals as goal
use Rattle.sb_cascade.proofs.life.gather.Goals.{then-spent, else-spent}

pub loop-state-preserved : goal.loop-state-preserved
loop-state-preserved c =
    let inv = c.loop-state.invariant in
    let before = c.loop-state.yielded in
    let y : SharedView = c.in-Some.state in
    let pushed : c.push_reserved.new.self.items ≡ c.loop-state.nodes.items ++ y.own ∷ [] = search rules in
    let either : c.if-spent.spent ≡ (c.loop-state.spent || y.spent) = elim c.if-spent.branch [ then-spent w ↦ search (rules, w) | else-spent w ↦ search (rules, w) ] in (
      pushed ∙ ap (λ l. l ++ y.own ∷ []) inv.0 ∙ sym (own_push before y),
      (search rules),
      λ k x many at. c.into_parts-own.ensures.1 ∙ last_push before y k x many at,
      either ∙ ap (λ b. b || y.spent) inv.3 ∙ sym (spent_push before y),
    )
