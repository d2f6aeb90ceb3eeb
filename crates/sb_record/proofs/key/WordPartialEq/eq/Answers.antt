use Rattle.std.proofs.Common.{◌∙◌}
use Rattle.std.specs.Ordering.{eq_by_cmp}
use Rattle.sb_record.specs.Words.{word_cmp}
use Rattle.sb_record.proofs.Padding.{eq-held}
use Rattle.sb_record.proofs.key.WordPartialEq.eq.Goals as goal

pub returns : goal.returns
returns c = c.eq.ensures ∙ eq-held _ _ c.self.invariant c.other.invariant ∙ (λ i. eq_by_cmp word_cmp (c.self.view_is i) (c.other.view_is i))
