use Rattle.std.proofs.Common.{◌∙◌}
use Rattle.sb_record.specs.Words.{word_cmp}
use Rattle.sb_record.proofs.Padding.{cmp-held}
use Rattle.sb_record.proofs.key.WordOrd.cmp.Goals as goal

pub returns : goal.returns
returns c = c.cmp.ensures ∙ cmp-held _ _ c.self.invariant c.other.invariant ∙ (λ i. word_cmp (c.self.view_is i) (c.other.view_is i))
