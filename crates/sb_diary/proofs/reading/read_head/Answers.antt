use Rattle.std.proofs.Common.{arith, inl, inr}
use Rattle.sb_diary.proofs.LinesTold.{no_head}
use Rattle.sb_diary.proofs.reading.read_head.Goals as goal

pub returns-then-lanes-lt1-clause-none : goal.returns-then-lanes-lt1-clause-none
returns-then-lanes-lt1-clause-none c =
    no_head c.in_ok-node.node c.in_ok-node.field-0-1 c.args.rest.now c.in_ok-node.ensures.some
    (λ low high. elim c.then-lanes-lt1.either [ inl few ↦ omega (arith, low, few) | inr many ↦ omega (arith, high, many.1) ])
