use Rattle.std.proofs.Common.{◌∙◌, ap, eqb}
use Rattle.std.specs.Prelude.{codes}
use lib.Pointwise.{pointwise}
use Rattle.sb_diary.proofs.LinesTold.{no_event}
use Rattle.sb_diary.proofs.Spelling.{apart}
use Rattle.sb_diary.proofs.reading.read_diary_line.Goals as goal

pub returns-else-eq-clause-none : goal.returns-else-eq-clause-none
returns-else-eq-clause-none c =
    let split = c.split_at_space.ensures in
    no_event c.read_event.result c.map.result c.args.line.now c.split_at_space.result.0.now c.split_at_space.result.1.now c.map.ensures.variant c.read_event.ensures.none split.all split.word split.rest
    (λ head. apart (c.if-eq.ensures ∙ ap (λ w. pointwise eqb w (codes "transform")) head))
