use Rattle.std.proofs.Common.{◌≡◌, Some, sym, ap, subst, ◌∙◌}
use Rattle.sb_hand.specs.core.Moments.{epoch_of, first, floor_of}
use Rattle.sb_hand.specs.base.pipeline.Shapes.{Shape, source}
use Rattle.sb_hand.specs.base.records.declared.item.Stream.TheVariants.{A}
use Rattle.model_tests.proofs.Examples.{at-first}
use Rattle.model_tests.proofs.hand.new_hand.Goals as goal

pub returns-in_ok-new-in-Some : goal.returns-in_ok-new-in-Some
returns-in_ok-new-in-Some c =
    let new = c.in_ok-new-in-Some.ensures in
    let d = c.in-Some.field-0 in
    let at = at-first c.args.plan c.args.bundle d c.in-Some.ensures.place in (
      first c.args.plan c.args.bundle,
      new.shows,
      d,
      subst (λ (p : Shape). source p A ≡ Some d) (sym new.plan_is) (sym c.source.ensures.value ∙ c.in-Some.is),
      ap epoch_of at,
      ap floor_of at,
    )
