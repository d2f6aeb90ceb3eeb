use Rattle.std.proofs.Common.{◌-◌, rules, refl, sym, ap, ◌∙◌}
use Rattle.sb_diary.specs.declared.bundle.Stage.TheVariants.{Done}
use Rattle.sb_diary.specs.Legal.{LaneAudit}
use Rattle.sb_diary.specs.Books.{bundle_at}
use Rattle.sb_diary.proofs.Recounts.{bundle-there, counted-finished, some-unfinished}
use Rattle.sb_diary.proofs.lane_book.LaneBook.finish.Goals as goal

pub overflow_sub-self : goal.overflow_sub-self
overflow_sub-self c =
    let b = c.self.inside in
    let d = c.in-Some-Taken.field-0 in
    some-unfinished b.came.items b.by_epoch b.unfinished b.latest (c.args.number - 1) d c.self.invariant
    (bundle-there c.args.number b.came.items d (ap (λ (l : LaneAudit). bundle_at c.args.number l.came) c.self.view_is ∙ sym c.bundle.ensures ∙ c.in-Some-Taken.is))
    (search rules)

pub invariant_of-self : goal.invariant_of-self
invariant_of-self c =
    let b = c.self.inside in
    let d = c.in-Some-Taken.field-0 in
    counted-finished b.came.items b.by_epoch c.uncount_one.new.counts b.unfinished b.latest (c.args.number - 1) d (record { epoch = d.epoch; stage = Done }) c.self.invariant
    (bundle-there c.args.number b.came.items d (ap (λ (l : LaneAudit). bundle_at c.args.number l.came) c.self.view_is ∙ sym c.bundle.ensures ∙ c.in-Some-Taken.is))
    refl (search rules) refl c.uncount_one.ensures
