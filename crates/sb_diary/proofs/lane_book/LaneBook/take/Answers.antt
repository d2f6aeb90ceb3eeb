use Rattle.std.proofs.Common.{◌-◌, rules, refl, sym, ap, ◌∙◌}
use Rattle.sb_diary.specs.declared.bundle.Stage.TheVariants.{Taken}
use Rattle.sb_diary.specs.Legal.{LaneAudit}
use Rattle.sb_diary.specs.Books.{bundle_at}
use Rattle.sb_diary.proofs.Recounts.{bundle-there, counted-taken}
use Rattle.sb_diary.proofs.lane_book.LaneBook.take.Goals as goal

pub invariant_of-self : goal.invariant_of-self
invariant_of-self c =
    let b = c.self.inside in
    let d = c.in-Some-Waiting.field-0 in
    counted-taken b.came.items b.by_epoch b.unfinished b.latest (c.args.number - 1) d (record { epoch = d.epoch; stage = Taken }) c.self.invariant
    (bundle-there c.args.number b.came.items d (ap (λ (l : LaneAudit). bundle_at c.args.number l.came) c.self.view_is ∙ sym c.bundle.ensures ∙ c.in-Some-Waiting.is))
    refl (search rules) refl
